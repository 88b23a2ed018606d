-- Texts in which marked bytes give way to their escapes, cut at the first mark.
use Rattle.std.proofs.Common.{◌≡◌, ℕ, ◌<◌, ◌≤◌, Bool, true, false, ◌==◌, nat_lt, List, [], ◌∷◌, ◌++◌, ap, ap₂, refl, sym, ◌∙◌, arith, append_assoc, append-nil, if◌then◌else◌}
use Rattle.std.proofs.lemmas.Bool.Decides.{nat_tests}
use Rattle.std.proofs.lemmas.List.Elements.{All-head, All-tail}
use Rattle.std.specs.Prelude.{All}
use Rattle.liquid_jekyll_host_filters.specs.Escapes.{mark_escape, escaped, byte_unless_marked, is_marked}

abbrev pub IsPlain : ℕ → Type 0
IsPlain b = is_marked b ≡ false

-- no mark is beyond ASCII
high_is_plain : (b : ℕ) → 128 ≤ b → IsPlain b
high_is_plain b h =
    let e1 : b == 34 ≡ false = grind (arith, nat_tests) in let e2 : b == 38 ≡ false = grind (arith, nat_tests) in
    let e3 : b == 60 ≡ false = grind (arith, nat_tests) in let e4 : b == 62 ≡ false = grind (arith, nat_tests) in
    let e5 : b == 39 ≡ false = grind (arith, nat_tests) in rw (e1, e2, e3, e4, e5) refl

not_both : (t : Bool) → t ≡ true → t ≡ false → ⊥
not_both true h k = cc
not_both false h k = cc

low_by_test : (b : ℕ) (t : Bool) → nat_lt b 128 ≡ t → is_marked b ≡ true → b < 128
low_by_test b true e h = grind (arith, nat_tests)
low_by_test b false e h =
    let high : 128 ≤ b = grind (arith, nat_tests) in
    absurd (not_both (is_marked b) h (high_is_plain b high))

pub mark_ascii : (b : ℕ) → is_marked b ≡ true → b < 128
mark_ascii b h = low_by_test b (nat_lt b 128) refl h

plain_byte : (b : ℕ) → IsPlain b → byte_unless_marked b ≡ b ∷ []
plain_byte b h = ap (λ t. if t then mark_escape b else b ∷ []) h

marked_byte : (b : ℕ) → is_marked b ≡ true → byte_unless_marked b ≡ mark_escape b
marked_byte b h = ap (λ t. if t then mark_escape b else b ∷ []) h

plain_first : (p s : List ℕ) → All IsPlain p → escaped (p ++ s) ≡ p ++ escaped s
plain_first [] s h = refl
plain_first (b ∷ p) s h =
    ap (λ t. t ++ escaped (p ++ s)) (plain_byte b (All-head IsPlain b p h))
    ∙ ap (λ t. b ∷ t) (plain_first p s (All-tail IsPlain b p h))

pub escaped_turn : (s plain after out mid next all : List ℕ) (b : ℕ) → s ≡ plain ++ (b ∷ after) → All IsPlain plain → is_marked b ≡ true
    → mid ≡ out ++ plain → next ≡ mid ++ mark_escape b → all ≡ out ++ escaped s → all ≡ next ++ escaped after
escaped_turn s plain after out mid next all b cut kept is m n inv =
    inv ∙ ap (λ t. out ++ escaped t) cut ∙ ap (λ t. out ++ t) (plain_first plain (b ∷ after) kept)
    ∙ sym (append_assoc out plain (byte_unless_marked b ++ escaped after))
    ∙ ap₂ (λ x y. x ++ (y ++ escaped after)) (sym m) (marked_byte b is)
    ∙ sym (append_assoc mid (mark_escape b) (escaped after)) ∙ ap (λ t. t ++ escaped after) (sym n)

pub escaped_end : (s out next all : List ℕ) → All IsPlain s → next ≡ out ++ s → all ≡ out ++ escaped s → next ≡ all
escaped_end s out next all kept n inv =
    n ∙ ap (λ t. out ++ t) (sym (append-nil s) ∙ sym (plain_first s [] kept) ∙ ap escaped (append-nil s)) ∙ sym inv
