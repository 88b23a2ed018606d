-- Texts in which the marks of scripts give way to their escapes, cut at the first mark.
use Rattle.std.proofs.Common.{◌≡◌, ℕ, ◌<◌, ◌≤◌, Bool, true, false, ◌==◌, nat_lt, List, [], ◌∷◌, ◌++◌, Option, Some, None, Result, Ok, Err, String, Global, string_bytes, is_some, not, subst, ap, ap₂, refl, sym, ◌∙◌, arith, append_assoc, append-nil, if◌then◌else◌, codes}
use Rattle.std.proofs.lemmas.Bool.Decides.{nat_tests}
use Rattle.std.proofs.lemmas.List.Elements.{All-head, All-tail, All-append, All-cons, All-nil, All-from_recursion}
use Rattle.std.specs.Prelude.{All, IfNone, IfOk}
use Rattle.liquid_model.specs.Answer.{IsValueOrMemory}
use Rattle.liquid_model.specs.declared.error.Error.{Error}
use Rattle.liquid_json.specs.ScriptTexts.{script_escape, for_script, script_byte, is_script_mark, HasNoMarks}

abbrev pub IsPlain : ℕ → Type 0
IsPlain b = is_script_mark b ≡ false

-- no mark is beyond ASCII
high_is_plain : (b : ℕ) → 128 ≤ b → IsPlain b
high_is_plain b h =
    let e1 : b == 38 ≡ false = grind (arith, nat_tests) in
    let e2 : b == 60 ≡ false = grind (arith, nat_tests) in
    let e3 : b == 62 ≡ false = grind (arith, nat_tests) in
    rw (e1, e2, e3) refl

not_both : (t : Bool) → t ≡ true → t ≡ false → ⊥
not_both true h k = cc
not_both false h k = cc

low_by_test : (b : ℕ) (t : Bool) → nat_lt b 128 ≡ t → is_script_mark b ≡ true → b < 128
low_by_test b true e h = grind (arith, nat_tests)
low_by_test b false e h =
    let high : 128 ≤ b = grind (arith, nat_tests) in
    absurd (not_both (is_script_mark b) h (high_is_plain b high))

pub mark_ascii : (b : ℕ) → is_script_mark b ≡ true → b < 128
mark_ascii b h = low_by_test b (nat_lt b 128) refl h

plain_byte : (b : ℕ) → IsPlain b → script_byte b ≡ b ∷ []
plain_byte b h = ap (λ t. if t then script_escape b else b ∷ []) h

marked_byte : (b : ℕ) → is_script_mark b ≡ true → script_byte b ≡ script_escape b
marked_byte b h = ap (λ t. if t then script_escape b else b ∷ []) h

plain_first : (p s : List ℕ) → All IsPlain p → for_script (p ++ s) ≡ p ++ for_script s
plain_first [] s h = refl
plain_first (b ∷ p) s h =
    ap (λ t. t ++ for_script (p ++ s)) (plain_byte b (All-head IsPlain b p h))
    ∙ ap (λ t. b ∷ t) (plain_first p s (All-tail IsPlain b p h))

pub escaped_turn : (s plain after out mid next all : List ℕ) (b : ℕ) → s ≡ plain ++ (b ∷ after) → All IsPlain plain → is_script_mark b ≡ true
    → mid ≡ out ++ plain → next ≡ mid ++ script_escape b → all ≡ out ++ for_script s → all ≡ next ++ for_script after
escaped_turn s plain after out mid next all b cut kept is m n inv =
    inv ∙ ap (λ t. out ++ for_script t) cut ∙ ap (λ t. out ++ t) (plain_first plain (b ∷ after) kept)
    ∙ sym (append_assoc out plain (script_byte b ++ for_script after))
    ∙ ap₂ (λ x y. x ++ (y ++ for_script after)) (sym m) (marked_byte b is)
    ∙ sym (append_assoc mid (script_escape b) (for_script after)) ∙ ap (λ t. t ++ for_script after) (sym n)

pub escaped_end : (s out next all : List ℕ) → All IsPlain s → next ≡ out ++ s → all ≡ out ++ for_script s → next ≡ all
escaped_end s out next all kept n inv =
    n ∙ ap (λ t. out ++ t) (sym (append-nil s) ∙ sym (plain_first s [] kept) ∙ ap for_script (append-nil s)) ∙ sym inv

-- no escape has a mark
escape_has_none : (b : ℕ) (one two : Bool) → HasNoMarks (if one then codes "\\u003c" else (if two then codes "\\u003e" else codes "\\u0026"))
escape_has_none b true two = All-from_recursion IsPlain (codes "\\u003c") (refl, (refl, (refl, (refl, (refl, (refl, tt))))))
escape_has_none b false true = All-from_recursion IsPlain (codes "\\u003e") (refl, (refl, (refl, (refl, (refl, (refl, tt))))))
escape_has_none b false false = All-from_recursion IsPlain (codes "\\u0026") (refl, (refl, (refl, (refl, (refl, (refl, tt))))))

byte_has_none : (b : ℕ) (t : Bool) → is_script_mark b ≡ t → HasNoMarks (if t then script_escape b else b ∷ [])
byte_has_none b true e = escape_has_none b (b == 60) (b == 62)
byte_has_none b false e = All-cons IsPlain b [] e (All-nil IsPlain)

has_no_marks : (s : List ℕ) → HasNoMarks (for_script s)
has_no_marks [] = All-nil IsPlain
has_no_marks (b ∷ s) = All-append IsPlain (script_byte b) (for_script s) (byte_has_none b (is_script_mark b) refl) (has_no_marks s)

pub marks_are_none : (text all : List ℕ) → text ≡ for_script all → HasNoMarks text
marks_are_none text all e = subst HasNoMarks (sym e) (has_no_marks all)

pub made_without : (r : Result (String Global) Error) (all : List ℕ) → IsValueOrMemory (λ s. string_bytes s) r (for_script all) → IfOk r (λ s. HasNoMarks (string_bytes s))
made_without (Ok t) all h = marks_are_none (string_bytes t) all h
made_without (Err e) all h = tt

-- a text without marks stays
pub stays : {X : Type 0} (r : Option X) (b : Bool) (s json : List ℕ) → is_some r ≡ not b → b ≡ true → IfNone r (All IsPlain s) → s ≡ json → s ≡ for_script json
stays None b s json e is h same = sym (append-nil s) ∙ sym (plain_first s [] h) ∙ ap for_script (append-nil s ∙ same)
stays (Some p) b s json e is h same = absurd (not_both (not b) (sym e) (ap not is))
