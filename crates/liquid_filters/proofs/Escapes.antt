-- Escapes of HTML: over characters, and a second time.
use Rattle.std.proofs.Common.{◌≡◌, ℕ, ◌<◌, ◌≤◌, Bool, true, false, ◌&&◌, ◌||◌, ◌==◌, List, [], ◌∷◌, ◌++◌, codes, Option, Some, None, ap, ap₂, refl, sym, ◌∙◌, arith, append_assoc, append-nil, if◌then◌else◌}
use Rattle.std.proofs.lemmas.Bool.Decides.{nat_tests}
use Rattle.std.proofs.lemmas.Str.{encode_ascii}
use Rattle.std.proofs.lemmas.List.Elements.{All-head, All-tail}
use Rattle.std.specs.Prelude.{All, IfSome, IsSome}
use Rattle.std.specs.List.{flat_map}
use Rattle.std.proofs.lemmas.Bool.{and_parts}
use lib.Utf8.{encode}
use Rattle.liquid_model.specs.Text.{begins}
use Rattle.liquid_filters.specs.Escapes.{ends_escape, escape_of, escape_or, escaped_byte, escaped_letter, escaped_bytes, once_byte, once_letter, escaped_once}
use Rattle.liquid_filters.proofs.Bytes.{AllHigh, high_bytes, ascii_or_high, high_letter, ascii_letter}

-- ---- over characters
no_escape : (c : ℕ) → 128 ≤ c → escape_of c ≡ None
no_escape c h =
    let e1 : c == 60 ≡ false = grind (arith, nat_tests) in let e2 : c == 62 ≡ false = grind (arith, nat_tests) in let e3 : c == 39 ≡ false = grind (arith, nat_tests) in
    let e4 : c == 34 ≡ false = grind (arith, nat_tests) in let e5 : c == 38 ≡ false = grind (arith, nat_tests) in rw (e1, e2, e3, e4, e5) refl

high_byte : (b : ℕ) → 128 ≤ b → escaped_byte b ≡ b ∷ []
high_byte b h = ap (λ e. escape_or e (b ∷ [])) (no_escape b h)

pub letter_of : (c : ℕ) → flat_map escaped_byte (encode c) ≡ escaped_letter c
letter_of c = ascii_or_high c
    (λ l. ascii_letter escaped_byte c l ∙ ap (escape_or (escape_of c)) (sym (encode_ascii c l)))
    (λ l. high_letter escaped_byte high_byte c l ∙ ap (λ e. escape_or e (encode c)) (sym (no_escape c l)))

once_high : (b : ℕ) (s : List ℕ) → 128 ≤ b → once_byte b s ≡ b ∷ []
once_high b s h = let e : b == 38 ≡ false = grind (arith, nat_tests) in ap (λ t. if t && ends_escape s then b ∷ [] else escaped_byte b) e ∙ high_byte b h

once_kept : (bs rest : List ℕ) → AllHigh bs → escaped_once (bs ++ rest) ≡ bs ++ escaped_once rest
once_kept [] rest h = refl
once_kept (b ∷ bs) rest h = ap (λ t. t ++ escaped_once (bs ++ rest)) (once_high b (bs ++ rest) h.0) ∙ ap (λ t. b ∷ t) (once_kept bs rest h.1)

once_ascii : (c : ℕ) (rest : List ℕ) (t : Bool) → c < 128 → (if t then c ∷ [] else escaped_byte c) ≡ (if t then encode c else escaped_letter c)
once_ascii c rest true l = sym (encode_ascii c l)
once_ascii c rest false l = ap (escape_or (escape_of c)) (sym (encode_ascii c l))

once_letter_high : (c : ℕ) (rest : List ℕ) → 128 ≤ c → encode c ≡ once_letter c rest
once_letter_high c rest h =
    let e : c == 38 ≡ false = grind (arith, nat_tests) in
    ap (λ e. escape_or e (encode c)) (sym (no_escape c h)) ∙ sym (ap (λ t. if t && ends_escape rest then encode c else escaped_letter c) e)

-- one character, with the text after it
pub once_past : (c : ℕ) (rest : List ℕ) → escaped_once (encode c ++ rest) ≡ once_letter c rest ++ escaped_once rest
once_past c rest = ascii_or_high c
    (λ l. ap (λ t. escaped_once (t ++ rest)) (encode_ascii c l) ∙ ap (λ t. t ++ escaped_once rest) (once_ascii c rest (c == 38 && ends_escape rest) l))
    (λ l. once_kept (encode c) rest (high_bytes c l) ∙ ap (λ t. t ++ escaped_once rest) (once_letter_high c rest l))

-- ---- cut at the first byte that has an escape
eq_from : (x y : ℕ) → (x == y) ≡ true → y ≡ x
eq_from x y h = grind (arith, nat_tests)

abbrev pub IsPlain : ℕ → Type 0
IsPlain b = escape_of b ≡ None

plain_byte : (b : ℕ) → IsPlain b → escaped_byte b ≡ b ∷ []
plain_byte b h = ap (λ e. escape_or e (b ∷ [])) h

once_either_way : (b : ℕ) (t : Bool) → IsPlain b → (if t then b ∷ [] else escaped_byte b) ≡ b ∷ []
once_either_way b true h = refl
once_either_way b false h = plain_byte b h

plain_first : (p s : List ℕ) → All IsPlain p → escaped_bytes (p ++ s) ≡ p ++ escaped_bytes s
plain_first [] s h = refl
plain_first (b ∷ p) s h = ap (λ t. t ++ escaped_bytes (p ++ s)) (plain_byte b (All-head IsPlain b p h)) ∙ ap (λ t. b ∷ t) (plain_first p s (All-tail IsPlain b p h))

once_first : (p s : List ℕ) → All IsPlain p → escaped_once (p ++ s) ≡ p ++ escaped_once s
once_first [] s h = refl
once_first (b ∷ p) s h =
    ap (λ t. t ++ escaped_once (p ++ s)) (once_either_way b (b == 38 && ends_escape (p ++ s)) (All-head IsPlain b p h)) ∙ ap (λ t. b ∷ t) (once_first p s (All-tail IsPlain b p h))

mark_small : (b : ℕ) (o : Option (List ℕ)) → escape_of b ≡ o → IsSome o → 128 ≤ b → ⊥
mark_small b None is h l = cc
mark_small b (Some x) is h l = let none = no_escape b l in cc

pub mark_ascii : (b : ℕ) → IsSome (escape_of b) → b < 128
mark_ascii b h = ascii_or_high b (λ l. l) (λ l. absurd (mark_small b (escape_of b) refl h l))

-- what a byte with an escape becomes
pub mark_is : (b : ℕ) (made : List ℕ) (o : Option (List ℕ)) → escape_of b ≡ o → IsSome o → IfSome o (λ x. made ≡ x) → made ≡ escaped_byte b
mark_is b made None is h f = absurd (cc)
mark_is b made (Some x) is h f = f ∙ ap (λ o. escape_or o (b ∷ [])) (sym is)

pub some_of : {P : Type 0} (b : ℕ) (o : Option (List ℕ)) → escape_of b ≡ o → IsSome o → IfSome o (λ e. P) → P
some_of b None is h f = absurd (cc)
some_of b (Some x) is h f = f

pub escaped_turn : (s plain after out mid next made all : List ℕ) (b : ℕ) → s ≡ plain ++ (b ∷ after) → All IsPlain plain → made ≡ escaped_byte b → mid ≡ out ++ plain → next ≡ mid ++ made → all ≡ out ++ escaped_bytes s → all ≡ next ++ escaped_bytes after
escaped_turn s plain after out mid next made all b cut kept is m n inv =
    inv ∙ ap (λ t. out ++ escaped_bytes t) cut ∙ ap (λ t. out ++ t) (plain_first plain (b ∷ after) kept) ∙ sym (append_assoc out plain (escaped_byte b ++ escaped_bytes after))
    ∙ ap₂ (λ x y. x ++ (y ++ escaped_bytes after)) (sym m) (sym is) ∙ sym (append_assoc mid made (escaped_bytes after)) ∙ ap (λ t. t ++ escaped_bytes after) (sym n)

pub escaped_end : (s out next all : List ℕ) → All IsPlain s → next ≡ out ++ s → all ≡ out ++ escaped_bytes s → next ≡ all
escaped_end s out next all kept n inv =
    n ∙ ap (λ t. out ++ t) (sym (append-nil s) ∙ sym (plain_first s [] kept) ∙ ap escaped_bytes (append-nil s)) ∙ sym inv

pub once_turn : (s plain after out mid next made all : List ℕ) (b : ℕ) → s ≡ plain ++ (b ∷ after) → All IsPlain plain → made ≡ once_byte b after → mid ≡ out ++ plain → next ≡ mid ++ made → all ≡ out ++ escaped_once s → all ≡ next ++ escaped_once after
once_turn s plain after out mid next made all b cut kept is m n inv =
    inv ∙ ap (λ t. out ++ escaped_once t) cut ∙ ap (λ t. out ++ t) (once_first plain (b ∷ after) kept) ∙ sym (append_assoc out plain (once_byte b after ++ escaped_once after))
    ∙ ap₂ (λ x y. x ++ (y ++ escaped_once after)) (sym m) (sym is) ∙ sym (append_assoc mid made (escaped_once after)) ∙ ap (λ t. t ++ escaped_once after) (sym n)

pub once_end : (s out next all : List ℕ) → All IsPlain s → next ≡ out ++ s → all ≡ out ++ escaped_once s → next ≡ all
once_end s out next all kept n inv =
    n ∙ ap (λ t. out ++ t) (sym (append-nil s) ∙ sym (once_first s [] kept) ∙ ap escaped_once (append-nil s)) ∙ sym inv

-- ---- a second time
-- the texts that pass as they are, whatever follows
abbrev Passes : List ℕ → Type 0
Passes x = (r : List ℕ) → escaped_once (x ++ r) ≡ x ++ escaped_once r

-- what a byte becomes, by the five tests
by_tests : (b : ℕ) (t1 t2 t3 t4 t5 : Bool) → (b == 60) ≡ t1 → (b == 62) ≡ t2 → (b == 39) ≡ t3 → (b == 34) ≡ t4 → (b == 38) ≡ t5 → Passes (escaped_byte b)
by_tests b true t2 t3 t4 t5 e1 e2 e3 e4 e5 r = rw e1 refl
by_tests b false true t3 t4 t5 e1 e2 e3 e4 e5 r = rw (e1, e2) refl
by_tests b false false true t4 t5 e1 e2 e3 e4 e5 r = rw (e1, e2, e3) refl
by_tests b false false false true t5 e1 e2 e3 e4 e5 r = rw (e1, e2, e3, e4) refl
by_tests b false false false false true e1 e2 e3 e4 e5 r = rw (e1, e2, e3, e4, e5) refl
by_tests b false false false false false e1 e2 e3 e4 e5 r = rw (e1, e2, e3, e4, e5) (rw (e1, e2, e3, e4, e5) refl)

passes : (b : ℕ) → Passes (escaped_byte b)
passes b = by_tests b (b == 60) (b == 62) (b == 39) (b == 34) (b == 38) refl refl refl refl refl

-- a pass over escaped text
pub once-escaped : (s : List ℕ) → escaped_once (escaped_bytes s) ≡ escaped_bytes s
once-escaped [] = refl
once-escaped (b ∷ s) = passes b (escaped_bytes s) ∙ ap (λ t. escaped_byte b ++ t) (once-escaped s)

-- ---- a pass keeps what follows an `&`
abbrev is_plain : ℕ → Type 0
is_plain b = escaped_byte b ≡ b ∷ []

abbrev ArePlain : List ℕ → Type 0
ArePlain [] = Unit {0}
ArePlain (x ∷ p) = ((x == 38) ≡ false) × is_plain x × ArePlain p

plain_once : (x : ℕ) (s : List ℕ) → (x == 38) ≡ false → is_plain x → escaped_once (x ∷ s) ≡ x ∷ escaped_once s
plain_once x s a e =
    ap (λ t. (if t && ends_escape s then x ∷ [] else escaped_byte x) ++ escaped_once s) a ∙ ap (λ t. t ++ escaped_once s) e

own : (x : ℕ) → (x == x) ≡ true
own x = grind (arith, nat_tests)

begins_kept : (p s : List ℕ) → ArePlain p → begins p s ≡ true → begins p (escaped_once s) ≡ true
begins_kept [] s a h = refl
begins_kept (x ∷ p) [] a h = cc
begins_kept (x ∷ p) (y ∷ s) a h =
    let q = and_parts (x == y) (begins p s) h in
    let same = eq_from x y q.0 in
    let next = ap (λ z. escaped_once (z ∷ s)) same ∙ plain_once x s a.0 a.1 in
    ap (begins (x ∷ p)) next ∙ ap (λ t. t && begins p (escaped_once s)) (own x) ∙ begins_kept p s a.2 q.1

either : (a b c d : Bool) → (a ≡ true → c ≡ true) → (b ≡ true → d ≡ true) → (a || b) ≡ true → (c || d) ≡ true
either true b c d f g h = ap (λ t. t || d) (f refl)
either false b true d f g h = refl
either false b false d f g h = g h

plain_lt : ArePlain (codes "lt;")
plain_lt = (refl, refl, (refl, refl, (refl, refl, tt)))

plain_gt : ArePlain (codes "gt;")
plain_gt = (refl, refl, (refl, refl, (refl, refl, tt)))

plain_39 : ArePlain (codes "#39;")
plain_39 = (refl, refl, (refl, refl, (refl, refl, (refl, refl, tt))))

plain_quot : ArePlain (codes "quot;")
plain_quot = (refl, refl, (refl, refl, (refl, refl, (refl, refl, (refl, refl, tt)))))

plain_amp : ArePlain (codes "amp;")
plain_amp = (refl, refl, (refl, refl, (refl, refl, (refl, refl, tt))))

ends_kept : (s : List ℕ) → ends_escape s ≡ true → ends_escape (escaped_once s) ≡ true
ends_kept s h =
    either _ _ _ _ (either _ _ _ _ (either _ _ _ _ (either _ _ _ _ (begins_kept (codes "lt;") s plain_lt) (begins_kept (codes "gt;") s plain_gt)) (begins_kept (codes "#39;") s plain_39))
    (begins_kept (codes "quot;") s plain_quot)) (begins_kept (codes "amp;") s plain_amp) h

once_either : (b : ℕ) (s : List ℕ) (t : Bool) → (b == 38 && ends_escape s) ≡ t → escaped_once (escaped_once s) ≡ escaped_once s
    → escaped_once ((if t then b ∷ [] else escaped_byte b) ++ escaped_once s) ≡ (if t then b ∷ [] else escaped_byte b) ++ escaped_once s
once_either b s true e h =
    let q = and_parts (b == 38) (ends_escape s) e in
    rw (q.0, ends_kept s q.1) (ap (λ t. b ∷ t) h)
once_either b s false e h = passes b (escaped_once s) ∙ ap (λ t. escaped_byte b ++ t) h

-- a second pass
pub once-once : (s : List ℕ) → escaped_once (escaped_once s) ≡ escaped_once s
once-once [] = refl
once-once (b ∷ s) = once_either b s (b == 38 && ends_escape s) refl (once-once s)
