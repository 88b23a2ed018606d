-- Texts of URLs: their escapes, cut at the first mark, and a slash at their end.
use Rattle.std.proofs.Common.{◌≡◌, ℕ, zero, suc, ◌<◌, ◌≤◌, Bool, true, false, not, cond, ◌==◌, nat_le, List, [], ◌∷◌, ◌++◌, length, take, get_or, Option, Some, None, Bor, ap, ap₂, refl, sym, subst, ◌∙◌, arith, append_assoc, append-nil, take_all, if◌then◌else◌}
use borrow.Author.Count.{below_more}
use Rattle.std.proofs.lemmas.Bool.Decides.{nat_tests}
use Rattle.std.proofs.lemmas.List.Sums.{split_at_first, fails_before_first, passes_at_first}
use Rattle.std.specs.List.{flat_map, position_or_len, before_first, after_first}
use Rattle.std.specs.Prelude.{nat_lt}
use Rattle.percent_encoding.specs.AsciiSet.{should_percent_encode}
use Rattle.percent_encoding.specs.Percent.{encode_byte, percent_encode, percent_encode_byte}
use Rattle.liquid_jekyll_host_filters.specs.Urls.{in_place, escape_mark, stays, url_byte, url_escaped_as, without_slash}
use Rattle.liquid_jekyll_host_filters.specs.inside.Sets.{set_of}
use Rattle.liquid_jekyll_host_filters.specs.declared.percent.Escaping.{Escaping}
use Rattle.liquid_jekyll_host_filters.specs.declared.percent.Escaping.TheVariants.{Form, Path, Url}
use Rattle.liquid_jekyll_host_filters.specs.declared.percent.TheConstants.{FORM, PATH, URL}

-- ---- what stays
abbrev same_bool : Bool → Bool → Bool
same_bool true b = b
same_bool false b = not b

same_bool_is : (a b : Bool) → same_bool a b ≡ true → a ≡ b
same_bool_is true b h = sym h
same_bool_is false true h = cc
same_bool_is false false h = refl

abbrev agrees : Escaping → ℕ → Bool
agrees how zero = true
agrees how (suc n) = cond (same_bool (should_percent_encode (set_of how) n) (not (stays how n))) (agrees how n) false

agrees_all : (how : Escaping) → agrees how 128 ≡ true
unfolding should_percent_encode
agrees_all Form = refl
agrees_all Path = refl
agrees_all Url = refl

cond_parts : (s t : Bool) → cond s t false ≡ true → (s ≡ true) × (t ≡ true)
cond_parts true t h = (refl, h)
cond_parts false t h = cc

abbrev Agrees : Escaping → ℕ → Type 0
Agrees how b = should_percent_encode (set_of how) b ≡ not (stays how b)

agrees_below : (how : Escaping) (n b : ℕ) → agrees how n ≡ true → b < n → Agrees how b
agrees_below how zero b h l = absurd (omega arith)
agrees_below how (suc n) b h l =
    let p = cond_parts (same_bool (should_percent_encode (set_of how) n) (not (stays how n))) (agrees how n) h in
    below_more (Agrees how) n (λ k. agrees_below how n k p.1) (same_bool_is (should_percent_encode (set_of how) n) (not (stays how n)) p.0) b (omega arith)

high_goes : (how : Escaping) (b : ℕ) → 128 ≤ b → stays how b ≡ false
high_goes how b h =
    let a1 : nat_le b 57 ≡ false = grind (arith, nat_tests) in let a2 : nat_le b 90 ≡ false = grind (arith, nat_tests) in
    let a3 : nat_le b 122 ≡ false = grind (arith, nat_tests) in let a4 : nat_le b 44 ≡ false = grind (arith, nat_tests) in
    let b1 : nat_le 48 b ≡ true = grind (arith, nat_tests) in let b2 : nat_le 65 b ≡ true = grind (arith, nat_tests) in
    let b3 : nat_le 97 b ≡ true = grind (arith, nat_tests) in let b4 : nat_le 38 b ≡ true = grind (arith, nat_tests) in
    let c1 : b == 45 ≡ false = grind (arith, nat_tests) in let c2 : b == 46 ≡ false = grind (arith, nat_tests) in
    let c3 : b == 95 ≡ false = grind (arith, nat_tests) in let c4 : b == 126 ≡ false = grind (arith, nat_tests) in
    let c5 : b == 33 ≡ false = grind (arith, nat_tests) in let c6 : b == 36 ≡ false = grind (arith, nat_tests) in
    let c7 : b == 59 ≡ false = grind (arith, nat_tests) in let c8 : b == 61 ≡ false = grind (arith, nat_tests) in
    let c9 : b == 58 ≡ false = grind (arith, nat_tests) in let d1 : b == 64 ≡ false = grind (arith, nat_tests) in
    let d2 : b == 47 ≡ false = grind (arith, nat_tests) in let d3 : b == 63 ≡ false = grind (arith, nat_tests) in
    let d4 : b == 35 ≡ false = grind (arith, nat_tests) in let d5 : b == 91 ≡ false = grind (arith, nat_tests) in
    let d6 : b == 93 ≡ false = grind (arith, nat_tests) in
    by how a1 a2 a3 a4 b1 b2 b3 b4 c1 c2 c3 c4 c5 c6 c7 c8 c9 d1 d2 d3 d4 d5 d6
  where
    by : (how : Escaping) → nat_le b 57 ≡ false → nat_le b 90 ≡ false → nat_le b 122 ≡ false → nat_le b 44 ≡ false → nat_le 48 b ≡ true → nat_le 65 b ≡ true → nat_le 97 b ≡ true → nat_le 38 b ≡ true
        → (b == 45) ≡ false → (b == 46) ≡ false → (b == 95) ≡ false → (b == 126) ≡ false → (b == 33) ≡ false → (b == 36) ≡ false → (b == 59) ≡ false → (b == 61) ≡ false
        → (b == 58) ≡ false → (b == 64) ≡ false → (b == 47) ≡ false → (b == 63) ≡ false → (b == 35) ≡ false → (b == 91) ≡ false → (b == 93) ≡ false → stays how b ≡ false
    by Form a1 a2 a3 a4 b1 b2 b3 b4 c1 c2 c3 c4 c5 c6 c7 c8 c9 d1 d2 d3 d4 d5 d6 = rw (a1, a2, a3, b1, b2, b3, c1, c2, c3, c4) refl
    by Path a1 a2 a3 a4 b1 b2 b3 b4 c1 c2 c3 c4 c5 c6 c7 c8 c9 d1 d2 d3 d4 d5 d6 = rw (a1, a2, a3, a4, b1, b2, b3, b4, c1, c2, c3, c4, c5, c6, c7, c8, c9, d1, d2, d3, d4) refl
    by Url a1 a2 a3 a4 b1 b2 b3 b4 c1 c2 c3 c4 c5 c6 c7 c8 c9 d1 d2 d3 d4 d5 d6 = rw (a1, a2, a3, a4, b1, b2, b3, b4, c1, c2, c3, c4, c5, c6, c7, c8, c9, d1, d2, d3, d4, d5, d6) refl

high_agrees : (how : Escaping) (b : ℕ) → 128 ≤ b → Agrees how b
unfolding should_percent_encode
high_agrees how b h =
    let e : nat_lt b 128 ≡ false = grind (arith, nat_tests) in
    rw (e, high_goes how b h) refl

agrees_by : (how : Escaping) (b : ℕ) (t : Bool) → nat_lt b 128 ≡ t → Agrees how b
agrees_by how b true e = agrees_below how 128 b (agrees_all how) (grind (arith, nat_tests))
agrees_by how b false e = high_agrees how b (grind (arith, nat_tests))

if_not : (t s : Bool) (x y : List ℕ) → s ≡ not t → (if s then x else y) ≡ (if t then y else x)
if_not true s x y h = ap (λ b. if b then x else y) h
if_not false s x y h = ap (λ b. if b then x else y) h

-- a byte that is no mark
abbrev other : Escaping → ℕ → List ℕ
other how b = if stays how b then b ∷ [] else percent_encode_byte b

others_are : (how : Escaping) (bs : List ℕ) → percent_encode (set_of how) bs ≡ flat_map (other how) bs
unfolding percent_encode
others_are how [] = refl
others_are how (b ∷ bs) =
    ap (λ t. t ++ flat_map (encode_byte (set_of how)) bs) (if_not (stays how b) (should_percent_encode (set_of how) b) (percent_encode_byte b) (b ∷ []) (agrees_by how b (nat_lt b 128) refl))
    ∙ ap (λ t. other how b ++ t) (others_are how bs)

-- ---- cut at the first mark
module _ (how : Escaping) (c : ℕ) (is : c ≡ escape_mark how) where
  abbrev marked : ℕ → Bool
  marked b = b == c

  no_mark : (b : ℕ) → marked b ≡ false → (b == escape_mark how) ≡ false
  no_mark b h = ap (λ k. b == k) (sym is) ∙ h

  a_mark : (b : ℕ) → marked b ≡ true → (b == escape_mark how) ≡ true
  a_mark b h = ap (λ k. b == k) (sym is) ∙ h

  others_first : (s rest : List ℕ) (n : ℕ) → ((k : ℕ) → k < n → marked (get_or s k 0) ≡ false) → url_escaped_as how (take n s ++ rest) ≡ flat_map (other how) (take n s) ++ url_escaped_as how rest
  others_first s rest zero h = refl
  others_first [] rest (suc n) h = refl
  others_first (b ∷ s) rest (suc n) h =
      let r = take n s ++ rest in
      ap (λ t. (if t then in_place how r else other how b) ++ url_escaped_as how r) (no_mark b (h 0 (omega arith)))
      ∙ ap (λ t. other how b ++ t) (others_first s rest n (λ k l. h (suc k) (omega arith)))
      ∙ sym (append_assoc (other how b) (flat_map (other how) (take n s)) (url_escaped_as how rest))

  pub url_turn : (s before after out mid next all : List ℕ) → before ≡ before_first marked s → after ≡ after_first marked s → position_or_len marked s < length s
      → mid ≡ out ++ percent_encode (set_of how) before → next ≡ mid ++ in_place how after → all ≡ out ++ url_escaped_as how s → all ≡ next ++ url_escaped_as how after
  url_turn s before after out mid next all b a l m n inv =
      let n0 = position_or_len marked s in
      let first = get_or s n0 0 in
      let left = after_first marked s in
      let front = flat_map (other how) (before_first marked s) in
      let cut : url_escaped_as how s ≡ front ++ (in_place how left ++ url_escaped_as how left) =
      ap (url_escaped_as how) (split_at_first marked s 0 l) ∙ others_first s (first ∷ left) n0 (λ k i. fails_before_first marked s k 0 i)
      ∙ ap (λ t. front ++ ((if t then in_place how left else other how first) ++ url_escaped_as how left)) (a_mark first (passes_at_first marked s 0 l)) in
      inv ∙ ap (λ t. out ++ t) cut ∙ ap₂ (λ x y. out ++ (flat_map (other how) x ++ (in_place how y ++ url_escaped_as how y))) (sym b) (sym a)
      ∙ sym (append_assoc out (flat_map (other how) before) (in_place how after ++ url_escaped_as how after))
      ∙ ap (λ t. (out ++ t) ++ (in_place how after ++ url_escaped_as how after)) (sym (others_are how before))
      ∙ ap (λ t. t ++ (in_place how after ++ url_escaped_as how after)) (sym m)
      ∙ sym (append_assoc mid (in_place how after) (url_escaped_as how after)) ∙ ap (λ t. t ++ url_escaped_as how after) (sym n)

  pub url_end : (s out next all : List ℕ) → position_or_len marked s ≡ length s → next ≡ out ++ percent_encode (set_of how) s → all ≡ out ++ url_escaped_as how s → next ≡ all
  url_end s out next all h n inv =
      let whole : take (length s) s ≡ s = take_all (length s) s (omega arith) in
      let cut : url_escaped_as how s ≡ flat_map (other how) s =
      ap (url_escaped_as how) (sym (ap (λ t. t ++ []) whole ∙ append-nil s)) ∙ others_first s [] (length s) (λ k l. fails_before_first marked s k 0 (omega arith))
      ∙ ap (λ t. flat_map (other how) t ++ []) whole ∙ append-nil (flat_map (other how) s) in
      n ∙ ap (λ t. out ++ t) (others_are how s ∙ sym cut) ∙ sym inv

mark_low : (how : Escaping) → escape_mark how < 128
mark_low Form = omega arith
mark_low Path = omega arith
mark_low Url = omega arith

pub mark_ascii : (how : Escaping) (c : ℕ) → c ≡ escape_mark how → c < 128
mark_ascii how c is = subst (λ k. k < 128) (sym is) (mark_low how)

-- ---- a slash at the end
slash_off : (x : List ℕ) → without_slash (x ++ 47 ∷ []) ≡ x
slash_off [] = refl
slash_off (b ∷ []) = refl
slash_off (b ∷ c ∷ x) = ap (λ t. b ∷ t) (slash_off (c ∷ x))

pub slash_goes : (s x : List ℕ) → s ≡ x ++ 47 ∷ [] → x ≡ without_slash s
slash_goes s x e = sym (ap without_slash e ∙ slash_off x)

one_by : (b : ℕ) (t : Bool) → (b == 47) ≡ t → ((front : List ℕ) → b ∷ [] ≡ front ++ 47 ∷ [] → ⊥) → without_slash (b ∷ []) ≡ b ∷ []
one_by b true e h = let is : b ≡ 47 = grind (arith, nat_tests) in absurd (h [] (ap (λ k. k ∷ []) is))
one_by b false e h = ap (λ t. if t then [] else b ∷ []) e

pub no_slash : (s : List ℕ) → ((front : List ℕ) → s ≡ front ++ 47 ∷ [] → ⊥) → without_slash s ≡ s
no_slash [] h = refl
no_slash (b ∷ []) h = one_by b (b == 47) refl h
no_slash (b ∷ c ∷ s) h = ap (λ t. b ∷ t) (no_slash (c ∷ s) (λ front e. h (b ∷ front) (ap (λ t. b ∷ t) e)))
