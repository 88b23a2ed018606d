-- A pass cuts the first pair, then the first pair of what follows, until none is left.
use Rattle.std.proofs.Common.{◌≡◌, ℕ, zero, suc, ◌+◌, ◌-◌, ◌<◌, ◌≤◌, Bool, true, false, ltb, List, [], ◌∷◌, ◌++◌, codes, length, take, drop, Option, Some, None, option_map, Ok, refl, ap, subst, sym, ◌∙◌, arith, if◌then◌else◌}
use Rattle.std.proofs.lemmas.Bool.Decides.{nat_tests}
use Rattle.std.specs.Str.{chars, encode_utf8_all}
use Rattle.liquid_model.specs.Answer.{IsTheOne}
use Rattle.liquid_model.specs.Data.{Datum, text, text_of}
use Rattle.liquid_model.specs.Texts.{Text}
use Rattle.liquid_model.specs.Text.{Texts}
use Rattle.liquid_model.proofs.Ones.{image_one}
use Rattle.liquid_filters.specs.HtmlLaws.{CutsPairs, IsFirstPair, OpensPair, Passes, StripsHtml}
use Rattle.liquid_filters.specs.Tags.{begins_mark, first_mark, is_opener, strip_html, strip_html_answer, without_pairs}
use Rattle.liquid_filters.proofs.Tags.{cut_body, cut_no_close, drop_drop, drop_past, no_open, none_suc, opener_long, some_suc}

-- ---- the first place of a mark
abbrev Found : List ℕ → List ℕ → ℕ → Type 0
Found p s i = (begins_mark p (drop i s) ≡ true) × ((k : ℕ) → k < i → begins_mark p (drop k s) ≡ false)

found_below : (p s : List ℕ) (c i : ℕ) → begins_mark p (c ∷ s) ≡ false → ((k : ℕ) → k < i → begins_mark p (drop k s) ≡ false) → (k : ℕ) → k < suc i → begins_mark p (drop k (c ∷ s)) ≡ false
found_below p s c i f h zero l = f
found_below p s c i f h (suc k) l = h k (omega arith)

found_suc : (p s : List ℕ) (c i j : ℕ) → i ≡ j + 1 → begins_mark p (c ∷ s) ≡ false → Found p s j → Found p (c ∷ s) i
found_suc p s c zero j q f h = absurd (omega arith)
found_suc p s c (suc i) j q f h = let k : i ≡ j = omega arith in let g = subst (Found p s) (sym k) h in (g.0, found_below p s c i f g.1)

found_either : (p s : List ℕ) (c i : ℕ) (t : Bool) → begins_mark p (c ∷ s) ≡ t → (if t then Some 0 else option_map (λ k. k + 1) (first_mark p s)) ≡ Some i → ((j : ℕ) → first_mark p s ≡ Some j → Found p s j) → Found p (c ∷ s) i
found_either p s c i true f h next = let z : i ≡ 0 = cc in subst (Found p (c ∷ s)) (sym z) (f, λ k l. absurd (omega arith))
found_either p s c i false f h next = let r = some_suc (first_mark p s) i h in found_suc p s c i r.0 r.2 f (next r.0 r.1)

found : (p s : List ℕ) (i : ℕ) → first_mark p s ≡ Some i → Found p s i
found p [] i h = let u : ⊥ = cc in absurd u
found p (c ∷ s) i h = found_either p s c i (begins_mark p (c ∷ s)) refl h (λ j g. found p s j g)

begins_nothing : (p : List ℕ) → 0 < length p → begins_mark p [] ≡ false
begins_nothing [] l = absurd (omega arith)
begins_nothing (x ∷ p) l = refl

none_either : (p s : List ℕ) (c k : ℕ) (t : Bool) → begins_mark p (c ∷ s) ≡ t → (if t then Some 0 else option_map (λ n. n + 1) (first_mark p s)) ≡ None → ((i : ℕ) → first_mark p s ≡ None → begins_mark p (drop i s) ≡ false) → begins_mark p (drop k (c ∷ s)) ≡ false
none_either p s c k true f h next = let u : ⊥ = cc in absurd u
none_either p s c zero false f h next = f
none_either p s c (suc k) false f h next = next k (none_suc (first_mark p s) h)

none_found : (p s : List ℕ) (k : ℕ) → 0 < length p → first_mark p s ≡ None → begins_mark p (drop k s) ≡ false
none_found p [] k l h = ap (begins_mark p) (drop_past k) ∙ begins_nothing p l
none_found p (c ∷ s) k l h = none_either p s c k (begins_mark p (c ∷ s)) refl h (λ i g. none_found p s i l g)

compared_at : {P : Type 0} (i j : ℕ) (t u : Bool) → ltb i j ≡ t → ltb j i ≡ u → (i < j → P) → (j < i → P) → (i ≡ j → P) → P
compared_at i j true u e f x y z = x (grind (arith, nat_tests))
compared_at i j false true e f x y z = y (grind (arith, nat_tests))
compared_at i j false false e f x y z = z (grind (arith, nat_tests))

compared : {P : Type 0} (i j : ℕ) → (i < j → P) → (j < i → P) → (i ≡ j → P) → P
compared i j = compared_at i j (ltb i j) (ltb j i) refl refl

true_false : (b : Bool) → b ≡ true → b ≡ false → ⊥
true_false b h k = cc

finds_at : (p s : List ℕ) (i : ℕ) (o : Option ℕ) → first_mark p s ≡ o → 0 < length p → begins_mark p (drop i s) ≡ true → ((k : ℕ) → k < i → begins_mark p (drop k s) ≡ true → ⊥) → o ≡ Some i
finds_at p s i None e l h m = absurd (true_false (begins_mark p (drop i s)) h (none_found p s i l e))
finds_at p s i (Some j) e l h m =
    let f = found p s j e in
    compared i j (λ x. absurd (true_false (begins_mark p (drop i s)) h (f.1 i x))) (λ x. absurd (m j x f.0)) (λ x. ap Some (sym x))

finds : (p s : List ℕ) (i : ℕ) → 0 < length p → begins_mark p (drop i s) ≡ true → ((k : ℕ) → k < i → begins_mark p (drop k s) ≡ true → ⊥) → first_mark p s ≡ Some i
finds p s i = finds_at p s i (first_mark p s) refl

-- ---- places in what follows
later : (s : List ℕ) (a j : ℕ) → a ≤ j → drop (j - a) (drop a s) ≡ drop j s
later s a j l = let e : a + (j - a) ≡ j = omega arith in sym (drop_drop a (j - a) s) ∙ ap (λ n. drop n s) e

module _ (o e : List ℕ) (opener : is_opener o ≡ true) (some : 0 < length e) where
  long : 0 < length o
  long = opener_long o opener

  pair_first : (s : List ℕ) (i j : ℕ) → IsFirstPair o e s i j → (first_mark o s ≡ Some i) × (first_mark e (drop (i + length o) s) ≡ Some (j - (i + length o)))
  pair_first s i j h =
      let a = i + length o in
      let w : a ≤ j = h.after in (
        finds o s i long h.opens (λ k l b. h.leftmost k l (b, (j, omega arith, h.closes))),
        finds e (drop a s) (j - a) some (ap (begins_mark e) (later s a j w) ∙ h.closes)
            (λ k l b. h.first (a + k) (omega arith) (omega arith) (ap (begins_mark e) (drop_drop a k s) ∙ b)),
      )

  no_pair_at : (s : List ℕ) (i : ℕ) (r : Option ℕ) → first_mark o s ≡ Some i → first_mark e (drop (i + length o) s) ≡ r → ((k : ℕ) → OpensPair o e s k → ⊥) → without_pairs o e s ≡ s
  no_pair_at s i None f g n = cut_no_close o e s (take i s) (drop (i + length o) s) opener (i, f, refl, refl) g
  no_pair_at s i (Some k) f g n =
      let c = found e (drop (i + length o) s) k g in
      absurd (n i ((found o s i f).0, (i + length o + k, omega arith, ap (begins_mark e) (drop_drop (i + length o) k s) ∙ c.0)))

  no_pair_from : (s : List ℕ) (r : Option ℕ) → first_mark o s ≡ r → ((k : ℕ) → OpensPair o e s k → ⊥) → without_pairs o e s ≡ s
  no_pair_from s None f n = no_open o e s f
  no_pair_from s (Some i) f n = no_pair_at s i (first_mark e (drop (i + length o) s)) f refl n

  no_pair : (s : List ℕ) → ((k : ℕ) → OpensPair o e s k → ⊥) → without_pairs o e s ≡ s
  no_pair s n = no_pair_from s (first_mark o s) refl n

  -- what is kept up to a pair, and what is left after it
  pair_cut : (s : List ℕ) (i k : ℕ) → first_mark o s ≡ Some i → first_mark e (drop (i + length o) s) ≡ Some k
      → (without_pairs o e s ≡ take i s ++ without_pairs o e (drop (i + length o + k + length e) s)) × (length (drop (i + length o + k + length e) s) < length s)
  pair_cut s i k f g =
      let a = i + length o in
      let body = drop a s in
      let c = cut_body o e s (take i s) body (take k body) (drop (k + length e) body) opener some (i, f, refl, refl) (k, g, refl, refl) in
      let d : drop (k + length e) body ≡ drop (a + k + length e) s = sym (drop_drop a (k + length e) s) ∙ ap (λ n. drop n s) (omega arith) in
      (c.0 ∙ ap (λ t. take i s ++ without_pairs o e t) d, subst (λ t. length t < length s) d c.1)

  cuts_is : (xs : List (List ℕ)) (s t : List ℕ) → CutsPairs o e xs s t → t ≡ without_pairs o e s
  cuts_is [] s t h = h.1 ∙ sym (no_pair s h.0)
  cuts_is (x ∷ xs) s t h =
      let p = pair_first s h.0 h.1 h.3 in
      let w : h.0 + length o ≤ h.1 = h.3.after in
      let c = pair_cut s h.0 (h.1 - (h.0 + length o)) p.0 p.1 in
      let d : h.0 + length o + (h.1 - (h.0 + length o)) + length e ≡ h.1 + length e = omega arith in
      h.5 ∙ ap (λ y. y ++ h.2) h.4 ∙ ap (λ y. take h.0 s ++ y) (cuts_is xs (drop (h.1 + length e) s) h.2 h.6) ∙ ap (λ n. take h.0 s ++ without_pairs o e (drop n s)) (sym d) ∙ sym c.0

  abbrev Cuts : List ℕ → Type 0
  Cuts s = (xs : List (List ℕ)) × CutsPairs o e xs s (without_pairs o e s)

  first_pair : (s : List ℕ) (i k : ℕ) → first_mark o s ≡ Some i → first_mark e (drop (i + length o) s) ≡ Some k → IsFirstPair o e s i (i + length o + k)
  first_pair s i k f g =
      let a = i + length o in
      let x = found o s i f in
      let y = found e (drop a s) k g in
      record {
        opens = x.0;
        after = omega arith;
        closes = ap (begins_mark e) (drop_drop a k s) ∙ y.0;
        leftmost = λ m l h. true_false (begins_mark o (drop m s)) h.0 (x.1 m l);
        first = λ m l u h. true_false (begins_mark e (drop m s)) h (ap (begins_mark e) (sym (later s a m l)) ∙ y.1 (m - a) (omega arith));
      }

  step_at : (s : List ℕ) (i : ℕ) (r : Option ℕ) → first_mark o s ≡ Some i → first_mark e (drop (i + length o) s) ≡ r → ((z : List ℕ) → length z < length s → Cuts z) → Cuts s
  step_at s i None f g next =
      let a = i + length o in
      let x = found o s i f in (
        [],
        (
          λ m h. compared m i (λ l. true_false (begins_mark o (drop m s)) h.0 (x.1 m l))
              (λ l. true_false (begins_mark e (drop h.1.0 s)) h.1.2 (ap (begins_mark e) (sym (later s a h.1.0 (let b : m + length o ≤ h.1.0 = h.1.1 in omega arith))) ∙ none_found e (drop a s) (h.1.0 - a) some g))
              (λ l. true_false (begins_mark e (drop h.1.0 s)) h.1.2 (ap (begins_mark e) (sym (later s a h.1.0 (let b : m + length o ≤ h.1.0 = h.1.1 in omega arith))) ∙ none_found e (drop a s) (h.1.0 - a) some g)),
          cut_no_close o e s (take i s) (drop a s) opener (i, f, refl, refl) g,
        ),
      )
  step_at s i (Some k) f g next =
      let c = pair_cut s i k f g in
      let r = next (drop (i + length o + k + length e) s) c.1 in
      (take i s ∷ r.0, (i, i + length o + k, without_pairs o e (drop (i + length o + k + length e) s), first_pair s i k f g, refl, c.0, r.1))

  step_from : (s : List ℕ) (r : Option ℕ) → first_mark o s ≡ r → ((z : List ℕ) → length z < length s → Cuts z) → Cuts s
  step_from s None f next = ([], (λ m h. true_false (begins_mark o (drop m s)) h.0 (none_found o s m long f), no_open o e s f))
  step_from s (Some i) f next = step_at s i (first_mark e (drop (i + length o) s)) f refl next

  cuts_all : (n : ℕ) (s : List ℕ) → length s ≤ n → Cuts s
  cuts_all zero s l = step_from s (first_mark o s) refl (λ z m. absurd (omega arith))
  cuts_all (suc n) s l = step_from s (first_mark o s) refl (λ z m. cuts_all n z (omega arith))

  pub passes_one : (s : List ℕ) → IsTheOne (Passes o e s) (without_pairs o e s)
  passes_one s = λ t. (λ h. cuts_is h.0 s t h.1, λ q. subst (Passes o e s) (sym q) (cuts_all (length s) s (omega arith)))

-- ---- the four passes
scripts_one : (s : List ℕ) → IsTheOne (Passes (codes "<script") (codes "</script>") s) (without_pairs (codes "<script") (codes "</script>") s)
scripts_one = passes_one (codes "<script") (codes "</script>") refl (omega arith)

styles_one : (s : List ℕ) → IsTheOne (Passes (codes "<style") (codes "</style>") s) (without_pairs (codes "<style") (codes "</style>") s)
styles_one = passes_one (codes "<style") (codes "</style>") refl (omega arith)

comments_one : (s : List ℕ) → IsTheOne (Passes (codes "<!--") (codes "-->") s) (without_pairs (codes "<!--") (codes "-->") s)
comments_one = passes_one (codes "<!--") (codes "-->") refl (omega arith)

tags_one : (s : List ℕ) → IsTheOne (Passes (codes "<") (codes ">") s) (without_pairs (codes "<") (codes ">") s)
tags_one = passes_one (codes "<") (codes ">") refl (omega arith)

strips_one : (s : Text) → IsTheOne (StripsHtml s) (strip_html s)
strips_one s = λ t. (
  λ h. h.8 ∙ ap encode_utf8_all (((tags_one h.2) h.3).0 h.7
      ∙ ap (without_pairs (codes "<") (codes ">")) (((comments_one h.1) h.2).0 h.6
      ∙ ap (without_pairs (codes "<!--") (codes "-->")) (((styles_one h.0) h.1).0 h.5
      ∙ ap (without_pairs (codes "<style") (codes "</style>")) (((scripts_one (chars s)) h.0).0 h.4)))),
  λ e.
      let one = without_pairs (codes "<script") (codes "</script>") (chars s) in
      let two = without_pairs (codes "<style") (codes "</style>") one in
      let three = without_pairs (codes "<!--") (codes "-->") two in
      let four = without_pairs (codes "<") (codes ">") three in
      (one, two, three, four, ((scripts_one (chars s)) one).1 refl, ((styles_one one) two).1 refl, ((comments_one two) three).1 refl, ((tags_one three) four).1 refl, e),
)

pub strip_html_one : (d : Datum) (args : List Datum) → IsTheOne (Texts (StripsHtml (text_of d))) (strip_html_answer d args)
strip_html_one d args = image_one (StripsHtml (text_of d)) (λ t. Ok (text t)) (strip_html (text_of d)) (strips_one (text_of d))
