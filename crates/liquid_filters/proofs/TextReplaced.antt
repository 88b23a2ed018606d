-- What std's `replace` and `replacen` make is what the filters make.
use Rattle.std.proofs.Common.{◌≡◌, ℕ, zero, suc, ◌<◌, inl, inr, true, List, [], ◌∷◌, ◌++◌, length, take, drop, map, Bor, Option, ap, subst, refl, sym, ◌∙◌, arith, append-nil, if◌then◌else◌}
use Rattle.std.proofs.Math.Seq.{drop-append_seam}
use Rattle.std.proofs.lemmas.Str.{chars-nil, chars_past_char, IsUtf8-past_char}
use Rattle.std.specs.Char.{encode_utf8}
use Rattle.std.specs.Str.{chars, IsUtf8}
use Rattle.std.specs.Str.Pattern.{FindsText, LacksTextAt}
use Rattle.std.specs.Str.Replace.{ContinuesAfterMatch, ReplacesMatches, ReplacesFirstMatches}
use Rattle.liquid_model.specs.Joined.{joined, joined_rest}
use Rattle.liquid_model.specs.Text.{begins}
use Rattle.liquid_filters.specs.Occurrences.{Lacks}
use Rattle.liquid_filters.specs.Operate.{replaced, replaced_first}
use Rattle.liquid_filters.specs.Pieces.{pieces}
use Rattle.liquid_filters.proofs.Pieces.{begins_own, begins_not, joined_rest-pieces, pieces_found, pieces_none}

-- a search text, as the code holds it
abbrev pub Needle : Type 0
Needle = Bor (List ℕ)

abbrev pub Finds : Needle → List ℕ → Option (ℕ × ℕ) → Type 0
Finds n = FindsText n.now

abbrev pub Same : Needle → Needle → Type 0
Same n m = m.now ≡ n.now

module _ (r : List ℕ) where
  abbrev Each : ℕ → Needle → List ℕ → List ℕ → Type 0
  Each = ReplacesMatches Finds Same r

  -- what follows an occurrence that is not empty
  abbrev Next : ℕ → Needle → List ℕ → ℕ → ℕ → List ℕ → Type 0
  Next n q = ContinuesAfterMatch Finds Same r (Each n q)

  past : (n : ℕ) (q : Needle) (s rest wanted : List ℕ) (a b : ℕ) → a < b → (Each n q (drop b s) rest → rest ≡ wanted) → Next n q s a b rest → rest ≡ wanted
  past n q s rest wanted a b l again (inl h) = again h.1
  past n q s rest wanted a b l again (inr h) = absurd (omega (arith, h.0))

  occurrence_next : (p s rest : List ℕ) (a b : ℕ) → 0 < length p → ((k : ℕ) → k < a → LacksTextAt p s k) → drop a s ≡ p ++ drop b s
      → rest ≡ joined r (pieces p 0 (drop b s)) → take a s ++ (r ++ rest) ≡ joined r (pieces p 0 s)
  occurrence_next p s rest a b l first cut again =
      ap (λ t. take a s ++ (r ++ t)) again ∙ ap (λ t. take a s ++ t) (sym (joined_rest-pieces r p (drop b s)))
      ∙ ap (joined r) (sym (pieces_found p s a (drop b s) l (λ k m t. first k m t) cut))

  -- a search text that is not empty
  each_is : (n : ℕ) (q : Needle) (s out : List ℕ) → 0 < length q.now → Each n q s out → out ≡ joined r (pieces q.now 0 s)
  each_is zero q s out l h = h.1 ∙ sym (append-nil s) ∙ ap (joined r) (sym (pieces_none q.now s l (λ k m t. h.0 k m t)))
  each_is (suc n) q s out l h =
      let a = h.0 in let b = h.1 in let q2 = h.2 in let rest = h.3 in
      let same : q2.now ≡ q.now = h.5 in
      let wide : a < b = omega (arith, h.4.1.ends) in
      let again : Each n q2 (drop b s) rest → rest ≡ joined r (pieces q.now 0 (drop b s)) =
      λ e. each_is n q2 (drop b s) rest (subst (λ t. 0 < length t) (sym same) l) e ∙ ap (λ t. joined r (pieces t 0 (drop b s))) same in
      h.7 ∙ occurrence_next q.now s rest a b l h.4.0 h.4.1.split (past n q2 s rest _ a b wide again h.6)

  -- by the empty text: r before each character and at the end
  abbrev Spread : List ℕ → List ℕ
  Spread s = joined_rest r (map encode_utf8 (chars s) ++ ([] ∷ []))

  nothing_left : (s : List ℕ) → length s ≡ 0 → r ++ [] ≡ Spread s
  nothing_left [] z = ap (λ t. r ++ t) (sym (append-nil [])) ∙ ap (λ cs. joined_rest r (map encode_utf8 cs ++ ([] ∷ []))) (sym chars-nil)
  nothing_left (b ∷ s) z = absurd (omega arith)

  one_left : (s t more : List ℕ) (c : ℕ) → IsUtf8 s → s ≡ encode_utf8 c ++ t → more ≡ Spread t → r ++ (encode_utf8 c ++ more) ≡ Spread s
  one_left s t more c u e again =
      ap (λ x. r ++ (encode_utf8 c ++ x)) again ∙ ap (λ cs. joined_rest r (map encode_utf8 cs ++ ([] ∷ []))) (sym (chars_past_char s t c u e))

  spread_next : (n : ℕ) (q : Needle) (s rest : List ℕ) → IsUtf8 s → ((t more : List ℕ) → IsUtf8 t → Each n q t more → more ≡ Spread t) → Next n q s 0 0 rest → r ++ rest ≡ Spread s
  spread_next n q s rest u again (inl h) = absurd (omega (arith, h.0))
  spread_next n q s rest u again (inr (same, inl (z, e))) = ap (λ t. r ++ t) e ∙ nothing_left s z
  spread_next n q s rest u again (inr (same, inr (c, t, more, e, on, g))) =
      ap (λ x. r ++ x) g ∙ one_left s t more c u e (again t more (IsUtf8-past_char s t c u e) on)

  first_is_start : (p s : List ℕ) (a : ℕ) → p ≡ [] → ((k : ℕ) → k < a → LacksTextAt p s k) → a ≡ 0
  first_is_start p s zero e h = refl
  first_is_start p s (suc a) e h = absurd (h 0 (omega arith) s (ap (λ t. t ++ s) (sym e)))

  spread_is : (n : ℕ) (q : Needle) (s out : List ℕ) → q.now ≡ [] → IsUtf8 s → Each n q s out → out ≡ Spread s
  spread_is zero q s out e u h = absurd (h.0 0 (omega arith) s (ap (λ t. t ++ s) (sym e)))
  spread_is (suc n) q s out e u h =
      let q2 = h.2 in
      let rest = h.3 in
      let a : h.0 ≡ 0 = first_is_start q.now s h.0 e h.4.0 in
      let b : h.1 ≡ 0 = omega (arith, h.4.1.ends, a, ap length e) in
      let on : Next n q2 s 0 0 rest = subst (λ j. Next n q2 s 0 j rest) b (subst (λ i. Next n q2 s i h.1 rest) a h.6) in
      h.7 ∙ ap (λ i. take i s ++ (r ++ rest)) a ∙ spread_next n q2 s rest u (λ t more v again. spread_is n q2 t more (h.5 ∙ e) v again) on

  replaced_at : (n : ℕ) (q : Needle) (p s out : List ℕ) → q.now ≡ p → IsUtf8 s → Each n q s out → out ≡ replaced p r s
  replaced_at n q [] s out e u h = spread_is n q s out e u h
  replaced_at n q (x ∷ p) s out e u h =
      each_is n q s out (subst (λ t. 0 < length t) (sym e) (omega arith)) h ∙ ap (λ t. joined r (pieces t 0 s)) e

  pub replaced_is : (n : ℕ) (q : Needle) (s out : List ℕ) → IsUtf8 s → Each n q s out → out ≡ replaced q.now r s
  replaced_is n q s out u h = replaced_at n q q.now s out refl u h

  -- ---- the first occurrence alone
  pub here_nil : (p : List ℕ) → begins p [] ≡ true → r ≡ r ++ drop (length p) []
  here_nil [] e = sym (append-nil r)
  here_nil (x ∷ p) e = cc

  first_here : (p s : List ℕ) → begins p s ≡ true → replaced_first p r s ≡ r ++ drop (length p) s
  first_here p [] e = rw e (here_nil p e)
  first_here p (b ∷ s) e = rw e refl

  pub first_found : (p s : List ℕ) (i : ℕ) (rest : List ℕ) → ((k : ℕ) → k < i → LacksTextAt p s k) → drop i s ≡ p ++ rest → replaced_first p r s ≡ take i s ++ (r ++ rest)
  first_found p s zero rest h e = first_here p s (ap (begins p) e ∙ begins_own p rest) ∙ ap (λ t. r ++ drop (length p) t) e ∙ ap (λ t. r ++ t) (drop-append_seam p rest)
  first_found [] [] (suc i) rest h e = absurd (h 0 (omega arith) [] refl)
  first_found (x ∷ p) [] (suc i) rest h e = cc
  first_found p (b ∷ s) (suc i) rest h e =
      ap (λ t. if t then r ++ drop (length p) (b ∷ s) else b ∷ replaced_first p r s) (begins_not p (b ∷ s) (begins p (b ∷ s)) refl (h 0 (omega arith)))
      ∙ ap (λ t. b ∷ t) (first_found p s i rest (λ k m. h (suc k) (omega arith)) e)

  pub first_none : (p s : List ℕ) → Lacks p s → replaced_first p r s ≡ s
  first_none p [] h = ap (λ t. if t then r else []) (begins_not p [] (begins p []) refl (h 0 (omega arith)))
  first_none p (b ∷ s) h =
      ap (λ t. if t then r ++ drop (length p) (b ∷ s) else b ∷ replaced_first p r s) (begins_not p (b ∷ s) (begins p (b ∷ s)) refl (h 0 (omega arith)))
      ∙ ap (λ t. b ∷ t) (first_none p s (λ k m. h (suc k) (omega arith)))

  abbrev First : ℕ → Needle → List ℕ → List ℕ → Type 0
  First = ReplacesFirstMatches Finds Same r

  nothing_is : (s : List ℕ) → length s ≡ 0 → [] ≡ s
  nothing_is [] z = refl
  nothing_is (b ∷ s) z = absurd (omega arith)

  rest_is : (q : Needle) (s rest : List ℕ) (a b : ℕ) → ContinuesAfterMatch Finds Same r (First 0 q) s a b rest → rest ≡ drop b s
  rest_is q s rest a b (inl h) = h.1
  rest_is q s rest a b (inr (same, inl (z, e))) = e ∙ nothing_is (drop b s) z
  rest_is q s rest a b (inr (same, inr (c, t, more, e, on, g))) = g ∙ ap (λ x. encode_utf8 c ++ x) on ∙ sym e

  pub replaced_first_is : (q : Needle) (s out : List ℕ) → First 1 q s out → out ≡ replaced_first q.now r s
  replaced_first_is q s out (inl h) = h.1 ∙ sym (first_none q.now s (λ k m t. h.0 k m t))
  replaced_first_is q s out (inr h) =
      h.7 ∙ ap (λ t. take h.0 s ++ (r ++ t)) (rest_is h.2 s h.3 h.0 h.1 h.6) ∙ sym (first_found q.now s h.0 (drop h.1 s) (λ k m t. h.4.0 k m t) h.4.1.split)
