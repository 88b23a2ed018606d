-- Lists of which the items up to a limit are built.
use Rattle.std.proofs.Common.{◌≡◌, ℕ, zero, suc, ◌+◌, ◌-◌, ◌<◌, ◌≤◌, min, List, [], ◌∷◌, ◌++◌, length, take, Some, sym, ap, ◌∙◌, arith, length-append, take_all}
use mathlib.Core.Path.{subst}
use Rattle.std.proofs.lemmas.Bool.{le-leb}
use Rattle.std.proofs.lemmas.List.{length-take}
use Rattle.liquid_model.specs.Data.{Datum, Items, item}
use Rattle.liquid_model.specs.Lists.{list_of}
use Rattle.liquid_model.specs.View.{view}
use Rattle.liquid_model.specs.declared.value.Value.{Value}
use Rattle.liquid_model.specs.Uses.{Use, Alike, PairwiseUpTo}
use Rattle.liquid_model.proofs.Alike.{AlikeLists, pairwise_length}
use Rattle.liquid_json.specs.Under.{Under}
use Rattle.liquid_json.proofs.After.{after}
use Rattle.liquid_json.proofs.Under.{BuiltLists, built_alike}

module _ (u : Use) where
  -- nothing is built yet
  pub first_none : (vs : List Value) → vs ≡ [] → (limit : ℕ) (cs ds : Items) → BuiltLists u (take (limit - length vs) (list_of cs)) (list_of ds) → BuiltLists u (take limit (list_of cs)) (list_of (after vs ds))
  first_none vs none limit cs ds a =
      let all : limit - length vs ≡ limit = ap (λ xs. limit - length xs) none ∙ omega arith in
      subst (λ xs. BuiltLists u (take limit (list_of cs)) (list_of (after xs ds))) (sym none)
      (subst (λ k. BuiltLists u (take k (list_of cs)) (list_of ds)) all a)

  -- one more item is built
  pub first_kept : (vs : List Value) (v : Value) (limit : ℕ) (c : Datum) (cs ds : Items) → length vs < limit → BuiltLists u (take (limit - length (vs ++ v ∷ [])) (list_of cs)) (list_of ds) → Alike u (Some c) (Some (view v)) × Under (Some c) (Some (view v))
      → BuiltLists u (take (limit - length vs) (list_of (item c cs))) (list_of (item (view v) ds))
  first_kept vs v limit c cs ds few a h =
      let more : length (vs ++ v ∷ []) ≡ length vs + 1 = length-append vs (v ∷ []) in
      let left : suc (limit - length (vs ++ v ∷ [])) ≡ limit - length vs = omega (arith, more, few) in
      subst (λ k. BuiltLists u (take k (list_of (item c cs))) (list_of (item (view v) ds))) left (h, a)

  -- one more item is skipped
  pub first_skipped : (n limit : ℕ) (c : Datum) (cs ds : Items) → limit ≤ n → BuiltLists u (take (limit - n) (list_of cs)) (list_of ds) → BuiltLists u (take (limit - n) (list_of (item c cs))) (list_of ds)
  first_skipped n limit c cs ds full =
      let none : 0 ≡ limit - n = omega (arith, full) in
      subst (λ k. BuiltLists u (take k (list_of cs)) (list_of ds) → BuiltLists u (take k (list_of (item c cs))) (list_of ds)) none (λ a. a)

  pub none_left : (n : ℕ) → BuiltLists u (take n []) []
  none_left zero = tt
  none_left (suc n) = tt

  -- all are looked at, and they are no more than a loop may go over
  pub first_are : (limit : ℕ) (cs ds : List Datum) → length cs ≤ 9223372036854775807 → BuiltLists u (take limit cs) ds → PairwiseUpTo (Some limit) (λ c d. Alike u (Some c) (Some d)) cs ds
  first_are limit cs ds few a =
      let built : min limit (length cs) ≡ length ds = sym (length-take limit cs) ∙ pairwise_length _ (take limit cs) ds a in (
        le-leb (length cs) 9223372036854775807 few ∙ sym (le-leb (length ds) 9223372036854775807 (omega (arith, built, few))),
        subst (λ xs. AlikeLists u (take limit cs) xs) (sym (take_all limit ds (omega (arith, built)))) (built_alike u (take limit cs) ds a),
      )
