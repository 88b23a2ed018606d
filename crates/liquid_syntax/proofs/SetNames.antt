-- A set of names that is given a name.
use Rattle.std.proofs.Common.{◌≡◌, Bool, true, false, ◌||◌, cond, [], ◌∷◌, String, Global, bytes_eq, string_cmp, refl, sym, ap, ◌∙◌}
use mathlib.Core.Path.{fun_ext}
use Rattle.std.specs.BTreeSet.{BTreeSet, UpdatesBy, contains_text}
use Rattle.std.specs.String.{string_bytes}
use Rattle.std.proofs.lemmas.Map.Text.{btree_set_updates_text}
use Rattle.std.proofs.lemmas.Slice.Eq.{bytes_eq-Decides}
use Rattle.liquid_model.specs.Texts.{Text}
use Rattle.liquid_syntax.specs.NameSets.{mentioned_in_set, added}

or_neither : (b : Bool) → b ≡ (b || (false || false))
or_neither true = refl
or_neither false = refl

or_both : (b : Bool) → true ≡ (b || (true || false))
or_both true = refl
or_both false = refl

-- two texts are the same, or they are not
module _ (P : Bool → Bool → Type 0) (a b : Text) (same : a ≡ b → P true true) (other : P false false) where
  either : P (bytes_eq a b) (bytes_eq b a)
  either = on (bytes_eq a b) (bytes_eq b a) refl refl
    where
      on : (x y : Bool) → bytes_eq a b ≡ x → bytes_eq b a ≡ y → P x y
      on true true e f = same ((bytes_eq-Decides a b).0 e)
      on false false e f = other
      on true false e f = absurd (let h : b ≡ a = sym ((bytes_eq-Decides a b).0 e) in let k : bytes_eq b a ≡ true = (bytes_eq-Decides b a).1 h in cc)
      on false true e f = absurd (let h : a ≡ b = sym ((bytes_eq-Decides b a).0 f) in let k : bytes_eq a b ≡ true = (bytes_eq-Decides a b).1 h in cc)

-- the set was given the name
pub name_put : (name : Text) (k : String Global) (s n : BTreeSet (String Global)) → UpdatesBy string_cmp (string_cmp k) s n true → string_bytes k ≡ name → mentioned_in_set n ≡ added (name ∷ []) (mentioned_in_set s)
unfolding mentioned_in_set added
name_put name k s n updates is = fun_ext (λ q. btree_set_updates_text (string_bytes k) s n true updates q ∙ ap (λ t. cond (bytes_eq t q) true (contains_text s q)) is
    ∙ either (λ x y. cond x true (contains_text s q) ≡ (contains_text s q || (y || false))) name q (λ e. or_both (contains_text s q)) (or_neither (contains_text s q)))

-- the set has it
pub name_there : (name : Text) (s : BTreeSet (String Global)) → true ≡ contains_text s name → mentioned_in_set s ≡ added (name ∷ []) (mentioned_in_set s)
unfolding mentioned_in_set added
name_there name s has = fun_ext (λ q. either (λ x y. contains_text s q ≡ (contains_text s q || (y || false))) name q (λ e. ap (contains_text s) (sym e) ∙ sym has ∙ or_both (contains_text s q)) (or_neither (contains_text s q)))
