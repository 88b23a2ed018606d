-- Maps from names whose values are alike, name by name.
use Rattle.std.specs.Prelude.{◌≡◌, Bool, true, false, cond, T, Some}
use mathlib.Core.Path.{subst}
use Rattle.liquid_model.specs.Texts.{Text, same_text}
use Rattle.liquid_model.specs.Data.{Datum}
use Rattle.liquid_model.specs.Maps.{Map, empty, insert, merged}
use Rattle.liquid_model.specs.Uses.{Alike}
use Rattle.liquid_model.proofs.Maps.{same_text_equal}
use Rattle.liquid_model.proofs.Alike.{alike_same, alike_else}
use Rattle.liquid_meaning.specs.Reading.{Uses}
use Rattle.liquid_meaning.specs.Reads.{AlikeMaps}

module _ (U : Uses) where
  pub alike_empty : AlikeMaps U empty empty
  alike_empty name = alike_same (U name) _

  pub alike_insert : (m n : Map Datum) (name : Text) (d e : Datum) → AlikeMaps U m n → Alike (U name) (Some d) (Some e) → AlikeMaps U (insert m name d) (insert n name e)
  unfolding insert
  alike_insert m n name d e h a q = at (same_text name q) (same_text_equal name q)
    where
      at : (b : Bool) → (T b → name ≡ q) → Alike (U q) (cond b (Some d) (m q)) (cond b (Some e) (n q))
      at true is = subst (λ x. Alike (U x) (Some d) (Some e)) (is tt) a
      at false is = h q

  pub alike_merged : (s t m n : Map Datum) → AlikeMaps U s t → AlikeMaps U m n → AlikeMaps U (merged s m) (merged t n)
  unfolding merged
  alike_merged s t m n a b name = alike_else (U name) _ _ _ _ (a name) (b name)
