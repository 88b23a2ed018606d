-- A variable's value, step by step.
use Rattle.std.proofs.Common.{◌≡◌, List, [], ◌∷◌, map, Bool, true, false, cond, Option, Some, None, refl, sym, ap, ◌∙◌}
use Rattle.std.specs.Option.{option_and_then}
use Rattle.liquid_model.specs.Texts.{Text}
use Rattle.liquid_model.specs.Data.{Datum, scalar}
use Rattle.liquid_model.specs.Find.{find}
use Rattle.liquid_model.specs.View.{view}
use Rattle.liquid_model.specs.declared.value.Value.{Value}
use Rattle.liquid_model.specs.Find as finding
use Rattle.liquid_core.specs.Environment.{Environment, lookup}
use Rattle.liquid_core.specs.Expression.{literal, variable, Steps, no_steps, step}
use Rattle.liquid_core.specs.Expressions.{value_of, path_of}
use Rattle.liquid_core.specs.AlongSteps.{value_along_steps}

nowhere : {X Y : Type 0} (o : Option X) → option_and_then {U = Y} (λ x. None) o ≡ None
nowhere None = refl
nowhere (Some x) = refl

abbrev along : Datum → Option (List Datum) → Option Datum
along d path = option_and_then (λ ds. find d ds) path

-- a first step that leads to next, and then a path
then_along : (next : Option Datum) (path : Option (List Datum)) → option_and_then (λ ds. option_and_then (λ n. find n ds) next) path ≡ option_and_then (λ n. along n path) next
then_along None path = nowhere path
then_along (Some n) path = refl

with_first : (d s : Datum) (path : Option (List Datum)) → along d (option_and_then (λ ds. Some (s ∷ ds)) path) ≡ option_and_then (λ ds. option_and_then (λ n. find n ds) (finding.step d s)) path
with_first d s None = refl
with_first d s (Some ds) = refl

each_next : (f g : Datum → Option Datum) (next : Option Datum) → ((n : Datum) → f n ≡ g n) → option_and_then f next ≡ option_and_then g next
each_next f g None h = refl
each_next f g (Some n) h = h n

by_scalar : (d s : Datum) (path : Option (List Datum)) (rest : Datum → Option Datum) (b : Bool) → scalar s ≡ b → ((n : Datum) → along n path ≡ rest n)
    → along d (cond b (option_and_then (λ ds. Some (s ∷ ds)) path) None) ≡ option_and_then rest (finding.step d s)
by_scalar d s path rest true h more = with_first d s path ∙ then_along (finding.step d s) path ∙ each_next (λ n. along n path) rest (finding.step d s) more
by_scalar d s path rest false h more = rw h refl

by_value : (d : Datum) (v : Option Datum) (path : Option (List Datum)) (rest : Datum → Option Datum) → ((n : Datum) → along n path ≡ rest n)
    → along d (option_and_then (λ s. cond (scalar s) (option_and_then (λ ds. Some (s ∷ ds)) path) None) v) ≡ option_and_then (λ s. option_and_then rest (finding.step d s)) v
by_value d None path rest more = refl
by_value d (Some s) path rest more = by_scalar d s path rest (scalar s) refl more

pub steps_along : (d : Datum) (steps : Steps) (e : Environment) → along d (path_of steps e) ≡ value_along_steps d steps e
unfolding path_of
steps_along d no_steps e = refl
steps_along d (step x more) e = by_value d (value_of x e) (path_of more e) (λ n. value_along_steps n more e) (λ n. steps_along n more e)

pub steps_from : (name : Text) (steps : Steps) (e : Environment) (first : Option Datum) → first ≡ lookup e name → option_and_then (λ d. value_along_steps d steps e) first ≡ value_of (variable name steps) e
unfolding value_of
steps_from name steps e None h = sym (nowhere (path_of steps e)) ∙ ap (λ o. option_and_then (λ path. option_and_then (λ found. find found path) o) (path_of steps e)) h
steps_from name steps e (Some d) h = sym (steps_along d steps e) ∙ ap (λ o. option_and_then (λ path. option_and_then (λ found. find found path) o) (path_of steps e)) h

pub literal_value : (d : Datum) (e : Environment) → value_of (literal d) e ≡ Some d
unfolding value_of
literal_value d e = refl

-- ---- a path of values

pub one_on : (d n : Datum) (v : Value) (path rest : List Value) → path ≡ v ∷ rest → Some n ≡ finding.step d (view v) → find n (map view rest) ≡ find d (map view path)
one_on d n v path rest at h = ap (option_and_then (λ found. find found (map view rest))) h ∙ sym (ap (λ l. find d (map view l)) at)

pub at_end : (d : Datum) (path : List Value) → path ≡ [] → Some d ≡ find d (map view path)
at_end d path at = sym (ap (λ l. find d (map view l)) at)
