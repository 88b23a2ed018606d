-- What is said of a name, by what it is.
use Rattle.std.proofs.Common.{◌≡◌, ◌<◌, ◌≤◌, ◌+◌, ◌-◌, ◌∷◌, ℕ, List, [], arith, Option, Some, None, IfSome, Bor, get_or, drop, take, length, refl, sym, ap, subst, ◌∙◌}
use Rattle.std.specs.Option.{option_and_then}
use Rattle.liquid_model.specs.Data.{Datum, number, truth}
use Rattle.liquid_model.specs.Find.{step}
use Rattle.liquid_model.specs.Maps.{Map}
use Rattle.liquid_model.specs.Texts.{Text}
use Rattle.liquid_model.specs.View.{view}
use Rattle.liquid_model.specs.declared.value.Value.{Value}
use Rattle.liquid_model.specs.Find.{value_at}
use Rattle.liquid_model.specs.Texts.{◌else◌}
use Rattle.liquid_model.specs.View.{pairs_view}
use Rattle.liquid_core.specs.States.{environment_of, layers_of, data_held}
use Rattle.liquid_core.specs.declared.state.State.{State}
use Rattle.liquid_core.proofs.States.{looked_up}
use Rattle.std.proofs.lemmas.List.{drop_more}
use Rattle.liquid_core.specs.Environment.{Environment, local_of, lookup}
use Rattle.liquid_core.specs.Expressions.{value_of}
use Rattle.liquid_core.specs.ExpressionView.{expression_view, steps_view}
use Rattle.liquid_core.specs.LoopFrames.{scope_map, scope_maps, frame_object}
use Rattle.liquid_core.specs.DirectValues.{DirectlyIs}
use Rattle.liquid_core.specs.declared.expression.Expression.{Expression, Literal}
use Rattle.liquid_core.specs.declared.frame.Scope.{Scope}
use Rattle.liquid_core.specs.declared.resolved.DirectValue.{DirectValue}
use Rattle.liquid_core.specs.declared.resolved.DirectValue.TheVariants.{Held, Number, Truth, Loop, Nothing, Unknown}
use Rattle.liquid_core.proofs.ExpressionViews.{literal_is}
use Rattle.liquid_core.proofs.LoopFrames.{found_here, missing_here}
use Rattle.liquid_core.specs.AlongSteps.{value_along_steps}
use Rattle.liquid_core.proofs.Steps.{literal_value}

pub directly_as : (n : DirectValue) (a b enclosing : Option Datum) → a ≡ b → DirectlyIs n a enclosing → DirectlyIs n b enclosing
directly_as n a b enclosing same h = subst (λ o. DirectlyIs n o enclosing) same h

head_of : (x y : Scope) (xs ys : List Scope) → x ∷ xs ≡ y ∷ ys → x ≡ y
head_of x y xs ys e = cc

same_scope : (ts : List Scope) (i : ℕ) (s x : Scope) → i < length ts → s ≡ get_or ts i s → drop i ts ≡ x ∷ drop (i + 1) ts → s ≡ x
same_scope ts i s x h at there = at ∙ head_of (get_or ts i s) x (drop (i + 1) ts) (drop (i + 1) ts) (sym (drop_more ts i s h) ∙ there)

-- what is said of the innermost of some scopes is said of all of them, but that it is nothing
module _ (q : Text) (ts : List Scope) (l i : ℕ) (b : List (Map Datum)) (s : Scope) (e : l ≡ i + 1) (h : i < length ts) (at : s ≡ get_or ts i s) where
  there_is : (d : Datum) → Some d ≡ scope_map s (local_of (scope_maps (take i ts) b)) q → Some d ≡ local_of (scope_maps (take l ts) b) q
  there_is d f = found_here q ts l i b d e h (λ x there. subst (λ y. Some d ≡ scope_map y (local_of (scope_maps (take i ts) b)) q) (same_scope ts i s x h at there) f)

  pub directly_here : (n : DirectValue) (all enclosing : Option Datum) → ((local : Map Datum) → DirectlyIs n (scope_map s local q) None) → local_of (scope_maps (take l ts) b) q ≡ all → (n ≡ Nothing → ⊥) → DirectlyIs n all enclosing
  directly_here (Held v) all enclosing f same other = there_is (view v.now) (f (local_of (scope_maps (take i ts) b))) ∙ same
  directly_here (Number n) all enclosing f same other = there_is (number n) (f (local_of (scope_maps (take i ts) b))) ∙ same
  directly_here (Truth t) all enclosing f same other = there_is (truth t) (f (local_of (scope_maps (take i ts) b))) ∙ same
  directly_here (Loop t) all enclosing f same other = let found = f (local_of (scope_maps (take i ts) b)) in (found.0, there_is (frame_object t.now found.0) found.1 ∙ same)
  directly_here Nothing all enclosing f same other = absurd (other refl)
  directly_here Unknown all enclosing f same other = tt

  pub nothing_here : ((local : Map Datum) → None ≡ scope_map s local q) → local_of (scope_maps (take i ts) b) q ≡ local_of (scope_maps (take l ts) b) q
  nothing_here f = missing_here q ts l i b e h (λ x there. subst (λ y. None ≡ scope_map y (local_of (scope_maps (take i ts) b)) q) (same_scope ts i s x h at there) (f (local_of (scope_maps (take i ts) b))))

-- ---- a name

first : (s : State) (q : Text) (d : Datum) → Some d ≡ (environment_of s).local q → Some d ≡ lookup (environment_of s) q
first s q d h = ap (λ o. ((o else value_at q (pairs_view s.assigned.entries)) else (layers_of s).counters q) else data_held s.«data» q) h ∙ sym (looked_up s q)

pub directly_local : (s : State) (q : Text) (n : DirectValue) (enclosing : Option Datum) → DirectlyIs n ((environment_of s).local q) enclosing → (n ≡ Nothing → ⊥) → DirectlyIs n (lookup (environment_of s) q) None
directly_local s q (Held v) enclosing h other = first s q (view v.now) h
directly_local s q (Number n) enclosing h other = first s q (number n) h
directly_local s q (Truth b) enclosing h other = first s q (truth b) h
directly_local s q (Loop t) enclosing h other = (h.0, first s q (frame_object t.now h.0) h.1)
directly_local s q Nothing enclosing h other = absurd (other refl)
directly_local s q Unknown enclosing h other = tt

-- ---- steps

abbrev SteppedTo : Option (Bor Value) → Option Datum → Type 0
SteppedTo o next = IfSome o (λ v. Some (view v.now) ≡ next)

pub by_literal : (o : Option (Bor Value)) (d : Value) (x : Expression) (p : Value) (e : Environment) → x ≡ Literal p
    → SteppedTo o (step (view d) (view p)) → SteppedTo o (option_and_then (step (view d)) (value_of (expression_view x) e))
by_literal o d x p e is h = subst (SteppedTo o) (sym (ap (option_and_then (step (view d))) (ap (λ y. value_of (expression_view y) e) is ∙ ap (λ y. value_of y e) (literal_is p) ∙ literal_value (view p) e))) h

assoc : {X Y Z : Type 0} (f : X → Option Y) (k : Y → Option Z) (v : Option X) → option_and_then k (option_and_then f v) ≡ option_and_then (λ s. option_and_then k (f s)) v
assoc f k None = refl
assoc f k (Some s) = refl

pub along_step : (d n : Datum) (x : Expression) (xs rest : List Expression) (e : Environment) → xs ≡ x ∷ rest → Some n ≡ option_and_then (step d) (value_of (expression_view x) e) → value_along_steps n (steps_view rest) e ≡ value_along_steps d (steps_view xs) e
along_step d n x xs rest e at h =
    ap (option_and_then (λ next. value_along_steps next (steps_view rest) e)) h
    ∙ assoc (step d) (λ next. value_along_steps next (steps_view rest) e) (value_of (expression_view x) e)
    ∙ sym (ap (λ l. value_along_steps d (steps_view l) e) at)

-- from a datum by a literal, whatever is said of it
pub directly_by_literal : (n : DirectValue) (d : Datum) (x : Expression) (p : Value) (e : Environment) → x ≡ Literal p
    → DirectlyIs n (step d (view p)) None → DirectlyIs n (option_and_then (step d) (value_of (expression_view x) e)) None
directly_by_literal n d x p e is h = directly_as n (step d (view p)) (option_and_then (step d) (value_of (expression_view x) e)) None
    (sym (ap (option_and_then (step d)) (ap (λ y. value_of (expression_view y) e) is ∙ ap (λ y. value_of y e) (literal_is p) ∙ literal_value (view p) e))) h

some_of : (o : Option Datum) → o ≡ option_and_then (λ next. Some next) o
some_of None = refl
some_of (Some d) = refl

last_step : (d : Datum) (v : Option Datum) → option_and_then (step d) v ≡ option_and_then (λ s. option_and_then (λ next. Some next) (step d s)) v
last_step d None = refl
last_step d (Some s) = some_of (step d s)

alone : (xs : List Expression) (x : Expression) → 0 < length xs → length xs ≤ 1 → x ≡ get_or xs 0 x → xs ≡ x ∷ []
alone [] x h l is = absurd (omega (arith, h))
alone (y ∷ []) x h l is = ap (λ z. z ∷ []) (sym is)
alone (y ∷ z ∷ zs) x h l is = absurd (omega (arith, l))

-- a lone step is the whole way
pub lone_step : (d : Datum) (x : Expression) (xs : List Expression) (e : Environment) → 0 < length xs → length xs ≤ 1 → x ≡ get_or xs 0 x
    → option_and_then (step d) (value_of (expression_view x) e) ≡ value_along_steps d (steps_view xs) e
lone_step d x xs e h l is = last_step d (value_of (expression_view x) e) ∙ sym (ap (λ y. value_along_steps d (steps_view y) e) (alone xs x h l is))

pub empty_of : {X : Type 0} (xs : List X) → length xs ≡ 0 → xs ≡ []
empty_of [] h = refl
empty_of (x ∷ xs) h = absurd (omega (arith, h))
