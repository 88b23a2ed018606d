-- The loop over a variable's steps, a turn at a time.
use Rattle.std.proofs.Common.{◌≡◌, ℕ, zero, suc, ◌-◌, ◌<◌, List, [], ◌∷◌, ◌++◌, refl, ap, ◌∙◌, Option, Some, None, arith, sym}
use Rattle.std.specs.Option.{option_and_then, option_map}
use Rattle.liquid_core.specs.Expression.{Expression, Steps, no_steps, step}
use Rattle.liquid_lexer.specs.ValueReading.{step_at, steps_at, more_steps}
use Rattle.liquid_model.specs.Front.{Reads}
use Rattle.liquid_core.specs.ExpressionView.{steps_of}
use Rattle.liquid_lexer.specs.Readers.{Fails}
use Rattle.liquid_lexer.specs.declared.fault.ParseError.{ParseError}
use Rattle.liquid_lexer.specs.declared.fault.ParseError.TheVariants as errors

append : List Expression → Steps → Steps
append [] ws = ws
append (v ∷ vs) ws = step v (append vs ws)

-- what was read, after the steps vs
pub with_front : List Expression → Option (Steps × List ℕ) → Option (Steps × List ℕ)
with_front vs o = option_map (λ x. (append vs x.0, x.1)) o

append_last : (vs : List Expression) (v : Expression) (ws : Steps) → append (vs ++ (v ∷ [])) ws ≡ append vs (step v ws)
unfolding append
append_last [] v ws = refl
append_last (u ∷ vs) v ws = ap (step u) (append_last vs v ws)

append_none : (vs : List Expression) → append vs no_steps ≡ steps_of vs
unfolding append
append_none [] = refl
append_none (u ∷ vs) = ap (step u) (append_none vs)

pub after_nothing : (o : Option (Steps × List ℕ)) → o ≡ with_front [] o
unfolding with_front append
after_nothing None = refl
after_nothing (Some x) = refl

after_last : (vs : List Expression) (v : Expression) (o : Option (Steps × List ℕ)) → with_front vs (option_map (λ ws. (step v ws.0, ws.1)) o) ≡ with_front (vs ++ (v ∷ [])) o
unfolding with_front
after_last vs v None = refl
after_last vs v (Some x) = ap (λ ws. Some (ws, x.1)) (sym (append_last vs v x.0))

module _ (inner : Reads Expression) where
  -- one turn, with n turns left
  pub one_more : (n : ℕ) (vs : List Expression) (bs : List ℕ) (v : Expression × List ℕ) → 0 < n → step_at inner bs ≡ Some (Some v) → with_front vs (steps_at inner n bs) ≡ with_front (vs ++ (v.0 ∷ [])) (steps_at inner (n - 1) v.1)
  unfolding steps_at
  one_more zero vs bs v some h = absurd (omega arith)
  one_more (suc n) vs bs v some h = ap (λ o. with_front vs (option_and_then (more_steps inner (steps_at inner n) bs) o)) h ∙ after_last vs v.0 (steps_at inner n v.1) ∙ ap (λ k. with_front (vs ++ (v.0 ∷ [])) (steps_at inner k v.1)) (omega arith)

  pub no_more : (n : ℕ) (vs : List Expression) (bs : List ℕ) → step_at inner bs ≡ Some None → with_front vs (steps_at inner n bs) ≡ Some (steps_of vs, bs)
  unfolding steps_at with_front
  no_more zero vs bs h = ap (λ o. with_front vs (option_and_then (more_steps inner (λ bs. None) bs) o)) h ∙ ap (λ ws. Some (ws, bs)) (append_none vs)
  no_more (suc n) vs bs h = ap (λ o. with_front vs (option_and_then (more_steps inner (steps_at inner n) bs) o)) h ∙ ap (λ ws. Some (ws, bs)) (append_none vs)

  pub failed : (n : ℕ) (vs : List Expression) (bs : List ℕ) → step_at inner bs ≡ None → with_front vs (steps_at inner n bs) ≡ None
  unfolding steps_at with_front
  failed zero vs bs h = ap (λ o. with_front vs (option_and_then (more_steps inner (λ bs. None) bs) o)) h
  failed (suc n) vs bs h = ap (λ o. with_front vs (option_and_then (more_steps inner (steps_at inner n) bs) o)) h

  pub refused : (e : ParseError) (n : ℕ) (vs : List Expression) (bs : List ℕ) (whole : Option (Steps × List ℕ)) → Fails e (step_at inner bs) → whole ≡ with_front vs (steps_at inner n bs) → Fails e whole
  refused errors.Memory n vs bs whole h k = tt
  refused (errors.Fault f) n vs bs whole h k = k ∙ failed n vs bs h
