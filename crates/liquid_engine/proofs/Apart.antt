-- A run in an environment of its own.
use Rattle.std.proofs.Common.{◌≡◌, Option, Some, None, Result, Ok, Err, refl, ap, ◌∙◌, inl, inr}
use mathlib.Core.Path.{fun_ext}
use Rattle.liquid_model.specs.Texts.{◌else◌}
use Rattle.liquid_model.specs.Data.{Datum}
use Rattle.liquid_model.specs.Maps.{Map, empty, merged}
use Rattle.liquid_model.specs.declared.error.Error.{Error}
use Rattle.liquid_core.specs.Environment.{Environment, own_environment}
use Rattle.liquid_core.specs.declared.missing_value.Missing.{Missing}
use Rattle.liquid_core.specs.States.{Layers, merged_layers, new_layers, with_missing, with_scope_pushed}
use Rattle.liquid_core.specs.declared.interrupt.Interrupt.{Interrupt}
use Rattle.liquid_engine.specs.Performs.{Meets, Performs}
use Rattle.liquid_engine.specs.inside.Partials.{left_with}
use Rattle.liquid_engine.specs.Sinks.{Sink}
use Rattle.liquid_meaning.specs.Runs.{Nothing, Run, ended_with}

-- a run in this environment: what it leaves there is gone but for the interrupt
abbrev pub apart_in : Environment → Run Nothing → Run (Option Interrupt)
apart_in own m e = record { text = (m own).text; environment = e; end = ended_with (m own).environment.registers.interrupt (m own).end }

pub left_met : (r : Result (Unit {0}) Error) (m : Run Nothing) (s t : Sink) (own left e : Environment) → Performs r m (record { sink = s; environment = own }) (record { sink = t; environment = left })
    → Meets (λ (i : Option Interrupt). i) (left_with r left.registers.interrupt) (apart_in own m) (record { sink = s; environment = e }) (record { sink = t; environment = e })
left_met (Ok value) m s t own left e (inl x) = inl (record {
  end = ap (λ h. Ok h.registers.interrupt) x.same ∙ ap (ended_with (m own).environment.registers.interrupt) x.end;
  within = refl;
  adds = x.adds;
  none_failed = x.none_failed;
  same = refl;
})
left_met (Ok value) m s t own left e (inr x) = absurd x.cause
left_met (Err y) m s t own left e (inl x) = inl (record {
  end = ap (ended_with (m own).environment.registers.interrupt) x.end;
  within = x.within;
  adds = x.adds;
  none_failed = x.none_failed;
  same = refl;
})
left_met (Err y) m s t own left e (inr x) = inr (record { cause = x.cause; adds = x.adds })

none_else : (o : Option Datum) → (o else None) ≡ o
none_else None = refl
none_else (Some d) = refl

over_none : (names : Map Datum) → merged names empty ≡ names
unfolding merged empty
over_none names = fun_ext (λ name. none_else (names name))

-- a new state with one scope
pub state_of_own : (missing : Missing) (names globals : Map Datum) (l : Layers) → l ≡ with_scope_pushed names (with_missing missing (new_layers globals)) → globals ≡ empty → merged_layers l ≡ own_environment missing names
state_of_own missing names globals l is none =
    ap merged_layers is ∙ ap (λ g. merged_layers (with_scope_pushed names (with_missing missing (new_layers g)))) none ∙ ap (own_environment missing) (over_none names)
