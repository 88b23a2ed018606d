-- What a change keeps.
use Rattle.std.proofs.Common.{◌≡◌, Result, Ok, Err, OnErr, refl, sym, subst, ◌∙◌}
use Rattle.std.specs.Prelude.{T}
use Rattle.liquid_model.specs.Texts.{Text}
use Rattle.liquid_model.specs.Data.{Datum}
use Rattle.liquid_model.specs.declared.error.Error.{Error}
use Rattle.liquid_model.specs.Answer.{IsValueOrMemory}
use Rattle.liquid_core.specs.Environment.{Names}
use Rattle.liquid_core.specs.States.{Layers, with_assigned, with_changed, with_counter, with_interrupt}
use Rattle.liquid_core.specs.declared.interrupt.Interrupt.{Interrupt}
use Rattle.std.specs.Prelude.{Option}
use Rattle.liquid_engine.specs.StateKept.{LayersKept}
use Rattle.liquid_meaning.proofs.Maps.{outside_insert}

pub kept_same : (N : Names) (l m : Layers) → m ≡ l → LayersKept N l m
kept_same N l m is = subst (LayersKept N l) (sym is) (record { scopes = refl; globals = refl; assigned = λ q o. refl; counters = λ q o. refl; missing = refl })

pub kept_assigned : (N : Names) (name : Text) (d : Datum) (l m : Layers) (r : Result (Unit {0}) Error) → T (N name) → IsValueOrMemory (λ _. m) r (with_assigned name d l) → OnErr r (m ≡ l) → LayersKept N l m
kept_assigned N name d l m (Ok value) inside h k = subst (LayersKept N l) (sym h) (record { scopes = refl; globals = refl; assigned = outside_insert N l.assigned name d inside; counters = λ q o. refl; missing = refl })
kept_assigned N name d l m (Err e) inside h k = kept_same N l m k

pub kept_after : (N : Names) (l m n : Layers) → LayersKept N l m → LayersKept N m n → LayersKept N l n
kept_after N l m n a b = record { scopes = b.scopes ∙ a.scopes; globals = b.globals ∙ a.globals; assigned = λ q o. b.assigned q o ∙ a.assigned q o; counters = λ q o. b.counters q o ∙ a.counters q o; missing = b.missing ∙ a.missing }

pub kept_interrupt : (N : Names) (i : Option Interrupt) (l m : Layers) → m ≡ with_interrupt i l → LayersKept N l m
kept_interrupt N i l m is = subst (LayersKept N l) (sym is) (record { scopes = refl; globals = refl; assigned = λ q o. refl; counters = λ q o. refl; missing = refl })

pub kept_counter : (N : Names) (name : Text) (d : Datum) (l m : Layers) (r : Result (Unit {0}) Error) → T (N name) → IsValueOrMemory (λ _. m) r (with_counter name d l) → OnErr r (m ≡ l) → LayersKept N l m
kept_counter N name d l m (Ok value) inside h k = subst (LayersKept N l) (sym h) (record { scopes = refl; globals = refl; assigned = λ q o. refl; counters = outside_insert N l.counters name d inside; missing = refl })
kept_counter N name d l m (Err e) inside h k = kept_same N l m k

pub kept_changed : (N : Names) (t : Option Text) (l m : Layers) → m ≡ with_changed t l → LayersKept N l m
kept_changed N t l m is = subst (LayersKept N l) (sym is) (record { scopes = refl; globals = refl; assigned = λ q o. refl; counters = λ q o. refl; missing = refl })
