-- The interrupt and the last text of a state.
use Rattle.std.proofs.Common.{◌≡◌, true, false, Option, Some, None, is_some, refl, ap, String, Global, string_bytes, option_map}
use Rattle.liquid_model.specs.Texts.{Text, same_text}
use Rattle.liquid_meaning.specs.Effects.{is_last_text}
use Rattle.liquid_core.specs.States.{environment_of, layers_of}
use Rattle.liquid_core.specs.declared.interrupt.Interrupt.{Interrupt}
use Rattle.liquid_core.specs.declared.state.State.{State}

pub interrupt_of : (s : State) (i : Option Interrupt) → s.interrupt ≡ i → (environment_of s).registers.interrupt ≡ i
unfolding layers_of
interrupt_of s i is = is

pub some_of : {X : Type 0} (o : Option X) → is_some o ≡ true → (x : X) × (o ≡ Some x)
some_of None h = absurd cc
some_of (Some x) h = (x, refl)

pub none_of : {X : Type 0} (o : Option X) → is_some o ≡ false → o ≡ None
none_of None h = refl
none_of (Some x) h = absurd cc

pub is_the_last : (s : State) (last : String Global) (t : Text) → s.changed ≡ Some last → is_last_text (layers_of s).registers.changed t ≡ same_text (string_bytes last) t
unfolding layers_of
is_the_last s last t is = ap (λ o. is_last_text (option_map string_bytes o) t) is

pub is_the_first : (s : State) (t : Text) → s.changed ≡ None → is_last_text (layers_of s).registers.changed t ≡ false
unfolding layers_of
is_the_first s t is = ap (λ o. is_last_text (option_map string_bytes o) t) is
