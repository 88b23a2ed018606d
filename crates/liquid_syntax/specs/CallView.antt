-- What a `PartialCall` stands for.
use Rattle.std.specs.Prelude.{Option, Some, None, List, [], ◌∷◌}
use Rattle.liquid_evaluation.specs.PartialCalls as seen
use Rattle.liquid_syntax.specs.declared.calls.PartialCall.{PartialCall}
use Rattle.liquid_syntax.specs.declared.calls.PartialCall.TheVariants.{AnyName, Name, NameOrLiquid}

abbrev pub partial_call_view : PartialCall → seen.PartialCall
partial_call_view AnyName = seen.of_any_name
partial_call_view (Name name) = seen.of_name name.now
partial_call_view (NameOrLiquid name) = seen.of_name_or_liquid name.now

-- of a node that may look up nothing
abbrev pub calls_view : Option PartialCall → List seen.PartialCall
calls_view None = []
calls_view (Some call) = partial_call_view call ∷ []
