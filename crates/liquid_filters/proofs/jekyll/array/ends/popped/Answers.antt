use Rattle.std.proofs.Common.{List, Vec, Global, map, subst}
use Rattle.liquid_model.specs.Answer.{IsValueOrMemory}
use Rattle.liquid_model.specs.Data.{Datum}
use Rattle.liquid_model.specs.View.{view}
use Rattle.liquid_model.specs.declared.value.Value.{Value}
use Rattle.liquid_filters.proofs.JekyllEnds.{popped_is}
use Rattle.liquid_filters.proofs.jekyll.array.ends.popped.Goals as goal

pub returns-in-Some : goal.returns-in-Some
returns-in-Some c =
    subst (λ (w : List Datum). IsValueOrMemory (λ (v : Vec Value Global). map view v.items) c.copies_of.result w)
    (popped_is c.args.items.now c.in-Some.rest.now c.in-Some._last.now c.in-Some.ensures.cases.0) c.copies_of.ensures
