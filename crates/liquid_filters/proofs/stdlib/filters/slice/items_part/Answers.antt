use Rattle.std.proofs.Common.{List, length, map, Vec, Global, w64, refl, subst, ap, ◌∙◌}
use Rattle.std.proofs.lemmas.Int.{to_z-of_z}
use Rattle.liquid_model.specs.Answer.{IsValueOrMemory}
use Rattle.liquid_model.specs.Data.{Datum}
use Rattle.liquid_model.specs.View.{view}
use Rattle.liquid_model.specs.declared.value.Value.{Value}
use Rattle.liquid_filters.specs.TextPlaces.{start}
use Rattle.liquid_filters.proofs.Views.{items_part_is}
use Rattle.liquid_filters.proofs.stdlib.filters.slice.items_part.Goals as goal

pub returns-in-Some : goal.returns-in-Some
returns-in-Some c =
    let place = c.in-Some.ensures.place ∙ ap (λ z. start (length c.args.items.now) z) (to_z-of_z w64 c.args.offset c.ranges.offset) in
    subst (λ (ds : List Datum). IsValueOrMemory (λ (v : Vec Value Global). map view v.items) c.copied.result ds)
    (items_part_is c.args.offset c.args.count c.in-Some.from c.min.result c.args.items.now _ place refl c.min.ensures) c.copied.ensures
