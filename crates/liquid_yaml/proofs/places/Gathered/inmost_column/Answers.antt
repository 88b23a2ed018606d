use Rattle.std.proofs.Common.{ap, sym, ◌∙◌, length, ◌-◌}
use Rattle.std.specs.List.{slice_get}
use Rattle.liquid_yaml.proofs.Around.{none_last, some_last}
use Rattle.liquid_yaml.proofs.places.Gathered.inmost_column.Goals as goal

pub returns-in-Some : goal.returns-in-Some
returns-in-Some c = some_last c.args.self.now.around.items c.last.result c.in-Some.place c.column.result c.in-Some.is (c.last.ensures.value ∙ ap (λ ps. slice_get ps (length ps - 1)) c.deref.ensures.value) c.column.ensures

pub returns-in-None : goal.returns-in-None
returns-in-None c = none_last c.args.self.now.around.items c.last.result c.in-None.is (c.last.ensures.value ∙ ap (λ ps. slice_get ps (length ps - 1)) c.deref.ensures.value)
