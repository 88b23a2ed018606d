use Rattle.std.proofs.Common.{◌∙◌, ◌++◌, sym, ap}
use Rattle.std.specs.Path.{path_bytes, path_components}
use Rattle.liquid_folder.specs.Paths.{steps}
use Rattle.liquid_folder.proofs.SamePaths.{same}
use Rattle.liquid_folder.proofs.paths.is_same.Goals as goal

pub returns-in-Ok : goal.returns-in-Ok
returns-in-Ok c = same _ _ _ c.next.result _ c.is_none.result
    (sym c.steps_of-path.ensures ∙ sym c.as_path.ensures ∙ c.in-Ok.ensures.rest
    ∙ ap (λ front. front ++ path_components (path_bytes c.in-Ok.rest)) (c.as_path-2.ensures ∙ c.steps_of-other.ensures)
    ∙ ap (λ rest. steps c.args.other.now ++ rest) (sym c.components.ensures))
    c.next.ensures.steps c.is_none.ensures
