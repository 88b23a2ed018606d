use Rattle.std.proofs.Common.{◌++◌, ap, ◌∙◌}
use Rattle.std.proofs.lemmas.List.{append-nil}
use Rattle.liquid_syntax.proofs.SetNames.{name_put}
use Rattle.liquid_uses.proofs.paths.add_path.Goals as goal

pub returns : goal.returns
returns c =
    name_put (c.args.path.now ++ c.args.mark.now) c.in_ok-joined_path.field-0 c.args.paths.now c.insert.new.self c.in_ok-insert.ensures.updates
    (c.in_ok-joined_path.ensures ∙ ap (λ t. c.args.path.now ++ t) (append-nil c.args.mark.now))
