use Rattle.std.proofs.Common.{◌≡◌, [], true, ap, ◌∙◌}
use Rattle.liquid_records.specs.inside.Dots.{ends_well}
use Rattle.liquid_records.proofs.Dots.{read_after}
use Rattle.liquid_records.proofs.file_name.is_file_name.Goals as goal

pub returns : goal.returns
returns c = c.ends_well.ensures ∙ ap (ends_well true) c.as_bytes.ensures.value ∙ read_after [] c.args.name.now
