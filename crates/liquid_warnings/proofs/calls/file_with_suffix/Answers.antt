use Rattle.std.proofs.Common.{ap, ◌∙◌}
use Rattle.std.specs.BTreeMap.{get_by_text}
use Rattle.liquid_warnings.proofs.calls.file_with_suffix.Goals as goal

pub returns-in-Some : goal.returns-in-Some
returns-in-Some c =
    c.in-Some.ensures.value ∙ ap (get_by_text c.args.partials.now) (c.as_str.ensures.value ∙ c.in_ok-whole.ensures.ok)

pub returns : goal.returns
returns c =
    c.in-None.ensures.value ∙ ap (get_by_text c.args.partials.now) (c.as_str.ensures.value ∙ c.in_ok-whole.ensures.ok)
