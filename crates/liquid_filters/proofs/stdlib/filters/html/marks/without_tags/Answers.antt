use Rattle.std.proofs.Common.{◌∙◌}
use Rattle.liquid_filters.proofs.Marks.{four_passes, without_close}
use Rattle.liquid_filters.proofs.stdlib.filters.html.marks.without_tags.Goals as goal

pub returns : goal.returns
returns c =
    c.in_ok-into_owned.ensures.ok
    ∙ four_passes c.args.text.now _ _ _ _ c.deref.result.now c.deref-2.result.now c.deref-3.result.now c.utf8.text c.in_ok-no_scripts.ensures c.deref.ensures.value c.in_ok-no_styles.ensures c.deref-2.ensures.value c.in_ok-no_comments.ensures c.deref-3.ensures.value c.in_ok-no_tags.ensures

pub returns-then-not-contains : goal.returns-then-not-contains
returns-then-not-contains c = c.in_ok-from_str.ensures.ok ∙ without_close c.args.text.now c.utf8.text c.if-not-contains.ensures.cases
