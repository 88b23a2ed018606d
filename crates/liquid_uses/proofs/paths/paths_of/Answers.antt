use Rattle.std.proofs.Common.{◌≡◌, [], ◌∙◌, rules}
use Rattle.liquid_model.specs.UseViews.{members_view}
use Rattle.liquid_syntax.specs.NameSets.{mentioned_in_set}
use Rattle.liquid_uses.specs.Paths.{paths_in}
use Rattle.liquid_uses.proofs.WholeNames.{Entry}
use Rattle.liquid_uses.proofs.AddedPaths.{added_first, name_added, names_added}
use Rattle.liquid_uses.proofs.paths.paths_of.Goals as goal

pub loop-name-preserved : goal.loop-name-preserved
loop-name-preserved c =
    let e : Entry = (c.in-Some.name.now, c.in-Some.asked.now) in
    name_added c.as_str.result.now (mentioned_in_set c.loop-name.paths) _ e c.next.new.self c.loop-name.name-iterator c.in-Some.ensures.steps c.as_str.ensures.value c.in_ok-add_paths.ensures
    ∙ c.loop-name.invariant

pub returns-clause-exact : goal.returns-clause-exact
returns-clause-exact c =
    let none : c.loop-name.name-iterator ≡ [] = search rules in
    names_added (mentioned_in_set c.loop-name.paths) _ c.loop-name.name-iterator none (c.loop-name.invariant ∙ added_first c.new-paths.result (paths_in (members_view c.args.uses.now.entries)) c.new-paths.ensures.empty)
