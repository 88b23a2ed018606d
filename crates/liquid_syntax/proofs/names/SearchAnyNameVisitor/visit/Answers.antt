use Rattle.std.proofs.Common.{refl, ◌∙◌}
use Rattle.std.specs.BTreeSet.{contains_text}
use Rattle.liquid_syntax.specs.NameSets.{mentioned_in_set}
use Rattle.liquid_syntax.specs.inside.NameVisitors.{or_false}
use Rattle.liquid_syntax.proofs.names.SearchAnyNameVisitor.visit.Goals as goal

pub returns : goal.returns
unfolding mentioned_in_set
returns c = (refl, c.contains.ensures ∙ or_false (contains_text c.args.self.now.wanted.now c.args.name.now))
