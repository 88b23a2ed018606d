use Rattle.std.proofs.Common.{inl, inr}
use Rattle.liquid_filter_sets.proofs.Cuts.{format_by}
use Rattle.liquid_filter_sets.proofs.money.format_of.Goals as goal

pub returns-in_ok-made_of-in-Some : goal.returns-in_ok-made_of-in-Some
returns-in_ok-made_of-in-Some c = inl (format_by _ _ _ _ _ c.in-Some.ensures c.in_ok-made_of-in-Some.ensures)

pub returns-in_ok-made_of-in-None : goal.returns-in_ok-made_of-in-None
returns-in_ok-made_of-in-None c = inr (c.in-None.ensures, c.in_ok-made_of-in-None.ensures)
