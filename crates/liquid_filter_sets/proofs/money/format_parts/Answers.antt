use Rattle.std.proofs.Common.{codes}
use Rattle.liquid_filter_sets.proofs.Cuts.{cut_at_first, opens_no_placeholder, opens_nowhere}
use Rattle.liquid_filter_sets.proofs.money.format_parts.Goals as goal

pub returns-in-Some-placeholder : goal.returns-in-Some-placeholder
returns-in-Some-placeholder c = record {
  rest = c.in-Some.cut.1.now;
  opened = cut_at_first (codes "{{") c.args.text.now c.in-Some.cut c.in-Some.ensures.cases;
  closes = c.in-Some-placeholder.ensures;
}

pub returns-in-None-placeholder : goal.returns-in-None-placeholder
returns-in-None-placeholder c =
    opens_no_placeholder c.args.text.now c.in-Some.cut.0.now c.in-Some.cut.1.now (cut_at_first (codes "{{") c.args.text.now c.in-Some.cut c.in-Some.ensures.cases) c.in-None-placeholder.ensures

pub returns-in-None : goal.returns-in-None
returns-in-None c = opens_nowhere c.args.text.now c.in-None.ensures.cases
