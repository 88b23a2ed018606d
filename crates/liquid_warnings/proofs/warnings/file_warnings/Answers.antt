use Rattle.liquid_warnings.proofs.FileWarnings.{together}
use Rattle.liquid_warnings.proofs.warnings.file_warnings.Goals as goal

pub returns-clause-warned : goal.returns-clause-warned
returns-clause-warned c = record {
  source = _;
  others = _;
  source_is = c.in_ok-of_source.ensures.source;
  others_are = c.in_ok-others.ensures.whole;
  first_hundred = together _ _ _ _ _ c.in_ok-of_nodes.ensures c.in_ok-first_of.ensures;
}
