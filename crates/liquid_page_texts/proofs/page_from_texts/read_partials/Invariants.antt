use Rattle.std.proofs.Common.{drop, []}
use Rattle.liquid_syntax.specs.Templates.{partials_of}
use Rattle.liquid_page_texts.specs.Page.{sources_of, TemplateTrees, ArePartials, HasBadPartial}
use Rattle.liquid_page_texts.proofs.page_from_texts.read_partials.Given as goal

-- what is left gives, after what was read, what the whole gives; and a bad partial that is left is one of the whole
abbrev pub invariant-loop-name : goal.invariant-loop-name
invariant-loop-name l = record {
  read : (all : TemplateTrees) → ArePartials l.language (sources_of (drop l.name-index l.sources)) (partials_of l.partials) all → ArePartials l.language (sources_of l.sources) [] all;
  bad : HasBadPartial l.language (sources_of (drop l.name-index l.sources)) → HasBadPartial l.language (sources_of l.sources);
}
