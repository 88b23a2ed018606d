-- Findings, as contracts see them.
use Rattle.std.specs.Prelude.{List, map, Option, option_map}
use Rattle.liquid_evaluation.specs.Tree.{Nodes}
use Rattle.liquid_syntax.specs.Templates.{tree_of}
use Rattle.liquid_syntax.specs.declared.template.Template.{Template}
use Rattle.liquid_check.specs.Rounds.{Found}
use Rattle.liquid_check.specs.declared.findings.Finding.{Finding}

abbrev pub finding_view : Finding → Found
finding_view f = record {
  kind = f.fault.kind;
  start = f.start;
  count = f.length;
  follows = f.follows;
}

abbrev pub findings_view : List Finding → List Found
findings_view fs = map finding_view fs

abbrev pub template_view : Option Template → Option Nodes
template_view o = option_map tree_of o
