use Rattle.std.proofs.Common.{◌≤◌, ◌-◌, string_bytes, length, vec_len}
use Rattle.liquid_check.specs.Rounds.{AreRounds}
use Rattle.liquid_check.specs.Views.{findings_view}
use Rattle.liquid_check.specs.inside.First.{IsFirstIndependent}
use Rattle.liquid_check.proofs.findings.findings_of.Given as goal

abbrev pub invariant-rounds : goal.invariant-rounds
invariant-rounds l = record {
  rounds : AreRounds l.language l.source (findings_view l.findings.items) (string_bytes l.rest);
  first : IsFirstIndependent (findings_view l.findings.items);
  few : length l.findings.items ≤ 100;
}

abbrev pub decreases-rounds : goal.decreases-rounds
decreases-rounds l = 100 - vec_len l.findings
