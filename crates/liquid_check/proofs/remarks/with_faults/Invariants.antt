use Rattle.std.proofs.Common.{◌≡◌, ◌++◌, drop}
use Rattle.liquid_check.specs.Findings.{faults_said}
use Rattle.liquid_warnings.specs.Remarks.{all_said}
use Rattle.liquid_check.proofs.remarks.with_faults.Given as goal

-- what is said and the faults that are left are all
abbrev pub invariant-loop-finding : goal.invariant-loop-finding
invariant-loop-finding l = all_said l.fn.warnings.items ++ faults_said l.fn.findings
    ≡ all_said l.remarks.items ++ faults_said (drop l.finding-index l.fn.findings)
