use Rattle.std.proofs.Common.{Ok, Some}
use Rattle.liquid_model.specs.View.{pairs_view}
use Rattle.liquid_records.specs.Records.{record_outcome}
use Rattle.liquid_records.specs.Views.{fate_view, job_of, made_view, merge_names, outcome_view, pattern_of}
use Rattle.liquid_records.specs.inside.Puts.{map_names}
use Rattle.liquid_records.proofs.Within.{step_within, leaves_within}
use Rattle.liquid_records.proofs.merge.Merge.take.Goals as goal

pub returns-clause-step : goal.returns-clause-step
returns-clause-step g c =
    step_within (job_of g.H.NamedFilters.named c.args.self.now) (record_outcome (job_of g.H.NamedFilters.named c.args.self.now) (Some (pattern_of c.args.self.now)) (Ok (pairs_view c.args.«data».entries))) (outcome_view made_view c.in_ok-outcome.outcome)
    c.args.number (merge_names c.args.self.now) fate_view c.put_if_made.result (map_names c.put_if_made.new.names) c.in_ok-outcome.ensures.made c.put_if_made.ensures.step

pub returns-clause-files : goal.returns-clause-files
returns-clause-files g c =
    leaves_within (job_of g.H.NamedFilters.named c.args.self.now) (record_outcome (job_of g.H.NamedFilters.named c.args.self.now) (Some (pattern_of c.args.self.now)) (Ok (pairs_view c.args.«data».entries))) (outcome_view made_view c.in_ok-outcome.outcome)
    c.args.number (merge_names c.args.self.now) fate_view c.put_if_made.result (map_names c.put_if_made.new.names) (g.D.Disk.files c.args.disk.now) (g.D.Disk.files c.put_if_made.new.disk)
    c.in_ok-outcome.ensures.made c.put_if_made.ensures.step c.put_if_made.ensures.files
