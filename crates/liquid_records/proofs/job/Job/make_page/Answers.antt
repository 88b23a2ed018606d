use Rattle.std.proofs.Common.{IfOk, ◌∙◌}
use Rattle.liquid_model.specs.View.{pairs_view}
use Rattle.liquid_core.specs.Held.{held}
use Rattle.liquid_records.specs.Records.{RecordComesTo}
use Rattle.liquid_records.specs.Views.{job_view, made_view, outcome_view, pattern_view}
use Rattle.liquid_records.proofs.Making.{made_with, same_job}
use Rattle.liquid_records.proofs.job.Job.make_page.Goals as goal

pub returns-clause-made : goal.returns-clause-made
returns-clause-made g c =
    made_with (job_view g.H.NamedFilters.named c.args.self.now) (pairs_view c.args.«data».entries) (held c.lay_over.new.«data») (pattern_view c.args.pattern)
    (λ wanted. IfOk c.made_over-outcome.result (λ r. RecordComesTo (job_view g.H.NamedFilters.named c.args.self.now) wanted (outcome_view made_view r))) c.in_ok-covered.ensures.over c.made_over-outcome.ensures.made

pub returns-clause-same : goal.returns-clause-same
returns-clause-same g c = same_job (job_view g.H.NamedFilters.named c.args.self.now) (held c.take_off.new.«data») (c.take_off.ensures ∙ c.in_ok-covered.ensures.back)
