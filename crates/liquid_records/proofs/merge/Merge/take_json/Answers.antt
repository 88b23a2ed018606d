use Rattle.std.proofs.Common.{IfOk, Some, sym, subst}
use Rattle.liquid_records.specs.Records.{record_outcome}
use Rattle.liquid_records.specs.Steps.{IsStepWithin}
use Rattle.liquid_records.specs.Views.{fate_view, job_of, merge_names, pattern_of}
use Rattle.liquid_records.proofs.merge.Merge.take_json.Goals as goal

pub returns-in-Ok-clause-step : goal.returns-in-Ok-clause-step
returns-in-Ok-clause-step g c =
    subst
    (λ d. IfOk c.take.result (λ fate. IsStepWithin (job_of g.H.NamedFilters.named c.args.self.now).has_limit c.args.number (record_outcome (job_of g.H.NamedFilters.named c.args.self.now) (Some (pattern_of c.args.self.now)) d)
    (merge_names c.args.self.now) (fate_view fate) (merge_names c.take.new.self)))
    (sym c.in-Ok.ensures) c.take.ensures.step
