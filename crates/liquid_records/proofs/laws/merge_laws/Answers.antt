use Rattle.std.proofs.Common.{Some}
use Rattle.liquid_records.specs.Records.{record_outcome}
use Rattle.liquid_records.proofs.Runs.{never_twice, pages_stand, others_stay}
use Rattle.liquid_records.proofs.laws.merge_laws.Goals as goal

pub returns-clause-twice : goal.returns-clause-twice
returns-clause-twice c = λ job pattern records files fates new t. never_twice job.has_limit (record_outcome job (Some pattern)) records _ fates new t

pub returns-clause-pages : goal.returns-clause-pages
returns-clause-pages c = λ job pattern records files fates new t. pages_stand job.has_limit (record_outcome job (Some pattern)) records _ fates new t

pub returns-clause-others : goal.returns-clause-others
returns-clause-others c = λ job pattern records files fates new t. others_stay job.has_limit (record_outcome job (Some pattern)) records _ fates new t
