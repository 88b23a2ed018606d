use Rattle.liquid_language.proofs.Inserted.{found_reference}
use Rattle.liquid_uses.proofs.partial_reads.reading_of.Goals as goal

pub returns : goal.returns
returns c = found_reference (λ r. r) c.get.result c.args.name.now c.args.readings.now.entries c.get.ensures.value
