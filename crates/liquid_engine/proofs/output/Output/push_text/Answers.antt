use Rattle.std.proofs.Common.{rules, refl}
use Rattle.liquid_engine.proofs.output.Output.push_text.Goals as goal

pub returns-in-All-clause-takes : goal.returns-in-All-clause-takes
returns-in-All-clause-takes g c = c.in-All.ensures.takes refl

pub returns-in-NoMemory-clause-writes : goal.returns-in-NoMemory-clause-writes
returns-in-NoMemory-clause-writes g c = c.in-NoMemory.ensures.puts c.from.result (search rules)

pub returns-in-NotWritten-clause-writes : goal.returns-in-NotWritten-clause-writes
returns-in-NotWritten-clause-writes g c = c.in-NotWritten.ensures.puts c.not_written.result c.not_written.ensures
