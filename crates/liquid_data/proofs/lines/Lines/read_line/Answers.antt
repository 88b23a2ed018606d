use Rattle.liquid_data.proofs.LeftOut.{left_out}
use Rattle.liquid_data.proofs.lines.Lines.read_line.Goals as goal

pub returns-in-Err-clause-rest : goal.returns-in-Err-clause-rest
returns-in-Err-clause-rest g c = left_out c.leave_out.result _ _ _ c.clear.new.self.items c.read_until.new.buf.items c.clear.ensures.items c.in-Err.ensures.none_lost c.leave_out.ensures.no_end c.leave_out.ensures.rest
