use Rattle.liquid_records.proofs.Over.{last_stands, left_there, one_back}
use Rattle.liquid_records.proofs.data.take_off.Goals as goal

pub put_back-requires : goal.put_back-requires
put_back-requires c = last_stands _ c.loop-name.left.items c.pop.new.self.items c.in-Some.name c.in-Some.before c.in-Some.ensures.items c.loop-name.invariant.1

pub loop-name-preserved : goal.loop-name-preserved
loop-name-preserved c = (
  one_back _ _ _ c.loop-name.left.items c.pop.new.self.items c.in-Some.name c.in-Some.before c.in-Some.ensures.items c.loop-name.invariant.0 c.put_back.ensures,
  left_there _ _ c.loop-name.left.items c.pop.new.self.items c.in-Some.name c.in-Some.before c.in-Some.ensures.items c.loop-name.invariant.1 c.put_back.ensures,
)
