use Rattle.std.proofs.Common.{◌∙◌, length, ◌<◌}
use Rattle.liquid_parser.proofs.Adding.{chain_step, chain_none}
use Rattle.liquid_parser.proofs.build.Builder.close.Goals as goal

pub chain-smaller : goal.chain-smaller
chain-smaller c = let lt : length c.close_one.new.self.blocks.items < length c.chain.self.blocks.items = c.in-Some.ensures.shorter in lt

pub chain-preserved : goal.chain-preserved
chain-preserved c = (
  (λ ls cur h.
      let x = c.chain.invariant.0 ls cur h in
      chain_step c.close_one.new.self c.chain.chained c.in-Some.around ls x.0 cur x.1 c.chain-test.true x.3 x.4 (c.in-Some.ensures.closes x.0 x.1 x.2)),
  c.close_one.ensures.depth ∙ c.chain.invariant.1,
)

pub returns-in-None-clause-stack : goal.returns-in-None-clause-stack
returns-in-None-clause-stack c ls cur b =
    let x = c.chain.invariant.0 ls cur b.0 in
    chain_none c.close_one.new.self c.chain.chained ls x.0 cur x.1 c.chain-test.true x.3 (c.in-None.ensures.closes x.0 x.1 x.2)
