use Rattle.liquid_parser.proofs.Printed.{chain_takes, chain_again, assign_takes, assign_again}
use Rattle.liquid_parser.proofs.laws.chain_laws.Goals as goal

pub returns-clause-chains : goal.returns-clause-chains
returns-clause-chains c = λ known ch ts. (chain_takes known ch ts, chain_again known ch ts)

pub returns-clause-assigns : goal.returns-clause-assigns
returns-clause-assigns c = λ l w ch ts. (assign_takes l w ch ts, assign_again l w ch ts)
