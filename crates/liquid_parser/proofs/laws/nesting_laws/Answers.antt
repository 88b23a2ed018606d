use Rattle.std.proofs.Common.{◌≡◌}
use Rattle.liquid_parser.proofs.NestingLaws.{tree_takes, tree_again, one_tree}
use Rattle.liquid_parser.proofs.laws.nesting_laws.Goals as goal

pub returns-clause-reads : goal.returns-clause-reads
returns-clause-reads c = λ reads ps t. (tree_takes (λ x p l. reads x p ≡ l) reads (λ x p l h. h) (λ x p l s h. h) t ps, tree_again (λ x p l. reads x p ≡ l) reads (λ x p l h. h) (λ x p l s h. h) t ps)

pub returns-clause-unique : goal.returns-clause-unique
returns-clause-unique c = λ reads ps t u. one_tree (λ x p l. reads x p ≡ l) reads (λ x p l h. h) (λ x p l s h. h) t u ps
