-- The statement of a block that begins, by the node that was read.
use Rattle.std.proofs.Common.{◌≡◌, ℕ, Option, ap, sym, subst}
use Rattle.std.specs.Prelude.{Result, Ok, Err}
use Rattle.liquid_lexer.specs.declared.fault.FaultKind.{FaultKind}
use Rattle.liquid_lexer.specs.declared.fault.ParseError.{ParseError}
use Rattle.liquid_lexer.specs.declared.fault.ParseError.TheVariants as errors
use Rattle.liquid_language.specs.declared.block.Block.{Block}
use Rattle.liquid_parser.specs.Classification.{two_or}
use Rattle.liquid_parser.specs.Faults.{FaultsAs, FaultsAt}
use Rattle.liquid_parser.specs.Nesting as nesting
use Rattle.liquid_parser.specs.declared.build.Stage.{Stage}
use Rattle.liquid_parser.specs.declared.build.Stage.TheVariants.{First}
use Rattle.liquid_parser.specs.declared.build.Statement.{Statement}
use Rattle.liquid_syntax.specs.declared.node.Node as code
use Rattle.liquid_parser.specs.inside.Classifies.{block_start, Classifies, ReadsBlock, ReadsTwo}
use Rattle.liquid_evaluation.specs.Tree.{Node, Nodes}

-- a node with two bodies is a block's that begins with the first of them
pub two_read : (b : Block) (o : Option (Nodes → Nodes → Node)) (r : Result code.Node ParseError) → ReadsTwo o r → ReadsBlock b First (two_or b o) r
two_read b o (Ok n) h = (ap (two_or b) h.0, h.1)
two_read b o (Err errors.Memory) h = tt
two_read b o (Err (errors.Fault f)) h = ap (two_or b) h

begun : (b : Block) (s : Stage) (l : nesting.Statement) (r : Result code.Node ParseError) → ReadsBlock b s l r → Classifies l (block_start b s r)
begun b s l (Ok n) h = h
begun b s l (Err errors.Memory) h = tt
begun b s l (Err (errors.Fault f)) h = h

kind_kept : (b : Block) (s : Stage) (k : FaultKind) (r : Result code.Node ParseError) → FaultsAs k r → FaultsAs k (block_start b s r)
kind_kept b s k (Ok n) h = tt
kind_kept b s k (Err errors.Memory) h = tt
kind_kept b s k (Err (errors.Fault f)) h = h

place_kept : (b : Block) (s : Stage) (remaining : ℕ) (r : Result code.Node ParseError) → FaultsAt remaining r → FaultsAt remaining (block_start b s r)
place_kept b s remaining (Ok n) h = tt
place_kept b s remaining (Err errors.Memory) h = tt
place_kept b s remaining (Err (errors.Fault f)) h = h

module _ (b : Block) (s : Stage) (r : Result code.Node ParseError) (q : Result Statement ParseError) (is : q ≡ block_start b s r) where
  pub begins_as : (l : nesting.Statement) → ReadsBlock b s l r → Classifies l q
  begins_as l h = subst (Classifies l) (sym is) (begun b s l r h)

  pub begins_kind : (k : FaultKind) → FaultsAs k r → FaultsAs k q
  begins_kind k h = subst (FaultsAs k) (sym is) (kind_kept b s k r h)

  pub begins_place : (remaining : ℕ) → FaultsAt remaining r → FaultsAt remaining q
  begins_place remaining h = subst (FaultsAt remaining) (sym is) (place_kept b s remaining r h)
