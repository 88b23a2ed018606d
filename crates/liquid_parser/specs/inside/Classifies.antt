-- What classifying a piece answers.
use Rattle.std.specs.Prelude.{◌≡◌, Option, Some, Result, Ok, Err}
use Rattle.liquid_lexer.specs.Readers.{Fails}
use Rattle.liquid_parser.specs.inside.Building.{statement_view, of_bodies, opening, IsPrepared}
use Rattle.liquid_parser.specs.inside.Building.{IsSound}
use Rattle.liquid_syntax.specs.Flats.{flat_of}
use Rattle.liquid_parser.specs.Nesting as nesting
use Rattle.liquid_evaluation.specs.Tree.{Node, Nodes}
use Rattle.liquid_language.specs.declared.block.Block.{Block}
use Rattle.liquid_parser.specs.declared.build.Stage.{Stage}
use Rattle.liquid_parser.specs.declared.build.Statement.{Statement}
use Rattle.liquid_parser.specs.declared.build.Statement.TheVariants.{Begins}
use Rattle.liquid_parser.specs.declared.build.Stage.TheVariants.{First}
use Rattle.liquid_lexer.specs.declared.fault.ParseError.{ParseError}
use Rattle.liquid_lexer.specs.declared.fault.ParseError.TheVariants as errors
use Rattle.liquid_syntax.specs.declared.node.Node as code

-- The statement that was to come, memory aside. No fault is answered where the piece isn't refused.
abbrev pub Classifies : nesting.Statement → Result Statement ParseError → Type 0
Classifies l (Ok x) = (l ≡ statement_view x) × IsSound x
Classifies l (Err errors.Memory) = Unit {0}
Classifies l (Err (errors.Fault f)) = l ≡ nesting.refused

-- A node of this stage's block, which is opened so, memory aside. No fault is answered where there
-- is one.
abbrev pub ReadsBlock : Block → Stage → nesting.Statement → Result code.Node ParseError → Type 0
ReadsBlock b stage l (Ok n) = (l ≡ nesting.begins (opening b stage n)) × IsPrepared stage n
ReadsBlock b stage l (Err errors.Memory) = Unit {0}
ReadsBlock b stage l (Err (errors.Fault f)) = l ≡ nesting.refused

-- A node with two bodies that makes what was to be made of them, memory aside. No fault is answered
-- where something was.
abbrev pub ReadsTwo : Option (Nodes → Nodes → Node) → Result code.Node ParseError → Type 0
ReadsTwo o (Ok n) = (o ≡ Some (of_bodies (flat_of n))) × IsPrepared First n
ReadsTwo o (Err e) = Fails e o

-- the block that begins with the node that was read
abbrev pub block_start : Block → Stage → Result code.Node ParseError → Result Statement ParseError
block_start b stage (Ok n) = Ok (Begins b stage n)
block_start b stage (Err e) = Err e
