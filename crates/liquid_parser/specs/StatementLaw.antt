-- The law of single pieces.
use Rattle.std.specs.Prelude.{◌≡◌, ◌↔◌}
use Rattle.liquid_lexer.specs.Pieces.{Piece}
use Rattle.liquid_parser.specs.Classification.{reads}
use Rattle.liquid_parser.specs.Statements.{IsStatement}
use Rattle.liquid_parser.specs.Nesting.{Statement, refused}
use Rattle.liquid_language.specs.declared.block.BlockContext.{BlockContext}
use Rattle.liquid_language.specs.declared.registry.Language.{Language}

-- a piece is read as a statement exactly where the grammar says that it is that, and refused where
-- the grammar gives it none
abbrev pub ReadsStatements : Type 0
ReadsStatements = (l : Language) (x : BlockContext) (p : Piece) (statement : Statement) →
    (statement ≡ refused → ⊥) → (reads l x p ≡ statement) ↔ IsStatement l x p statement
