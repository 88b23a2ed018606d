-- Laws of the grammar of blocks.
use Rattle.std.specs.Prelude.{◌≡◌, ◌↔◌, ℕ, List, [], Some}
use Rattle.liquid_evaluation.specs.Tree.{Nodes, no_nodes}
use Rattle.liquid_parser.specs.Nesting.{Statement, AreNodes}
use Rattle.liquid_parser.specs.OpenBlocks.{read_pieces}
use Rattle.liquid_language.specs.declared.block.BlockContext.{BlockContext}
use Rattle.liquid_language.specs.declared.block.BlockContext.TheVariants.{Outside}

-- a list of pieces is read as the tree that the grammar gives it, and refused where it gives none
abbrev pub ReadsTheGrammar : Type 0
ReadsTheGrammar = (reads : BlockContext → ℕ → Statement) (ps : List ℕ) (t : Nodes) →
    (read_pieces reads ps [] no_nodes ≡ Some t) ↔ AreNodes (λ x p l. reads x p ≡
    l) Outside 200 t ps []

-- the grammar gives a list of pieces at most one tree
abbrev pub AtMostOneTree : Type 0
AtMostOneTree = (reads : BlockContext → ℕ → Statement) (ps : List ℕ) (t u : Nodes) →
    AreNodes (λ x p l. reads x p ≡ l) Outside 200 t ps [] →
    AreNodes (λ x p l. reads x p ≡ l) Outside 200 u ps [] → t ≡ u
