-- What rendering a source does.
use Rattle.std.specs.Prelude.{◌≡◌, Result, IsErrAnd}
use Rattle.liquid_model.specs.Texts.{Text}
use Rattle.liquid_model.specs.declared.error.Error.{Error}
use Rattle.liquid_model.specs.declared.error.ErrorKind.TheVariants.{Memory}
use Rattle.liquid_parser.specs.Parsing.{IsOnlyTree, HasNoTree, IsOfSource}
use Rattle.liquid_language.specs.declared.registry.Language.{Language}
use Rattle.liquid_evaluation.specs.Tree.{Nodes}

-- The source has one tree, of which `runs` holds; or it has none, which the kind says, and all is
-- as it was; or memory ran out before the run, and all is as it was.
pub data RendersSource (l : Language) (source : Text) (r : Result (Unit {0}) Error) (runs : Nodes →
    Type 0) (as_it_was : Type 0) : Type 0 where
  ran : (nodes : Nodes) → IsOnlyTree l nodes source → runs nodes →
      RendersSource l source r runs as_it_was
  no_template : IsErrAnd r (λ e. IsOfSource e.kind) → HasNoTree l source → as_it_was →
      RendersSource l source r runs as_it_was
  ran_out : IsErrAnd r (λ e. e.kind ≡ Memory) → as_it_was → RendersSource l source r runs as_it_was
