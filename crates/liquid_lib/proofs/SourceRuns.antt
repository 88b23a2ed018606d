-- What rendering a source comes to where it isn't parsed.
use Rattle.std.proofs.Common.{◌≡◌, Bool, true, false, Err, refl}
use Rattle.std.specs.Prelude.{MatchBool, ⊤}
use Rattle.liquid_model.specs.Texts.{Text}
use Rattle.liquid_model.specs.ErrorKinds.{is_memory}
use Rattle.liquid_model.specs.declared.error.Error.{Error}
use Rattle.liquid_parser.specs.Parsing.{HasNoTree, IsOfSource, MayRefuse}
use Rattle.liquid_language.specs.declared.registry.Language.{Language}
use Rattle.liquid_evaluation.specs.Tree.{Nodes}
use Rattle.liquid_lib.specs.Headline.{RendersSource, no_template, ran_out}
use Rattle.liquid_engine.proofs.Joined.{memory_of}

-- the source has no tree, and a kind of a source says so; or memory ran out
pub refused_source : (l : Language) (source : Text) (e : Error) (runs : Nodes → Type 0) (as_it_was : Type 0) → MatchBool (is_memory e.kind) ⊤ (HasNoTree l source) → MayRefuse e.kind → as_it_was → RendersSource l source (Err e) runs as_it_was
refused_source l source e runs as_it_was parses kinds same = on (is_memory e.kind) refl parses kinds
  where
    on : (memory : Bool) → is_memory e.kind ≡ memory → MatchBool memory ⊤ (HasNoTree l source) → MatchBool memory ⊤ (IsOfSource e.kind) → RendersSource l source (Err e) runs as_it_was
    on true is none kind = ran_out (memory_of e.kind is) same
    on false is none kind = no_template kind none same
