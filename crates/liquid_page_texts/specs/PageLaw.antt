-- How a page may end.
use Rattle.std.specs.Prelude.{◌⊎◌, T, Err}
use Rattle.liquid_model.specs.Texts.{Text}
use Rattle.liquid_model.specs.declared.error.ErrorKind.{ErrorKind}
use Rattle.liquid_filters.specs.RunKinds.{is_run_kind}
use Rattle.liquid_parser.specs.Parsing.{IsOfSource}
use Rattle.liquid_language.specs.declared.registry.Language.{Language}
use Rattle.liquid_page_texts.specs.Page.{PageTexts, IsPage}

-- the fault that a page ends by is one of a run or of a source: never `Memory` and never `Write`
abbrev pub KindsOfPages : Type 0
KindsOfPages = (l : Language) (texts : PageTexts) (text : Text) (kind : ErrorKind) →
    IsPage l texts text (Err kind) → T (is_run_kind kind) ⊎ IsOfSource kind
