-- What reading a file answers, and the texts that were read.
use Rattle.std.specs.Prelude.{◌≡◌, Option, Some, None, Result, Ok, Err, ⊤, String, string_bytes}
use Rattle.std.specs.declared.alloc.Global.{Global}
use Rattle.liquid_model.specs.Texts.{Text}
use Rattle.liquid_page_texts.specs.Page.{PageTexts, sources_of}
use Rattle.liquid_page.specs.declared.page_from_files.ReadFiles.{ReadFiles}
use Rattle.liquid_page.specs.declared.page_from_files.ReadError.{ReadError}
use Rattle.liquid_page.specs.declared.page_from_files.ReadError.TheVariants.{Memory, File}

-- a file's text, or that it has none, unless memory ran out
abbrev pub IsTextOf : Option Text → Result (String Global) ReadError → Type 0
IsTextOf wanted (Ok text) = wanted ≡ Some (string_bytes text)
IsTextOf wanted (Err Memory) = ⊤
IsTextOf wanted (Err File) = wanted ≡ None

abbrev pub page_texts_view : ReadFiles → PageTexts
page_texts_view r = record {
  template = string_bytes r.template;
  «data» = string_bytes r.«data»;
  partials = sources_of r.partials.items;
}
