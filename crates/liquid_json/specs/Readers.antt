-- Readers of data by uses that are looked through once.
--     read_uses reader      what a reader reads of each name
--     ReadsAllOf U reader      data that are alike in what it reads are alike in U
use Rattle.std.specs.Prelude.{Option, Some, None, String}
use Rattle.std.specs.declared.alloc.Global.{Global}
use Rattle.std.specs.BTreeMap.{BTreeMap}
use Rattle.liquid_model.specs.Data.{Pairs}
use Rattle.liquid_model.specs.Skipping.{AlikeKeys}
use Rattle.liquid_model.specs.Texts.{Text}
use Rattle.liquid_model.specs.Uses.{Use, everything}
use Rattle.liquid_model.specs.UseViews.{uses_view}
use Rattle.liquid_model.specs.declared.uses.Use as code
use Rattle.liquid_json.specs.declared.data_reader.DataReader.{DataReader}

-- without uses all
abbrev pub uses_or_all : Option (BTreeMap (String Global) code.Use) → Text → Use
uses_or_all (Some uses) = uses_view uses
uses_or_all None = λ name. everything

abbrev pub read_uses : DataReader → Text → Use
read_uses reader = uses_or_all reader.uses

abbrev pub ReadsAllOf : (Text → Use) → DataReader → Type 0
ReadsAllOf U reader = (ps qs : Pairs) → AlikeKeys (read_uses reader) ps qs → AlikeKeys U ps qs
