-- What is said of a place of a template: a fault of its source, or a warning.
--     remark_view r      a remark, as contracts see it
--     warning position kind message      a warning at a place
use Rattle.std.specs.Prelude.{ℕ, Bool, true, List, Option, Some, None, map, string_bytes}
use Rattle.liquid_model.specs.Texts.{Text}
use Rattle.liquid_syntax.specs.declared.positions.Position.{Position}
use Rattle.liquid_warnings.specs.declared.remark.Remark.{Remark}

pub record Said : Type 0 where
  pub line : ℕ
  pub column : ℕ
  pub kind : Text
  pub is_warning : Bool
  pub message : Text

abbrev pub remark_view : Remark → Said
remark_view r = record {
  line = r.line;
  column = r.column;
  kind = r.kind.now;
  is_warning = r.is_warning;
  message = string_bytes r.message;
}

abbrev pub warning_at : ℕ → ℕ → Text → Text → Said
warning_at line column kind message = record {
  line = line;
  column = column;
  kind = kind;
  is_warning = true;
  message = message;
}

abbrev pub warning : Position → Text → Text → Said
warning position kind message = warning_at position.line position.column kind message

abbrev pub all_said : List Remark → List Said
all_said remarks = map remark_view remarks

abbrev pub said_or_else : Option Said → Option Said → Option Said
said_or_else None other = other
said_or_else (Some s) other = Some s
