-- A fault as a message shows it.
--     shown_fault e      `out of memory`, or the fault's kind, its location and what it says
use Rattle.std.specs.Prelude.{cond, codes}
use Rattle.liquid_model.specs.ErrorKinds.{is_memory}
use Rattle.liquid_model.specs.Errors.{error_text}
use Rattle.liquid_model.specs.Texts.{Text}
use Rattle.liquid_model.specs.declared.error.Error.{Error}

abbrev pub shown_fault : Error → Text
shown_fault e = cond (is_memory e.kind) (codes "out of memory") (error_text e)
