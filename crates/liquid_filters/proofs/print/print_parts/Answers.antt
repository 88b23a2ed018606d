use Rattle.std.proofs.Common.{refl, sym, ◌∙◌}
use Rattle.std.proofs.lemmas.Str.{IsUtf8-string_bytes}
use Rattle.liquid_model.specs.declared.error.ErrorKind.TheVariants.{DateFormat}
use Rattle.liquid_filters.proofs.DateFaults.{kind_faulted}
use Rattle.liquid_filters.proofs.Shows.{shown_of, printed_ok, printed_refused}
use Rattle.liquid_filters.proofs.print.print_parts.Goals as goal

pub returns-in-Ok : goal.returns-in-Ok
returns-in-Ok c =
    rw (← c.as_bytes.ensures.value) (printed_ok _ _ _ (IsUtf8-string_bytes c.in-Ok.text)
    (shown_of c.new.result _ c.args.filled.now _ _ c.new.ensures.locale c.new.ensures.strict c.requires c.in-Ok.ensures.ok))

pub returns-else-is_short : goal.returns-else-is_short
returns-else-is_short c =
    rw (← c.as_bytes.ensures.value) (kind_faulted DateFormat c.refused.result.kind _ refl
    (printed_refused c.new.result _ c.args.filled.now _ c.in-Err.error c.new.ensures.locale c.new.ensures.strict c.requires
    (sym c.is_short.ensures ∙ c.if-is_short.false) c.in-Err.ensures.err) c.refused.ensures)
