-- What nodes change of an environment, and what they read of it.
use Rattle.std.specs.Prelude.{ℕ, ℤ, pos, Bool, true, false, Option, Some, None}
use Rattle.std.specs.Option.{unwrap_or, option_and_then}
use Rattle.liquid_model.specs.Texts.{Text, same_text}
use Rattle.liquid_model.specs.Data.{Datum, nil, number}
use Rattle.liquid_model.specs.Whole.{whole}
use Rattle.liquid_model.specs.Maps.{insert}
use Rattle.liquid_core.specs.Environment.{Environment, lookup}
use Rattle.liquid_core.specs.declared.interrupt.Interrupt.{Interrupt}
use Rattle.liquid_core.specs.declared.interrupt.Interrupt.TheVariants.{Break}
use Rattle.liquid_meaning.specs.Runs.{Nothing, Run, done, read_environment, change, ◌>>=◌, ◌>>◌}

-- ---- changes

abbrev pub assigned_to : Text → Datum → Environment → Environment
assigned_to name d e = record e { assigned = insert e.assigned name d }

abbrev pub counted_to : Text → ℤ → Environment → Environment
counted_to name n e = record e { counters = insert e.counters name (number n) }

abbrev pub interrupted_by : Option Interrupt → Environment → Environment
interrupted_by i e = record e { registers = record (e.registers) { interrupt = i } }

abbrev pub cycled_to : Text → ℕ → Environment → Environment
cycled_to group i e =
    record e { registers = record (e.registers) { cycles = insert e.registers.cycles group i } }

abbrev pub changed_to : Text → Environment → Environment
changed_to t e = record e { registers = record (e.registers) { changed = Some t } }

-- ---- what is read

-- the whole number of the counter, or 0 where there is none: other layers don't count
abbrev pub counter_number : Text → Environment → ℤ
counter_number name e = unwrap_or (option_and_then whole (e.counters name)) (pos 0)

-- the index of a group, 0 at first
abbrev pub cycle_index : Text → Environment → ℕ
cycle_index group e = unwrap_or (e.registers.cycles group) 0

-- what a name holds in any layer, else nil
abbrev pub variable_or_nil : Text → Environment → Datum
variable_or_nil name e = unwrap_or (lookup e name) nil

-- whether t is the last text of `ifchanged`
abbrev pub is_last_text : Option Text → Text → Bool
is_last_text None t = false
is_last_text (Some last) t = same_text last t

-- ---- the interrupt

abbrev pub is_break : Option Interrupt → Bool
is_break (Some Break) = true
is_break _ = false

-- the interrupt, which is cleared
abbrev pub take_interrupt : Run (Option Interrupt)
take_interrupt = do
  left ← read_environment (λ e. e.registers.interrupt)
  change (interrupted_by None)
  done left

abbrev pub if_none : Option Interrupt → Run Nothing → Run Nothing
if_none None m = m
if_none (Some i) m = done tt

-- m, or nothing where an interrupt is set
unfoldable pub unless_interrupted : Run Nothing → Run Nothing
unless_interrupted m e = if_none e.registers.interrupt m e
