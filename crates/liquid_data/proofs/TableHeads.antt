-- The head of a table, which its first row is.
use Rattle.std.specs.Prelude.{◌≡◌, Bool, List, ℕ, [], Option, Some, None, option_map, Result, IfSome}
use Rattle.std.proofs.Common.{subst}
use mathlib.Core.Path.{sym, ap, ◌∙◌}
use Rattle.csv.specs.Machine.{Read, next_record}
use Rattle.csv.specs.Reading.{NextIs, ReadsNext, strip_bom}
use Rattle.csv.specs.declared.parser.Config.{Config}
use Rattle.csv.specs.declared.parser.State.{State}
use Rattle.csv.specs.declared.parser.State.TheVariants as state
use Rattle.liquid_model.specs.Texts.{Text}
use Rattle.liquid_data.specs.TableForms.{table_config}
use Rattle.liquid_data.specs.Heads.{column_names}
use Rattle.liquid_data.specs.Tables.{IsHeadIn}
use Rattle.liquid_data.specs.declared.form.TableForm.{TableForm}
use Rattle.liquid_data.specs.declared.head.HeadFault.{HeadFault}

abbrev pub with_delimiter : ℕ → Config → Config
with_delimiter delimiter config = record config { delimiter = delimiter }

-- the fields of the first read are those of the row that a head is, or that has a fault
named_first : (form : TableForm) (p : Option Read) (found : Bool) (fields : List Text) (s : State) (rest : List ℕ) (naming : Result (List Text) HeadFault) → NextIs p found fields s rest → naming ≡ column_names form.names fields → IfSome p (λ row. column_names form.names row.0 ≡ naming)
named_first form None found fields s rest naming h named = tt
named_first form (Some p) found fields s rest naming h named = ap (column_names form.names) (sym h.1) ∙ sym named

named_from : (form : TableForm) (text after : Option (List ℕ)) (found : Bool) (fields : List Text) (s : State) (naming : Result (List Text) HeadFault) → ReadsNext (table_config form) state.StartRecord (option_map strip_bom text) after found fields s → naming ≡ column_names form.names fields
    → IfSome text (λ bytes. IsHeadIn form bytes naming)
named_from form None after found fields s naming h named = tt
named_from form (Some bytes) None found fields s naming h named = absurd h
named_from form (Some bytes) (Some rest) found fields s naming h named = named_first form (next_record (table_config form) state.StartRecord [] [] (strip_bom bytes)) found fields s rest naming h named

pub head_named : (form : TableForm) (config : Config) (start : State) (text source after : Option (List ℕ)) (found : Bool) (fields : List Text) (s : State) (naming : Result (List Text) HeadFault) → config ≡ table_config form → start ≡ state.StartRecord → source ≡ option_map strip_bom text
    → ReadsNext config start source after found fields s → naming ≡ column_names form.names fields → IfSome text (λ bytes. IsHeadIn form bytes naming)
head_named form config start text source after found fields s naming plain first whole h named =
    named_from form text after found fields s naming (subst (λ x. ReadsNext (table_config form) state.StartRecord x after found fields s) whole (subst (λ x. ReadsNext (table_config form) x source after found fields s) first (subst (λ x. ReadsNext x start source after found fields s) plain h))) named
