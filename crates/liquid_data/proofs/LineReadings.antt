-- What a line is read as.
use Rattle.std.specs.Prelude.{◌≡◌, Bool, true, false, not, ◌||◌, cond, [], Result, Err, MatchBool, ⊤}
use Rattle.std.specs.Str.{IsUtf8, is_utf8}
use Rattle.std.proofs.lemmas.Str.{IsUtf8-from_is_utf8, is_utf8-from_IsUtf8}
use Rattle.std.proofs.Common.{subst}
use mathlib.Core.Path.{refl, sym, ap, ◌∙◌}
use Rattle.liquid_data.specs.Forms.{data_in_form}
use Rattle.liquid_data.specs.declared.forms.DataForm.{DataForm}
use Rattle.liquid_model.specs.Answer.{Faulted}
use Rattle.liquid_model.specs.Data.{Pairs}
use Rattle.liquid_model.specs.ErrorKinds.{is_memory, is_refusal}
use Rattle.liquid_model.specs.Texts.{Text}
use Rattle.liquid_model.specs.declared.error.ErrorKind.{ErrorKind}
use Rattle.liquid_model.specs.declared.error.ErrorKind.TheVariants.{Memory}
use Rattle.liquid_data.specs.Readings.{formed_reading, line_reading, line_text, not_utf8, text_alone, text_reading}

no_utf8 : (line : Text) → (IsUtf8 line → ⊥) → is_utf8 line ≡ false
no_utf8 line h = at (is_utf8 line) refl
  where
    at : (b : Bool) → is_utf8 line ≡ b → is_utf8 line ≡ false
    at true e = absurd (h (IsUtf8-from_is_utf8 line e))
    at false e = e

pub text_there : (line t : Text) → (t ≡ line) × IsUtf8 line → t ≡ line_text line
text_there line t h = h.0 ∙ sym (ap (λ b. cond b line []) (is_utf8-from_IsUtf8 line h.1))

pub text_lacking : (line : Text) → (IsUtf8 line → ⊥) → [] ≡ line_text line
text_lacking line h = sym (ap (λ b. cond b line []) (no_utf8 line h))

pub invalid_utf8 : (form : DataForm) (line : Text) → (IsUtf8 line → ⊥) → not_utf8 ≡ line_reading form line
invalid_utf8 form line h = sym (ap (λ b. cond b (text_reading form line) not_utf8) (no_utf8 line h))

as_text : (form : DataForm) (line : Text) → IsUtf8 line → line_reading form line ≡ text_reading form line
as_text form line h = ap (λ b. cond b (text_reading form line) not_utf8) (is_utf8-from_IsUtf8 line h)

off : (b : Bool) → not b ≡ true → b ≡ false
off false e = refl
off true e = cc

on : (b : Bool) → not b ≡ false → b ≡ true
on true e = refl
on false e = cc

-- a text that no form is asked of
pub unformed : (form : DataForm) (line t : Text) → (t ≡ line) × IsUtf8 line → not form.decimals_as_texts ≡ true → not form.dates ≡ true → text_alone t ≡ line_reading form line
unformed form line t h d n =
    ap text_alone h.0 ∙ sym (as_text form line h.1 ∙ (λ i. cond (off form.decimals_as_texts d i || off form.dates n i) (formed_reading (data_in_form form line)) (text_alone line)))

-- a text that is read in the form that is asked for
pub formed : (form : DataForm) (line t : Text) (r : Result Pairs ErrorKind) → (t ≡ line) × IsUtf8 line → (form.decimals_as_texts || form.dates) ≡ true → data_in_form form t ≡ r → formed_reading r ≡ line_reading form line
formed form line t r h asked is =
    sym (as_text form line h.1 ∙ ap (λ b. cond b (formed_reading (data_in_form form line)) (text_alone line)) asked ∙ ap formed_reading (ap (data_in_form form) (sym h.0) ∙ is))

pub first_asked : (a b : Bool) → not a ≡ false → (a || b) ≡ true
first_asked a b e = ap (λ x. x || b) (on a e)

pub second_asked : (a b : Bool) → not b ≡ false → (a || b) ≡ true
second_asked true b e = refl
second_asked false b e = on b e

memory_of : (k : ErrorKind) → is_memory k ≡ true → k ≡ Memory
memory_of Memory e = refl
memory_of _ e = cc

-- the kind of a fault that isn't memory is the wanted one
pub wanted_kind : (kind : ErrorKind) (wanted : Result Pairs ErrorKind) → (kind ≡ Memory → ⊥) → Faulted kind wanted → wanted ≡ Err kind
wanted_kind kind wanted other h = at (is_memory kind) refl h
  where
    at : (b : Bool) → is_memory kind ≡ b → Faulted kind wanted → wanted ≡ Err kind
    at true e h = absurd (other (memory_of kind e))
    at false e h = (subst (λ b. MatchBool b ⊤ ((wanted ≡ Err kind) × (is_refusal kind ≡ false))) e h).0
