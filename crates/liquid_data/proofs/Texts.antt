-- Cells that are texts, and cells that are none.
use Rattle.std.specs.Prelude.{◌≡◌, ℕ, Bool, true, false, cond, Some, None, Ok, Err}
use Rattle.std.specs.Str.{IsUtf8, is_utf8}
use Rattle.std.specs.Str.Lossy.{utf8_valid_len}
use Rattle.std.proofs.lemmas.Str.{IsUtf8-from_is_utf8, is_utf8-from_IsUtf8}
use mathlib.Core.Path.{refl, sym, ap, ◌∙◌}
use Rattle.liquid_model.specs.Texts.{Text}
use Rattle.liquid_data.specs.Cells.{cell_read, cell_text, one_more}

pub text_there : (cell t : Text) → (t ≡ cell) × IsUtf8 cell → Some t ≡ cell_text cell
text_there cell t h = ap Some h.0 ∙ sym (ap (λ b. cond b (Some cell) None) (is_utf8-from_IsUtf8 cell h.1))

pub no_text : (cell : Text) → (IsUtf8 cell → ⊥) → None ≡ cell_text cell
no_text cell h = at (is_utf8 cell) refl
  where
    at : (b : Bool) → is_utf8 cell ≡ b → None ≡ cond b (Some cell) None
    at true e = absurd (h (IsUtf8-from_is_utf8 cell e))
    at false e = refl

pub text_read : (cell t : Text) → (t ≡ cell) × IsUtf8 cell → Ok t ≡ cell_read cell
text_read cell t h = ap Ok h.0 ∙ sym (ap (λ b. cond b (Ok cell) (Err (one_more (utf8_valid_len cell)))) (is_utf8-from_IsUtf8 cell h.1))

pub byte_read : (cell : Text) (valid byte : ℕ) → (IsUtf8 cell → ⊥) → valid ≡ utf8_valid_len cell → byte ≡ one_more valid → Err byte ≡ cell_read cell
byte_read cell valid byte h is counted = ap Err (counted ∙ ap one_more is) ∙ at (is_utf8 cell) refl
  where
    at : (b : Bool) → is_utf8 cell ≡ b → Err (one_more (utf8_valid_len cell)) ≡ cond b (Ok cell) (Err (one_more (utf8_valid_len cell)))
    at true e = absurd (h (IsUtf8-from_is_utf8 cell e))
    at false e = refl
