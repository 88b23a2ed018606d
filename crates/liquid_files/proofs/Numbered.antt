-- The line of a number among lines.
use Rattle.std.proofs.Common.{◌≡◌, ◌-◌, ℕ, None, List, Option, cond, slice_get, sym, ap, ◌∙◌}
use Rattle.std.proofs.lemmas.Bool.{ne_eqb}
use Rattle.liquid_model.specs.Texts.{Text}
use Rattle.liquid_files.specs.Lines.{line_numbered}

pub numbered : (line : Option Text) (number : ℕ) (lines : List Text) → (number ≡ 0 → ⊥) → line ≡ slice_get lines (number - 1) → line ≡ line_numbered number lines
numbered line number lines not_zero is =
    is ∙ sym (ap (λ b. cond b None (slice_get lines (number - 1))) (ne_eqb number 0 not_zero))
