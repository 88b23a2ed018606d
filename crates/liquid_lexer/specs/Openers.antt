-- The written grammar of what follows the `{` of an opener.
use Rattle.std.specs.Prelude.{◌≡◌, ℕ, List, ◌∷◌, Bool, true, false}
use Rattle.liquid_model.specs.Bytes.{dash, open_brace, percent}
use Rattle.liquid_model.specs.Words.{begins_with}
use Rattle.liquid_lexer.specs.declared.item.Delimiter.{Delimiter}
use Rattle.liquid_lexer.specs.declared.item.Delimiter.TheVariants.{Output, Tag}

-- an output opens by `{{`, a tag by `{%`
abbrev pub opener : Delimiter → ℕ
opener Output = open_brace
opener Tag = percent

-- a dash belongs to the opener. The truth value: whether it has one
pub data IsOpener : Delimiter → Bool → List ℕ → List ℕ → Type 0 where
  with_dash : {k : Delimiter} {rest : List ℕ} → IsOpener k true (opener k ∷ dash ∷ rest) rest
  no_dash : {k : Delimiter} {rest : List ℕ} → begins_with dash rest ≡ false →
      IsOpener k false (opener k ∷ rest) rest
