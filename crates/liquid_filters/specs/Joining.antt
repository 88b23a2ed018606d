-- `join` gives back what `split` took apart.
use Rattle.std.specs.Prelude.{◌≡◌, [], ◌∷◌, Ok}
use Rattle.std.specs.Str.{IsUtf8}
use Rattle.liquid_model.specs.Data.{text}
use Rattle.liquid_model.specs.Fallible.{◌>>=◌}
use Rattle.liquid_model.specs.Texts.{Text}
use Rattle.liquid_filters.specs.Joined.{join_answer}
use Rattle.liquid_filters.specs.Split.{split_answer}

-- joining the pieces by what parted them gives the text back, for all texts, also where they are
-- parted by the empty text
abbrev pub JoinGivesBack : Type 0
JoinGivesBack = (s p : Text) → IsUtf8 s →
    split_answer (text s) (text p ∷ []) >>= (λ pieces. join_answer pieces (text p ∷ [])) ≡
    Ok (text s)
