-- Laws of the filters, over their answers alone.
use Rattle.std.specs.Prelude.{◌≡◌, ℤ, List, ◌++◌, Ok, Option}
use Rattle.std.specs.Str.{IsUtf8}
use Rattle.base64.specs.GeneralPurpose.{IsBytes}
use Rattle.liquid_model.specs.Data.{Datum, text}
use Rattle.liquid_model.specs.Fallible.{◌>>=◌}
use Rattle.liquid_model.specs.Texts.{Text}
use Rattle.liquid_model.specs.Arguments.{Answer}
use Rattle.liquid_shopify_host_filters.specs.Codecs.{decode_answer, encode_answer}
use Rattle.liquid_shopify_host_filters.specs.Sums.{total}
use Rattle.liquid_shopify_host_filters.specs.Wordings.{handle_answer, squish_answer}

-- what a call makes of a text
abbrev pub OfText : (Datum → Answer) → Text → Answer
OfText f s = f (text s)

-- one call after another
abbrev pub after : (Datum → Answer) → (Datum → Answer) → Text → Answer
after second first s = OfText first s >>= second

-- `base64_decode` gives back what `base64_encode` encoded
abbrev pub DecodeUndoesEncode : Type 0
DecodeUndoesEncode = (s : Text) → IsUtf8 s → IsBytes s → after decode_answer encode_answer s ≡
    Ok (text s)

-- the sum of a list after another goes on from the sum of the other
abbrev pub SumGoesOn : Type 0
SumGoesOn =
    (name : Option Text) (z : ℤ) (ds es : List Datum)
    → total name z (ds ++ es) ≡ (total name z ds >>= (λ t. total name t es))

-- a handle is its own handle
abbrev pub HandleTwiceIsOnce : Type 0
HandleTwiceIsOnce = (s : Text) → IsUtf8 s → after handle_answer handle_answer s ≡
    OfText handle_answer s

-- `squish` twice is `squish` once
abbrev pub SquishTwiceIsOnce : Type 0
SquishTwiceIsOnce = (s : Text) → IsUtf8 s → after squish_answer squish_answer s ≡
    OfText squish_answer s
