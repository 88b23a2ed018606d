-- The filter of the tag `seo`, whose text the builder of the site makes.
use Rattle.std.specs.Prelude.{List, [], ◌∷◌, Ok, Err}
use Rattle.liquid_model.specs.Arguments.{Answer}
use Rattle.liquid_model.specs.Data.{Datum, text}
use Rattle.liquid_model.specs.declared.error.ErrorKind.TheVariants.{InvalidArgument}

-- a text is written as it is; any other value is refused
abbrev pub given_text : Datum → Answer
given_text (text t) = Ok (text t)
given_text d = Err InvalidArgument

-- the last argument is what the data has; what the template says before it changes nothing
abbrev pub seo_answer : Datum → List Datum → Answer
seo_answer d [] = Err InvalidArgument
seo_answer d (given ∷ []) = given_text given
seo_answer d (markup ∷ given ∷ more) = seo_answer d (given ∷ more)
