-- The sum of a list after another.
use Rattle.std.proofs.Common.{◌≡◌, ℤ, List, [], ◌∷◌, ◌++◌, Option, Result, Ok, Err, ap, refl, ◌∙◌}
use Rattle.liquid_model.specs.Data.{Datum}
use Rattle.liquid_model.specs.Fallible.{◌>>=◌}
use Rattle.liquid_model.specs.Texts.{Text}
use Rattle.liquid_model.specs.declared.error.ErrorKind.{ErrorKind}
use Rattle.liquid_shopify_host_filters.specs.Laws.{SumGoesOn}
use Rattle.liquid_shopify_host_filters.specs.Sums.{sum_with_term, total}
use Rattle.liquid_decimals.specs.Sums.{term}

abbrev Sum : Type 0
Sum = Result ℤ ErrorKind

-- once the sum with the first term is known, the rest goes on from it
step : (name : Option Text) (ds es : List Datum) (r : Sum)
    → ((t : ℤ) → total name t (ds ++ es) ≡ (total name t ds >>= (λ u. total name u es)))
    → (r >>= (λ t. total name t (ds ++ es))) ≡ ((r >>= (λ t. total name t ds)) >>= (λ u. total name u es))
step name ds es (Ok t) h = h t
step name ds es (Err k) h = refl

pub goes_on : SumGoesOn
goes_on name z [] es = refl
goes_on name z (d ∷ ds) es = step name ds es (sum_with_term z (term name d)) (λ t. goes_on name t ds es)
