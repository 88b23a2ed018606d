-- The filters that write amounts of money, given as whole cents.
use Rattle.std.specs.Prelude.{unsigned_abs, ℕ, ◌%◌, ◌==◌, ℤ, List, [], ◌++◌, Option, Some, None}
use Rattle.std.specs.Prelude.{Result, Ok, Err, string_bytes, if◌then◌else◌}
use Rattle.liquid_model.specs.Data.{Datum, nil, text}
use Rattle.liquid_model.specs.Fallible.{◌>>=◌}
use Rattle.liquid_model.specs.Texts.{Text}
use Rattle.liquid_model.specs.Whole.{whole}
use Rattle.liquid_model.specs.declared.error.ErrorKind.{ErrorKind}
use Rattle.liquid_model.specs.declared.error.ErrorKind.TheVariants.{InvalidInput}
use Rattle.liquid_model.specs.Arguments.{Answer}
use Rattle.liquid_shopify_host_filters.specs.Amounts.{amount_of, whole_amount}
use Rattle.liquid_shopify_host_filters.specs.declared.money.MoneyFormat.{MoneyFormat}

-- what stands before and after an amount
abbrev pub in_format : MoneyFormat → Text → Text
in_format f shown = string_bytes f.before ++ (shown ++ string_bytes f.after)

abbrev pub money : MoneyFormat → ℤ → Text
money f z = in_format f (amount_of f.style z)

-- an amount of whole units has no cents after it
abbrev pub trimmed : MoneyFormat → ℤ → Text
trimmed f z = if unsigned_abs z % 100 == 0 then in_format f (whole_amount f.style z) else money f z

abbrev pub found_cents : Option ℤ → Result (Option ℤ) ErrorKind
found_cents (Some z) = Ok (Some z)
found_cents None = Err InvalidInput

-- the cents of an input: none for nil, and else its whole number
abbrev pub cents_of : Datum → Result (Option ℤ) ErrorKind
cents_of nil = Ok None
cents_of d = found_cents (whole d)

-- the empty text where there are no cents
abbrev pub written : (ℤ → Text) → Option ℤ → Answer
written f (Some z) = Ok (text (f z))
written f None = Ok (text [])

-- `money` and `money_with_currency`, each with its format
abbrev pub money_answer : MoneyFormat → Datum → Answer
money_answer f d = cents_of d >>= written (money f)

-- `money_without_currency`
abbrev pub amount_answer : MoneyFormat → Datum → Answer
amount_answer f d = cents_of d >>= written (amount_of f.style)

-- `money_without_trailing_zeros`
abbrev pub trimmed_answer : MoneyFormat → Datum → Answer
trimmed_answer f d = cents_of d >>= written (trimmed f)
