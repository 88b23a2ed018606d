use Rattle.std.proofs.Common.{◌≡◌, None, Some, sym, ◌∙◌, arith}
use Rattle.std.specs.Prelude.{slice_index}
use Rattle.std.specs.Str.Parse.{starts_with_minus}
use Rattle.std.proofs.lemmas.Bool.Decides.{Decides-eqb, same_from_decides}
use Rattle.std.proofs.lemmas.Str.Pattern.{split_once_first, starts_char}
use Rattle.liquid_filters.proofs.Decimals.{read_with_point, read_without_point, unread_without_point}
use Rattle.liquid_filters.proofs.stdlib.filters.math.decimal.Decimal.read.Goals as goal

pub returns-then-is_numeral-2 : goal.returns-then-is_numeral-2
returns-then-is_numeral-2 c =
    let s = c.args.text.now in
    let sign : c.starts_with-negative.result ≡ starts_with_minus s = same_from_decides c.starts_with-negative.result (starts_with_minus s) (starts_char 45 s c.starts_with-negative.result c.starts_with-negative.ensures.cases (omega arith) (omega arith)) (Decides-eqb (slice_index s 0) 45) in
    let cut = split_once_first 46 c.unsigned-digits.result.now (Some (c.in-Some.whole, c.in-Some.fraction)) c.in-Some.ensures.cases (omega arith) in
    read_with_point s c.unsigned-digits.result.now c.in-Some.whole.now c.in-Some.fraction.now c.starts_with-negative.result c.unsigned-digits.ensures sign cut.0 cut.1 cut.2
    (sym c.is_numeral.ensures ∙ c.if-is_numeral.true) (sym c.is_numeral-then-is_numeral.ensures ∙ c.if-is_numeral-2.true)

pub returns-then-is_numeral-3 : goal.returns-then-is_numeral-3
returns-then-is_numeral-3 c =
    let s = c.args.text.now in
    let sign : c.starts_with-negative.result ≡ starts_with_minus s = same_from_decides c.starts_with-negative.result (starts_with_minus s) (starts_char 45 s c.starts_with-negative.result c.starts_with-negative.ensures.cases (omega arith) (omega arith)) (Decides-eqb (slice_index s 0) 45) in
    read_without_point s c.unsigned-digits.result.now c.starts_with-negative.result c.unsigned-digits.ensures sign (split_once_first 46 c.unsigned-digits.result.now None c.in-None.ensures.cases (omega arith))
    (sym c.is_numeral-in-None.ensures ∙ c.if-is_numeral-3.true)

pub returns-else-is_numeral-3 : goal.returns-else-is_numeral-3
returns-else-is_numeral-3 c =
    unread_without_point c.args.text.now c.unsigned-digits.result.now c.unsigned-digits.ensures (split_once_first 46 c.unsigned-digits.result.now None c.in-None.ensures.cases (omega arith))
    (sym c.is_numeral-in-None.ensures ∙ c.if-is_numeral-3.false)
