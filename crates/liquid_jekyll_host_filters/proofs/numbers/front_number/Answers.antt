use Rattle.std.proofs.Common.{◌≡◌, ◌+◌, ◌-◌, ◌≤◌, ◌∙◌, ℤ, Result, ap, arith, drop, length, length-drop, subst, take, take_all}
use Rattle.std.specs.Char.{is_ascii_digit}
use Rattle.std.specs.List.{prefix_len}
use Rattle.liquid_model.specs.Answer.{Answers}
use Rattle.liquid_model.specs.declared.error.ErrorKind.{ErrorKind}
use Rattle.liquid_jekyll_host_filters.specs.Numbers.{sign_bytes}
use Rattle.liquid_jekyll_host_filters.proofs.Fronts.{digits_front, front_boundary, no_digits, some_digits}
use Rattle.liquid_jekyll_host_filters.proofs.numbers.front_number.Goals as goal

pub split_at-requires : goal.split_at-requires
split_at-requires c =
    let text = c.args.text.now in
    let bytes = c.as_bytes-bytes.result.now in
    let sign = c.sign_len-sign.result in
    let digits = c.digits_len-digits.result in
    let same : bytes ≡ text = c.as_bytes-bytes.ensures.value in
    let slice : take (length bytes - sign) (drop sign bytes) ≡ drop sign bytes = take_all (length bytes - sign) (drop sign bytes) (omega (arith, length-drop sign bytes)) in
    let within : digits ≤ length (drop sign bytes) = subst (λ s. digits ≤ length s) slice c.digits_len-digits.ensures.within in
    let fits : sign + digits ≤ length text = omega (arith, within, length-drop sign bytes, c.sign_len-sign.ensures.within, ap length same) in
    front_boundary text sign digits c.utf8.text fits (c.sign_len-sign.ensures.value ∙ ap sign_bytes same) c.sign_len-sign.ensures.small (c.digits_len-digits.ensures.value ∙ ap (prefix_len is_ascii_digit) slice ∙ ap (λ t. prefix_len is_ascii_digit (drop sign t)) same)

pub returns-then-digits-eq0 : goal.returns-then-digits-eq0
returns-then-digits-eq0 c =
    let text = c.args.text.now in
    let bytes = c.as_bytes-bytes.result.now in
    let same : bytes ≡ text = c.as_bytes-bytes.ensures.value in
    no_digits text c.sign_len-sign.result c.digits_len-digits.result (c.sign_len-sign.ensures.value ∙ ap sign_bytes same) (digits_front text bytes c.sign_len-sign.result c.digits_len-digits.result same c.digits_len-digits.ensures.value) c.if-digits-eq0.true

pub returns : goal.returns
returns c =
    let text = c.args.text.now in
    let bytes = c.as_bytes-bytes.result.now in
    let same : bytes ≡ text = c.as_bytes-bytes.ensures.value in
    subst (λ (r : Result ℤ ErrorKind). Answers (λ n. n) c.number_of.result r) (some_digits text c.split_at.result.0.now c.sign_len-sign.result c.digits_len-digits.result (c.sign_len-sign.ensures.value ∙ ap sign_bytes same) (digits_front text bytes c.sign_len-sign.result c.digits_len-digits.result same c.digits_len-digits.ensures.value) c.if-digits-eq0.false c.split_at.ensures.front) c.number_of.ensures
