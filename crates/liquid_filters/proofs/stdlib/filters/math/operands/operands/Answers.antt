use Rattle.std.proofs.Common.{◌≡◌, ℤ, ◌&&◌, Err, Option, Result, refl, sym, ap, subst, ◌∙◌}
use Rattle.std.specs.Prelude.{IsOk}
use Rattle.std.specs.Option.{option_zip}
use Rattle.liquid_model.specs.Data.{scalar}
use Rattle.liquid_model.specs.View.{view}
use Rattle.liquid_model.specs.Whole.{whole}
use Rattle.liquid_model.specs.declared.error.ErrorKind.{ErrorKind}
use Rattle.liquid_model.specs.declared.error.ErrorKind.TheVariants.{InvalidInput, InvalidArgument, DivideByZero}
use Rattle.liquid_filters.specs.Numbers.{is_zero, operands, unlike}
use Rattle.liquid_filters.proofs.Operands.{faulted, no_input, no_operand, by_zero, not_both, unlike_plain}
use Rattle.liquid_filters.proofs.stdlib.filters.math.operands.operands.Goals as goal

no_scalar_input : (c : goal.After-invalid_input) → operands c.args.divides (view c.args.input.now) (view c.args.operand.now) ≡ Err InvalidInput
no_scalar_input c = let d = view c.args.input.now in let e = view c.args.operand.now in no_input c.args.divides (scalar d) (scalar e) (unlike d e) (whole d) (whole e) (sym c.is_scalar.ensures ∙ c.if-not-is_scalar.true)

pub returns-then-not-is_scalar-clause-answer : goal.returns-then-not-is_scalar-clause-answer
returns-then-not-is_scalar-clause-answer c = faulted _ InvalidInput c.invalid_input.result.kind c.invalid_input.ensures.kind_or_memory (no_scalar_input c) refl

pub returns-then-not-is_scalar-clause-no_memory : goal.returns-then-not-is_scalar-clause-no_memory
returns-then-not-is_scalar-clause-no_memory c ok = subst (λ (r : Result (ℤ × ℤ) ErrorKind). IsOk r) (no_scalar_input c) ok

no_scalar_operand : (c : goal.After-invalid_argument) → operands c.args.divides (view c.args.input.now) (view c.args.operand.now) ≡ Err InvalidArgument
no_scalar_operand c = let d = view c.args.input.now in let e = view c.args.operand.now in no_operand c.args.divides (scalar d) (scalar e) (unlike d e) (whole d) (whole e) (sym c.is_scalar.ensures ∙ c.if-not-is_scalar.false) (sym c.is_scalar-2.ensures ∙ c.if-not-is_scalar-2.true)

pub returns-then-not-is_scalar-2-clause-answer : goal.returns-then-not-is_scalar-2-clause-answer
returns-then-not-is_scalar-2-clause-answer c = faulted _ InvalidArgument c.invalid_argument.result.kind c.invalid_argument.ensures.kind_or_memory (no_scalar_operand c) refl

pub returns-then-not-is_scalar-2-clause-no_memory : goal.returns-then-not-is_scalar-2-clause-no_memory
returns-then-not-is_scalar-2-clause-no_memory c ok = subst (λ (r : Result (ℤ × ℤ) ErrorKind). IsOk r) (no_scalar_operand c) ok

zero_operand : (c : goal.After-new) → operands c.args.divides (view c.args.input.now) (view c.args.operand.now) ≡ Err DivideByZero
zero_operand c =
    let d = view c.args.input.now in
    let e = view c.args.operand.now in
    by_zero c.args.divides (scalar d) (scalar e) (unlike d e) (whole d) (whole e) (sym c.is_scalar.ensures ∙ c.if-not-is_scalar.false) (sym c.is_scalar-2.ensures ∙ c.if-not-is_scalar-2.false)
    (ap (λ (o : Option ℤ). c.args.divides && is_zero o) (sym c.to_integer-second.ensures) ∙ (sym c.divides_by_zero.ensures ∙ c.if-divides_by_zero.true))

pub returns-then-divides_by_zero-clause-answer : goal.returns-then-divides_by_zero-clause-answer
returns-then-divides_by_zero-clause-answer c = faulted _ DivideByZero c.new.result.kind c.new.ensures.kind_or_memory (zero_operand c) refl

pub returns-then-divides_by_zero-clause-no_memory : goal.returns-then-divides_by_zero-clause-no_memory
returns-then-divides_by_zero-clause-no_memory c ok = subst (λ (r : Result (ℤ × ℤ) ErrorKind). IsOk r) (zero_operand c) ok

not_both_whole : (c : goal.After-unlike) → operands c.args.divides (view c.args.input.now) (view c.args.operand.now) ≡ Err (unlike (view c.args.input.now) (view c.args.operand.now))
not_both_whole c =
    let d = view c.args.input.now in
    let e = view c.args.operand.now in
    not_both c.args.divides (scalar d) (scalar e) (unlike d e) (whole d) (whole e) (sym c.is_scalar.ensures ∙ c.if-not-is_scalar.false) (sym c.is_scalar-2.ensures ∙ c.if-not-is_scalar-2.false)
    (ap (λ (o : Option ℤ). c.args.divides && is_zero o) (sym c.to_integer-second.ensures) ∙ (sym c.divides_by_zero.ensures ∙ c.if-divides_by_zero.false))
    (ap (λ (o : Option ℤ). option_zip o (whole e)) (sym c.to_integer.ensures) ∙ (ap (λ (o : Option ℤ). option_zip c.to_integer.result o) (sym c.to_integer-second.ensures) ∙ (sym c.zip.ensures ∙ c.in-None.is)))

pub returns-in-None-clause-answer : goal.returns-in-None-clause-answer
returns-in-None-clause-answer c = faulted _ (unlike (view c.args.input.now) (view c.args.operand.now)) c.unlike.result.kind c.unlike.ensures (not_both_whole c) (unlike_plain (view c.args.input.now) (view c.args.operand.now))

pub returns-in-None-clause-no_memory : goal.returns-in-None-clause-no_memory
returns-in-None-clause-no_memory c ok = subst (λ (r : Result (ℤ × ℤ) ErrorKind). IsOk r) (not_both_whole c) ok
