use Rattle.std.proofs.Common.{◌++◌, ◌∙◌, ap, refl, sym, subst, rules, string_bytes}
use Rattle.std.proofs.lemmas.List.{nil_from_length}
use Rattle.liquid_model.specs.Answer.{IsValueOrMemory}
use Rattle.liquid_filters.proofs.WebReplaced.{ascii_first, replaced_turn, replaced_end, replaced_none}
use Rattle.liquid_filters.proofs.stdlib.filters.replaced.+push_replaced.Goals as goal

pub returns-in_default : goal.returns-in_default
returns-in_default t c = c.in_ok-push_str.ensures.bytes ∙ ap (λ x. string_bytes c.args.out.now ++ x) (sym (replaced_none c.args.replacements.now c.args.text.now (nil_from_length _ c.in_default.ensures.cases)))

pub loop-before-preserved : goal.loop-before-preserved
loop-before-preserved t c =
    let e = c.in-Some.ensures.cases.0 in
    let a = ascii_first _ _ _ c.in-Some.field-0-0.now.0 e refl c.requires.1.1 in
    let cut = c.in-Some-split_once.ensures.byte a (λ w o f. f) in
    (search rules, replaced_turn _ _ _ c.in-Some.field-0-0.now.0 c.in-Some.field-0-0.now.1.now e refl refl c.loop-before.rest.now _ _ _ _ _ _ cut.0 cut.1 cut.2 c.in_ok-push_replaced.ensures c.in_ok-push_str-2.ensures.bytes c.loop-before.invariant.1)

pub returns : goal.returns
returns t c =
    let e = c.in-Some.ensures.cases.0 in
    let a = ascii_first _ _ _ c.in-Some.field-0-0.now.0 e refl c.requires.1.1 in
    let none = c.in_default-split_once.ensures.byte a (λ w o f. f) in
    subst (IsValueOrMemory _ _) (replaced_end _ _ _ c.in-Some.field-0-0.now.0 c.in-Some.field-0-0.now.1.now e refl refl c.loop-before.rest.now _ _ none c.loop-before.invariant.1) c.push_replaced-2.ensures
