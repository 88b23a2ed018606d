use Rattle.std.proofs.Common.{◌≡◌, ap, ◌∙◌, Some, None, option_map, false, sym, string_bytes, subst, arith}
use Rattle.std.proofs.lemmas.Bool.Decides.{nat_tests}
use Rattle.liquid_model.specs.Answer.{IsValueOrMemory}
use Rattle.liquid_model.specs.Data.{array, object}
use Rattle.liquid_model.specs.View.{pairs_view, view}
use Rattle.liquid_model.proofs.Views.{view-Array}
use Rattle.liquid_yaml.specs.Flows.{flow_value}
use Rattle.liquid_yaml.specs.Lines.{setting_view}
use Rattle.liquid_yaml.proofs.Flows.{flow_less, flow_more, flow_none, items_end, items_refused, items_turn, members_end, members_refused, members_stored, members_turn, no_member, none_by, none_stored, some_by}
use Rattle.liquid_yaml.proofs.flow.+flow_value.Goals as goal

-- ---- lists

pub flow_list-returns-in-None : goal.flow_list-returns-in-None
flow_list-returns-in-None t c =
    let e : c.loop-left.left ≡ Some c.in-Some.text = (let h = c.in-Some.is in cc) in
    let none : c.in_ok-value.field-0 ≡ None = (let h = c.in-None.is in cc) in
    ap (option_map array) (items_refused c.loop-left.left c.in-Some.text c.first_flow_part.result e c.first_flow_part.ensures (λ s. flow_value c.args.depth false s) c.loop-left.values.items _
    (none_by c.in_ok-value.field-0 _ none c.in_ok-value.ensures ∙ ap (λ s. flow_value c.args.depth false s) c.trimmed_around.ensures) c.loop-left.invariant)

pub flow_list-loop-left-preserved : goal.flow_list-loop-left-preserved
flow_list-loop-left-preserved t c =
    let e : c.loop-left.left ≡ Some c.in-Some.text = (let h = c.in-Some.is in cc) in
    let some : c.in_ok-value.field-0 ≡ Some c.in-Some-2.value = (let h = c.in-Some-2.is in cc) in
    items_turn c.loop-left.left c.in-Some.text c.first_flow_part.result e c.first_flow_part.ensures (λ s. flow_value c.args.depth false s) c.loop-left.values.items c.push.new.self.items c.in-Some-2.value _
    (some_by c.in_ok-value.field-0 c.in-Some-2.value _ some c.in_ok-value.ensures ∙ ap (λ s. flow_value c.args.depth false s) c.trimmed_around.ensures) c.in_ok-push-in-Some-2.ensures.items c.loop-left.invariant

pub flow_list-returns : goal.flow_list-returns
flow_list-returns t c =
    let none : c.loop-left.left ≡ None = (let h = c.in_default.is in cc) in
    ap Some (view-Array c.loop-left.values)
    ∙ ap (option_map array) (items_end (λ s. flow_value c.args.depth false s) c.loop-left.values.items c.loop-left.left _ none c.loop-left.invariant)

-- ---- maps

pub flow_map-returns-in_default-member_of : goal.flow_map-returns-in_default-member_of
flow_map-returns-in_default-member_of t c =
    let e : c.loop-left.left ≡ Some c.in-Some.text = (let h = c.in-Some.is in cc) in
    ap (option_map object) (members_refused c.loop-left.left c.in-Some.text c.first_flow_part.result e c.first_flow_part.ensures (λ s. flow_value c.args.depth false s) (pairs_view c.loop-left.members.entries) _
    (no_member (λ s. flow_value c.args.depth false s) (pairs_view c.loop-left.members.entries) c.trimmed_around.result.now c.first_flow_part.result.0.now c.trimmed_around.ensures c.in_default-member_of.ensures) c.loop-left.invariant)

pub flow_map-returns-in-None : goal.flow_map-returns-in-None
flow_map-returns-in-None t c =
    let e : c.loop-left.left ≡ Some c.in-Some.text = (let h = c.in-Some.is in cc) in
    let none : c.in_ok-value.field-0 ≡ None = (let h = c.in-None.is in cc) in
    ap (option_map object) (members_refused c.loop-left.left c.in-Some.text c.first_flow_part.result e c.first_flow_part.ensures (λ s. flow_value c.args.depth false s) (pairs_view c.loop-left.members.entries) _
    (none_stored (λ s. flow_value c.args.depth false s) (pairs_view c.loop-left.members.entries) c.trimmed_around.result.now c.first_flow_part.result.0.now (setting_view c.in-Some-member_of.member) c.trimmed_around.ensures c.in-Some-member_of.ensures
    (none_by c.in_ok-value.field-0 _ none c.in_ok-value.ensures)) c.loop-left.invariant)

pub flow_map-loop-left-preserved : goal.flow_map-loop-left-preserved
flow_map-loop-left-preserved t c =
    let e : c.loop-left.left ≡ Some c.in-Some.text = (let h = c.in-Some.is in cc) in
    let some : c.in_ok-value.field-0 ≡ Some c.in-Some-2.value = (let h = c.in-Some-2.is in cc) in
    members_turn c.loop-left.left c.in-Some.text c.first_flow_part.result e c.first_flow_part.ensures (λ s. flow_value c.args.depth false s) (pairs_view c.loop-left.members.entries) (pairs_view c.store.new.object.entries) _
    (members_stored (λ s. flow_value c.args.depth false s) (pairs_view c.loop-left.members.entries) (pairs_view c.store.new.object.entries) c.trimmed_around.result.now c.first_flow_part.result.0.now (string_bytes c.in_ok-from_str-in-Some-2.field-0) (setting_view c.in-Some-member_of.member) (view c.in-Some-2.value)
    c.trimmed_around.ensures c.in-Some-member_of.ensures (some_by c.in_ok-value.field-0 c.in-Some-2.value _ some c.in_ok-value.ensures) c.in_ok-from_str-in-Some-2.ensures.ok c.in_ok-store-in-Some-2.ensures.stored) c.loop-left.invariant

pub flow_map-loop-left-smaller : goal.flow_map-loop-left-smaller
flow_map-loop-left-smaller t c =
    let e : c.loop-left.left ≡ Some c.in-Some.text = (let h = c.in-Some.is in cc) in
    flow_less c.loop-left.left c.in-Some.text c.first_flow_part.result e c.first_flow_part.ensures

-- ---- values

pub flow_value-returns-then-depth-eq0 : goal.flow_value-returns-then-depth-eq0
flow_value-returns-then-depth-eq0 t c = flow_none c.args.depth c.args.may_note c.args.text.now (let h = c.if-depth-eq0.true in grind (arith))

pub flow_value-returns : goal.flow_value-returns
flow_value-returns t c =
    subst (λ w. IsValueOrMemory (λ o. option_map view o) c.flow_within.result w)
    (flow_more c.args.depth c.args.may_note c.args.text.now (let h = c.if-depth-eq0.false in grind (arith, nat_tests))) c.flow_within.ensures
