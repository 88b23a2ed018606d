use Rattle.std.proofs.Common.{◌≡◌, ◌-◌, ◌+◌, ℕ, zero, suc, true, false, cond, [], ◌∷◌, ◌++◌, length, map, Some, None, Ok, Err, option_map, sym, ap, ◌∙◌, subst, arith}
use Rattle.std.proofs.lemmas.List.{map-append}
use Rattle.std.specs.Option.{option_copied}
use Rattle.liquid_language.specs.Entries.{without}
use Rattle.liquid_model.specs.Answer.{IsValueOrMemory}
use Rattle.liquid_model.specs.Maps.{listed}
use Rattle.liquid_model.specs.Texts.{Text}
use Rattle.liquid_model.specs.View.{pairs_view}
use Rattle.liquid_syntax.specs.NameSets.{mentioned_in_set}
use Rattle.liquid_syntax.proofs.Held.{ascend_seen, seen_found}
use Rattle.liquid_site_build.specs.Chains.{LayoutChain, chain_fault_at, chain_from, layout_chain, layout_named}
use Rattle.liquid_site_build.specs.SourceViews.{site_text_view, site_texts_view}
use Rattle.liquid_site_build.specs.inside.ChainViews.{layout_chain_view}
use Rattle.liquid_site_build.proofs.ChainTurns.{in_front, chain_broken, chain_done, chain_spent, chain_turn}
use Rattle.liquid_site_build.proofs.Left.{AreLeft, in_set, left_without, none_for, none_in, seen_length}
use Rattle.liquid_site_build.proofs.chain.layout_chain.Goals as goal

pub loop-turn-init : goal.loop-turn-init
loop-turn-init c =
    let es = c.args.layouts.now.entries in
    let all = site_texts_view c.args.layouts.now in
    let turns : c.len-count.result - 0 ≡ length all = omega (arith, c.len-count.ensures.len, seen_length site_text_view es) in (
      all,
      (ascend_seen site_text_view es c.len-count.ensures.ordered, λ x. sym (ap (λ b. cond b None (listed all x)) (none_in c.new-passed.result x c.new-passed.ensures.empty))),
      ap (λ ls. in_front (map (λ x. site_text_view x.now) ls) (chain_from (c.len-count.result - 0) all all (option_map (λ n. n.now) c.layout_named-named.result))) c.new-chain.ensures.items
          ∙ (λ i. chain_from (turns i) all all (c.layout_named-named.ensures i)),
    )

pub returns-in_default : goal.returns-in_default
returns-in_default c =
    let all = site_texts_view c.args.layouts.now in
    let l = c.loop-turn in
    let n = c.len-count.result - l.turn in
    let ls = map (λ x. site_text_view x.now) l.chain.items in
    sym (chain_done n all l.invariant.0 ls) ∙ ap (λ o. in_front ls (chain_from n all l.invariant.0 (option_map (λ x. x.now) o))) (sym c.in_default.is) ∙ l.invariant.2

pub returns-then-contains : goal.returns-then-contains
returns-then-contains c =
    let all = site_texts_view c.args.layouts.now in
    let l = c.loop-turn in
    let n = c.len-count.result - l.turn in
    let ls = map (λ x. site_text_view x.now) l.chain.items in
    let name = c.in-Some.name.now in
    let passed = in_set l.passed name c.contains.result c.contains.ensures true c.if-contains.true in
    let gone = ap (λ b. cond b None (listed all name)) passed in
    let whole = sym (chain_broken n all l.invariant.0 (mentioned_in_set l.passed) ls name l.invariant.1 gone)
    ∙ ap (λ o. in_front ls (chain_from n all l.invariant.0 (option_map (λ x. x.now) o))) (sym c.in-Some.is) ∙ l.invariant.2 in
    subst (λ w. IsValueOrMemory layout_chain_view c.broken.result w) whole c.broken.ensures

pub returns-in_default-get : goal.returns-in_default-get
returns-in_default-get c =
    let all = site_texts_view c.args.layouts.now in
    let l = c.loop-turn in
    let n = c.len-count.result - l.turn in
    let ls = map (λ x. site_text_view x.now) l.chain.items in
    let name = c.in-Some.name.now in
    let absent = seen_found site_text_view name c.args.layouts.now.entries None (sym (ap option_copied c.in_default-get.is) ∙ c.get.ensures.value) in
    let whole = sym (chain_broken n all l.invariant.0 (mentioned_in_set l.passed) ls name l.invariant.1 (none_for (mentioned_in_set l.passed name) (listed all name) absent))
    ∙ ap (λ o. in_front ls (chain_from n all l.invariant.0 (option_map (λ x. x.now) o))) (sym c.in-Some.is) ∙ l.invariant.2 in
    subst (λ w. IsValueOrMemory layout_chain_view c.broken-in_default-get.result w) whole c.broken-in_default-get.ensures

pub loop-turn-preserved : goal.loop-turn-preserved
loop-turn-preserved c =
    let all = site_texts_view c.args.layouts.now in
    let l = c.loop-turn in
    let left = l.invariant.0 in
    let n = c.len-count.result - l.turn in
    let k = c.len-count.result - (l.turn + 1) in
    let ls = map (λ x. site_text_view x.now) l.chain.items in
    let name = c.in-Some.name.now in
    let layout = site_text_view c.in-Some-get.layout.now in
    let new = in_set l.passed name c.contains.result c.contains.ensures false c.if-contains.false in
    let found = seen_found site_text_view name c.args.layouts.now.entries (Some c.in-Some-get.layout.now) (sym (ap option_copied c.in-Some-get.is) ∙ c.get.ensures.value) in
    let turns : suc k ≡ n = omega (arith, c.loop-turn-test.true) in
    let items : map (λ x. site_text_view x.now) c.push.new.self.items ≡ ls ++ layout ∷ [] = ap (map (λ x. site_text_view x.now)) c.in_ok-push.ensures.items ∙ map-append (λ x. site_text_view x.now) l.chain.items (c.in-Some-get.layout ∷ []) in (
      without name left,
      subst (λ p. AreLeft p all (without name left)) (sym c.in_ok-add_name.ensures) (left_without (mentioned_in_set l.passed) all left name l.invariant.1),
      (λ i. in_front (items i) (chain_from k all (without name left) (c.layout_named-named-in-loop-turn.ensures i)))
          ∙ chain_turn k all left (mentioned_in_set l.passed) ls name layout l.invariant.1 new found
          ∙ ap (λ m. in_front ls (chain_from m all left (Some name))) turns
          ∙ ap (λ o. in_front ls (chain_from n all left (option_map (λ x. x.now) o))) (sym c.in-Some.is) ∙ l.invariant.2,
    )

pub returns-in-Some-named : goal.returns-in-Some-named
returns-in-Some-named c =
    let all = site_texts_view c.args.layouts.now in
    let l = c.loop-turn in
    let n = c.len-count.result - l.turn in
    let ls = map (λ x. site_text_view x.now) l.chain.items in
    let name = c.in-Some-named.name.now in
    let none : zero ≡ n = omega (arith, c.loop-turn-test.false) in
    let whole = sym (chain_spent all l.invariant.0 ls name) ∙ ap (λ m. in_front ls (chain_from m all l.invariant.0 (Some name))) none
    ∙ ap (λ o. in_front ls (chain_from n all l.invariant.0 (option_map (λ x. x.now) o))) (sym c.in-Some-named.is) ∙ l.invariant.2 in
    subst (λ w. IsValueOrMemory layout_chain_view c.broken-in-Some-named.result w) whole c.broken-in-Some-named.ensures

pub returns : goal.returns
returns c =
    let all = site_texts_view c.args.layouts.now in
    let l = c.loop-turn in
    let n = c.len-count.result - l.turn in
    let ls = map (λ x. site_text_view x.now) l.chain.items in
    sym (chain_done n all l.invariant.0 ls) ∙ ap (λ o. in_front ls (chain_from n all l.invariant.0 (option_map (λ x. x.now) o))) (sym c.in-None.is) ∙ l.invariant.2
