use Rattle.std.proofs.Common.{rules, arith, ◌≡◌, ℕ, List, string_bytes, [], ◌∷◌, ◌++◌, ◌+◌, drop, get_or, refl, sym, ap, ◌∙◌, append_assoc}
use Rattle.std.proofs.Output.{has_written_append}
use Rattle.std.proofs.lemmas.Grind.{common_steps}
use Rattle.std.proofs.lemmas.List.{drop_more}
use Rattle.liquid_model.specs.Data.{items_text, pairs_text, text_of}
use Rattle.liquid_model.specs.View.{view, items_view, pairs_view}
use Rattle.liquid_model.proofs.text.+write_text.Goals as goal

regroup : (a b c d : List ℕ) → ((a ++ b) ++ c) ++ d ≡ a ++ ((b ++ c) ++ d)
regroup a b c d = simp append_assoc

pub write_items-loop-item-preserved : goal.write_items-loop-item-preserved
write_items-loop-item-preserved g t c plain =
    let xs = c.deref-item-items.result.now in
    let i = c.loop-item.item-index in
    let x = c.item-item.result in
    let at : x ≡ get_or xs i x = search rules in
    let next : drop i xs ≡ x ∷ drop (i + 1) xs = drop_more xs i x (omega arith) ∙ ap (λ z. z ∷ drop (i + 1) xs) (sym at) in
    let before = c.loop-item.invariant plain in
    let one = c.in_ok-write_text.ensures before.1.plain (search rules) in (
      before.0 ++ text_of (view x),
      has_written_append _ _ _ _ _ _ before.1 one,
      append_assoc before.0 (text_of (view x)) (items_text (items_view (drop (i + 1) xs))) ∙ ap (λ l. before.0 ++ items_text (items_view l)) (sym next) ∙ before.2,
    )

pub write_pairs-loop-key-init : goal.write_pairs-loop-key-init
write_pairs-loop-key-init g t c plain = ([], search rules, refl)

pub write_pairs-loop-key-preserved : goal.write_pairs-loop-key-preserved
write_pairs-loop-key-preserved g t c plain =
    let before = c.loop-key.invariant plain in
    let k = c.in-Some.key.now in
    let v = c.in-Some.value.now in
    let iter : c.loop-key.key-iterator ≡ (k, v) ∷ c.next.new.self = grind (arith, common_steps) in
    let one = c.in_ok-write_str.ensures.writes before.1.plain (search rules) in
    let two = c.in_ok-write_text.ensures one.plain (search rules) in
    let name = c.as_str.result.now in
    let rest = pairs_text (pairs_view c.next.new.self) in
    let named : name ≡ string_bytes k = search rules in (
      (before.0 ++ name) ++ text_of (view v),
      has_written_append _ _ _ _ _ _ (has_written_append _ _ _ _ _ _ before.1 one) two,
      regroup before.0 name (text_of (view v)) rest
          ∙ ap (λ n. before.0 ++ ((n ++ text_of (view v)) ++ rest)) named
          ∙ ap (λ l. before.0 ++ pairs_text (pairs_view l)) (sym iter)
          ∙ before.2,
    )
