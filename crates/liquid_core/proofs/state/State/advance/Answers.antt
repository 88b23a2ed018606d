use Rattle.std.proofs.Common.{rules, ◌≡◌, ◌++◌, ◌∷◌, ◌-◌, [], length, slice_set, slice_index_or, refl, ap, ◌∙◌}
use Rattle.liquid_core.proofs.States.{advanced}
use Rattle.liquid_core.proofs.LoopFrames.{innermost_is, innermost_set}
use Rattle.liquid_core.specs.declared.frame.Scope.TheVariants as scope
use Rattle.liquid_core.proofs.state.State.advance.Goals as goal

pub returns-clause-turned : goal.returns-clause-turned
returns-clause-turned c = λ before t e.
    let s = c.args.self.now.frames.items in
    let many : c.len-innermost.result ≡ length s = search rules in
    let at : c.index_mut.result.now ≡ scope.LoopFrame t = c.index_mut.ensures.value ∙ ap (λ n. slice_index_or s (n - 1) c.index_mut.result.now) many ∙ innermost_is s before t _ e in
    let went = c.go_on.ensures t at in
    let now : slice_set s (c.len-innermost.result - 1) c.go_on.new.self ≡ before ++ scope.LoopFrame went.0 ∷ [] = ap (λ n. slice_set s (n - 1) c.go_on.new.self) many ∙ innermost_set s before t c.go_on.new.self e ∙ ap (λ x. before ++ x ∷ []) went.1.0 in
    advanced c.args.self.now _ before t went.0 e now went.1.1 refl refl refl refl refl refl refl refl

pub returns-clause-loops : goal.returns-clause-loops
returns-clause-loops c = λ before t e.
    let s = c.args.self.now.frames.items in
    let many : c.len-innermost.result ≡ length s = search rules in
    let at : c.index_mut.result.now ≡ scope.LoopFrame t = c.index_mut.ensures.value ∙ ap (λ n. slice_index_or s (n - 1) c.index_mut.result.now) many ∙ innermost_is s before t _ e in
    let went = c.go_on.ensures t at in
    let now : slice_set s (c.len-innermost.result - 1) c.go_on.new.self ≡ before ++ scope.LoopFrame went.0 ∷ [] = ap (λ n. slice_set s (n - 1) c.go_on.new.self) many ∙ innermost_set s before t c.go_on.new.self e ∙ ap (λ x. before ++ x ∷ []) went.1.0 in
    (went.0, (now, went.1.1))
