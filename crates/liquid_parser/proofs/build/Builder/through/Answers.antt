use Rattle.std.proofs.Common.{ℕ, ◌+◌, [], ◌∷◌, ◌++◌, ap, ◌∙◌, map, reverse, refl, sym, append_assoc}
use Rattle.std.proofs.lemmas.List.{length-map, map-append}
use Rattle.liquid_evaluation.specs.ChainView.{chain_filter_view}
use Rattle.liquid_evaluation.specs.Tree.{filtered}
use Rattle.liquid_parser.specs.OpenBlocks.{with_node}
use Rattle.liquid_parser.specs.inside.Building.{alone}
use Rattle.liquid_syntax.specs.Flats.{flat_of, flats}
use Rattle.liquid_syntax.specs.declared.node.Node.TheVariants.{Filtered}
use Rattle.liquid_parser.proofs.Grow as grow
use Rattle.liquid_parser.proofs.build.Builder.through.Goals as goal

pub returns-clause-stack : goal.returns-clause-stack
returns-clause-stack c ls cur b =
    let s = c.args.self.now in
    let ns = s.nodes.items in
    let outer = Filtered c.args.filters (c.len-before.result + 2) in
    let x = flat_of outer in
    let y = flat_of c.args.node in
    let one = ap flats c.in_ok-push.ensures.items ∙ map-append flat_of ns (outer ∷ []) in
    let two = ap flats c.in_ok-push-2.ensures.items ∙ map-append flat_of c.push.new.self.items (c.args.node ∷ []) ∙ ap (λ l. l ++ y ∷ []) one ∙ append_assoc (flats ns) (x ∷ []) (y ∷ []) in
    let ends = ap (λ (n : ℕ). (n + 2) ∷ []) (c.len-before.ensures ∙ s.nodes.ok.0 ∙ sym (length-map ns flat_of)) in (
      (ls, with_node cur (filtered (map chain_filter_view c.args.filters.items) (alone (y.head [])))),
      refl,
      (grow.wrapped (flats ns) (flats c.push-2.new.self.items) x y (reverse s.blocks.items) ls cur two ends c.requires b.0, b.1),
    )
