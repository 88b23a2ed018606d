use Rattle.std.proofs.Common.{sym, ◌∙◌}
use Rattle.liquid_parser.proofs.Finished.{none_last, built_nested, built_tree}
use Rattle.liquid_parser.proofs.build.Builder.finish.Goals as goal

pub of_nodes-requires : goal.of_nodes-requires
of_nodes-requires c =
    let b = c.args.self in
    let none = sym c.deref.ensures.value ∙ none_last c.deref.result.now (sym c.in-None.ensures.value) in
    built_nested b.nodes.items b.blocks.items c.requires.0 c.requires.1 none c.requires.2.0

pub returns-in-None : goal.returns-in-None
returns-in-None c ls cur b =
    let none = sym c.deref.ensures.value ∙ none_last c.deref.result.now (sym c.in-None.ensures.value) in
    built_tree _ c.args.self.nodes.items c.args.self.blocks.items ls cur c.of_nodes.ensures.list none b.0
