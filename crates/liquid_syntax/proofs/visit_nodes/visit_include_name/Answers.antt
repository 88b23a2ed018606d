use Rattle.std.proofs.Common.{◌≡◌, length, arith}
use Rattle.liquid_syntax.proofs.NodeNames.{no_include, an_include}
use Rattle.liquid_syntax.proofs.visit_nodes.visit_include_name.Goals as goal

pub returns-then-is_empty : goal.returns-then-is_empty
returns-then-is_empty g c =
    let none : length c.args.pairs.now ≡ 0 = grind (arith, c.is_empty.ensures, c.if-is_empty.true) in
    rw (no_include c.args.pairs.now none) (g.met.V.NameVisitor.laws.none c.args.visitor.now)

pub returns : goal.returns
returns g c =
    let some : length c.args.pairs.now ≡ 0 → ⊥ = λ e. grind (arith, e, c.is_empty.ensures, c.if-is_empty.false) in
    rw (an_include c.args.pairs.now some) c.visit.ensures
