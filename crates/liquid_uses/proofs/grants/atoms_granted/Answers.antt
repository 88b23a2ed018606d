use Rattle.std.proofs.Common.{◌≡◌, true, rules}
use Rattle.liquid_model.specs.UseViews.{uses_view}
use Rattle.liquid_uses.proofs.EachGrants.{item_passed, all_passed, each_atom}
use Rattle.liquid_uses.proofs.grants.atoms_granted.Goals as goal

pub loop-atom-preserved : goal.loop-atom-preserved
loop-atom-preserved c =
    let passed : c.atom_granted.result ≡ true = search rules in
    item_passed (each_atom (uses_view c.args.uses.now)) _ _ _ c.loop-atom.invariant (c.atom_granted.ensures passed) c.atom-item.is c.loop-atom-test.true

pub returns : goal.returns
returns c = λ holds.
    rw (← c.deref-atom-items.ensures.value)
    (all_passed (each_atom (uses_view c.args.uses.now)) _ _ c.loop-atom.invariant c.loop-atom-test.false)
