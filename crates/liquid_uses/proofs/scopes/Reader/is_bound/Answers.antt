use Rattle.std.proofs.Common.{◌<◌, length, subst, sym, rules}
use Rattle.liquid_uses.specs.inside.Scopes.{BindsIn}
use Rattle.liquid_uses.proofs.Scoping.{visible_bound}
use Rattle.liquid_uses.proofs.scopes.Reader.is_bound.Goals as goal

pub returns : goal.returns
returns c = λ h.
    let before : c.args.place < c.args.self.now.at = search rules in
    let inside : c.args.place < length c.args.self.now.scopes.nodes.now = search rules in
    visible_bound c.args.self.now c.args.name.now c.args.place c.index-self-place.result c.index-self-place.is inside before
    (subst (λ e. BindsIn c.index-self-place.result e c.args.self.now.at c.args.name.now) c.end_at-end.ensures
    (subst (λ n. BindsIn n c.end_at-end.result c.args.self.now.at c.args.name.now) (sym c.index-self-place.is) (c.binds_at.ensures h)))
