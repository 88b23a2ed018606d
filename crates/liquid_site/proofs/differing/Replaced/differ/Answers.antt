use Rattle.std.proofs.Common.{Some, None, ◌∙◌}
use Rattle.liquid_model.specs.View.{pairs_view}
use Rattle.liquid_site.proofs.Differences.{found_both}
use Rattle.liquid_site.proofs.differing.Replaced.differ.Goals as goal

pub returns-in-Some-Some : goal.returns-in-Some-Some
returns-in-Some-Some c =
    let s = c.args.self.now in
    c.ne.ensures ∙ found_both (pairs_view s.old.now.entries) (pairs_view s.new.now.entries) c.args.name.now c.look_up.result c.look_up-2.result (Some c.in-Some-Some.before) (Some c.in-Some-Some.after) c.in-Some-Some.is-0 c.in-Some-Some.is-1 c.look_up.ensures c.look_up-2.ensures

pub returns-in-None-None : goal.returns-in-None-None
returns-in-None-None c =
    let s = c.args.self.now in
    found_both (pairs_view s.old.now.entries) (pairs_view s.new.now.entries) c.args.name.now c.look_up.result c.look_up-2.result None None c.in-None-None.is-0 c.in-None-None.is-1 c.look_up.ensures c.look_up-2.ensures

pub returns-in-Some-None : goal.returns-in-Some-None
returns-in-Some-None c =
    let s = c.args.self.now in
    found_both (pairs_view s.old.now.entries) (pairs_view s.new.now.entries) c.args.name.now c.look_up.result c.look_up-2.result (Some c.in-Some-None.field-0-0) None c.in-Some-None.is-0 c.in-Some-None.is-1 c.look_up.ensures c.look_up-2.ensures

pub returns-in-Some-None-2 : goal.returns-in-Some-None-2
returns-in-Some-None-2 c =
    let s = c.args.self.now in
    found_both (pairs_view s.old.now.entries) (pairs_view s.new.now.entries) c.args.name.now c.look_up.result c.look_up-2.result None (Some c.in-Some-None.field-0-1) c.in-Some-None.is-0 c.in-Some-None.is-1 c.look_up.ensures c.look_up-2.ensures
