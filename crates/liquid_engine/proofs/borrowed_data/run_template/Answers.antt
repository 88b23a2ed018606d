use Rattle.std.proofs.Common.{subst, sym}
use Rattle.liquid_evaluation.specs.Names.{nodes_names, partials_names, run_names}
use Rattle.liquid_syntax.specs.Templates.{tree_of}
use Rattle.liquid_meaning.specs.Meaning.{Setting, meaning}
use Rattle.liquid_meaning.specs.Within.{Within}
use Rattle.liquid_meaning.proofs.Within.{left, right, within_mentioned}
use Rattle.liquid_engine.specs.Rendered.{names_in}
use Rattle.liquid_engine.specs.RuntimeView.{depth_in, partials_in, setting_in}
use Rattle.liquid_engine.proofs.Renderings.{given_setting, rendered}
use Rattle.liquid_engine.proofs.borrowed_data.run_template.Goals as goal

pub returns-clause-performs : goal.returns-clause-performs
unfolding meaning
returns-clause-performs g c =
    let setting = setting_in (λ x. (goal.Filter-dyn g x).counts x.1) (λ x. (goal.Filter-dyn g x).answer x.1) c.args.runtime.now in
    rendered _ setting (depth_in c.args.runtime.now) (tree_of c.args.template.now) c.run_with_borrowed_data.result _ _
    (given_setting setting.answers c.args.runtime.now.partials _ c.unwrap_or.result c.unwrap_or.ensures c.new-none.ensures) c.run_with_borrowed_data.ensures.performs

pub returns-clause-kept : goal.returns-clause-kept
returns-clause-kept g c =
    let setting = setting_in (λ x. (goal.Filter-dyn g x).counts x.1) (λ x. (goal.Filter-dyn g x).answer x.1) c.args.runtime.now in
    let nodes = tree_of c.args.template.now in
    let is = given_setting setting.answers c.args.runtime.now.partials _ c.unwrap_or.result c.unwrap_or.ensures c.new-none.ensures in
    let inside = within_mentioned (run_names (partials_in c.args.runtime.now) nodes) in
    c.run_with_borrowed_data.ensures.kept (names_in c.args.runtime.now nodes) (left _ (nodes_names nodes) _ inside)
    (subst (λ (s : Setting). Within (names_in c.args.runtime.now nodes) (partials_names s.partials)) (sym is) (right _ (nodes_names nodes) _ inside))
