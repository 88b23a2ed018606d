use Rattle.std.proofs.Common.{rules}
use Rattle.liquid_syntax.specs.Templates.{tree_of}
use Rattle.liquid_engine.specs.Performs.{unit}
use Rattle.liquid_engine.specs.Rendered.{names_in, run_in}
use Rattle.liquid_engine.specs.RuntimeView.{depth_in, environment_in, partials_in, setting_in}
use Rattle.liquid_meaning.proofs.Changes.{headline}
use Rattle.liquid_engine.proofs.RenderKinds.{performed_kinds, run_ends}
use Rattle.liquid_engine.proofs.Written.{at_caller, exact, for_cut}
use Rattle.liquid_engine.proofs.render.TemplateRenderable.render_to.Goals as goal

pub returns-clause-meaning : goal.returns-clause-meaning
returns-clause-meaning g c =
    at_caller g.W.CountedWrite.contents g.W.CountedWrite.failure_count unit c.run_template-answer.result _ c.args.writer.now c.run_template-answer.new.out.writer.now _ _ _ (search rules) c.run_template-answer.ensures.performs

pub returns-clause-isolated : goal.returns-clause-isolated
returns-clause-isolated g c =
    let setting = setting_in (λ x. (goal.Filter-dyn g x).counts x.1) (λ x. (goal.Filter-dyn g x).answer x.1) c.args.runtime.now in
    let run = run_in (λ x. (goal.Filter-dyn g x).counts x.1) (λ x. (goal.Filter-dyn g x).answer x.1) c.args.runtime.now (tree_of c.args.self.now) in
    for_cut (names_in c.args.runtime.now (tree_of c.args.self.now)) c.run_template-answer.result run _ _ (headline setting (depth_in c.args.runtime.now) (tree_of c.args.self.now) (environment_in c.args.runtime.now)) (returns-clause-meaning g c)

pub returns-clause-end : goal.returns-clause-end
returns-clause-end g c within = (exact unit c.run_template-answer.result _ _ _ _ (returns-clause-meaning g c) within).end

pub returns-clause-kinds : goal.returns-clause-kinds
returns-clause-kinds g c =
    performed_kinds c.run_template-answer.result (run_in (λ x. (goal.Filter-dyn g x).counts x.1) (λ x. (goal.Filter-dyn g x).answer x.1) c.args.runtime.now (tree_of c.args.self.now)) _ _ (run_ends (λ x. (goal.Filter-dyn g x).counts x.1) (λ x. (goal.Filter-dyn g x).answer x.1) c.args.runtime.now.host (partials_in c.args.runtime.now) (depth_in c.args.runtime.now) (tree_of c.args.self.now) (environment_in c.args.runtime.now)) (returns-clause-meaning g c)
