use Rattle.std.proofs.Common.{string_bytes, refl, ap, sym, ◌∙◌, subst}
use Rattle.std.proofs.lemmas.Result.{err_from_is_err_and}
use Rattle.liquid_model.specs.Answer.{Answers}
use Rattle.liquid_core.specs.Environment.{cut}
use Rattle.liquid_syntax.specs.Templates.{tree_of}
use Rattle.liquid_meaning.specs.Isolation.{changes}
use Rattle.liquid_meaning.specs.Runs.{ended_with}
use Rattle.liquid_engine.specs.Performs.{is_refused}
use Rattle.liquid_engine.specs.Rendered.{names_in, run_in}
use Rattle.liquid_engine.specs.RuntimeView.{depth_in, environment_in, partials_in, setting_in}
use Rattle.liquid_meaning.proofs.Changes.{headline}
use Rattle.liquid_engine.proofs.RenderKinds.{answered_kinds, run_ends}
use Rattle.liquid_engine.proofs.Written.{environment_left, fault_answered, text_answered}
use Rattle.liquid_engine.proofs.render.TemplateRenderable.render.Goals as goal

pub returns-clause-text : goal.returns-clause-text
returns-clause-text g c =
    let run = run_in (λ x. (goal.Filter-dyn g x).counts x.1) (λ x. (goal.Filter-dyn g x).answer x.1) c.args.runtime.now (tree_of c.args.self.now) in
    text_answered c.text_of_run-text.result.1 c.in_ok-answer.field-0 c.text_of_run-text.result.0 run (environment_in c.args.runtime.now) (environment_in c.text_of_run-text.new.runtime) c.in_ok-answer.was c.text_of_run-text.ensures.performs

pub returns-clause-environment : goal.returns-clause-environment
returns-clause-environment g c within =
    let run = run_in (λ x. (goal.Filter-dyn g x).counts x.1) (λ x. (goal.Filter-dyn g x).answer x.1) c.args.runtime.now (tree_of c.args.self.now) in
    environment_left c.text_of_run-text.result.1 c.text_of_run-text.result.1 (string_bytes c.text_of_run-text.result.0) run (environment_in c.args.runtime.now) (environment_in c.text_of_run-text.new.runtime) refl c.text_of_run-text.ensures.performs (ap is_refused c.in_ok-answer.was)

pub returns-clause-isolated : goal.returns-clause-isolated
returns-clause-isolated g c =
    let setting = setting_in (λ x. (goal.Filter-dyn g x).counts x.1) (λ x. (goal.Filter-dyn g x).answer x.1) c.args.runtime.now in
    let run = run_in (λ x. (goal.Filter-dyn g x).counts x.1) (λ x. (goal.Filter-dyn g x).answer x.1) c.args.runtime.now (tree_of c.args.self.now) in
    let law = headline setting (depth_in c.args.runtime.now) (tree_of c.args.self.now) (environment_in c.args.runtime.now) in
    let o = run (cut (names_in c.args.runtime.now (tree_of c.args.self.now)) (environment_in c.args.runtime.now)) in
    (sym (ap (λ t. ended_with t (run (environment_in c.args.runtime.now)).end) law.text ∙ ap (ended_with o.text) law.end)) ∙ returns-clause-text g c

pub returns-clause-changed : goal.returns-clause-changed
returns-clause-changed g c within =
    let setting = setting_in (λ x. (goal.Filter-dyn g x).counts x.1) (λ x. (goal.Filter-dyn g x).answer x.1) c.args.runtime.now in
    let law = headline setting (depth_in c.args.runtime.now) (tree_of c.args.self.now) (environment_in c.args.runtime.now) in
    ap (changes (environment_in c.args.runtime.now)) (returns-clause-environment g c within) ∙ law.changes

pub returns-in_err-answer-clause-text : goal.returns-in_err-answer-clause-text
returns-in_err-answer-clause-text g c =
    let run = run_in (λ x. (goal.Filter-dyn g x).counts x.1) (λ x. (goal.Filter-dyn g x).answer x.1) c.args.runtime.now (tree_of c.args.self.now) in
    let p = err_from_is_err_and c.from_residual.result c.from_residual.ensures.1 in
    rw (p.1, p.2) (fault_answered c.text_of_run-text.result.1 c.in_err-answer.field-0.0 (string_bytes c.text_of_run-text.result.0) run (environment_in c.args.runtime.now) (environment_in c.text_of_run-text.new.runtime) c.in_err-answer.was c.text_of_run-text.ensures.performs)

pub returns-in_err-answer-clause-environment : goal.returns-in_err-answer-clause-environment
returns-in_err-answer-clause-environment g c within =
    let run = run_in (λ x. (goal.Filter-dyn g x).counts x.1) (λ x. (goal.Filter-dyn g x).answer x.1) c.args.runtime.now (tree_of c.args.self.now) in
    let p = err_from_is_err_and c.from_residual.result c.from_residual.ensures.1 in
    environment_left c.from_residual.result c.text_of_run-text.result.1 (string_bytes c.text_of_run-text.result.0) run (environment_in c.args.runtime.now) (environment_in c.text_of_run-text.new.runtime) (ap is_refused c.in_err-answer.was ∙ rw (p.1, p.2) refl) c.text_of_run-text.ensures.performs within

pub returns-in_err-answer-clause-isolated : goal.returns-in_err-answer-clause-isolated
returns-in_err-answer-clause-isolated g c =
    let setting = setting_in (λ x. (goal.Filter-dyn g x).counts x.1) (λ x. (goal.Filter-dyn g x).answer x.1) c.args.runtime.now in
    let run = run_in (λ x. (goal.Filter-dyn g x).counts x.1) (λ x. (goal.Filter-dyn g x).answer x.1) c.args.runtime.now (tree_of c.args.self.now) in
    let law = headline setting (depth_in c.args.runtime.now) (tree_of c.args.self.now) (environment_in c.args.runtime.now) in
    let o = run (cut (names_in c.args.runtime.now (tree_of c.args.self.now)) (environment_in c.args.runtime.now)) in
    subst (λ x. Answers (λ t. string_bytes t) c.from_residual.result x) (ap (λ t. ended_with t (run (environment_in c.args.runtime.now)).end) law.text ∙ ap (ended_with o.text) law.end) (returns-in_err-answer-clause-text g c)

pub returns-in_err-answer-clause-changed : goal.returns-in_err-answer-clause-changed
returns-in_err-answer-clause-changed g c within =
    let setting = setting_in (λ x. (goal.Filter-dyn g x).counts x.1) (λ x. (goal.Filter-dyn g x).answer x.1) c.args.runtime.now in
    let law = headline setting (depth_in c.args.runtime.now) (tree_of c.args.self.now) (environment_in c.args.runtime.now) in
    ap (changes (environment_in c.args.runtime.now)) (returns-in_err-answer-clause-environment g c within) ∙ law.changes

pub returns-in_err-answer-clause-kinds : goal.returns-in_err-answer-clause-kinds
returns-in_err-answer-clause-kinds g c =
    answered_kinds (λ t. string_bytes t) c.from_residual.result _ _ (run_ends (λ x. (goal.Filter-dyn g x).counts x.1) (λ x. (goal.Filter-dyn g x).answer x.1) c.args.runtime.now.host (partials_in c.args.runtime.now) (depth_in c.args.runtime.now) (tree_of c.args.self.now) (environment_in c.args.runtime.now)) (returns-in_err-answer-clause-text g c)
