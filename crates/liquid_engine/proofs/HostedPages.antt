-- A page of a run with filters of a host.
use Rattle.std.proofs.Common.{◌≡◌, ℕ, [], cond, eqb, false, List, Option, Some, None, Result, subst}
use Rattle.std.specs.Prelude.{IfErr, IfOk}
use Rattle.liquid_model.specs.Data.{Datum}
use Rattle.liquid_model.specs.ErrorKinds.{is_memory}
use Rattle.liquid_model.specs.Maps.{Map}
use Rattle.liquid_model.specs.Texts.{Text}
use Rattle.liquid_model.specs.declared.error.Error.{Error}
use Rattle.liquid_core.specs.Environment.{Environment}
use Rattle.liquid_core.specs.declared.missing_value.Missing.{Missing}
use Rattle.liquid_model.specs.FilterAnswers.{FilterAnswer}
use Rattle.liquid_core.specs.States.{Layers, merged_layers, new_layers, with_missing}
use Rattle.liquid_evaluation.specs.Tree.{Nodes}
use Rattle.liquid_meaning.specs.Meaning.{meaning}
use Rattle.liquid_engine.specs.HostedPages.{hosted_page, setting_with}
use Rattle.liquid_engine.specs.LimitedPages.{PageWithin}
use Rattle.liquid_engine.specs.Pages.{ended_page, page_view, shown}
use Rattle.liquid_engine.specs.Performs.{Performs}
use Rattle.liquid_engine.specs.declared.limits.LimitReached.{LimitReached}
use Rattle.liquid_engine.specs.declared.rendered_page.LimitedPage.{LimitedPage}
use Rattle.liquid_engine.specs.declared.rendered_page.Page.{Page}
use Rattle.liquid_engine.proofs.LimitedPages.{page_within, within_limits}

pub hosted_within : (missing : Missing) (text : Text) (refused : ℕ) (last : LimitReached) (named : Text → FilterAnswer) (depth : ℕ) (partials : List (Text × Nodes)) («data» : Map Datum) (nodes : Nodes)
    (was : Layers) (g : Environment) (page : Page) (start : ℕ) (reached_limit : Option LimitReached) (answer : Result (Unit {0}) Error)
    → was ≡ with_missing missing (new_layers «data») → start ≡ 0 → reached_limit ≡ cond (eqb refused 0) None (Some last)
    → Performs answer (meaning (setting_with named partials) depth nodes) (within_limits [] start (merged_layers was)) (within_limits text refused g)
    → page_view page ≡ ended_page text answer → IfErr answer (λ x. is_memory x.kind ≡ false)
    → PageWithin (hosted_page missing named depth partials «data» nodes) (record { page = page; limit = reached_limit })
unfolding hosted_page
hosted_within missing text refused last named depth partials «data» nodes was g page start reached_limit answer same none same_limit performs is ran =
    let run = meaning (setting_with named partials) depth nodes in
    subst (λ l. PageWithin (shown (run (merged_layers l))) (record { page = page; limit = reached_limit })) same
    (page_within text refused last run (merged_layers was) g page start reached_limit answer none same_limit performs is ran)

-- the same of a run that no limit ends
pub hosted_whole : (result : Result LimitedPage Error) (missing : Missing) (named : Text → FilterAnswer) (depth : ℕ) (partials : List (Text × Nodes)) («data» : Map Datum) (nodes : Nodes) (was : Layers)
    → was ≡ with_missing missing (new_layers «data») → IfOk result (λ p. PageWithin (shown (meaning (setting_with named partials) depth nodes (merged_layers was))) p)
    → IfOk result (λ p. PageWithin (hosted_page missing named depth partials «data» nodes) p)
unfolding hosted_page
hosted_whole result missing named depth partials «data» nodes was same page =
    subst (λ l. IfOk result (λ p. PageWithin (shown (meaning (setting_with named partials) depth nodes (merged_layers l))) p)) same page
