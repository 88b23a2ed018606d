-- What uses that cover a run come to, and that names that are whole do.
use Rattle.std.specs.Prelude.{◌≡◌, T, Bool, true, cond}
use mathlib.Core.Path.{sym, ap, subst, ◌∙◌, fun_ext}
use Rattle.liquid_core.specs.Environment.{Names}
use Rattle.liquid_evaluation.specs.Evaluation.{FilterAnswers, answers_with}
use Rattle.liquid_evaluation.specs.Names.{mentioned, run_names}
use Rattle.liquid_meaning.specs.FilterNeeds.{known_needs}
use Rattle.liquid_meaning.specs.Reading.{Uses, covers}
use Rattle.liquid_meaning.proofs.Covering.{names_cover}
use Rattle.liquid_meaning.proofs.FilterNeeds.{known_respected}
use Rattle.liquid_meaning.proofs.Reading.{reads_alone}
use Rattle.liquid_model.specs.Texts.{Text}
use Rattle.liquid_model.specs.Uses.{everything, nothing}
use Rattle.liquid_syntax.specs.Templates.{partials_of, tree_of}
use Rattle.liquid_syntax.specs.declared.partials.Partials.{Partials}
use Rattle.liquid_syntax.specs.declared.template.Template.{Template}
use Rattle.liquid_uses.specs.Covered.{covered_setting, SeesAlone}

holds : (b : Bool) → b ≡ true → T b
holds b e = subst T (sym e) tt

pub sees_alone : (U : Uses) (p : Partials) (t : Template) → ((answers : FilterAnswers) → covers known_needs U (covered_setting answers p) (tree_of t) ≡ true) → SeesAlone U p (tree_of t)
sees_alone U p t covered named depth e f alike =
    reads_alone known_needs U (covered_setting (answers_with named) p) depth (tree_of t) (known_respected named) (holds _ (covered (answers_with named))) e f alike

pub whole_covers : (U : Uses) (N : Names) (p : Partials) (t : Template) → ((name : Text) → U name ≡ cond (N name) everything nothing) → N ≡ mentioned (run_names (partials_of p) (tree_of t))
    → (answers : FilterAnswers) → covers known_needs U (covered_setting answers p) (tree_of t) ≡ true
whole_covers U N p t whole named answers =
    let all : U ≡ (λ name. cond (mentioned (run_names (partials_of p) (tree_of t)) name) everything nothing) = fun_ext (λ name. whole name ∙ ap (λ M. cond (M name) everything nothing) named) in
    subst (λ V. covers known_needs V (covered_setting answers p) (tree_of t) ≡ true) (sym all) (names_cover known_needs (covered_setting answers p) (tree_of t))
