-- What uses of data come to, of a template whose list of nodes is scoped.
use Rattle.std.specs.Prelude.{◌≡◌, List, ℕ, T, Bool, true}
use mathlib.Core.Path.{refl, sym, subst}
use Rattle.liquid_evaluation.specs.Evaluation.{FilterAnswers, answers_with}
use Rattle.liquid_core.specs.Environment.{Names}
use Rattle.liquid_model.specs.Texts.{Text}
use Rattle.liquid_evaluation.specs.Tree.{Nodes}
use Rattle.liquid_meaning.specs.FilterNeeds.{known_needs}
use Rattle.liquid_meaning.specs.FreeNames.{CoversPartials, PartialsRead}
use Rattle.liquid_meaning.specs.Reading.{Uses, covers}
use Rattle.liquid_meaning.specs.ProjectedRuns.{over_data}
use Rattle.liquid_meaning.proofs.AlikeMaps.{alike_empty}
use Rattle.liquid_meaning.proofs.FilterNeeds.{known_respected}
use Rattle.liquid_meaning.proofs.FreeNames.{free_data_alone}
use Rattle.liquid_model.specs.Uses.{includes}
use Rattle.liquid_model.proofs.Alike.{alike_included}
use Rattle.liquid_syntax.specs.Templates.{partials_of, template_nodes, tree_of}
use Rattle.liquid_syntax.specs.declared.partials.Partials.{Partials}
use Rattle.liquid_syntax.specs.declared.template.Template.{Template}
use Rattle.liquid_uses.specs.Covered.{covered_setting, SeesAlone, SeesDataAlone}
use Rattle.liquid_uses.specs.inside.Scopes.{AreScoped}
use Rattle.liquid_uses.proofs.FreeTree.{template_reads}

holds : (b : Bool) → b ≡ true → T b
holds b e = subst T (sym e) tt

pub data_alone : (U : Uses) (p : Partials) (nodes : Nodes) → SeesAlone U p nodes → SeesDataAlone U p nodes
data_alone U p nodes sees named depth missing ps qs alike =
    let r = sees named depth (over_data missing ps) (over_data missing qs) (record { local = alike_empty U; assigned = alike_empty U; counters = alike_empty U; globals = alike; registers = refl; missing = refl }) in
    (r.text, r.end)

pub kept_alone : (R : PartialsRead) (U K : Uses) (N : Names) (p : Partials) (t : Template) (A : List ℕ) → CoversPartials R (partials_of p) → ((answers : FilterAnswers) → covers known_needs U (covered_setting answers p) (tree_of t) ≡ true)
    → AreScoped R N (template_nodes t) A → ((q : Text) → T (N q) → includes (K q) (U q) ≡ true) → SeesDataAlone K p (tree_of t)
kept_alone R U K N p t A closed covered scoped kept named depth missing ps qs alike =
    free_data_alone known_needs U R (covered_setting (answers_with named) p) depth (tree_of t) missing ps qs (known_respected named) (holds _ (covered (answers_with named))) closed
    (λ q h. alike_included (U q) (K q) _ _ (holds _ (kept q (template_reads R N t A scoped q h))) (alike q))
