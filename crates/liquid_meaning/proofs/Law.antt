-- The law of isolation.
use Rattle.std.specs.Prelude.{◌≡◌, ℕ, zero, suc, Bool, true, false, cond, List, [], ◌∷◌, Some}
use mathlib.Core.Path.{refl, ap, subst}
use native.Mathlib.Omega.{arith}
use Rattle.std.specs.Option.{unwrap_or}
use Rattle.liquid_model.specs.Maps.{listed}
use Rattle.liquid_model.specs.Texts.{Text, same_text}
use Rattle.liquid_evaluation.specs.Tree.{Nodes}
use Rattle.liquid_core.specs.Environment.{Names, Environment, cut, put_back}
use Rattle.liquid_meaning.specs.Runs.{Run}
use Rattle.liquid_meaning.specs.Meaning.{Setting, deeper_meaning, meaning}
use Rattle.liquid_evaluation.specs.Names.{nodes_names, partials_names, run_names, mentioned}
use Rattle.liquid_meaning.specs.Isolation.{Agree, KeepsOthers, IsIsolated, names_of_run, Isolation, OthersKept}
use Rattle.liquid_meaning.proofs.Maps.{agree_cut, agree_of_cut, same_cut, put_back_same}
use Rattle.liquid_meaning.proofs.Runs.{AgreeOn, Isolated, isolated_fault}
use Rattle.liquid_meaning.specs.Within.{Within}
use Rattle.liquid_meaning.proofs.Within.{left, right, within_mentioned}
use Rattle.liquid_meaning.proofs.Nodes.{nodes_isolated}

-- ---- partials

pub within_found : (N : Names) (ps : List (Text × Nodes)) (name : Text) (nodes : Nodes) → Within N (partials_names ps) → listed ps name ≡ Some nodes → Within N (nodes_names nodes)
unfolding partials_names listed
within_found N [] name nodes h e = grind arith
within_found N (p ∷ ps) name nodes h e = at (same_text p.0 name) e (within_found N ps name nodes (right N (nodes_names p.1) _ h))
  where
    at : (b : Bool) → cond b (Some p.1) (listed ps name) ≡ Some nodes → (listed ps name ≡ Some nodes → Within N (nodes_names nodes)) → Within N (nodes_names nodes)
    at true e k = subst (λ x. Within N (nodes_names x)) (ap (λ o. unwrap_or o nodes) e) (left N (nodes_names p.1) _ h)
    at false e k = k e

module _ (N : Names) (setting : Setting) (partials : Within N (partials_names (setting.partials))) where
  partials_within : (name : Text) (nodes : Nodes) → listed setting.partials name ≡ Some nodes → Within N (nodes_names nodes)
  partials_within name nodes e = within_found N setting.partials name nodes partials e

  deeper_isolated : (depth : ℕ) (nodes : Nodes) → Within N (nodes_names nodes) → Isolated N (deeper_meaning setting depth nodes)
  unfolding deeper_meaning
  deeper_isolated zero nodes h = isolated_fault _
  deeper_isolated (suc depth) nodes h = nodes_isolated N setting (deeper_meaning setting depth) partials_within (deeper_isolated depth) nodes h

  meaning_isolated : (depth : ℕ) (nodes : Nodes) → Within N (nodes_names nodes) → Isolated N (meaning setting depth nodes)
  unfolding meaning
  meaning_isolated depth nodes h = nodes_isolated N setting (deeper_meaning setting depth) partials_within (deeper_isolated depth) nodes h

pub run_isolated : (setting : Setting) (depth : ℕ) (nodes : Nodes) → Isolated (names_of_run setting nodes) (meaning setting depth nodes)
run_isolated setting depth nodes =
    let names = run_names setting.partials nodes in
    let inside = within_mentioned names in
    meaning_isolated (mentioned names) setting (right _ (nodes_names nodes) _ inside) depth nodes (left _ (nodes_names nodes) _ inside)

-- ---- from maps that agree to same cuts, and back

module _ (N : Names) where
  pub agree_on_cut : (e : Environment) → AgreeOn N e (cut N e)
  agree_on_cut e = record { local = agree_cut N e.local; assigned = agree_cut N e.assigned; counters = agree_cut N e.counters; globals = agree_cut N e.globals; registers = refl; missing = refl }

  pub agree_on : (e f : Environment) → Agree N e f → AgreeOn N e f
  agree_on e f h = record {
    local = agree_of_cut N _ _ (ap (λ g. g.local) h);
    assigned = agree_of_cut N _ _ (ap (λ g. g.assigned) h);
    counters = agree_of_cut N _ _ (ap (λ g. g.counters) h);
    globals = agree_of_cut N _ _ (ap (λ g. g.globals) h);
    registers = ap (λ g. g.registers) h;
    missing = ap (λ g. g.missing) h;
  }

  pub same_cuts : (e f : Environment) → AgreeOn N e f → Agree N e f
  same_cuts e f h = λ i. record {
    local = same_cut N e.local f.local h.local i;
    assigned = same_cut N e.assigned f.assigned h.assigned i;
    counters = same_cut N e.counters f.counters h.counters i;
    globals = same_cut N e.globals f.globals h.globals i;
    registers = h.registers i;
    missing = h.missing i;
  }

  -- an environment is what another holds under the names of N, with what was kept of others put back
  restored_same : (e g h : Environment) → AgreeOn N g h → KeepsOthers N e g → g ≡ put_back N e h
  restored_same e g h agree kept = λ i. record {
    local = put_back_same N e.local h.local g.local agree.local (λ name t j. kept.local j name) i;
    assigned = put_back_same N e.assigned h.assigned g.assigned agree.assigned kept.assigned i;
    counters = put_back_same N e.counters h.counters g.counters agree.counters kept.counters i;
    globals = put_back_same N e.globals h.globals g.globals agree.globals (λ name t j. kept.globals j name) i;
    registers = agree.registers i;
    missing = agree.missing i;
  }

  isolated_law : {A : Type 0} (m : Run A) → Isolated N m → IsIsolated m N
  isolated_law m im e =
      let r = im e (cut N e) (agree_on_cut e) in
      λ i. record { text = r.text i; environment = restored_same e (m e).environment (m (cut N e)).environment r.agree r.kept i; end = r.end i }

pub isolation : Isolation
isolation setting depth nodes = isolated_law _ _ (run_isolated setting depth nodes)

pub others_kept : OthersKept
others_kept setting depth nodes e = (run_isolated setting depth nodes e e (record { local = λ n h. refl; assigned = λ n h. refl; counters = λ n h. refl; globals = λ n h. refl; registers = refl; missing = refl })).kept
