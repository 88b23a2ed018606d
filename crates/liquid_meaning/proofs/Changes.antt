-- The changes of a run over an environment are those over its cut.
use Rattle.std.specs.Prelude.{◌≡◌, Bool, true, false, cond, not, T, Option, Some, None}
use mathlib.Core.Path.{refl, sym, fun_ext, ap, ◌∙◌}
use Rattle.liquid_model.specs.Maps.{Map, retain_keys}
use Rattle.liquid_model.specs.Texts.{Text}
use Rattle.liquid_model.specs.Data.{Datum}
use Rattle.liquid_model.proofs.Lawful.{same_itself}
use Rattle.liquid_core.specs.Environment.{Names, Environment, cut, cut_map}
use Rattle.liquid_meaning.specs.Runs.{Run}
use Rattle.liquid_meaning.specs.Meaning.{meaning}
use Rattle.liquid_meaning.specs.Isolation.{HoldsOutside, is_new, changed_pairs, changes, names_of_run, IsAsCut, Headline, AgreeingRuns}
use Rattle.liquid_meaning.proofs.Maps.{AgreeAt, agree_cut}
use Rattle.liquid_meaning.proofs.Runs.{Isolated}
use Rattle.liquid_meaning.proofs.Law.{run_isolated, agree_on_cut, agree_on, same_cuts}

unchanged : (o : Option Datum) → is_new o o ≡ false
unchanged None = refl
unchanged (Some d) = ap not (same_itself d)

-- ---- maps of changes

module _ (N : Names) where
  same_changes : (m n k l : Map Datum) → AgreeAt N m n → AgreeAt N k l → HoldsOutside N m k → HoldsOutside N n l → changed_pairs m k ≡ changed_pairs n l
  unfolding retain_keys
  same_changes m n k l before after kept kept' = fun_ext (λ name. at name (N name) (before name) (after name) (kept name) (kept' name))
    where
      same : {o p q r : Option Datum} → o ≡ p → q ≡ r → cond (is_new o q) q None ≡ cond (is_new p r) r None
      same e f i = cond (is_new (e i) (f i)) (f i) None

      none : {o q : Option Datum} → q ≡ o → cond (is_new o q) q None ≡ None
      none {o = o} e = (λ i. cond (is_new o (e i)) (e i) None) ∙ ap (λ b. cond b o None) (unchanged o)

      at : (name : Text) (b : Bool) → (T b → m name ≡ n name) → (T b → k name ≡ l name) → (T (not b) → k name ≡ m name) → (T (not b) → l name ≡ n name)
          → cond (is_new (m name) (k name)) (k name) None ≡ cond (is_new (n name) (l name)) (l name) None
      at name true p q r s = same (p tt) (q tt)
      at name false p q r s = none (r tt) ∙ sym (none (s tt))

  as_cut : {A : Type 0} (m : Run A) → Isolated N m → (e : Environment) → IsAsCut m N e
  as_cut m im e =
      let r = im e (cut N e) (agree_on_cut N e) in
      let s = im (cut N e) (cut N e) (record { local = λ n h. refl; assigned = λ n h. refl; counters = λ n h. refl; globals = λ n h. refl; registers = refl; missing = refl }) in
      record {
        text = r.text;
        end = r.end;
        changes = λ i. record {
          assigned = same_changes e.assigned (cut_map N e.assigned) (m e).environment.assigned (m (cut N e)).environment.assigned (agree_cut N e.assigned) r.agree.assigned r.kept.assigned s.kept.assigned i;
          counters = same_changes e.counters (cut_map N e.counters) (m e).environment.counters (m (cut N e)).environment.counters (agree_cut N e.counters) r.agree.counters r.kept.counters s.kept.counters i;
          registers = r.agree.registers i;
        };
        others = r.kept;
      }

pub headline : Headline
headline setting depth nodes e = as_cut _ _ (run_isolated setting depth nodes) e

pub agreeing_runs : AgreeingRuns
agreeing_runs setting depth nodes e f h =
    let N = names_of_run setting nodes in
    let m = meaning setting depth nodes in
    let r = run_isolated setting depth nodes e f (agree_on N e f h) in
    record {
      text = r.text;
      end = r.end;
      changes = (headline setting depth nodes e).changes ∙ (λ i. changes (h i) (m (h i)).environment) ∙ sym (headline setting depth nodes f).changes;
      environments = same_cuts N _ _ r.agree;
    }
