-- A run that is asked whether it may go on.
use Rattle.std.proofs.Common.{◌≡◌, [], Bool, true, false, Result, Ok, Err, inl, inr, refl, sym, subst}
use Rattle.std.specs.Prelude.{MatchBool, ⊤}
use Rattle.liquid_model.specs.declared.error.Error.{Error}
use Rattle.liquid_model.specs.declared.error.ErrorKind.{ErrorKind}
use Rattle.liquid_model.specs.declared.error.ErrorKind.TheVariants.{Memory, Write}
use Rattle.liquid_model.specs.ErrorKinds.{IsKindOrMemory, is_memory}
use Rattle.liquid_core.specs.Environment.{Environment}
use Rattle.liquid_engine.specs.Failures.{OneFailed}
use Rattle.liquid_engine.specs.Performs.{Configuration, Cut, IsCut, Meets, Performs, WritesText, unit}
use Rattle.liquid_engine.specs.Sinks.{Sink}
use Rattle.liquid_engine.proofs.Joined.{by_rule, memory_of}
use Rattle.liquid_engine.proofs.Sinks.{AddsPart-longer, Adds-nil, Adds-same, part-of_none}
use Rattle.liquid_evaluation.specs.Tree as tree
use Rattle.liquid_meaning.specs.Meaning.{Setting, nodes_meaning}
use Rattle.liquid_meaning.specs.Runs.{Nothing, Run, done}
use Rattle.liquid_meaning.proofs.Steps.{nodes_meaning-none}

pub refused_cut : {V : Type 0} (e : Error) (s u : Sink) → IsKindOrMemory Write e.kind → OneFailed s.failures u.failures → u.buffer ≡ s.buffer → u.contents ≡ s.contents → Cut {V = V} (Err e) [] s u
refused_cut {V} e s u kind failed buffer contents = record { cause = on (is_memory e.kind) refl kind; adds = part-of_none s u [] (Adds-same s u buffer contents) }
  where
    on : (b : Bool) → is_memory e.kind ≡ b → MatchBool b ⊤ (Write ≡ e.kind) → IsCut {V = V} (Err e) s.failures u.failures
    on true is k = inl (memory_of e.kind is, inr failed)
    on false is k = inr (sym k, failed)

-- want of memory before anything was written
pub memory_cut : {V : Type 0} (e : Error) (s : Sink) → e.kind ≡ Memory → Cut {V = V} (Err e) [] s s
memory_cut e s is = record { cause = inl (is, inl refl); adds = part-of_none s s [] (Adds-nil s) }

-- a run that may not begin has written a beginning of its text: nothing
pub may_not_begin : {V : Type 0} (e : Error) (m : Run Nothing) (s u : Sink) (before after : Environment) → Cut {V = V} (Err e) [] s u → Performs (Err e) m (record { sink = s; environment = before }) (record { sink = u; environment = after })
may_not_begin e m s u before after h = inr (record { cause = h.cause; adds = AddsPart-longer s u [] (m before).text h.adds })

-- a run from where it was asked
pub performs_from : (r : Result (Unit {0}) Error) (m : Run Nothing) (s u : Sink) (e : Environment) (after : Configuration) → u ≡ s → Performs r m (record { sink = u; environment = e }) after → Performs r m (record { sink = s; environment = e }) after
performs_from r m s u e after same h = subst (λ z. Performs r m (record { sink = z; environment = e }) after) same h

-- a step that may not begin has done a part of any
pub may_not_meet : {U V A : Type 0} (view : V → A) (e : Error) (m : Run A) (p u : Configuration) → Cut {V = U} (Err e) [] p.sink u.sink → Meets view (Err e) m p u
may_not_meet view e m p u h = inr (record { cause = h.cause; adds = AddsPart-longer p.sink u.sink [] (m p.environment).text h.adds })

-- a step from where it was asked
pub meets_from : {V A : Type 0} (view : V → A) (r : Result V Error) (m : Run A) (s u : Sink) (e : Environment) (after : Configuration) → u ≡ s → Meets view r m (record { sink = u; environment = e }) after → Meets view r m (record { sink = s; environment = e }) after
meets_from view r m s u e after same h = subst (λ z. Meets view r m (record { sink = z; environment = e }) after) same h

-- ---- a list without nodes

pub nothing_refused : {V : Type 0} (e : Error) (s u : Sink) → Cut {V = V} (Err e) [] s u → WritesText (Err e) [] s u
nothing_refused e s u h environment = inr (record { cause = h.cause; adds = h.adds })

pub nothing_done : (s u : Sink) → u ≡ s → WritesText (Ok tt) [] s u
nothing_done s u same = subst (λ z. WritesText (Ok tt) [] s z) (sym same) (λ e. inl (record { end = refl; within = refl; adds = Adds-nil s; none_failed = refl; same = refl }))

pub no_nodes_met : (setting : Setting) (deeper : tree.Nodes → Run Nothing) (r : Result (Unit {0}) Error) (s u : Sink) (e : Environment) → WritesText r [] s u → Performs r (nodes_meaning setting deeper tree.no_nodes) (record { sink = s; environment = e }) (record { sink = u; environment = e })
unfolding done
no_nodes_met setting deeper r s u e h = by_rule (nodes_meaning-none setting deeper) (h e)

-- no write failed in a step that was done
pub done_unfailed : (value : Unit {0}) (m : Run Nothing) (p u : Configuration) → Performs (Ok value) m p u → u.sink.failures ≡ p.sink.failures
done_unfailed value m p u (inl x) = x.none_failed
done_unfailed value m p u (inr y) = absurd y.cause
