-- How what steps have done is put together.
use Rattle.std.proofs.Common.{◌≡◌, [], Bool, true, false, Some, None, Result, Ok, Err, inl, inr, refl, sym, ap, subst, ◌∙◌}
use Rattle.std.specs.Prelude.{MatchBool, ⊤}
use Rattle.liquid_model.specs.Texts.{Text}
use Rattle.liquid_model.specs.Data.{Datum}
use Rattle.liquid_model.specs.Maps.{Map, merged}
use Rattle.liquid_model.specs.declared.error.Error.{Error}
use Rattle.liquid_model.specs.declared.error.ErrorKind.{ErrorKind}
use Rattle.liquid_model.specs.declared.error.ErrorKind.TheVariants.{Memory}
use Rattle.liquid_core.specs.declared.interrupt.Interrupt.{Interrupt}
use Rattle.liquid_model.specs.ErrorKinds.{IsKindOrMemory, is_memory, is_refusal}
use Rattle.liquid_model.specs.Answer.{Answers, IsValueOrMemory}
use Rattle.liquid_core.specs.Environment.{Environment}
use Rattle.liquid_core.specs.States.{Layers, merged_layers}
use Rattle.liquid_evaluation.specs.Tree.{Node, Nodes, no_nodes, node}
use Rattle.liquid_engine.specs.Sinks.{Sink, AddsPart}
use Rattle.liquid_meaning.specs.Runs.{Nothing, Outcome, Run, done, read_environment, evaluate, fault, change, write, after_text, go_on, ◌>>=◌, with_scope, buffered, ended_with}
use Rattle.liquid_meaning.specs.Effects.{if_none, unless_interrupted}
use Rattle.liquid_meaning.specs.Meaning.{Setting, node_meaning, nodes_meaning}
use Rattle.liquid_engine.specs.Performs.{Configuration, Exact, MeetsAt, Meets, Performs, WritesText, IsCut, unit}
use Rattle.liquid_meaning.proofs.Steps.{bind_ok, bind_fault, nodes_meaning-node, nodes_meaning-none}
use Rattle.liquid_engine.proofs.Sinks.{Adds-nil, Adds-trans, AddsPart-after, AddsPart-longer, AddsPart-none, Around, around-adds, around-text, part-of_none}

-- the same run, as a rule has it
pub by_rule : {V A : Type 0} {view : V → A} {r : Result V Error} {m n : Run A} {p q : Configuration} → m ≡ n → Meets view r n p q → Meets view r m p q
by_rule {view = view} {r = r} {p = p} {q = q} e h = subst (λ x. Meets view r x p q) (sym e) h

pub after_met : {V A U B : Type 0} (va : V → A) (vb : U → B) (value : V) (r : Result U Error) (first : Outcome A) (next : Outcome B) (s t u : Sink) (mid g : Environment)
    → Exact va (Ok value) first s t mid → MeetsAt vb r next t u g → MeetsAt vb r (after_text first.text next) s u g
after_met va vb value r first next s t u mid g p (inl q) = inl (record {
  end = q.end;
  within = q.within;
  adds = Adds-trans s t u first.text next.text p.adds q.adds;
  none_failed = q.none_failed ∙ p.none_failed;
  same = q.same;
})
after_met va vb value r first next s t u mid g p (inr q) = inr (record {
  cause = subst (λ n. IsCut r n u.failures) p.none_failed q.cause;
  adds = AddsPart-after s t u first.text next.text p.adds q.adds;
})

-- a first step that went on, and what followed it
pub bind_met : {V A U B : Type 0} (va : V → A) (vb : U → B) (value : V) (r : Result U Error) (m : Run A) (k : A → Run B) (p q u : Configuration)
    → Meets va (Ok value) m p q → Meets vb r (k (va value)) q u → Meets vb r (m >>= k) p u
bind_met va vb value r m k p q u (inl x) y =
    let o = m p.environment in
    let there : (m >>= k) p.environment ≡ after_text o.text (k (va value) o.environment) = bind_ok m k p.environment (va value) (sym x.end) in
    let here : after_text o.text (k (va value) q.environment) ≡ after_text o.text (k (va value) o.environment) = ap (λ g. after_text o.text (k (va value) g)) x.same in
    subst (λ z. MeetsAt vb r z p.sink u.sink u.environment) (here ∙ sym there)
    (after_met va vb value r o (k (va value) q.environment) p.sink q.sink u.sink q.environment u.environment x y)
bind_met va vb value r m k p q u (inr x) y = absurd x.cause

part_bound : {A B : Type 0} (m : Run A) (k : A → Run B) (e : Environment) (s t : Sink) → AddsPart s t (m e).text → AddsPart s t ((m >>= k) e).text
unfolding ◌>>=◌ go_on
part_bound {A = A} m k e s t h = on (m e).end
  where
    on : (x : Result A ErrorKind) → AddsPart s t (go_on k (m e).text (m e).environment x).text
    on (Ok a) = AddsPart-longer s t (m e).text _ h
    on (Err kind) = h

-- a first step that ended by an error ends what it begins
pub bind_faulted : {V A U B : Type 0} (va : V → A) (vb : U → B) (e : Error) (m : Run A) (k : A → Run B) (p q : Configuration)
    → Meets va (Err e) m p q → Meets vb (Err e) (m >>= k) p q
bind_faulted va vb e m k p q (inl x) =
    subst (λ z. MeetsAt vb (Err e) z p.sink q.sink q.environment) (sym (bind_fault m k p.environment e.kind (sym x.end)))
    (inl (record { end = refl; within = x.within; adds = x.adds; none_failed = x.none_failed; same = x.same }))
bind_faulted va vb e m k p q (inr x) = inr (record { cause = x.cause; adds = part_bound m k p.environment p.sink q.sink x.adds })

-- ---- want of memory

-- the same, with every argument inferred from the goal
pub memory_at : {V A : Type 0} {view : V → A} {o : Outcome A} {s : Sink} {h : Environment} (e : Error) → e.kind ≡ Memory → MeetsAt view (Err e) o s s h
memory_at e is = inr (record { cause = inl (is, inl refl); adds = AddsPart-none _ _ })

pub memory_of : (k : ErrorKind) → is_memory k ≡ true → k ≡ Memory
memory_of Memory h = refl
memory_of _ h = cc

-- ---- values

pub value_met : {V A : Type 0} (view : V → A) (value : V) (f : Environment → Result A ErrorKind) (p : Configuration) → Answers view (Ok value) (f p.environment) → Meets view (Ok value) (evaluate f) p p
unfolding evaluate
value_met view value f p h = inl (record { end = sym h; within = refl; adds = Adds-nil p.sink; none_failed = refl; same = refl })

pub no_value_met : {V A : Type 0} (view : V → A) (e : Error) (f : Environment → Result A ErrorKind) (p : Configuration) → Answers view (Err e) (f p.environment) → Meets view (Err e) (evaluate f) p p
unfolding evaluate
no_value_met view e f p h = on (is_memory e.kind) refl h
  where
    on : (b : Bool) → is_memory e.kind ≡ b → MatchBool b ⊤ ((f p.environment ≡ Err e.kind) × (is_refusal e.kind ≡ false)) → Meets view (Err e) (evaluate f) p p
    on true is h = inr (record { cause = inl (memory_of e.kind is, inl refl); adds = AddsPart-none p.sink _ })
    on false is h = inl (record { end = sym h.0; within = h.1; adds = Adds-nil p.sink; none_failed = refl; same = refl })

-- the same value, or the same kind
pub evaluated_as : {V A : Type 0} (view : V → A) (r : Result V Error) (f g : Environment → Result A ErrorKind) (p q : Configuration) → f p.environment ≡ g p.environment → Meets view r (evaluate g) p q → Meets view r (evaluate f) p q
unfolding evaluate
evaluated_as view r f g p q is h =
    subst (λ x. MeetsAt view r (record { text = []; environment = p.environment; end = x }) p.sink q.sink q.environment) (sym is) h

-- a fault of this kind
pub answers_fault : {X Y : Type 0} (view : X → Y) (wanted : ErrorKind) (e : Error) → is_refusal wanted ≡ false → IsKindOrMemory wanted e.kind → Answers view (Err e) (Err wanted)
answers_fault {Y = Y} view wanted e within h = on (is_memory e.kind) h
  where
    err : ErrorKind → Result Y ErrorKind
    err k = Err k

    on : (b : Bool) → MatchBool b ⊤ (wanted ≡ e.kind) → MatchBool b ⊤ ((◌≡◌ {A = Result Y ErrorKind} (Err wanted) (Err e.kind)) × (is_refusal e.kind ≡ false))
    on true k = tt
    on false k = ((ap (λ x. Err x) k), (sym (ap is_refusal k) ∙ within))

pub fault_met : (wanted : ErrorKind) (e : Error) (p : Configuration) → is_refusal wanted ≡ false → IsKindOrMemory wanted e.kind → Performs (Err e) (fault wanted) p p
unfolding fault evaluate
fault_met wanted e p within h = no_value_met {V = Unit {0}} unit e (λ g. Err wanted) p (answers_fault {X = Unit {0}} unit wanted e within h)

-- a value, and what followed it
pub given_met : {V A U B : Type 0} (va : V → A) (vb : U → B) (value : V) (r : Result U Error) (f : Environment → Result A ErrorKind) (k : A → Run B) (p u : Configuration)
    → Answers va (Ok value) (f p.environment) → Meets vb r (k (va value)) p u → Meets vb r (evaluate f >>= k) p u
given_met va vb value r f k p u h next = bind_met va vb value r (evaluate f) k p p u (value_met va value f p h) next

pub refused_met : {V A U B : Type 0} (va : V → A) (vb : U → B) (e : Error) (f : Environment → Result A ErrorKind) (k : A → Run B) (p : Configuration)
    → Answers va (Err e) (f p.environment) → Meets vb (Err e) (evaluate f >>= k) p p
refused_met va vb e f k p h = bind_faulted va vb e (evaluate f) k p p (no_value_met va e f p h)

-- what is read, and what followed it
pub read_met : {A U B : Type 0} (vb : U → B) (r : Result U Error) (f : Environment → A) (k : A → Run B) (p u : Configuration) → Meets vb r (k (f p.environment)) p u → Meets vb r (read_environment f >>= k) p u
unfolding read_environment
read_met vb r f k p u next = bind_met (λ a. a) vb (f p.environment) r (read_environment f) k p p u (inl (record { end = refl; within = refl; adds = Adds-nil p.sink; none_failed = refl; same = refl })) next

-- ---- texts and changes

pub write_met : (r : Result (Unit {0}) Error) (t : Text) (s u : Sink) (e : Environment) → WritesText r t s u → Performs r (write t) (record { sink = s; environment = e }) (record { sink = u; environment = e })
unfolding write
write_met r t s u e h = h e

pub change_met : (r : Result (Unit {0}) Error) (f : Environment → Environment) (s : Sink) (e g : Environment) → IsValueOrMemory (λ _. g) r (f e) → Performs r (change f) (record { sink = s; environment = e }) (record { sink = s; environment = g })
unfolding change
change_met (Ok value) f s e g h = inl (record { end = refl; within = refl; adds = Adds-nil s; none_failed = refl; same = h })
change_met (Err x) f s e g h = inr (record { cause = inl (h, inl refl); adds = AddsPart-none s [] })

pub gives_merged : (r : Result (Unit {0}) Error) (l m : Layers) → IsValueOrMemory (λ _. l) r m → IsValueOrMemory (λ _. merged_layers l) r (merged_layers m)
gives_merged (Ok value) l m h = ap merged_layers h
gives_merged (Err x) l m h = h

pub done_met : (value : Unit {0}) (p : Configuration) → Performs (Ok value) (done tt) p p
unfolding done
done_met value p = inl (record { end = refl; within = refl; adds = Adds-nil p.sink; none_failed = refl; same = refl })

-- ---- scopes and buffers

pub scope_met : {V A : Type 0} (view : V → A) (r : Result V Error) (scope : Map Datum) (m : Run A) (s t : Sink) (e g : Environment)
    → Meets view r m (record { sink = s; environment = record e { local = merged scope e.local } }) (record { sink = t; environment = g })
    → Meets view r (with_scope scope m) (record { sink = s; environment = e }) (record { sink = t; environment = record g { local = e.local } })
unfolding with_scope
scope_met view r scope m s t e g (inl x) =
    let back : Environment → Environment = λ h. record h { local = e.local } in
    inl (record { end = x.end; within = x.within; adds = x.adds; none_failed = x.none_failed; same = ap back x.same })
scope_met view r scope m s t e g (inr x) = inr (record { cause = x.cause; adds = x.adds })

pub buffered_met : {V A : Type 0} (view : V → A) (value : V) (m : Run A) (s p q u : Sink) (text : Text) (e g : Environment)
    → Around s p q u text → Meets view (Ok value) m (record { sink = p; environment = e }) (record { sink = q; environment = g })
    → Meets (λ t. t) (Ok text) (buffered m) (record { sink = s; environment = e }) (record { sink = u; environment = g })
unfolding buffered
buffered_met view value m s p q u text e g around (inl x) = inl (record {
  end = ap Ok (around-text s p q u text (m e).text around x.adds) ∙ ap (ended_with (m e).text) x.end;
  within = refl;
  adds = around-adds s p q u text (m e).text around x.adds;
  none_failed = around.failures_out ∙ x.none_failed ∙ around.failures_in;
  same = x.same;
})
buffered_met view value m s p q u text e g around (inr x) = absurd x.cause

pub buffered_faulted : {V A U : Type 0} (view : V → A) (vb : U → Text) (x : Error) (m : Run A) (s p q u : Sink) (text : Text) (e g : Environment)
    → Around s p q u text → Meets view (Err x) m (record { sink = p; environment = e }) (record { sink = q; environment = g })
    → Meets vb (Err x) (buffered m) (record { sink = s; environment = e }) (record { sink = u; environment = g })
unfolding buffered
buffered_faulted view vb x m s p q u text e g around (inl y) = inl (record {
  end = ap (ended_with (m e).text) y.end;
  within = y.within;
  adds = around-adds s p q u text (m e).text around y.adds;
  none_failed = around.failures_out ∙ y.none_failed ∙ around.failures_in;
  same = y.same;
})
buffered_faulted {V = V} view vb x m s p q u text e g around (inr y) = inr (record {
  cause =
      let inside = subst (λ n. IsCut {V = V} (Err x) n q.failures) around.failures_in y.cause in
      subst (λ n. IsCut {V = V} (Err x) s.failures n) (sym around.failures_out) inside;
  adds = part-of_none s u _ (around-adds s p q u text y.adds.front around y.adds.adds);
})

-- want of memory after a buffered run
pub buffered_memory : {V A U B : Type 0} (view : V → A) (vb : U → B) (value : V) (x : Error) (m : Run A) (o : Outcome B) (s p q u : Sink) (text : Text) (e g h : Environment)
    → Around s p q u text → Meets view (Ok value) m (record { sink = p; environment = e }) (record { sink = q; environment = g }) → x.kind ≡ Memory → MeetsAt vb (Err x) o s u h
buffered_memory view vb value x m o s p q u text e g h around (inl y) is = inr (record {
  cause = inl (is, inl (around.failures_out ∙ y.none_failed ∙ around.failures_in));
  adds = part-of_none s u _ (around-adds s p q u text (m e).text around y.adds);
})
buffered_memory view vb value x m o s p q u text e g h around (inr y) is = absurd y.cause

-- ---- lists

unless_none : (r : Result (Unit {0}) Error) (m : Run Nothing) (q u : Configuration) → q.environment.registers.interrupt ≡ None → Performs r m q u → Performs r (unless_interrupted m) q u
unfolding unless_interrupted
unless_none r m q u is h = subst (λ i. MeetsAt unit r (if_none i m q.environment) q.sink u.sink u.environment) (sym is) h

unless_some : (value : Unit {0}) (m : Run Nothing) (q : Configuration) (i : Interrupt) → q.environment.registers.interrupt ≡ Some i → Performs (Ok value) (unless_interrupted m) q q
unfolding unless_interrupted
unless_some value m q i is = subst (λ j. MeetsAt unit (Ok value) (if_none j m q.environment) q.sink q.sink q.environment) (sym is) (done_met value q)

module _ (setting : Setting) (deeper : Nodes → Run Nothing) where
  pub list_on : (value : Unit {0}) (r : Result (Unit {0}) Error) (n : Node) (more : Nodes) (p q u : Configuration) → Performs (Ok value) (node_meaning setting deeper n) p q → q.environment.registers.interrupt ≡ None
      → Performs r (nodes_meaning setting deeper more) q u → Performs r (nodes_meaning setting deeper (node n more)) p u
  list_on value r n more p q u h none next =
      by_rule (nodes_meaning-node setting deeper n more) (bind_met unit unit value r (node_meaning setting deeper n) (λ a. unless_interrupted (nodes_meaning setting deeper more)) p q u h (unless_none r _ q u none next))

  pub list_halt : (value other : Unit {0}) (n : Node) (more : Nodes) (p q : Configuration) (i : Interrupt) → Performs (Ok value) (node_meaning setting deeper n) p q → q.environment.registers.interrupt ≡ Some i
      → Performs (Ok other) (nodes_meaning setting deeper (node n more)) p q
  list_halt value other n more p q i h some =
      by_rule (nodes_meaning-node setting deeper n more) (bind_met unit unit value (Ok other) (node_meaning setting deeper n) (λ a. unless_interrupted (nodes_meaning setting deeper more)) p q q h (unless_some other _ q i some))

  pub list_fault : (e : Error) (n : Node) (more : Nodes) (p q : Configuration) → Performs (Err e) (node_meaning setting deeper n) p q → Performs (Err e) (nodes_meaning setting deeper (node n more)) p q
  list_fault e n more p q h = by_rule (nodes_meaning-node setting deeper n more) (bind_faulted unit unit e (node_meaning setting deeper n) (λ a. unless_interrupted (nodes_meaning setting deeper more)) p q h)

  pub list_end : (value : Unit {0}) (p : Configuration) → Performs (Ok value) (nodes_meaning setting deeper no_nodes) p p
  list_end value p = by_rule (nodes_meaning-none setting deeper) (done_met value p)
