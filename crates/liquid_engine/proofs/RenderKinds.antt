-- Renderings end by kinds of runs, by refused memory or by a failed write.
use Rattle.std.proofs.Common.{◌≡◌, ℕ, ◌≤◌, List, Option, Some, None, Bool, true, false, cond, T, nat_le, Result, Ok, Err, ◌⊎◌, inl, inr, refl, sym, ap, subst, arith}
use Rattle.std.specs.Prelude.{IfErr, MatchBool, ⊤, length}
use Rattle.std.specs.Borrow.{Bor}
use Rattle.std.proofs.Math.Facts.{leb_yes, yes_leb}
use Rattle.liquid_model.specs.Answer.{Answers}
use Rattle.liquid_model.specs.Data.{Datum}
use Rattle.liquid_model.specs.Texts.{Text}
use Rattle.liquid_model.specs.ErrorKinds.{is_memory, is_refusal, number_of}
use Rattle.liquid_model.specs.declared.error.Error.{Error}
use Rattle.liquid_model.specs.declared.error.ErrorKind.{ErrorKind}
use Rattle.liquid_model.specs.declared.error.ErrorKind.TheVariants.{InvalidInput, Unsupported, Memory, Write}
use Rattle.liquid_model.specs.FilterAnswers.{FilterAnswer}
use Rattle.liquid_core.specs.Hosts.{as_of_run, host_answer, last_named, named_by, of_host}
use Rattle.liquid_core.specs.declared.host_filters.HostFilters.{HostFilters}
use Rattle.liquid_evaluation.specs.Evaluation.{answers_with}
use Rattle.liquid_evaluation.specs.Tree.{Nodes}
use Rattle.liquid_meaning.specs.Laws.{EndsWithHost}
use Rattle.liquid_meaning.specs.Meaning.{meaning}
use Rattle.liquid_meaning.specs.Runs.{Nothing, Run, ended_with}
use Rattle.liquid_meaning.proofs.RunKinds.{kinds_with_host}
use Rattle.liquid_engine.specs.Performs.{Configuration, Performs}
use Rattle.liquid_engine.specs.Rendered.{is_rendering_kind}
use Rattle.liquid_engine.proofs.Joined.{memory_of}
use Rattle.liquid_core.specs.Environment.{Environment}
use Rattle.liquid_filters.proofs.Ended.{kind_in}

-- ---- what filters of a host answer

known : {A : Type 0} (reported : ErrorKind) → T (nat_le (number_of reported) 17) → EndsWithHost {A = A} (Err reported)
known reported within kind is = subst (λ k. T (nat_le (number_of k) 17)) (ap kind_in is) within

replaced : (kind : ErrorKind) → T (nat_le (number_of (as_of_run kind)) 17)
replaced kind = on (nat_le (number_of kind) 17) refl
  where
    on : (b : Bool) → nat_le (number_of kind) 17 ≡ b → T (nat_le (number_of (cond b kind InvalidInput)) 17)
    on true is = subst T (sym is) tt
    on false is = tt

of_host_ends : (x : Result Datum ErrorKind) → EndsWithHost (of_host x)
of_host_ends (Ok d) kind is = cc
of_host_ends (Err reported) kind is = known (as_of_run reported) (replaced reported) kind is

host_ends : {X : Type 0} (counts : X → ℕ → Bool) (answer : X → FilterAnswer) (o : Option X) (d : Datum) (ds : List Datum) → EndsWithHost (host_answer counts answer o d ds)
host_ends counts answer None d ds kind is = known Unsupported tt kind is
host_ends counts answer (Some x) d ds kind is = on (counts x (length ds)) is
  where
    on : (b : Bool) → cond b (of_host (answer x d ds)) (Err Unsupported) ≡ Err kind → T (nat_le (number_of kind) 17)
    on true h = of_host_ends (answer x d ds) kind h
    on false h = known Unsupported tt kind h

named_ends : {D : Type 0} {P : D → Type 0} (counts : (x : D) × P x → ℕ → Bool) (answer : (x : D) × P x → FilterAnswer) (filters : Option (Bor (HostFilters D P))) (name : Text) (d : Datum) (ds : List Datum)
    → EndsWithHost (named_by counts answer filters name d ds)
named_ends counts answer None name d ds kind is = known Unsupported tt kind is
named_ends counts answer (Some h) name d ds kind is =
    host_ends (λ b. counts (b.vtable, b.value)) (λ b. answer (b.vtable, b.value)) (last_named name h.now.filters.items) d ds kind is

pub run_ends : {D : Type 0} {P : D → Type 0} (counts : (x : D) × P x → ℕ → Bool) (answer : (x : D) × P x → FilterAnswer) (filters : Option (Bor (HostFilters D P))) (partials : List (Text × Nodes)) (depth : ℕ) (nodes : Nodes) (e : Environment)
    → EndsWithHost (meaning (record { answers = answers_with (named_by counts answer filters); partials = partials }) depth nodes e).end
run_ends counts answer filters partials depth nodes e = kinds_with_host (named_by counts answer filters) (named_ends counts answer filters) partials depth nodes e

-- ---- what a rendering answers

below_18 : (n : ℕ) → T (nat_le n 17) → T (nat_le n 18)
below_18 n h = yes_leb (let le : n ≤ 17 = leb_yes h in let more : n ≤ 18 = omega arith in more)

cut_kinds : {A B : Type 0} (kind : ErrorKind) → ((kind ≡ Memory) × A) ⊎ ((kind ≡ Write) × B) → T (is_rendering_kind kind)
cut_kinds kind (inl memory) = subst (λ k. T (is_rendering_kind k)) (sym memory.0) tt
cut_kinds kind (inr write) = subst (λ k. T (is_rendering_kind k)) (sym write.0) tt

pub performed_kinds : (r : Result (Unit {0}) Error) (m : Run Nothing) (before after : Configuration) → EndsWithHost (m before.environment).end → Performs r m before after → IfErr r (λ e. T (is_rendering_kind e.kind))
performed_kinds (Ok value) m before after ends performs = tt
performed_kinds (Err e) m before after ends (inl exact) = below_18 (number_of e.kind) (ends e.kind (sym exact.end))
performed_kinds (Err e) m before after ends (inr cut) = cut_kinds e.kind cut.cause

ended_kinds : (t : Text) (kind : ErrorKind) (end : Result Nothing ErrorKind) → EndsWithHost end → ended_with t end ≡ Err kind → T (is_rendering_kind kind)
ended_kinds t kind (Ok a) ends is = absurd cc
ended_kinds t kind (Err reported) ends is = below_18 (number_of kind) (known reported (ends reported refl) kind is)

pub answered_kinds : {V : Type 0} (view : V → Text) (r : Result V Error) (t : Text) (end : Result Nothing ErrorKind) → EndsWithHost end → Answers view r (ended_with t end) → IfErr r (λ e. T (is_rendering_kind e.kind))
answered_kinds view (Ok value) t end ends answers = tt
answered_kinds view (Err e) t end ends answers = on (is_memory e.kind) refl answers
  where
    on : (memory : Bool) → is_memory e.kind ≡ memory → MatchBool memory ⊤ ((ended_with t end ≡ Err e.kind) × (is_refusal e.kind ≡ false)) → T (is_rendering_kind e.kind)
    on true is h = subst (λ k. T (is_rendering_kind k)) (sym (memory_of e.kind is)) tt
    on false is h = ended_kinds t e.kind end ends h.0
