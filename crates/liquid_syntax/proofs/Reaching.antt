-- What a template leads to: its names are closed where none waits.
use Rattle.std.proofs.Common.{◌≡◌, ℕ, Bool, true, false, ◌||◌, ◌&&◌, T, List, [], ◌∷◌, ◌++◌, Option, Some, None, is_none, is_some, Ordering, Less, Equal, Greater, cond, map, string_bytes, refl, sym, ap, subst, ◌∙◌, codes}
use Rattle.std.specs.List.{list_all, list_any}
use Rattle.std.specs.Cmp.Lexicographic.{slice_cmp}
use Rattle.std.specs.Ordering.{match_ordering, nat_cmp}
use Rattle.std.specs.Option.{unwrap_or}
use Rattle.liquid_core.specs.Environment.{Names}
use Rattle.liquid_model.specs.Maps.{insert, listed}
use Rattle.liquid_model.specs.Texts.{Text, same_text}
use Rattle.liquid_model.proofs.Maps.{same_text_equal}
use Rattle.liquid_language.specs.Entries.{put_entry}
use Rattle.liquid_evaluation.specs.PartialCalls.{PartialCall, of_any_name, of_name, of_name_or_liquid, IsClosed, looks_up, nodes_calls}
use Rattle.liquid_evaluation.specs.Tree.{Nodes}
use Rattle.liquid_syntax.specs.Reached.{Spreads, Widens, are_settled, asked_for, found_or_asked, had, is_settled, known_in, partials_settled, waits_in}
use Rattle.liquid_syntax.specs.declared.wanted.Wanted.{Wanted}
use Rattle.std.specs.Prelude.{Result, Ok, Err, OnErr}
use Rattle.liquid_model.specs.Answer.{IsValueOrMemory}
use Rattle.liquid_model.specs.declared.error.Error.{Error}
use Rattle.liquid_syntax.proofs.Wanting.{spreads, all_still, both_of, held, holds, left_of, one_of, or_first, or_second, partials_still, right_of}

-- ---- a partial is put

had_put : (ps qs : List (Text × Nodes)) (name : Text) (t : Nodes) → listed qs ≡ insert (listed ps) name t → (other : Text) → T (had ps other) → T (had qs other)
unfolding insert
had_put ps qs name t is other h = subst (λ m. T (is_some (m other))) (sym is) (on (same_text name other))
  where
    on : (b : Bool) → T (is_some (cond b (Some t) (listed ps other)))
    on true = tt
    on false = h

pub spreads_put : (w v : Wanted) (ps qs : List (Text × Nodes)) (name : Text) (t : Nodes) → Widens w v → listed qs ≡ insert (listed ps) name t → Spreads w (had ps) v (had qs)
spreads_put w v ps qs name t widens is = record {
  any = widens.any;
  known = widens.known;
  waiting = λ other h. or_first (waits_in v other) _ (widens.waiting other h);
  had = had_put ps qs name t is;
}

all_put : (f : Text × Nodes → Bool) (name : Text) (t : Nodes) (es : List (Text × Nodes)) → ((other : Text) → f (other, t) ≡ true) → list_all f es ≡ true → list_all f (put_entry name t es) ≡ true
all_put f name t [] h all = holds _ (both_of (f (name, t)) true (held _ (h name)) tt)
all_put f name t (e ∷ es) h all =
    let k = held _ all in
    on (slice_cmp nat_cmp name e.0) (holds _ (left_of (f e) _ k)) (holds _ (right_of (f e) _ k)) (all_put f name t es h (holds _ (right_of (f e) _ k)))
  where
    on : (o : Ordering) → f e ≡ true → list_all f es ≡ true → list_all f (put_entry name t es) ≡ true → list_all f (match_ordering o ((name, t) ∷ e ∷ es) ((e.0, t) ∷ es) (e ∷ put_entry name t es)) ≡ true
    on Less first rest later = holds _ (both_of (f (name, t)) _ (held _ (h name)) (both_of (f e) _ (held _ first) (held _ rest)))
    on Equal first rest later = holds _ (both_of (f (e.0, t)) _ (held _ (h e.0)) (held _ rest))
    on Greater first rest later = holds _ (both_of (f e) _ (held _ first) (held _ later))

pub partials_put : (w v : Wanted) (ps qs : List (Text × Nodes)) (name : Text) (t : Nodes) → Widens w v → listed qs ≡ insert (listed ps) name t → qs ≡ put_entry name t ps → are_settled v (had qs) (nodes_calls t) ≡ true → partials_settled w (had ps) ps ≡ true → partials_settled v (had qs) qs ≡ true
partials_put w v ps qs name t widens is put own others =
    ap (list_all (λ p. are_settled v (had qs) (nodes_calls p.1))) put
    ∙ all_put (λ p. are_settled v (had qs) (nodes_calls p.1)) name t ps (λ other. own) (partials_still w (had ps) v (had qs) (spreads_put w v ps qs name t widens is) ps others)

-- what is known of a template and of all partials
abbrev pub AllSettled : Wanted → List (Text × Nodes) → Nodes → Type 0
AllSettled w ps nodes = (are_settled w (had ps) (nodes_calls nodes) ≡ true) × (partials_settled w (had ps) ps ≡ true)

pub settled_on : (w v : Wanted) (ps : List (Text × Nodes)) (nodes : Nodes) → Spreads w (had ps) v (had ps) → AllSettled w ps nodes → AllSettled v ps nodes
settled_on w v ps nodes wide h = (all_still w (had ps) v (had ps) wide (nodes_calls nodes) h.0, partials_still w (had ps) v (had ps) wide ps h.1)

-- a partial was put, or there was no memory for it
pub settled_put : (w v : Wanted) (ps qs : List (Text × Nodes)) (name : Text) (t nodes : Nodes) (r : Result (Unit {0}) Error) → Widens w v → IsValueOrMemory (λ u. qs) r (put_entry name t ps) → IsValueOrMemory (λ u. listed qs) r (insert (listed ps) name t) → OnErr r (qs ≡ ps)
    → ((found : Names) → are_settled v found (nodes_calls t) ≡ true) → AllSettled w ps nodes → AllSettled v qs nodes
settled_put w v ps qs name t nodes (Ok u) widens put is same own h = (
  all_still w (had ps) v (had qs) (spreads_put w v ps qs name t widens is) (nodes_calls nodes) h.0,
  partials_put w v ps qs name t widens is put (own (had qs)) h.1,
)
settled_put w v ps qs name t nodes (Err e) widens put is same own h = subst (λ l. AllSettled v l nodes) (sym same) (settled_on w v ps nodes (spreads w v (had ps) widens) h)

-- ---- none waits

module _ (w : Wanted) (ps : List (Text × Nodes)) (none : w.fallbacks.items ≡ []) where
  not_waiting : (name : Text) → T (waits_in w name) → ⊥
  not_waiting name h = subst (λ ks. T (list_any (same_text name) (map string_bytes ks))) none h

  found_none : (o : Option Nodes) → T (is_none o) → T (is_some o) → ⊥
  found_none None h k = k
  found_none (Some n) h k = h

  asked_call : (name : Text) (call : PartialCall) → T (is_settled w (had ps) call) → T (looks_up ps name call) → T (asked_for w name)
  asked_call name of_any_name h k = or_first w.any _ h
  asked_call name (of_name n) h k = or_second w.any _ (subst (λ t. T (known_in w.asked t)) (same_text_equal n name k) h)
  asked_call name (of_name_or_liquid n) h k = one_of (same_text n name) _ k
      (λ same. or_second w.any _ (subst (λ t. T (known_in w.asked t)) (same_text_equal n name same) (left_of (known_in w.asked n) _ h)))
      (λ l. one_of (waits_in w n) _ (right_of (known_in w.asked n) _ h) (λ waits. absurd (not_waiting n waits))
      (λ m. one_of (had ps n) _ m (λ found. absurd (found_none (listed ps n) (left_of (is_none (listed ps n)) _ l) found))
      (λ known. or_second w.any _ (subst (λ t. T (known_in w.asked t)) (same_text_equal (n ++ codes ".liquid") name (right_of (is_none (listed ps n)) _ l)) known))))

  asked_calls : (name : Text) (calls : List PartialCall) → are_settled w (had ps) calls ≡ true → T (list_any (looks_up ps name) calls) → T (asked_for w name)
  asked_calls name [] h k = absurd k
  asked_calls name (call ∷ calls) h k =
      let l = held _ h in
      let first = asked_call name call (left_of (is_settled w (had ps) call) _ l) in
      let rest = asked_calls name calls (holds _ (right_of (is_settled w (had ps) call) _ l)) in
      one_of (looks_up ps name call) _ k first rest

  of_listed : (f : Nodes → Bool) (es : List (Text × Nodes)) (name : Text) (partial : Nodes) → list_all (λ p. f p.1) es ≡ true → listed es name ≡ Some partial → f partial ≡ true
  unfolding listed
  of_listed f [] name partial h e = absurd cc
  of_listed f (p ∷ es) name partial h e =
      let k = held _ h in
      on (same_text p.0 name) e (holds _ (left_of (f p.1) _ k)) (of_listed f es name partial (holds _ (right_of (f p.1) _ k)))
    where
      on : (b : Bool) → cond b (Some p.1) (listed es name) ≡ Some partial → f p.1 ≡ true → (listed es name ≡ Some partial → f partial ≡ true) → f partial ≡ true
      on true e here later = ap f (sym (ap (λ o. unwrap_or o partial) e)) ∙ here
      on false e here later = later e

  pub closed_names : (nodes : Nodes) → are_settled w (had ps) (nodes_calls nodes) ≡ true → partials_settled w (had ps) ps ≡ true → IsClosed (asked_for w) ps nodes
  closed_names nodes own others = record {
    own = λ name h. asked_calls name (nodes_calls nodes) own h;
    of_partials = λ name partial t e other h. asked_calls other (nodes_calls partial) (of_listed (λ n. are_settled w (had ps) (nodes_calls n)) ps name partial others e) h;
  }
