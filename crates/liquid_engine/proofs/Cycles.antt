-- Runs of `cycle`.
use Rattle.std.proofs.Common.{◌≡◌, ℕ, ◌+◌, ◌<◌, List, [], ◌∷◌, length, Option, Some, None, Result, Ok, Err, refl, sym, ap, ◌∙◌, subst, arith, get_or, ◌≤◌, String, Global, string_bytes}
use Rattle.std.specs.Prelude.{◌%◌, map, slice_get}
use Rattle.std.specs.BTreeMap.{BTreeMap, get_by_text, is_at}
use Rattle.std.specs.Cmp.Lexicographic.{slice_cmp}
use Rattle.std.specs.Map.{lookup as entry_of}
use Rattle.std.specs.Option.{option_map, unwrap_or}
use Rattle.std.specs.Ordering.{nat_cmp}
use Rattle.std.proofs.lemmas.Option.{slice_get-map, slice_get_past, slice_get_read}
use Rattle.liquid_model.specs.Texts.{Text}
use Rattle.liquid_model.specs.ErrorKinds.{IsKindOrMemory}
use Rattle.liquid_model.specs.declared.error.Error.{Error}
use Rattle.liquid_model.specs.declared.error.ErrorKind.TheVariants.{CycleBounds}
use Rattle.liquid_core.specs.Environment.{Environment}
use Rattle.liquid_core.specs.Expression.{Expression}
use Rattle.liquid_core.specs.Held.{held}
use Rattle.liquid_core.specs.States.{environment_of, layers_of}
use Rattle.liquid_core.specs.declared.state.State.{State}
use Rattle.liquid_core.proofs.States.{cycle_of}
use Rattle.liquid_engine.specs.Performs.{Configuration, Performs, unit}
use Rattle.liquid_engine.specs.Sinks.{Sink}
use Rattle.liquid_engine.proofs.Joined.{bind_met, change_met, fault_met, read_met}
use Rattle.liquid_meaning.specs.Effects.{cycle_index, cycled_to}
use Rattle.liquid_meaning.specs.Meaning.{cycle_meaning, write_item}
use Rattle.liquid_meaning.specs.Runs.{Nothing, Run, change, ◌>>=◌}

-- no values
pub cycle_without : (group : Text) (values : List Expression) (e : Error) (p : Configuration) → length values ≡ 0 → IsKindOrMemory CycleBounds e.kind → Performs (Err e) (cycle_meaning group values) p p
cycle_without group [] e p none kind = fault_met CycleBounds e p refl kind
cycle_without group (x ∷ xs) e p none kind = absurd (omega (arith, none))

-- the index moves on, and what is at the old one decides
pub cycle_met : (group : Text) (values : List Expression) (r : Result (Unit {0}) Error) (i : ℕ) (s t : Sink) (e g h : Environment) → 0 < length values → i ≡ cycle_index group e
    → cycled_to group ((cycle_index group e + 1) % length values) e ≡ g
    → Performs r (write_item (slice_get values i)) (record { sink = s; environment = g }) (record { sink = t; environment = h })
    → Performs r (cycle_meaning group values) (record { sink = s; environment = e }) (record { sink = t; environment = h })
cycle_met group [] r i s t e g h some is moved done = absurd (omega (arith, some))
cycle_met group (x ∷ xs) r i s t e g h some is moved done =
    let p : Configuration = record { sink = s; environment = e } in
    let q : Configuration = record { sink = s; environment = g } in
    let u : Configuration = record { sink = t; environment = h } in
    let at : ℕ → Run Nothing = λ j. change (cycled_to group ((j + 1) % length (x ∷ xs))) >>= (λ a. write_item (slice_get (x ∷ xs) j)) in
    let i0 = cycle_index group e in
    let step = cycled_to group ((i0 + 1) % length (x ∷ xs)) in
    read_met unit r (cycle_index group) at p u
    (bind_met unit unit tt r (change step) (λ a. write_item (slice_get (x ∷ xs) i0)) p q u (change_met (Ok tt) step s e g (sym moved)) (subst (λ j. Performs r (write_item (slice_get (x ∷ xs) j)) q u) is done))

-- no value stands there
pub none_there : (item : Option Expression) (e : Error) (p : Configuration) → item ≡ None → IsKindOrMemory CycleBounds e.kind → Performs (Err e) (write_item item) p p
none_there (Some x) e p is kind = absurd cc
none_there None e p is kind = fault_met CycleBounds e p refl kind

-- a value stands there
pub one_there : (item : Option Expression) (x : Expression) (r : Result (Unit {0}) Error) (p q : Configuration) → item ≡ Some x → Performs r (write_item (Some x)) p q → Performs r (write_item item) p q
one_there item x r p q is h = subst (λ o. Performs r (write_item o) p q) (sym is) h

-- what stands at a place, seen
pub seen_at : {X : Type 0} (view : X → Expression) (xs : List X) (i : ℕ) (x : X) → i < length xs → x ≡ get_or xs i x → slice_get (map view xs) i ≡ Some (view x)
seen_at view xs i x lt is = slice_get-map view xs i ∙ ap (option_map view) (slice_get_read xs (length xs) i x refl lt is)

pub seen_past : {X : Type 0} (view : X → Expression) (xs : List X) (i : ℕ) → length xs ≤ i → slice_get (map view xs) i ≡ None
seen_past view xs i le = slice_get-map view xs i ∙ ap (option_map view) (slice_get_past xs i le)

-- ---- the register

pub index_found : (s : State) (group : Text) (i : ℕ) → Some i ≡ get_by_text s.cycles group → i ≡ cycle_index group (environment_of s)
index_found s group i is = ap (λ (o : Option ℕ). unwrap_or o 0) (is ∙ sym (cycle_of s group))

pub index_none : (s : State) (group : Text) → None ≡ get_by_text s.cycles group → 0 ≡ cycle_index group (environment_of s)
index_none s group is = ap (λ (o : Option ℕ). unwrap_or o 0) (is ∙ sym (cycle_of s group))

pub cycles_same : (s : State) (m : BTreeMap (String Global) ℕ) → m.entries ≡ s.cycles.entries → layers_of (record s { cycles = m }) ≡ layers_of s
unfolding layers_of
cycles_same s m is = λ i. record {
  scopes = (layers_of s).scopes;
  assigned = held s.assigned;
  counters = held s.counters;
  globals = (layers_of s).globals;
  registers = record { interrupt = s.interrupt; cycles = (λ group. entry_of (is_at (λ k. slice_cmp nat_cmp group (string_bytes k))) (is i)); changed = option_map string_bytes s.changed };
  missing = s.missing;
}
