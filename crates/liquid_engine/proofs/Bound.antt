-- The pairs of a tag, as an object and as a scope.
use Rattle.std.proofs.Common.{◌≡◌, ℕ, ◌+◌, ◌<◌, ◌≤◌, List, [], ◌∷◌, length, drop, map, get_or, Bool, true, false, codes, arith, Result, Ok, Err, refl, sym, ap, subst, ◌∙◌, BTreeMap, String, Global}
use Rattle.std.specs.Prelude.{MatchBool, ⊤}
use Rattle.std.proofs.lemmas.List.{drop_more, drop_all}
use Rattle.liquid_model.specs.Texts.{Text}
use Rattle.liquid_model.specs.Data.{Datum, Pairs, no_pairs, object, put}
use Rattle.liquid_model.specs.View.{pairs_view}
use Rattle.liquid_model.specs.Lists.{object_of, put_each}
use Rattle.liquid_model.specs.Maps.{Map, empty, insert}
use Rattle.liquid_model.specs.Answer.{Answers, Faulted}
use Rattle.liquid_model.specs.ErrorKinds.{is_memory, is_refusal}
use Rattle.liquid_model.specs.declared.error.Error.{Error}
use Rattle.liquid_model.specs.Fallible.{◌>>=◌}
use Rattle.liquid_model.specs.declared.error.ErrorKind.{ErrorKind}
use Rattle.liquid_model.specs.declared.value.Value.{Value}
use Rattle.liquid_core.specs.Environment.{Environment, bind_each}
use Rattle.liquid_core.specs.Expression as core
use Rattle.liquid_core.specs.Expressions.{required}
use Rattle.liquid_core.specs.Held.{held, map_of}
use Rattle.liquid_core.proofs.States.{map_of_put}
use Rattle.liquid_evaluation.specs.Evaluation.{bound_values}
use Rattle.liquid_meaning.specs.Meaning.{include_scope, pairs_scope}
use Rattle.liquid_engine.specs.inside.Partials.{bound_include, bound_object, bound_scope}
use Rattle.liquid_evaluation.proofs.Calls.{faulted_as, faulted_then}

abbrev Pair : Type 0
Pair = Text × Datum

-- a pair put before what the others come to
first_then : (r : Result (List Pair) ErrorKind) (p : Pair) (m : Pairs) → ((r >>= (λ ps. Ok (p ∷ ps))) >>= (λ ps. Ok (put_each ps m))) ≡ (r >>= (λ ps. Ok (put_each ps (put p.0 p.1 m))))
first_then (Ok ps) p m = refl
first_then (Err kind) p m = refl

next_pair : {X : Type 0} (f : X → Text × core.Expression) (e : Environment) (xs : List X) (i : ℕ) (x : X) (m : Pairs) → i < length xs → x ≡ get_or xs i x
    → (bound_values (map f (drop i xs)) e >>= (λ ps. Ok (put_each ps m)))
    ≡ ((required (f x).1 e >>= (λ d. bound_values (map f (drop (i + 1) xs)) e >>= (λ ps. Ok (((f x).0, d) ∷ ps)))) >>= (λ ps. Ok (put_each ps m)))
unfolding bound_values
next_pair f e xs i x m h is =
    ap (λ y. bound_values (map f y) e >>= (λ ps. Ok (put_each ps m))) (drop_more xs i x h ∙ ap (λ y. y ∷ drop (i + 1) xs) (sym is))

pub pairs_more : {X : Type 0} (f : X → Text × core.Expression) (all : Result Pairs ErrorKind) (e : Environment) (xs : List X) (i : ℕ) (x : X) (m n : Pairs) (d : Datum)
    → i < length xs → x ≡ get_or xs i x → required (f x).1 e ≡ Ok d → n ≡ put (f x).0 d m
    → all ≡ (bound_values (map f (drop i xs)) e >>= (λ ps. Ok (put_each ps m)))
    → all ≡ (bound_values (map f (drop (i + 1) xs)) e >>= (λ ps. Ok (put_each ps n)))
pairs_more f all e xs i x m n d h is v put so_far =
    so_far ∙ next_pair f e xs i x m h is
    ∙ ap (λ r. (r >>= (λ y. bound_values (map f (drop (i + 1) xs)) e >>= (λ ps. Ok (((f x).0, y) ∷ ps)))) >>= (λ ps. Ok (put_each ps m))) v
    ∙ first_then (bound_values (map f (drop (i + 1) xs)) e) ((f x).0, d) m
    ∙ ap (λ k. bound_values (map f (drop (i + 1) xs)) e >>= (λ ps. Ok (put_each ps k))) (sym put)

pub pairs_stop : {X : Type 0} (f : X → Text × core.Expression) (all : Result Pairs ErrorKind) (e : Environment) (xs : List X) (i : ℕ) (x : X) (m : Pairs) (kind : ErrorKind)
    → i < length xs → x ≡ get_or xs i x → Faulted kind (required (f x).1 e)
    → all ≡ (bound_values (map f (drop i xs)) e >>= (λ ps. Ok (put_each ps m)))
    → Faulted kind all
pairs_stop f all e xs i x m kind h is v so_far =
    faulted_as kind all _ (so_far ∙ next_pair f e xs i x m h is)
    (faulted_then kind _ (λ ps. Ok (put_each ps m)) (faulted_then kind (required (f x).1 e) (λ d. bound_values (map f (drop (i + 1) xs)) e >>= (λ ps. Ok (((f x).0, d) ∷ ps))) v))

pub pairs_end : {X : Type 0} (f : X → Text × core.Expression) (all : Result Pairs ErrorKind) (e : Environment) (xs : List X) (i : ℕ) (m : Pairs) → length xs ≤ i
    → all ≡ (bound_values (map f (drop i xs)) e >>= (λ ps. Ok (put_each ps m))) → all ≡ Ok m
unfolding bound_values
pairs_end f all e xs i m h so_far = so_far ∙ ap (λ y. bound_values (map f y) e >>= (λ ps. Ok (put_each ps m))) (drop_all i xs h)

pub held_put : (o n : BTreeMap (String Global) Value) (name : Text) (d : Datum) → pairs_view n.entries ≡ put name d (pairs_view o.entries) → held n ≡ insert (held o) name d
held_put o n name d is = ap map_of is ∙ map_of_put name d (pairs_view o.entries)

-- ---- what is made of a result

pub unmapped : {A B : Type 0} (kind : ErrorKind) (r : Result A ErrorKind) (f : A → B) → Faulted kind (r >>= (λ x. Ok (f x))) → Faulted kind r
unmapped {A} {B} kind (Ok x) f h = on (is_memory kind) h
  where
    on : (b : Bool) → MatchBool b ⊤ ((◌≡◌ {A = Result B ErrorKind} (Ok (f x)) (Err kind)) × (is_refusal kind ≡ false)) → MatchBool b ⊤ ((◌≡◌ {A = Result A ErrorKind} (Ok x) (Err kind)) × (is_refusal kind ≡ false))
    on true k = tt
    on false (k, w) = absurd cc
unmapped {A} {B} kind (Err other) f h = on (is_memory kind) h
  where
    same : ◌≡◌ {A = Result B ErrorKind} (Err other) (Err kind) → other ≡ kind
    same k = cc

    on : (b : Bool) → MatchBool b ⊤ ((◌≡◌ {A = Result B ErrorKind} (Err other) (Err kind)) × (is_refusal kind ≡ false)) → MatchBool b ⊤ ((◌≡◌ {A = Result A ErrorKind} (Err other) (Err kind)) × (is_refusal kind ≡ false))
    on true k = tt
    on false (k, w) = ((ap (λ x. Err x) (same k)), w)

pub mapped : {A B : Type 0} (r : Result A ErrorKind) (f : A → B) (y : B) → (r >>= (λ x. Ok (f x))) ≡ Ok y → (x : A) × (r ≡ Ok x) × (f x ≡ y)
mapped (Ok x) f y h = (x, refl, cc)
mapped (Err kind) f y h = absurd cc

pub from_ok : {A : Type 0} {x y : A} → ◌≡◌ {A = Result A ErrorKind} (Ok x) (Ok y) → x ≡ y
from_ok h = cc

-- ---- as a scope

each_held : (ps : List Pair) (m : Pairs) (n : Map Datum) → map_of m ≡ n → map_of (put_each ps m) ≡ bind_each ps n
each_held [] m n h = h
each_held (p ∷ ps) m n h = each_held ps (put p.0 p.1 m) (insert n p.0 p.1) (map_of_put p.0 p.1 m ∙ ap (λ k. insert k p.0 p.1) h)

none_held : map_of no_pairs ≡ empty
unfolding map_of empty
none_held = refl

-- the object of the pairs is their scope
pub as_scope : (r : Result (BTreeMap (String Global) Value) Error) (o : Result (List Pair) ErrorKind)
    → Answers (λ m. pairs_view m.entries) r (o >>= (λ ps. Ok (put_each ps no_pairs))) → Answers held r (o >>= (λ ps. Ok (pairs_scope ps)))
as_scope (Ok m) (Ok ps) h = ap (λ x. Ok x) (sym (each_held ps no_pairs empty none_held) ∙ ap map_of (from_ok h))
as_scope (Ok m) (Err kind) h = absurd cc
as_scope (Err e) o h = faulted_then e.kind o (λ ps. Ok (pairs_scope ps)) (unmapped e.kind o (λ ps. put_each ps no_pairs) h)

-- ---- as the scope of a jekyll `include`

pub no_bindings : {X : Type 0} (f : X → Text × core.Expression) (xs : List X) (e : Environment) → length xs ≡ 0 → bound_include (map f xs) e ≡ Ok empty
unfolding bound_values
no_bindings f [] e h = refl
no_bindings f (x ∷ xs) e h = absurd (omega (arith, h))

some_pairs : (b : Text × core.Expression) (ps : List Pair) (r : Result Datum ErrorKind) (o : Result (List Pair) ErrorKind) → (r >>= (λ d. o >>= (λ ds. Ok ((b.0, d) ∷ ds)))) ≡ Ok ps → include_scope ps ≡ insert empty (codes "include") (object_of ps)
some_pairs b ps (Ok d) (Ok ds) h = let e : (b.0, d) ∷ ds ≡ ps = from_ok h in subst (λ (ps : List Pair). include_scope ps ≡ insert empty (codes "include") (object_of ps)) e refl
some_pairs b ps (Ok d) (Err kind) h = absurd cc
some_pairs b ps (Err kind) o h = absurd cc

pub some_bindings : {X : Type 0} (f : X → Text × core.Expression) (xs : List X) (e : Environment) (pairs : Pairs) (scope : Map Datum) → (length xs ≡ 0 → ⊥) → bound_object (map f xs) e ≡ Ok pairs
    → scope ≡ insert empty (codes "include") (object pairs) → bound_include (map f xs) e ≡ Ok scope
unfolding bound_values
some_bindings f [] e pairs scope some h is = absurd (some refl)
some_bindings f (x ∷ xs) e pairs scope some h is =
    let (ps, bound, same) = mapped (bound_values (map f (x ∷ xs)) e) (λ ps. put_each ps no_pairs) pairs h in
    ap (λ r. r >>= (λ ps. Ok (include_scope ps))) bound
    ∙ ap (λ x. Ok x) (some_pairs (f x) ps (required (f x).1 e) (bound_values (map f xs) e) bound ∙ ap (λ ps. insert empty (codes "include") (object ps)) same ∙ sym is)

pub include_faulted : (kind : ErrorKind) (o : Result (List Pair) ErrorKind) → Faulted kind (o >>= (λ ps. Ok (put_each ps no_pairs))) → Faulted kind (o >>= (λ ps. Ok (include_scope ps)))
include_faulted kind o h = faulted_then kind o (λ ps. Ok (include_scope ps)) (unmapped kind o (λ ps. put_each ps no_pairs) h)

pub held_one : (o n : BTreeMap (String Global) Value) (name : Text) (d : Datum) → o.entries ≡ [] → pairs_view n.entries ≡ put name d (pairs_view o.entries) → held n ≡ insert empty name d
held_one o n name d none is = held_put o n name d is ∙ ap (λ m. insert m name d) (ap (λ es. map_of (pairs_view es)) none ∙ none_held)

-- a lone pair as a scope
pub lone_scope : {X : Type 0} (f : X → Text × core.Expression) (e : Environment) (xs : List X) (x : X) (d : Datum) → 0 < length xs → length xs ≤ 1 → x ≡ get_or xs 0 x
    → required (f x).1 e ≡ Ok d → bound_scope (map f xs) e ≡ Ok (insert empty (f x).0 d)
unfolding bound_values
lone_scope f e [] x d h l is v = absurd (omega (arith, h))
lone_scope f e (y ∷ []) x d h l is v =
    ap (λ r. (r >>= (λ given. Ok (((f y).0, given) ∷ []))) >>= (λ pairs. Ok (pairs_scope pairs))) (ap (λ z. required (f z).1 e) (sym is) ∙ v)
    ∙ ap (λ z. Ok (insert empty (f z).0 d)) (sym is)
lone_scope f e (y ∷ z ∷ zs) x d h l is v = absurd (omega (arith, l))
