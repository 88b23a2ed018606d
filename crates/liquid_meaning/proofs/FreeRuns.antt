-- Runs that see no more of the data than some names, and how they are put together.
use Rattle.std.specs.Prelude.{◌≡◌, ℕ, suc, Bool, true, false, ◌||◌, cond, T, List, [], ◌∷◌, Option, Some, None, Result, Ok, Err, is_some}
use mathlib.Core.Path.{refl, sym, ap, subst, ◌∙◌}
use Rattle.liquid_model.specs.Texts.{Text, ◌else◌, same_text}
use Rattle.liquid_model.specs.Data.{Datum}
use Rattle.liquid_model.specs.declared.error.ErrorKind.{ErrorKind}
use Rattle.liquid_model.specs.Maps.{Map, insert, merged}
use Rattle.liquid_model.proofs.Maps.{same_text_equal, same_key}
use Rattle.liquid_core.specs.Environment.{Names, Environment, Registers}
use Rattle.liquid_core.specs.declared.interrupt.Interrupt.{Interrupt}
use Rattle.liquid_meaning.specs.Runs.{Nothing, Outcome, Run, done, read_environment, evaluate, fault, change, write, after_text, go_on, ◌>>=◌, ◌>>◌, with_scope, ended_with, buffered, apart}
use Rattle.liquid_meaning.specs.Effects.{assigned_to, interrupted_by, take_interrupt, if_none, unless_interrupted, is_break}
use Rattle.liquid_meaning.specs.Loops.{until_break, for_all, if_empty, needs_columns}
use Rattle.liquid_meaning.specs.FreeNames.{over, left_over}
use Rattle.liquid_meaning.proofs.FoundValues.{Found}

-- ---- values that stay where they were found

-- what is found before the data
abbrev pub above : Environment → Text → Option Datum
above e name = (e.local name else e.assigned name) else e.counters name

abbrev pub Holds : Option Datum → Type 0
Holds o = T (is_some o)

either_holds : (o p q r : Option Datum) → (Holds o → Holds q) → (Holds p → Holds r) → Holds (o else p) → Holds (q else r)
either_holds None p None r f g h = g h
either_holds None p (Some d) r f g h = tt
either_holds (Some c) p None r f g h = absurd (f tt)
either_holds (Some c) p (Some d) r f g h = tt

-- the second holds wherever the first does
pub record Grown (e g : Environment) : Type 0 where
  pub local : g.local ≡ e.local
  pub globals : g.globals ≡ e.globals
  pub assigned : (name : Text) → Holds (e.assigned name) → Holds (g.assigned name)
  pub counters : (name : Text) → Holds (e.counters name) → Holds (g.counters name)

pub grown_here : (e : Environment) → Grown e e
grown_here e = record { local = refl; globals = refl; assigned = λ name h. h; counters = λ name h. h }

pub grown_on : (e f g : Environment) → Grown e f → Grown f g → Grown e g
grown_on e f g k l = record { local = l.local ∙ k.local; globals = l.globals ∙ k.globals; assigned = λ name h. l.assigned name (k.assigned name h); counters = λ name h. l.counters name (k.counters name h) }

pub grown_above : (e g : Environment) → Grown e g → (name : Text) → Holds (above e name) → Holds (above g name)
grown_above e g k name = either_holds (e.local name else e.assigned name) (e.counters name) (g.local name else g.assigned name) (g.counters name)
    (either_holds (e.local name) (e.assigned name) (g.local name) (g.assigned name) (λ h. subst (λ m. Holds (m name)) (sym k.local) h) (k.assigned name)) (k.counters name)

-- what is inserted is held, and what was held is held still
pub inserted : (m : Map Datum) (name : Text) (d : Datum) (q : Text) → T (same_text q name) → Holds (insert m name d q)
unfolding insert
inserted m name d q h = subst (λ x. Holds (insert m x d q)) (same_text_equal q name h) (subst (λ b. Holds (cond b (Some d) (m q))) (sym (same_key q)) tt)

pub still_inserted : (m : Map Datum) (name : Text) (d : Datum) (q : Text) → Holds (m q) → Holds (insert m name d q)
unfolding insert
still_inserted m name d q h = at (same_text name q)
  where
    at : (b : Bool) → Holds (cond b (Some d) (m q))
    at true = tt
    at false = h

module _ (other : Map Datum) where
  pub found_above : (e : Environment) (name : Text) → Holds (above e name) → Found other e name
  found_above e name h = at (above e name) h
    where
      at : (o : Option Datum) → Holds o → (o else e.globals name) ≡ (o else other name)
      at None k = absurd k
      at (Some d) k = refl

  pub found_grown : (e g : Environment) → Grown e g → (name : Text) → Found other e name → Found other g name
  found_grown e g k name h =
      subst (λ m. (above g name else m name) ≡ (above g name else other name)) (sym k.globals) (at (above e name) (above g name) (grown_above e g k name) h)
    where
      at : (o p : Option Datum) → (Holds o → Holds p) → (o else e.globals name) ≡ (o else other name) → (p else e.globals name) ≡ (p else other name)
      at o (Some d) f is = refl
      at None None f is = is
      at (Some c) None f is = absurd (f tt)

  -- ---- runs

  pub record Sees (N : Names) (e : Environment) : Type 0 where
    pub found : (name : Text) → T (N name) → Found other e name

  abbrev pub is_value : {A : Type 0} → Result A ErrorKind → Bool
  is_value (Ok a) = true
  is_value (Err kind) = false

  -- what m gives, from e and over the other data, where it binds the names of B by the time that it ends by a value
  pub record Carried {A : Type 0} (B : Names) (e : Environment) (o p : Outcome A) : Type 0 where
    pub same : p ≡ left_over other o
    pub grown : Grown e o.environment
    pub bound : T (is_value o.end) → (name : Text) → T (B name) → Holds (above o.environment name)

  -- m sees no more of the data than the names of N
  abbrev pub Free : {A : Type 0} → Names → Names → Run A → Type 0
  Free N B m = (e : Environment) → Sees N e → Carried B e (m e) (m (over other e))

  abbrev pub none : Names
  none name = false

  pub free_more : {A : Type 0} {m : Run A} (N M B : Names) → ((name : Text) → T (N name) → T (M name)) → Free N B m → Free M B m
  free_more N M B k im e h = im e (record { found = λ name n. h.found name (k name n) })

  -- on from an outcome, by runs that see what is found there
  free_on : {A C : Type 0} (M B : Names) (k : A → Run C) → ((a : A) → Free M B (k a)) → (t : Text) (e g : Environment) (x : Result A ErrorKind) → Grown e g → (T (is_value x) → Sees M g)
      → Carried B e (go_on k t g x) (go_on k t (over other g) x)
  unfolding go_on
  free_on M B k ik t e g (Ok a) grown sees =
      let r = ik a g (sees tt) in
      record { same = λ i. after_text t (r.same i); grown = grown_on e g (k a g).environment grown r.grown; bound = r.bound }
  free_on M B k ik t e g (Err kind) grown sees = record { same = refl; grown = grown; bound = λ t name b. absurd t }

  module _ {N : Names} where
    pub free_done : {A : Type 0} (a : A) → Free N none (done a)
    unfolding done
    free_done a e h = record { same = refl; grown = grown_here e; bound = λ t name b. absurd b }

    pub free_fault : {A : Type 0} (B : Names) (kind : ErrorKind) → Free N B (fault {A = A} kind)
    unfolding fault
    free_fault B kind e h = record { same = refl; grown = grown_here e; bound = λ t name b. absurd t }

    pub free_write : (t : Text) → Free N none (write t)
    unfolding write
    free_write t e h = record { same = refl; grown = grown_here e; bound = λ t name b. absurd b }

    pub free_read : {A : Type 0} (x : Environment → A) → ((e : Environment) → Sees N e → x e ≡ x (over other e)) → Free N none (read_environment x)
    unfolding read_environment
    free_read x same e h = record { same = λ i. record { text = []; environment = over other e; end = Ok (sym (same e h) i) }; grown = grown_here e; bound = λ t name b. absurd b }

    pub free_evaluate : {A : Type 0} (x : Environment → Result A ErrorKind) → ((e : Environment) → Sees N e → x e ≡ x (over other e)) → Free N none (evaluate x)
    unfolding evaluate
    free_evaluate x same e h = record { same = λ i. record { text = []; environment = over other e; end = sym (same e h) i }; grown = grown_here e; bound = λ t name b. absurd b }

    pub free_change : (B : Names) (x : Environment → Environment) → ((e : Environment) → x (over other e) ≡ over other (x e)) → ((e : Environment) → Grown e (x e))
        → ((e : Environment) (name : Text) → T (B name) → Holds (above (x e) name)) → Free N B (change x)
    unfolding change
    free_change B x same grown bound e h = record { same = λ i. record { text = []; environment = same e i; end = Ok tt }; grown = grown e; bound = λ t. bound e }

    free_then : {A C : Type 0} {m : Run A} {k : A → Run C} (M B D : Names) → Free N B m → ((a : A) → Free M D (k a))
        → ((e g : Environment) → Sees N e → Grown e g → ((name : Text) → T (B name) → Holds (above g name)) → Sees M g) → Free N D (m >>= k)
    unfolding ◌>>=◌
    free_then {m = m} {k = k} M B D im ik sees e h =
        let r = im e h in
        subst (λ o. Carried D e (go_on k (m e).text (m e).environment (m e).end) (go_on k o.text o.environment o.end)) (sym r.same)
        (free_on M D k ik (m e).text e (m e).environment (m e).end r.grown (λ t. sees e (m e).environment h r.grown (r.bound t)))

    pub sees_grown : (e g : Environment) → Sees N e → Grown e g → Sees N g
    sees_grown e g h k = record { found = λ name n. found_grown e g k name (h.found name n) }

    pub free_bind : {A C : Type 0} {D : Names} {m : Run A} {k : A → Run C} → Free N none m → ((a : A) → Free N D (k a)) → Free N D (m >>= k)
    free_bind {D = D} im ik = free_then N none D im ik (λ e g h k b. sees_grown e g h k)

    -- what m binds is no name of the data for the rest
    pub free_after : {C : Type 0} {m : Run Nothing} {k : Run C} (M B : Names) → Free N B m → Free M none k → ((name : Text) → T (M name) → T (B name || N name)) → Free N none (m >> k)
    free_after M B im ik split = free_then M B none im (λ a. ik) (λ e g h grown b. record { found = λ name n. at g name (B name) (b name) (λ z. found_grown e g grown name (h.found name z)) (split name n) (λ z. found_above g name z) })
      where
        at : (g : Environment) (name : Text) (c : Bool) → (T c → Holds (above g name)) → (T (N name) → Found other g name) → T (c || N name) → (Holds (above g name) → Found other g name) → Found other g name
        at g name true b f s up = up (b tt)
        at g name false b f s up = f s

    -- a value, with what is known of it
    pub free_given : {A C : Type 0} {D : Names} (P : A → Type 0) (x : Environment → Result A ErrorKind) (k : A → Run C) → ((e : Environment) → Sees N e → x e ≡ x (over other e))
        → ((e : Environment) (a : A) → x e ≡ Ok a → P a) → ((a : A) → P a → Free N D (k a)) → Free N D (evaluate x >>= k)
    unfolding ◌>>=◌ evaluate go_on
    free_given {D = D} P x k same given ik e h = subst (λ y. Carried D e (go_on k [] e (x e)) (go_on k [] (over other e) y)) (same e h) (at (x e) refl)
      where
        at : (y : Result _ ErrorKind) → x e ≡ y → Carried D e (go_on k [] e y) (go_on k [] (over other e) y)
        at (Ok a) is = ik a (given e a is) e h
        at (Err kind) is = record { same = refl; grown = grown_here e; bound = λ t name b. absurd t }

    pub free_cond : {A : Type 0} {m n : Run A} (b : Bool) → Free N none m → Free N none n → Free N none (cond b m n)
    free_cond true i j = i
    free_cond false i j = j

    -- the names of the scope are found before the data
    pub free_with_scope : {A : Type 0} {m : Run A} (M : Names) (scope : Map Datum) → ((name : Text) → T (M name) → T (is_some (scope name) || N name)) → Free M none m → Free N none (with_scope scope m)
    unfolding with_scope merged
    free_with_scope {m = m} M scope split im e h =
        let g = record e { local = merged scope e.local } in
        let r = im g (record { found = λ name n. inner name (scope name) refl (split name n) }) in
        record {
          same = λ i. record { text = (r.same i).text; environment = record ((r.same i).environment) { local = e.local }; end = (r.same i).end };
          grown = record { local = refl; globals = r.grown.globals; assigned = r.grown.assigned; counters = r.grown.counters };
          bound = λ t name b. absurd b;
        }
      where
        inner : (name : Text) (o : Option Datum) → scope name ≡ o → T (is_some o || N name) → Found other (record e { local = merged scope e.local }) name
        inner name None is s = subst (λ o. ((((o else e.local name) else e.assigned name) else e.counters name) else e.globals name) ≡ ((((o else e.local name) else e.assigned name) else e.counters name) else other name)) (sym is) (h.found name s)
        inner name (Some d) is s = subst (λ o. ((((o else e.local name) else e.assigned name) else e.counters name) else e.globals name) ≡ ((((o else e.local name) else e.assigned name) else e.counters name) else other name)) (sym is) refl

    pub free_buffered : {A : Type 0} {m : Run A} → Free N none m → Free N none (buffered m)
    unfolding buffered
    free_buffered im e h =
        let r = im e h in
        record { same = λ i. record { text = []; environment = (r.same i).environment; end = ended_with (r.same i).text (r.same i).end }; grown = r.grown; bound = λ t name b. absurd b }

    -- whatever m is: it sees nothing of the environment
    pub free_apart : {A : Type 0} (names : Map Datum) (m : Run A) → Free N none (apart names m)
    unfolding apart
    free_apart names m e h = record { same = refl; grown = grown_here e; bound = λ t name b. absurd b }

    pub free_for_all : (one : ℕ → Datum → Run Nothing) → ((k : ℕ) (d : Datum) → Free N none (one k d)) → (k : ℕ) (ds : List Datum) → Free N none (for_all one k ds)
    unfolding for_all
    free_for_all one i k [] = free_done tt
    free_for_all one i k (d ∷ ds) = free_bind (i k d) (λ a. free_for_all one i (suc k) ds)

    pub free_until_break : (one : ℕ → Datum → Run (Option Interrupt)) → ((k : ℕ) (d : Datum) → Free N none (one k d)) → (k : ℕ) (ds : List Datum) → Free N none (until_break one k ds)
    unfolding until_break
    free_until_break one i k [] = free_done tt
    free_until_break one i k (d ∷ ds) = free_bind (i k d) (λ left. free_cond (is_break left) (free_done tt) (free_until_break one i (suc k) ds))

    pub free_if_empty : {m n : Run Nothing} (ds : List Datum) → Free N none m → Free N none n → Free N none (if_empty ds m n)
    free_if_empty [] i j = i
    free_if_empty (d ∷ ds) i j = j

    pub free_unless : {m : Run Nothing} → Free N none m → Free N none (unless_interrupted m)
    unfolding unless_interrupted
    free_unless {m = m} im e h = at e.registers.interrupt
      where
        at : (i : Option Interrupt) → Carried none e (if_none i m e) (if_none i m (over other e))
        at None = im e h
        at (Some i) = free_done tt e h

    -- ---- changes

    pub free_assign : (name : Text) (d : Datum) → Free N (λ q. same_text q name) (change (assigned_to name d))
    free_assign name d = free_change (λ q. same_text q name) (assigned_to name d) (λ e. refl)
        (λ e. record { local = refl; globals = refl; assigned = λ q h. still_inserted e.assigned name d q h; counters = λ q h. h })
        (λ e q b. held (e.local q) (insert e.assigned name d q) (e.counters q) (inserted e.assigned name d q b))
      where
        held : (o p r : Option Datum) → Holds p → Holds ((o else p) else r)
        held None None r h = absurd h
        held None (Some c) r h = tt
        held (Some c) p r h = tt

    -- a change of the registers alone
    pub free_registers : (x : Environment → Environment) (r : Registers → Registers) → ((e : Environment) → x e ≡ record e { registers = r e.registers }) → Free N none (change x)
    free_registers x r is = free_change none x (λ e. is (over other e) ∙ ap (over other) (sym (is e)))
        (λ e. subst (Grown e) (sym (is e)) (record { local = refl; globals = refl; assigned = λ q h. h; counters = λ q h. h })) (λ e name b. absurd b)

    pub free_interrupt : (i : Option Interrupt) → Free N none (change (interrupted_by i))
    free_interrupt i = free_registers (interrupted_by i) (λ r. record r { interrupt = i }) (λ e. refl)

    pub free_take_interrupt : Free N none take_interrupt
    free_take_interrupt = free_bind (free_read _ (λ e h. refl)) (λ left. free_bind (free_interrupt None) (λ a. free_done left))

    pub free_columns : (ds : List Datum) (n : ℕ) → Free N none (needs_columns ds n)
    free_columns [] n = free_done tt
    free_columns (d ∷ ds) n = free_cond _ (free_fault none _) (free_done tt)
