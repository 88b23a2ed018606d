-- What is evaluated in two environments that are alike is alike in what is granted.
use Rattle.std.specs.Prelude.{◌≡◌, ◌⊎◌, ℕ, zero, suc, ◌-◌, ℤ, Bool, true, false, cond, ◌&&◌, T, List, [], ◌∷◌, Option, Some, None, Result, Ok, Err}
use Rattle.std.specs.Fmt.{signed_decimal}
use mathlib.Core.Path.{refl, sym, ap, subst, subst₂, ◌∙◌}
use Rattle.std.proofs.Common.{inl, inr}
use Rattle.std.specs.Option.{option_and_then, unwrap_or}
use Rattle.liquid_model.specs.Texts.{Text}
use Rattle.liquid_model.specs.Data.{Datum, nil, truth, number, text, array, object, scalar, text_of}
use Rattle.liquid_model.specs.Whole.{whole, fits}
use Rattle.liquid_model.proofs.Compares.{number_text_is_read}
use Rattle.liquid_model.specs.declared.error.ErrorKind.{ErrorKind}
use Rattle.liquid_model.specs.Find.{find, step_into}
use Rattle.liquid_model.specs.Find as finding
use Rattle.liquid_core.specs.Expression.{Expression, literal, variable, Steps, no_steps, step}
use Rattle.liquid_core.specs.Environment.{Environment, lookup}
use Rattle.liquid_core.specs.Expressions.{value_of, path_of, if_missing, nil_if_missing, none_if_missing, required, sought, whole_found, sought_whole, needed_whole}
use Rattle.liquid_core.specs.declared.missing_value.Missing.{Missing}
use Rattle.liquid_core.specs.declared.missing_value.Missing.TheVariants.{IsFault, IsNil}
use Rattle.liquid_model.specs.Fallible.{◌>>=◌}
use Rattle.liquid_evaluation.specs.Calls.{applied, taken_argument, taken_arguments}
use Rattle.liquid_model.specs.FilterAnswers.{FilterAnswer}
use Rattle.liquid_evaluation.specs.Tree.{Filter, existing, hosted, FilterCall, Chain, Atom, bare, compared, Condition, Bindings}
use Rattle.liquid_evaluation.specs.Evaluation.{FilterAnswers, accepting_nil, answers_in, entry_value, calls_by, through, chain_value, truth_of_found, bare_truth, atom_truth, all_true, truth_of, amount, bound_values}
use Rattle.liquid_model.specs.Uses.{Use, everything, there, shape, shape_of, member, Pairwise, Alike, use_at, is_everything, asks_whether, present}
use Rattle.liquid_meaning.specs.Reading.{Uses, known_key, key, for_known_key, grants, grants_along, grants_all, grants_optional, grants_filters, Needs, use_before, grants_chain, use_beside, grants_compared, grants_atom, grants_atoms, grants_condition, grants_bindings}
use Rattle.liquid_meaning.specs.Reads.{AlikeIn, Both, Respects}
use Rattle.liquid_meaning.proofs.Comparisons.{beside_asks, Sides, SidesFound, found_compare}
use Rattle.liquid_model.proofs.Alike.{both_left, both_right, alike_same, alike_shape, alike_at, alike_included, alike_everything, present_asks, alike_present, alike_else}

-- ---- results

abbrev pub Same : {A : Type 0} → A → A → Type 0
Same a b = a ≡ b

pub both_equal : {A : Type 0} (R : A → A → Type 0) → ((a : A) → R a a) → (x y : Result A ErrorKind) → x ≡ y → Both R x y
both_equal R r x y e = subst (λ z. Both R x z) e (at x)
  where
    at : (z : Result _ ErrorKind) → Both R z z
    at (Ok a) = r a
    at (Err k) = refl

pub equal_both : {A : Type 0} (x y : Result A ErrorKind) → Both Same x y → x ≡ y
equal_both (Ok a) (Ok b) h = ap Ok h
equal_both (Ok a) (Err l) h = absurd h
equal_both (Err k) (Ok b) h = absurd h
equal_both (Err k) (Err l) h = ap Err h

pub both_then : {A B : Type 0} (R : A → A → Type 0) (S : B → B → Type 0) (x y : Result A ErrorKind) (k l : A → Result B ErrorKind)
    → Both R x y → ((a b : A) → R a b → Both S (k a) (l b)) → Both S (x >>= k) (y >>= l)
both_then R S (Ok a) (Ok b) k l h g = g a b h
both_then R S (Ok a) (Err d) k l h g = absurd h
both_then R S (Err c) (Ok b) k l h g = absurd h
both_then R S (Err c) (Err d) k l h g = h

-- first the same, and then the same of each value
pub same_then : {A B : Type 0} {x y : Result A ErrorKind} {k l : A → Result B ErrorKind} → x ≡ y → ((a : A) → k a ≡ l a) → (x >>= k) ≡ (y >>= l)
same_then {x = x} {k = k} {l = l} e h = on x ∙ ap (λ z. z >>= l) e
  where
    on : (z : Result _ ErrorKind) → (z >>= k) ≡ (z >>= l)
    on (Ok a) = h a
    on (Err kind) = refl

-- ---- what is forgiven is seen by the shape of the input

is_nil_or : (d : Datum) → (d ≡ nil) ⊎ (d ≡ nil → ⊥)
is_nil_or nil = inl refl
is_nil_or (truth b) = inr (λ h. cc)
is_nil_or (number z) = inr (λ h. cc)
is_nil_or (text s) = inr (λ h. cc)
is_nil_or (array ds) = inr (λ h. cc)
is_nil_or (object ps) = inr (λ h. cc)

nil_by_shape : (d : Datum) → Some nil ≡ Some (shape d) → d ≡ nil
nil_by_shape nil h = refl
nil_by_shape (truth b) h = cc
nil_by_shape (number z) h = cc
nil_by_shape (text s) h = cc
nil_by_shape (array ds) h = cc
nil_by_shape (object ps) h = cc

answered_alone : (answers : FilterAnswer) (arguments : List Datum) (d : Datum) → (d ≡ nil → ⊥) → accepting_nil answers d arguments ≡ answers d arguments
answered_alone answers arguments nil other = absurd (other refl)
answered_alone answers arguments (truth b) other = refl
answered_alone answers arguments (number z) other = refl
answered_alone answers arguments (text s) other = refl
answered_alone answers arguments (array ds) other = refl
answered_alone answers arguments (object ps) other = refl

accepting_alike : (v : Use) (answers : FilterAnswer) (arguments : List Datum) (c d : Datum) → Some (shape c) ≡ Some (shape d)
    → Both (λ a b. Alike v (Some a) (Some b)) (answers c arguments) (answers d arguments)
    → Both (λ a b. Alike v (Some a) (Some b)) (accepting_nil answers c arguments) (accepting_nil answers d arguments)
accepting_alike v answers arguments c d same b = on (is_nil_or c) (is_nil_or d)
  where
    on : (c ≡ nil) ⊎ (c ≡ nil → ⊥) → (d ≡ nil) ⊎ (d ≡ nil → ⊥) → Both (λ a b. Alike v (Some a) (Some b)) (accepting_nil answers c arguments) (accepting_nil answers d arguments)
    on (inl i) (inl j) = both_equal (λ a b. Alike v (Some a) (Some b)) (λ a. alike_same v (Some a)) _ _ (ap (λ x. accepting_nil answers x arguments) (i ∙ sym j))
    on (inl i) (inr j) = absurd (j (nil_by_shape d (ap (λ x. Some (shape x)) (sym i) ∙ same)))
    on (inr i) (inl j) = absurd (i (nil_by_shape c (ap (λ x. Some (shape x)) (sym j) ∙ sym same)))
    on (inr i) (inr j) = subst₂ (Both (λ a b. Alike v (Some a) (Some b))) (sym (answered_alone answers arguments c i)) (sym (answered_alone answers arguments d j)) b

forgiven_alike : (v : Use) (m : Missing) (answers : FilterAnswers) (filter : Filter) (arguments : List Datum) (c d : Datum) → Some (shape c) ≡ Some (shape d)
    → Both (λ a b. Alike v (Some a) (Some b)) (answers filter c arguments) (answers filter d arguments)
    → Both (λ a b. Alike v (Some a) (Some b)) (answers_in m answers filter c arguments) (answers_in m answers filter d arguments)
forgiven_alike v IsFault answers filter arguments c d same b = b
forgiven_alike v IsNil answers (existing kind) arguments c d same b = accepting_alike v (answers (existing kind)) arguments c d same b
forgiven_alike v IsNil answers (hosted name) arguments c d same b = b

-- ---- steps

-- on from a value along a path
abbrev along : Option Datum → Option (List Datum) → Option Datum
along o path = option_and_then (λ ds. option_and_then (λ d. find d ds) o) path

abbrev stepped : Option Datum → Option Datum → Option Datum
stepped s o = option_and_then (λ d. option_and_then (λ c. finding.step c d) o) s

abbrev with_step : Option Datum → Option (List Datum) → Option (List Datum)
with_step s path = option_and_then (λ d. cond (scalar d) (option_and_then (λ ds. Some (d ∷ ds)) path) None) s

none_along : (path : Option (List Datum)) → along None path ≡ None
none_along None = refl
none_along (Some ds) = refl

-- a step, and then the others
step_first : (s o : Option Datum) (path : Option (List Datum)) → along o (with_step s path) ≡ along (stepped s o) path
step_first None o path = sym (none_along path)
step_first (Some d) o path = at (scalar d) refl o path
  where
    at : (b : Bool) → scalar d ≡ b → (c : Option Datum) (p : Option (List Datum))
        → along c (cond b (option_and_then (λ ds. Some (d ∷ ds)) p) None) ≡ along (option_and_then (λ a. finding.step a d) c) p
    at true e None None = refl
    at true e None (Some ds) = refl
    at true e (Some a) None = refl
    at true e (Some a) (Some ds) = refl
    at false e None p = sym (none_along p)
    at false e (Some a) p = sym (ap (λ b. along (cond b (step_into a (whole d) (text_of d)) None) p) e ∙ none_along p)

-- no step
along_none : (o : Option Datum) → along o (Some []) ≡ o
along_none None = refl
along_none (Some d) = refl

-- ---- a step that is known

key_finds : (s : Datum) (k : Text) → known_key s ≡ Some k → (o : Option Datum) → stepped (Some s) o ≡ member k o
key_finds s k e None = refl
key_finds s k e (Some d) = on s k e
  where
    of_number : (z : ℤ) (b : Bool) (t : Text) → fits z ≡ b → cond b (Some (signed_decimal z)) None ≡ Some t → finding.step d (number z) ≡ finding.step d (text t)
    of_number z true t f e = ap (λ i. step_into d i (signed_decimal z)) (number_text_is_read z f) ∙ ap (λ o. finding.step d (text (unwrap_or o t))) e
    of_number z false t f e = absurd cc

    on : (s : Datum) (t : Text) → known_key s ≡ Some t → finding.step d s ≡ finding.step d (text t)
    on nil t e = absurd cc
    on (truth true) t e = ap (λ o. finding.step d (text (unwrap_or o t))) e
    on (truth false) t e = ap (λ o. finding.step d (text (unwrap_or o t))) e
    on (number z) t e = of_number z (fits z) t refl e
    on (text u) t e = ap (λ o. finding.step d (text (unwrap_or o t))) e
    on (array ds) t e = absurd cc
    on (object ps) t e = absurd cc

-- ---- expressions

module _ (U : Uses) (e f : Environment) (agree : AlikeIn U e f) where
  pub lookup_alike : (name : Text) → Alike (U name) (lookup e name) (lookup f name)
  lookup_alike name =
      let u = U name in
      alike_else u _ _ _ _ (alike_else u _ _ _ _ (alike_else u _ _ _ _ (agree.local name) (agree.assigned name)) (agree.counters name)) (agree.globals name)

  -- what is next: the rest of the steps, from values that are alike
  abbrev Next : Steps → Type 0
  Next more = (u v : Use) (o p : Option Datum) → Alike u o p → T (grants_along U u more v) → Alike v (along o (path_of more e)) (along p (path_of more f))

  -- from equal values, by equal steps
  unknown_step : (more : Steps) → Next more → (v : Use) (s t o p : Option Datum) → s ≡ t → o ≡ p → T (grants_along U everything more v)
      → Alike v (along o (with_step s (path_of more e))) (along p (with_step t (path_of more f)))
  unknown_step more next v s t o p is a h =
      subst₂ (Alike v) (sym (step_first s o (path_of more e))) (sym (step_first t p (path_of more f)))
      (next everything v (stepped s o) (stepped t p) (λ i. stepped (is i) (a i)) h)

  -- by a known step
  known_step : (more : Steps) → Next more → (u v : Use) (d : Datum) (k : Text) (o p : Option Datum) → known_key d ≡ Some k → Alike u o p → T (grants_along U (use_at k u) more v)
      → Alike v (along o (with_step (Some d) (path_of more e))) (along p (with_step (Some d) (path_of more f)))
  known_step more next u v d k o p is a h =
      subst₂ (Alike v)
      (sym (step_first (Some d) o (path_of more e) ∙ ap (λ q. along q (path_of more e)) (key_finds d k is o)))
      (sym (step_first (Some d) p (path_of more f) ∙ ap (λ q. along q (path_of more f)) (key_finds d k is p)))
      (next (use_at k u) v (member k o) (member k p) (alike_at k u o p a) h)

  any_step : (x : Expression) (more : Steps) → Next more → (T (grants U x everything) → value_of x e ≡ value_of x f) → (k : Option Text) → key x ≡ k → (u v : Use) (o p : Option Datum) → Alike u o p
      → T (for_known_key k (λ k. grants_along U (use_at k u) more v) (is_everything u && (grants U x everything && grants_along U everything more v)))
      → Alike v (along o (with_step (value_of x e) (path_of more e))) (along p (with_step (value_of x f) (path_of more f)))
  unfolding value_of
  any_step x more next same None is u v o p a h =
      let rest = both_right (is_everything u) _ h in
      unknown_step more next v (value_of x e) (value_of x f) o p (same (both_left (grants U x everything) _ rest)) (alike_everything u o p (both_left (is_everything u) _ h) a) (both_right (grants U x everything) _ rest)
  any_step (literal d) more next same (Some k) is u v o p a h = known_step more next u v d k o p is a h
  any_step (variable name steps) more next same (Some k) is u v o p a h = absurd cc

  mutual
    unfolding value_of grants

    pub value_alike : (x : Expression) (v : Use) → T (grants U x v) → Alike v (value_of x e) (value_of x f)
    value_alike (literal d) v h = alike_same v (Some d)
    value_alike (variable name steps) v h = steps_alike steps (U name) v (lookup e name) (lookup f name) (lookup_alike name) h

    steps_alike : (steps : Steps) → Next steps
    steps_alike no_steps u v o p a h = subst₂ (Alike v) (sym (along_none o)) (sym (along_none p)) (alike_included v u o p h a)
    steps_alike (step x more) u v o p a h =
        any_step x more (λ u v o p a h. steps_alike more u v o p a h) (λ h. value_alike x everything h) (key x) refl u v o p a h

  pub required_alike : (x : Expression) (v : Use) → T (asks_whether v) → T (grants U x v) → Both (λ c d. Alike v (Some c) (Some d)) (required x e) (required x f)
  required_alike x v asks h = subst (λ m. Both (λ c d. Alike v (Some c) (Some d)) (required x e) (nil_if_missing m (value_of x f))) agree.missing (at e.missing (value_of x e) (value_of x f) (value_alike x v h))
    where
      at : (m : Missing) (o p : Option Datum) → Alike v o p → Both (λ c d. Alike v (Some c) (Some d)) (nil_if_missing m o) (nil_if_missing m p)
      at IsFault None None a = refl
      at IsNil None None a = alike_same v (Some nil)
      at m None (Some d) a = let e = alike_shape v None (Some d) asks a in absurd cc
      at m (Some c) None a = let e = alike_shape v (Some c) None asks a in absurd cc
      at m (Some c) (Some d) a = a

  -- an expression that is compared
  pub sides_alike : (x : Expression) (v : Use) → T (asks_whether v) → T (grants U x v) → Both (Sides U x) (required x e) (required x f)
  unfolding value_of
  sides_alike (literal d) v asks h = record { seen = λ u g. alike_same u (Some d); left = refl; right = refl }
  sides_alike (variable name steps) v asks h = subst (λ m. Both (Sides U (variable name steps)) (required (variable name steps) e) (nil_if_missing m (value_of (variable name steps) f))) agree.missing
      (at e.missing (value_of (variable name steps) e) (value_of (variable name steps) f) (value_alike (variable name steps)))
    where
      at : (m : Missing) (o p : Option Datum) → ((u : Use) → T (grants U (variable name steps) u) → Alike u o p) → Both (Sides U (variable name steps)) (nil_if_missing m o) (nil_if_missing m p)
      at IsFault None None k = refl
      at IsNil None None k = record { seen = λ u g. alike_same u (Some nil); left = tt; right = tt }
      at m None (Some d) k = let e = alike_shape v None (Some d) asks (k v h) in absurd cc
      at m (Some c) None k = let e = alike_shape v (Some c) None asks (k v h) in absurd cc
      at m (Some c) (Some d) k = record { seen = k; left = tt; right = tt }

  -- one that may be missing, where that is no fault
  pub found_alike : (x : Expression) (v : Use) → T (asks_whether v) → T (grants U x v) → Both (SidesFound U x) (sought x e) (sought x f)
  unfolding value_of
  found_alike (literal d) v asks h = record { seen = λ u g. alike_same u (Some d); left = refl; right = refl }
  found_alike (variable name steps) v asks h = subst (λ m. Both (SidesFound U (variable name steps)) (sought (variable name steps) e) (none_if_missing m (value_of (variable name steps) f))) agree.missing
      (at e.missing (value_of (variable name steps) e) (value_of (variable name steps) f) (value_alike (variable name steps)))
    where
      at : (m : Missing) (o p : Option Datum) → ((u : Use) → T (grants U (variable name steps) u) → Alike u o p) → Both (SidesFound U (variable name steps)) (none_if_missing m o) (none_if_missing m p)
      at IsFault None None k = refl
      at IsNil None None k = tt
      at m None (Some d) k = let e = alike_shape v None (Some d) asks (k v h) in absurd cc
      at m (Some c) None k = let e = alike_shape v (Some c) None asks (k v h) in absurd cc
      at m (Some c) (Some d) k = record { seen = k; left = tt; right = tt }

  pub required_equal : (x : Expression) → T (grants U x everything) → required x e ≡ required x f
  required_equal x h = λ i. nil_if_missing (agree.missing i) (value_alike x everything h i)

  sought_whole_equal : (x : Expression) → T (grants U x everything) → sought_whole x e ≡ sought_whole x f
  unfolding sought_whole
  sought_whole_equal x h = same_then (λ i. none_if_missing (agree.missing i) (value_alike x everything h i)) (λ o i. whole_found (agree.missing i) o)

  pub whole_equal : (x : Expression) → T (grants U x everything) → needed_whole x e ≡ needed_whole x f
  unfolding needed_whole
  whole_equal x h = same_then (sought_whole_equal x h) (λ n. refl)

  argument_equal : (n : ℕ) (x : Expression) → T (grants U x everything) → taken_argument n x e ≡ taken_argument n x f
  argument_equal zero x h = λ i. Ok (unwrap_or (value_alike x everything h i) nil)
  argument_equal (suc n) x h = required_equal x h

  pub arguments_equal : (n : ℕ) (xs : List Expression) → T (grants_all U xs) → taken_arguments n xs e ≡ taken_arguments n xs f
  unfolding taken_arguments grants_all
  arguments_equal n [] h = refl
  arguments_equal n (x ∷ xs) h = same_then (argument_equal n x (both_left (grants U x everything) _ h)) (λ d. same_then (arguments_equal (n - 1) xs (both_right (grants U x everything) _ h)) (λ ds. refl))

  entries_alike : (v : Use) → T (asks_whether v) → (calls : List FilterCall) (o p : Option Datum) → Alike v o p → Both (λ c d. Alike v (Some c) (Some d)) (entry_value e.missing o calls) (entry_value f.missing p calls)
  entries_alike v asks [] None None a = subst (λ m. Both (λ c d. Alike v (Some c) (Some d)) (if_missing nil e.missing) (if_missing nil m)) agree.missing (at e.missing)
    where
      at : (m : Missing) → Both (λ c d. Alike v (Some c) (Some d)) (if_missing nil m) (if_missing nil m)
      at IsFault = refl
      at IsNil = alike_same v (Some nil)
  entries_alike v asks (call ∷ calls) None None a = alike_same v (Some nil)
  entries_alike v asks calls None (Some d) a = let e = alike_shape v None (Some d) asks a in absurd cc
  entries_alike v asks calls (Some c) None a = let e = alike_shape v (Some c) None asks a in absurd cc
  entries_alike v asks calls (Some c) (Some d) a = a

  module _ (given : FilterAnswers) (needs : Needs) (respects : Respects given needs) (m : Missing) where
    answers_alike : (call : FilterCall) (v : Use) (arguments : List Datum) → taken_arguments call.required call.arguments e ≡ Ok arguments → (c d : Datum) → Alike (present (needs call v)) (Some c) (Some d)
        → Both (λ a b. Alike v (Some a) (Some b)) (answers_in m given call.filter c arguments) (answers_in m given call.filter d arguments)
    answers_alike call v arguments is c d a =
        forgiven_alike v m given call.filter arguments c d (alike_shape (present (needs call v)) (Some c) (Some d) (present_asks (needs call v)) a)
        (respects call v e arguments is c d (alike_present (needs call v) (Some c) (Some d) a))

    calls_alike : (calls : List FilterCall) (v : Use) → T (grants_filters U calls) → (c d : Datum) → Alike (use_before needs calls v) (Some c) (Some d)
        → Both (λ a b. Alike v (Some a) (Some b)) (applied (calls_by (answers_in m given) calls) c e) (applied (calls_by (answers_in m given) calls) d f)
    unfolding applied grants_filters
    calls_alike [] v h c d a = a
    calls_alike (call ∷ calls) v h c d a =
        let w = use_before needs calls v in
        subst (λ r. Both (λ a b. Alike v (Some a) (Some b)) (taken_arguments call.required call.arguments e >>= (λ arguments. answers_in m given call.filter c arguments >>= (λ answer. applied (calls_by (answers_in m given) calls) answer e)))
        (r >>= (λ arguments. answers_in m given call.filter d arguments >>= (λ answer. applied (calls_by (answers_in m given) calls) answer f))))
        (arguments_equal call.required call.arguments (both_left (grants_all U call.arguments) _ h))
        (called (taken_arguments call.required call.arguments e) refl (λ x y b. calls_alike calls v (both_right (grants_all U call.arguments) _ h) x y b))
      where
        called : (r : Result (List Datum) ErrorKind) → taken_arguments call.required call.arguments e ≡ r
            → ((x y : Datum) → Alike (use_before needs calls v) (Some x) (Some y) → Both (λ a b. Alike v (Some a) (Some b)) (applied (calls_by (answers_in m given) calls) x e) (applied (calls_by (answers_in m given) calls) y f))
            → Both (λ a b. Alike v (Some a) (Some b)) (r >>= (λ arguments. answers_in m given call.filter c arguments >>= (λ answer. applied (calls_by (answers_in m given) calls) answer e)))
            (r >>= (λ arguments. answers_in m given call.filter d arguments >>= (λ answer. applied (calls_by (answers_in m given) calls) answer f)))
        called (Ok arguments) is next = both_then (λ x y. Alike (use_before needs calls v) (Some x) (Some y)) _ _ _ _ _
            (answers_alike call (use_before needs calls v) arguments is c d a) next
        called (Err kind) is next = refl

    use_before_asks : (calls : List FilterCall) (v : Use) → T (asks_whether v) → T (asks_whether (use_before needs calls v))
    use_before_asks [] v asks = asks
    use_before_asks (call ∷ calls) v asks = present_asks (needs call (use_before needs calls v))

  module _ (answers : FilterAnswers) (needs : Needs) (respects : Respects answers needs) where
    pub through_alike : (calls : List FilterCall) (v : Use) → T (grants_filters U calls) → (c d : Datum) → Alike (use_before needs calls v) (Some c) (Some d)
        → Both (λ a b. Alike v (Some a) (Some b)) (through answers calls c e) (through answers calls d f)
    through_alike calls v h c d a = subst (λ m. Both (λ a b. Alike v (Some a) (Some b)) (through answers calls c e) (applied (calls_by (answers_in m answers) calls) d f)) agree.missing
        (calls_alike answers needs respects e.missing calls v h c d a)

    pub chain_alike : (chain : Chain) (v : Use) → T (asks_whether v) → T (grants_chain needs U v chain) → Both (λ c d. Alike v (Some c) (Some d)) (chain_value answers chain e) (chain_value answers chain f)
    unfolding chain_value grants_chain
    chain_alike chain v asks h =
        let u = use_before needs chain.filters v in
        both_then (λ c d. Alike (use_before needs chain.filters v) (Some c) (Some d)) _ _ _ _ _
        (entries_alike u (use_before_asks answers needs respects e.missing chain.filters v asks) chain.filters (value_of chain.entry e) (value_of chain.entry f) (value_alike chain.entry u (both_left (grants U chain.entry u) _ h)))
        (through_alike chain.filters v (both_right (grants U chain.entry u) _ h))

  atom_equal : (atom : Atom) → T (grants_atom U atom) → atom_truth atom e ≡ atom_truth atom f
  unfolding atom_truth grants_atom grants_compared
  atom_equal (bare x) h = ap Ok (at (value_of x e) (value_of x f) (value_alike x there h).0)
    where
      of_shape : (o : Option Datum) → bare_truth (shape_of o) ≡ bare_truth o
      of_shape None = refl
      of_shape (Some nil) = refl
      of_shape (Some (truth b)) = refl
      of_shape (Some (number z)) = refl
      of_shape (Some (text s)) = refl
      of_shape (Some (array ds)) = refl
      of_shape (Some (object ps)) = refl

      at : (o p : Option Datum) → shape_of o ≡ shape_of p → bare_truth o ≡ bare_truth p
      at o p e = sym (of_shape o) ∙ (ap bare_truth e ∙ of_shape p)
  atom_equal (compared x comparison y) h =
      let of_left = both_left (grants U x (use_beside comparison y)) _ h in
      let of_right = both_right (grants U x (use_beside comparison y)) _ h in
      equal_both _ _
      (both_then (SidesFound U x) Same _ _ _ _ (found_alike x (use_beside comparison y) (beside_asks comparison y) of_left) (λ l m a.
      both_then (SidesFound U y) Same _ _ _ _ (found_alike y (use_beside comparison x) (beside_asks comparison x) of_right) (λ r s b.
      both_equal Same (λ z. refl) _ _ (found_at e.missing f.missing agree.missing l m r s a b of_left of_right))))
    where
      found_at : (m n : Missing) → m ≡ n → (l k r s : Option Datum) → SidesFound U x l k → SidesFound U y r s → T (grants U x (use_beside comparison y)) → T (grants U y (use_beside comparison x))
          → truth_of_found m comparison l r ≡ truth_of_found n comparison k s
      found_at m n same l k r s a b g h = found_compare U m comparison x y l k r s a b g h ∙ ap (λ z. truth_of_found z comparison k s) same

  all_true_equal : (atoms : List Atom) → T (grants_atoms U atoms) → all_true atoms e ≡ all_true atoms f
  unfolding all_true grants_atoms
  all_true_equal [] h = refl
  all_true_equal (atom ∷ atoms) h = same_then (atom_equal atom (both_left (grants_atom U atom) _ h)) (λ holds. ap (λ z. cond holds z (Ok false)) (all_true_equal atoms (both_right (grants_atom U atom) _ h)))

  pub truth_equal : (condition : Condition) → T (grants_condition U condition) → truth_of condition e ≡ truth_of condition f
  unfolding truth_of grants_condition
  truth_equal [] h = refl
  truth_equal (conjunction ∷ more) h = same_then (all_true_equal conjunction (both_left (grants_atoms U conjunction) _ h)) (λ holds. ap (λ z. cond holds (Ok true) z) (truth_equal more (both_right (grants_atoms U conjunction) _ h)))

  pub amount_equal : (x : Option Expression) → T (grants_optional U x) → amount x e ≡ amount x f
  unfolding amount grants_optional
  amount_equal None h = refl
  amount_equal (Some x) h = sought_whole_equal x h

  -- ---- the pairs of a tag

  abbrev pub AlikePair : (Text → Use) → Text × Datum → Text × Datum → Type 0
  AlikePair W p q = (p.0 ≡ q.0) × Alike (W p.0) (Some p.1) (Some q.1)

  pub bound_alike : (W : Text → Use) → ((name : Text) → T (asks_whether (W name))) → (bindings : Bindings) → T (grants_bindings U W bindings) → Both (Pairwise (AlikePair W)) (bound_values bindings e) (bound_values bindings f)
  unfolding bound_values grants_bindings
  bound_alike W asks [] h = tt
  bound_alike W asks (b ∷ bs) h =
      both_then (λ c d. Alike (W b.0) (Some c) (Some d)) _ _ _ _ _ (required_alike b.1 (W b.0) (asks b.0) (both_left (grants U b.1 (W b.0)) _ h)) (λ c d a.
      both_then (Pairwise (AlikePair W)) _ _ _ _ _ (bound_alike W asks bs (both_right (grants U b.1 (W b.0)) _ h)) (λ ps qs k. ((refl, a), k)))
