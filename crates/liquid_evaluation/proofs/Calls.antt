-- Chains of filters, call by call.
use Rattle.std.proofs.Common.{◌≡◌, ℕ, zero, suc, ◌+◌, ◌-◌, ◌<◌, ◌≤◌, List, [], ◌∷◌, ◌++◌, length, drop, map, get_or, Bool, true, false, MatchBool, Option, Some, None, Result, Ok, Err, arith, refl, sym, ap, ◌∙◌, subst, append_assoc, append-nil}
use Rattle.std.specs.Bool.{⊤}
use Rattle.std.specs.Option.{unwrap_or}
use Rattle.std.proofs.lemmas.List.{drop_more, drop_all}
use Rattle.std.specs.List.{list_all}
use Rattle.std.proofs.lemmas.List.Sums.{AllPass-from_list_all}
use Rattle.liquid_model.specs.Answer.{Answers, Faulted}
use Rattle.liquid_model.specs.ErrorKinds.{IsKindOrMemory, is_memory, is_refusal}
use Rattle.liquid_model.specs.Data.{Datum, nil, number, truth}
use Rattle.liquid_model.specs.declared.error.Error.{Error}
use Rattle.liquid_model.specs.declared.error.ErrorKind.{ErrorKind}
use Rattle.liquid_model.specs.declared.value.Value.{Value}
use Rattle.liquid_model.specs.View.{view}
use Rattle.liquid_model.specs.Fallible.{◌>>=◌}
use Rattle.liquid_core.specs.Expression as tree
use Rattle.liquid_core.specs.Environment.{Environment}
use Rattle.liquid_core.specs.Expressions.{nil_if_missing, value_of, required}
use Rattle.liquid_model.specs.FilterAnswers.{AnswersIf}
use Rattle.liquid_core.specs.DirectValues.{DirectlyIs}
use Rattle.liquid_core.specs.declared.resolved.DirectValue.{DirectValue}
use Rattle.liquid_core.specs.declared.resolved.DirectValue.TheVariants.{Held, Number, Truth, Loop, Nothing, Unknown}
use Rattle.liquid_evaluation.specs.Calls.{Call, applied, taken_argument, taken_arguments}
use Rattle.liquid_evaluation.specs.DirectValues.{ChainDirectlyIs}
use Rattle.liquid_evaluation.specs.Tree.{FilterCall, Chain}
use Rattle.liquid_evaluation.specs.Evaluation.{FilterAnswers, answers_in, entry_value, call_by, calls_by, chain_value}

-- a fault met first is the fault of the whole
pub faulted_then : {A B : Type 0} (kind : ErrorKind) (a : Result A ErrorKind) (f : A → Result B ErrorKind) → Faulted kind a → Faulted kind (a >>= f)
faulted_then {A} {B} kind a f h = on (is_memory kind) h
  where
    on : (b : Bool) → MatchBool b ⊤ ((a ≡ Err kind) × (is_refusal kind ≡ false)) → MatchBool b ⊤ (((a >>= f) ≡ Err kind) × (is_refusal kind ≡ false))
    on true m = m
    on false m = (ap (λ r. r >>= f) m.0, m.1)

pub faulted_as : {A : Type 0} (kind : ErrorKind) (a b : Result A ErrorKind) → a ≡ b → Faulted kind b → Faulted kind a
faulted_as kind a b e h = subst (λ r. Faulted kind r) (sym e) h

-- the same fault, with more in its message
pub faulted_again : {A : Type 0} (kind reported : ErrorKind) (wanted : Result A ErrorKind) → IsKindOrMemory kind reported → Faulted kind wanted → Faulted reported wanted
faulted_again kind reported wanted h f = on (is_memory reported) refl h
  where
    on : (b : Bool) → is_memory reported ≡ b → MatchBool b ⊤ (kind ≡ reported) → MatchBool (is_memory reported) ⊤ ((wanted ≡ Err reported) × (is_refusal reported ≡ false))
    on true is m = subst (λ b. MatchBool b ⊤ ((wanted ≡ Err reported) × (is_refusal reported ≡ false))) (sym is) tt
    on false is m = subst (λ k. Faulted k wanted) m f

-- ---- answers of filters whose kinds need not be the meaning's

pub answers_if : {X Y : Type 0} (within : Bool) (view : X → Y) (r : Result X Error) (wanted : Result Y ErrorKind) → Answers view r wanted → AnswersIf within view r wanted
answers_if true view r wanted h = h
answers_if false view (Ok x) wanted h = h
answers_if false view (Err e) wanted h = on (is_memory e.kind) h
  where
    on : (b : Bool) → MatchBool b ⊤ ((wanted ≡ Err e.kind) × (is_refusal e.kind ≡ false)) → MatchBool b ⊤ (wanted ≡ Err e.kind)
    on true m = m
    on false m = m.0

pub if_answered : {X Y : Type 0} (within : Bool) (view : X → Y) (x : X) (wanted : Result Y ErrorKind) → AnswersIf within view (Ok x) wanted → wanted ≡ Ok (view x)
if_answered true view x wanted h = h
if_answered false view x wanted h = h

-- a fault of one is the fault of all
pub faulted_if : {V W X Y : Type 0} (v : V → X) (w : W → Y) (one all : Bool) (e x : Error) (a : Result X ErrorKind) (b : Result Y ErrorKind) → (all ≡ true → one ≡ true) → (a ≡ Err e.kind → b ≡ Err e.kind) → x.kind ≡ e.kind
    → AnswersIf one v (Err e) a → AnswersIf all w (Err x) b
faulted_if v w true true e x a b i f same h = rw same (on (is_memory e.kind) h)
  where
    on : (m : Bool) → MatchBool m ⊤ ((a ≡ Err e.kind) × (is_refusal e.kind ≡ false)) → MatchBool m ⊤ ((b ≡ Err e.kind) × (is_refusal e.kind ≡ false))
    on true n = n
    on false n = (f n.0, n.1)
faulted_if v w true false e x a b i f same h = rw same (on (is_memory e.kind) h)
  where
    on : (m : Bool) → MatchBool m ⊤ ((a ≡ Err e.kind) × (is_refusal e.kind ≡ false)) → MatchBool m ⊤ (b ≡ Err e.kind)
    on true n = n
    on false n = f n.0
faulted_if v w false true e x a b i f same h = let u : false ≡ true = i refl in absurd cc
faulted_if v w false false e x a b i f same h = rw same (on (is_memory e.kind) h)
  where
    on : (m : Bool) → MatchBool m ⊤ (a ≡ Err e.kind) → MatchBool m ⊤ (b ≡ Err e.kind)
    on true n = n
    on false n = f n

pub all_within : {X : Type 0} (f : X → Bool) (xs : List X) (i : ℕ) (x : X) → i < length xs → x ≡ get_or xs i x → list_all f xs ≡ true → f x ≡ true
all_within f xs i x h is all = ap f is ∙ AllPass-from_list_all f xs all i x h

-- ---- arguments

-- a value put before what is done with the rest
cons_then : (r : Result (List Datum) ErrorKind) (done : List Datum) (d : Datum)
    → ((r >>= (λ ds. Ok (d ∷ ds))) >>= (λ ds. Ok (done ++ ds))) ≡ (r >>= (λ ds. Ok ((done ++ d ∷ []) ++ ds)))
cons_then (Ok ds) done d = ap Ok (sym (append_assoc done (d ∷ []) ds))
cons_then (Err kind) done d = refl

next_argument : {X : Type 0} (f : X → tree.Expression) (e : Environment) (xs : List X) (n i : ℕ) (x : X) (done : List Datum) → i < length xs → x ≡ get_or xs i x
    → (taken_arguments n (map f (drop i xs)) e >>= (λ ds. Ok (done ++ ds)))
    ≡ ((taken_argument n (f x) e >>= (λ d. taken_arguments (n - 1) (map f (drop (i + 1) xs)) e >>= (λ ds. Ok (d ∷ ds)))) >>= (λ ds. Ok (done ++ ds)))
unfolding taken_arguments
next_argument f e xs n i x done h is =
    ap (λ y. taken_arguments n (map f y) e >>= (λ ds. Ok (done ++ ds))) (drop_more xs i x h ∙ ap (λ y. y ∷ drop (i + 1) xs) (sym is))

pub arguments_more : {X : Type 0} (f : X → tree.Expression) (all : Result (List Datum) ErrorKind) (e : Environment) (xs : List X) (n i : ℕ) (x : X) (done : List Datum) (d : Datum)
    → i < length xs → x ≡ get_or xs i x → taken_argument n (f x) e ≡ Ok d
    → all ≡ (taken_arguments n (map f (drop i xs)) e >>= (λ ds. Ok (done ++ ds)))
    → all ≡ (taken_arguments (n - 1) (map f (drop (i + 1) xs)) e >>= (λ ds. Ok ((done ++ d ∷ []) ++ ds)))
arguments_more f all e xs n i x done d h is v so_far =
    so_far ∙ next_argument f e xs n i x done h is
    ∙ ap (λ r. (r >>= (λ d. taken_arguments (n - 1) (map f (drop (i + 1) xs)) e >>= (λ ds. Ok (d ∷ ds)))) >>= (λ ds. Ok (done ++ ds))) v
    ∙ cons_then (taken_arguments (n - 1) (map f (drop (i + 1) xs)) e) done d

pub arguments_stop : {X : Type 0} (f : X → tree.Expression) (all : Result (List Datum) ErrorKind) (e : Environment) (xs : List X) (n i : ℕ) (x : X) (done : List Datum) (kind : ErrorKind)
    → i < length xs → x ≡ get_or xs i x → Faulted kind (taken_argument n (f x) e)
    → all ≡ (taken_arguments n (map f (drop i xs)) e >>= (λ ds. Ok (done ++ ds)))
    → Faulted kind all
arguments_stop f all e xs n i x done kind h is v so_far =
    faulted_as kind all _ (so_far ∙ next_argument f e xs n i x done h is)
    (faulted_then kind _ (λ ds. Ok (done ++ ds)) (faulted_then kind (taken_argument n (f x) e) (λ d. taken_arguments (n - 1) (map f (drop (i + 1) xs)) e >>= (λ ds. Ok (d ∷ ds))) v))

pub arguments_end : {X : Type 0} (f : X → tree.Expression) (all : Result (List Datum) ErrorKind) (e : Environment) (xs : List X) (n i : ℕ) (done : List Datum) → length xs ≤ i
    → all ≡ (taken_arguments n (map f (drop i xs)) e >>= (λ ds. Ok (done ++ ds))) → all ≡ Ok done
unfolding taken_arguments
arguments_end f all e xs n i done h so_far =
    so_far ∙ ap (λ y. taken_arguments n (map f y) e >>= (λ ds. Ok (done ++ ds))) (drop_all i xs h) ∙ ap Ok (append-nil done)

-- nothing is done yet
none_done : (r : Result (List Datum) ErrorKind) → r ≡ (r >>= (λ ds. Ok ([] ++ ds)))
none_done (Ok ds) = refl
none_done (Err kind) = refl

-- a single argument
pub one_argument : {X : Type 0} (f : X → tree.Expression) (e : Environment) (xs : List X) (n : ℕ) (x : X) (d : Datum) → 0 < length xs → length xs ≤ 1 → x ≡ get_or xs 0 x
    → taken_argument n (f x) e ≡ Ok d → taken_arguments n (map f xs) e ≡ Ok (d ∷ [])
one_argument f e xs n x d h l is v =
    arguments_end f (taken_arguments n (map f xs) e) e xs (n - 1) 1 (d ∷ []) l (arguments_more f (taken_arguments n (map f xs) e) e xs n 0 x [] d h is v (none_done (taken_arguments n (map f xs) e)))

pub no_argument : {X : Type 0} (f : X → tree.Expression) (e : Environment) (xs : List X) (n : ℕ) → length xs ≤ 0 → taken_arguments n (map f xs) e ≡ Ok []
no_argument f e xs n l = arguments_end f (taken_arguments n (map f xs) e) e xs n 0 [] l (none_done (taken_arguments n (map f xs) e))

pub one_argument_faulted : {X : Type 0} (f : X → tree.Expression) (e : Environment) (xs : List X) (n : ℕ) (x : X) (kind : ErrorKind) → 0 < length xs → x ≡ get_or xs 0 x
    → Faulted kind (taken_argument n (f x) e) → Faulted kind (taken_arguments n (map f xs) e)
one_argument_faulted f e xs n x kind h is v = arguments_stop f (taken_arguments n (map f xs) e) e xs n 0 x [] kind h is v (none_done (taken_arguments n (map f xs) e))

-- ---- whether it is required

-- a value that is there
pub argument_there : (n : ℕ) (x : tree.Expression) (e : Environment) (d : Datum) → value_of x e ≡ Some d → taken_argument n x e ≡ Ok d
argument_there zero x e d h = ap (λ o. Ok (unwrap_or o nil)) h
argument_there (suc n) x e d h = ap (nil_if_missing e.missing) h

pub argument_required : (n : ℕ) (x : tree.Expression) (e : Environment) → 0 < n → taken_argument n x e ≡ required x e
argument_required zero x e h = absurd (omega arith)
argument_required (suc n) x e h = refl

pub argument_given : (n : ℕ) (x : tree.Expression) (e : Environment) → n ≤ 0 → taken_argument n x e ≡ Ok (unwrap_or (value_of x e) nil)
argument_given zero x e h = refl
argument_given (suc n) x e h = absurd (omega arith)

-- ---- calls

-- a call whose filter is no more than applied to its arguments, and what is done with the answer
alone : (r : Result (List Datum) ErrorKind) (answers : Datum → List Datum → Result Datum ErrorKind) (d : Datum) (k : Datum → Result Datum ErrorKind)
    → (r >>= (λ ds. answers d ds >>= k)) ≡ ((r >>= (λ ds. answers d ds >>= (λ y. Ok y))) >>= k)
alone (Err kind) answers d k = refl
alone (Ok ds) answers d k = on (answers d ds)
  where
    on : (a : Result Datum ErrorKind) → (a >>= k) ≡ ((a >>= (λ y. Ok y)) >>= k)
    on (Ok y) = refl
    on (Err kind) = refl

-- one call, once its arguments have values
pub one_call : (within : Bool) (call : Call) (e : Environment) (d : Datum) (ds : List Datum) (r : Result Value Error) → taken_arguments call.required call.arguments e ≡ Ok ds
    → AnswersIf within view r (call.answers d ds) → AnswersIf within view r (applied (call ∷ []) d e)
unfolding applied
one_call within call e d ds r values h =
    subst (λ wanted. AnswersIf within view r wanted) (as_it_is (call.answers d ds) ∙ ap (λ given. given >>= (λ es. call.answers d es >>= (λ y. Ok y))) (sym values)) h
  where
    as_it_is : (a : Result Datum ErrorKind) → a ≡ (a >>= (λ y. Ok y))
    as_it_is (Ok y) = refl
    as_it_is (Err kind) = refl

-- and where one of them has none
pub one_call_faulted : (within : Bool) (call : Call) (e : Environment) (d : Datum) (fault : Error) → Faulted fault.kind (taken_arguments call.required call.arguments e)
    → AnswersIf within view (Err fault) (applied (call ∷ []) d e)
unfolding applied
one_call_faulted within call e d fault h =
    answers_if {X = Value} within view (Err fault) (applied (call ∷ []) d e) (faulted_then fault.kind (taken_arguments call.required call.arguments e) (λ ds. call.answers d ds >>= (λ y. Ok y)) h)

next_call : {X : Type 0} (f : X → Call) (e : Environment) (xs : List X) (i : ℕ) (x : X) (d : Datum) → i < length xs → x ≡ get_or xs i x
    → applied (map f (drop i xs)) d e ≡ (applied (f x ∷ []) d e >>= (λ y. applied (map f (drop (i + 1) xs)) y e))
unfolding applied
next_call f e xs i x d h is =
    ap (λ y. applied (map f y) d e) (drop_more xs i x h ∙ ap (λ y. y ∷ drop (i + 1) xs) (sym is))
    ∙ alone (taken_arguments (f x).required (f x).arguments e) (f x).answers d (λ y. applied (map f (drop (i + 1) xs)) y e)

pub calls_more : {X : Type 0} (f : X → Call) (all : Result Datum ErrorKind) (e : Environment) (xs : List X) (i : ℕ) (x : X) (d answer : Datum)
    → i < length xs → x ≡ get_or xs i x → applied (f x ∷ []) d e ≡ Ok answer
    → all ≡ applied (map f (drop i xs)) d e → all ≡ applied (map f (drop (i + 1) xs)) answer e
calls_more f all e xs i x d answer h is a so_far =
    so_far ∙ next_call f e xs i x d h is ∙ ap (λ r. r >>= (λ y. applied (map f (drop (i + 1) xs)) y e)) a

-- an argument's fault, or a filter's
pub calls_stop : {X : Type 0} (f : X → Call) (all : Result Datum ErrorKind) (e : Environment) (xs : List X) (i : ℕ) (x : X) (d : Datum) (kind : ErrorKind)
    → i < length xs → x ≡ get_or xs i x → all ≡ applied (map f (drop i xs)) d e → applied (f x ∷ []) d e ≡ Err kind → all ≡ Err kind
calls_stop f all e xs i x d kind h is so_far a =
    so_far ∙ next_call f e xs i x d h is ∙ ap (λ r. r >>= (λ y. applied (map f (drop (i + 1) xs)) y e)) a

pub calls_end : {X : Type 0} (f : X → Call) (all : Result Datum ErrorKind) (e : Environment) (xs : List X) (i : ℕ) (d : Datum) → length xs ≤ i
    → all ≡ applied (map f (drop i xs)) d e → all ≡ Ok d
unfolding applied
calls_end f all e xs i d h so_far = so_far ∙ ap (λ y. applied (map f y) d e) (drop_all i xs h)

-- ---- a stored chain, of which each filter is applied alone

next_filter : {X : Type 0} (answers : FilterAnswers) (f : X → FilterCall) (e : Environment) (xs : List X) (i : ℕ) (x : X) (d : Datum) → i < length xs → x ≡ get_or xs i x
    → applied (calls_by answers (map f (drop i xs))) d e ≡ (applied (call_by answers (f x) ∷ []) d e >>= (λ y. applied (calls_by answers (map f (drop (i + 1) xs))) y e))
unfolding applied
next_filter answers f e xs i x d h is =
    ap (λ y. applied (calls_by answers (map f y)) d e) (drop_more xs i x h ∙ ap (λ y. y ∷ drop (i + 1) xs) (sym is))
    ∙ alone (taken_arguments (f x).required (f x).arguments e) (answers (f x).filter) d (λ y. applied (calls_by answers (map f (drop (i + 1) xs))) y e)

pub filters_more : {X : Type 0} (answers : FilterAnswers) (f : X → FilterCall) (all : Result Datum ErrorKind) (e : Environment) (xs : List X) (i : ℕ) (x : X) (d answer : Datum)
    → i < length xs → x ≡ get_or xs i x → applied (call_by answers (f x) ∷ []) d e ≡ Ok answer
    → all ≡ applied (calls_by answers (map f (drop i xs))) d e → all ≡ applied (calls_by answers (map f (drop (i + 1) xs))) answer e
filters_more answers f all e xs i x d answer h is a so_far =
    so_far ∙ next_filter answers f e xs i x d h is ∙ ap (λ r. r >>= (λ y. applied (calls_by answers (map f (drop (i + 1) xs))) y e)) a

pub filters_stop : {X : Type 0} (answers : FilterAnswers) (f : X → FilterCall) (all : Result Datum ErrorKind) (e : Environment) (xs : List X) (i : ℕ) (x : X) (d : Datum) (kind : ErrorKind)
    → i < length xs → x ≡ get_or xs i x → Faulted kind (applied (call_by answers (f x) ∷ []) d e)
    → all ≡ applied (calls_by answers (map f (drop i xs))) d e → Faulted kind all
filters_stop answers f all e xs i x d kind h is a so_far =
    faulted_as kind all _ (so_far ∙ next_filter answers f e xs i x d h is)
    (faulted_then kind (applied (call_by answers (f x) ∷ []) d e) (λ y. applied (calls_by answers (map f (drop (i + 1) xs))) y e) a)

pub filters_end : {X : Type 0} (answers : FilterAnswers) (f : X → FilterCall) (all : Result Datum ErrorKind) (e : Environment) (xs : List X) (i : ℕ) (d : Datum) → length xs ≤ i
    → all ≡ applied (calls_by answers (map f (drop i xs))) d e → all ≡ Ok d
unfolding applied
filters_end answers f all e xs i d h so_far = so_far ∙ ap (λ y. applied (calls_by answers (map f y)) d e) (drop_all i xs h)

-- the chain once its entry has a value, and where it has none
pub chain_from : (answers : FilterAnswers) (chain : Chain) (e : Environment) (d : Datum) → entry_value e.missing (value_of chain.entry e) chain.filters ≡ Ok d
    → chain_value answers chain e ≡ applied (calls_by (answers_in e.missing answers) chain.filters) d e
unfolding chain_value
chain_from answers chain e d h = ap (λ r. r >>= (λ y. applied (calls_by (answers_in e.missing answers) chain.filters) y e)) h

pub chain_faulted : (answers : FilterAnswers) (chain : Chain) (e : Environment) (kind : ErrorKind) → Faulted kind (entry_value e.missing (value_of chain.entry e) chain.filters)
    → Faulted kind (chain_value answers chain e)
unfolding chain_value
chain_faulted answers chain e kind h = faulted_then kind (entry_value e.missing (value_of chain.entry e) chain.filters) (λ y. applied (calls_by (answers_in e.missing answers) chain.filters) y e) h

-- ---- a chain without filters

nothing_applied : (answers : FilterAnswers) (d : Datum) (e : Environment) → applied (calls_by answers []) d e ≡ Ok d
unfolding applied
nothing_applied answers d e = refl

its_entry : (answers : FilterAnswers) (chain : Chain) (e : Environment) (d : Datum) → chain.filters ≡ [] → Some d ≡ value_of chain.entry e → chain_value answers chain e ≡ Ok d
its_entry answers chain e d none h =
    chain_from answers chain e d (sym (ap (λ o. entry_value e.missing o chain.filters) h)) ∙ ap (λ fs. applied (calls_by (answers_in e.missing answers) fs) d e) none ∙ nothing_applied (answers_in e.missing answers) d e

pub directly_of : (n : DirectValue) (chain : Chain) (e : Environment) → chain.filters ≡ [] → DirectlyIs n (value_of chain.entry e) None → ChainDirectlyIs n chain e
directly_of (Held v) chain e none h = λ answers. its_entry answers chain e (view v.now) none h
directly_of (Number n) chain e none h = λ answers. its_entry answers chain e (number n) none h
directly_of (Truth b) chain e none h = λ answers. its_entry answers chain e (truth b) none h
directly_of (Loop t) chain e none h = tt
directly_of Nothing chain e none h = tt
directly_of Unknown chain e none h = tt

pub none_of : {X Y : Type 0} (f : X → Y) (xs : List X) → length xs ≡ 0 → map f xs ≡ []
none_of f [] h = refl
none_of f (x ∷ xs) h = absurd (omega (arith, h))
