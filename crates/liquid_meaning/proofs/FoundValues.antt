-- What is evaluated over other data is the same, where each name that is looked up is found the same.
use Rattle.std.specs.Prelude.{◌≡◌, ℕ, zero, suc, ◌-◌, Bool, true, false, ◌||◌, cond, T, List, [], ◌∷◌, ◌++◌, Option, Some, None, Result, Ok, Err}
use mathlib.Core.Path.{refl, sym, ap, subst, ◌∙◌}
use Rattle.std.specs.Option.{option_and_then, unwrap_or}
use Rattle.liquid_model.specs.Texts.{Text, same_text}
use Rattle.liquid_model.specs.Data.{Datum, nil, scalar}
use Rattle.liquid_model.specs.declared.error.ErrorKind.{ErrorKind}
use Rattle.liquid_model.specs.Find.{find}
use Rattle.liquid_core.specs.Expression.{Expression, literal, variable, Steps, no_steps, step}
use Rattle.liquid_evaluation.specs.Calls.{applied, taken_argument, taken_arguments}
use Rattle.liquid_evaluation.specs.Tree.{FilterCall, Chain, Atom, bare, compared, Condition, Source, each_of, counted, Window, Bindings}
use Rattle.liquid_core.specs.Environment.{Environment, lookup}
use Rattle.liquid_model.specs.Fallible.{◌>>=◌}
use Rattle.liquid_core.specs.Expressions.{value_of, path_of, nil_if_missing, none_if_missing, required, sought, sought_whole, needed_whole}
use Rattle.liquid_evaluation.specs.Evaluation.{FilterAnswers, answers_in, entry_value, calls_by, through, chain_value, bare_truth, atom_truth, all_true, truth_of, source_items, amount, selected_items, bound_values}
use Rattle.liquid_evaluation.specs.Names.{expression_names, steps_names, all_names, optional_names, filters_names, chain_names, atom_names, atoms_names, condition_names, source_names, window_names, bound_names}
use Rattle.liquid_model.specs.Maps.{Map}
use Rattle.liquid_model.proofs.Maps.{same_key}
use Rattle.liquid_evaluation.specs.Names.{mentioned}
use Rattle.liquid_meaning.specs.FreeNames.{over}

-- first the same, and then the same of each value
bind_same : {A B : Type 0} {x y : Result A ErrorKind} {k l : A → Result B ErrorKind} → x ≡ y → ((a : A) → k a ≡ l a) → (x >>= k) ≡ (y >>= l)
bind_same {x = x} {k = k} {l = l} e h = on x ∙ ap (λ z. z >>= l) e
  where
    on : (z : Result _ ErrorKind) → (z >>= k) ≡ (z >>= l)
    on (Ok a) = h a
    on (Err kind) = refl

-- each of these
abbrev pub All : (Text → Type 0) → List Text → Type 0
All P [] = Unit {0}
All P (x ∷ xs) = P x × All P xs

pub left : (P : Text → Type 0) (xs ys : List Text) → All P (xs ++ ys) → All P xs
left P [] ys h = tt
left P (x ∷ xs) ys h = (h.0, left P xs ys h.1)

pub right : (P : Text → Type 0) (xs ys : List Text) → All P (xs ++ ys) → All P ys
right P [] ys h = h
right P (x ∷ xs) ys h = right P xs ys h.1

pub or_left : (a b : Bool) → T a → T (a || b)
or_left true b h = tt
or_left false b h = absurd h

pub or_right : (a b : Bool) → T b → T (a || b)
or_right true b h = tt
or_right false b h = h

-- what holds of each name that is mentioned
pub all_of_mentioned : (P : Text → Type 0) (xs : List Text) → ((q : Text) → T (mentioned xs q) → P q) → All P xs
all_of_mentioned P [] h = tt
all_of_mentioned P (x ∷ xs) h =
    (h x (or_left (same_text x x) (mentioned xs x) (subst (λ b. T b) (sym (same_key x)) tt)), all_of_mentioned P xs (λ q m. h q (or_right (same_text q x) (mentioned xs q) m)))

-- what is found of a name is found over the other data too
abbrev pub Found : Map Datum → Environment → Text → Type 0
Found other e name = lookup e name ≡ lookup (over other e) name

module _ (other : Map Datum) (e : Environment) where
  abbrev f : Environment
  f = over other e

  abbrev P : Text → Type 0
  P name = Found other e name

  mutual
    unfolding value_of expression_names

    pub value_same : (x : Expression) → All P (expression_names x) → value_of x e ≡ value_of x f
    value_same (literal d) h = refl
    value_same (variable name steps) h = λ i. option_and_then (λ path. option_and_then (λ found. find found path) (h.0 i)) (path_same steps h.1 i)

    pub path_same : (steps : Steps) → All P (steps_names steps) → path_of steps e ≡ path_of steps f
    path_same no_steps h = refl
    path_same (step x more) h = λ i. option_and_then (λ d. cond (scalar d) (option_and_then (λ ds. Some (d ∷ ds)) (path_same more (right P (expression_names x) (steps_names more) h) i)) None) (value_same x (left P (expression_names x) (steps_names more) h) i)

  pub required_same : (x : Expression) → All P (expression_names x) → required x e ≡ required x f
  required_same x h = ap (nil_if_missing e.missing) (value_same x h)

  sought_same : (x : Expression) → All P (expression_names x) → sought x e ≡ sought x f
  sought_same x h = ap (none_if_missing e.missing) (value_same x h)

  sought_whole_same : (x : Expression) → All P (expression_names x) → sought_whole x e ≡ sought_whole x f
  unfolding sought_whole
  sought_whole_same x h = bind_same (sought_same x h) (λ o. refl)

  pub whole_same : (x : Expression) → All P (expression_names x) → needed_whole x e ≡ needed_whole x f
  unfolding needed_whole
  whole_same x h = bind_same (sought_whole_same x h) (λ n. refl)

  argument_same : (n : ℕ) (x : Expression) → All P (expression_names x) → taken_argument n x e ≡ taken_argument n x f
  argument_same zero x h = ap (λ o. Ok (unwrap_or o nil)) (value_same x h)
  argument_same (suc n) x h = required_same x h

  pub arguments_same : (n : ℕ) (xs : List Expression) → All P (all_names xs) → taken_arguments n xs e ≡ taken_arguments n xs f
  unfolding taken_arguments all_names
  arguments_same n [] h = refl
  arguments_same n (x ∷ xs) h = bind_same (argument_same n x (left P (expression_names x) _ h)) (λ d. bind_same (arguments_same (n - 1) xs (right P (expression_names x) _ h)) (λ ds. refl))

  calls_same : (answers : FilterAnswers) (calls : List FilterCall) → All P (filters_names calls) → (d : Datum) → applied (calls_by answers calls) d e ≡ applied (calls_by answers calls) d f
  unfolding applied filters_names
  calls_same answers [] h d = refl
  calls_same answers (call ∷ calls) h d = bind_same (arguments_same call.required call.arguments (left P (all_names call.arguments) _ h)) (λ arguments. bind_same refl (λ answer. calls_same answers calls (right P (all_names call.arguments) _ h) answer))

  pub through_same : (answers : FilterAnswers) (calls : List FilterCall) → All P (filters_names calls) → (d : Datum) → through answers calls d e ≡ through answers calls d f
  through_same answers calls h d = calls_same (answers_in e.missing answers) calls h d

  pub chain_same : (answers : FilterAnswers) (chain : Chain) → All P (chain_names chain) → chain_value answers chain e ≡ chain_value answers chain f
  unfolding chain_value chain_names
  chain_same answers chain h = bind_same (ap (λ o. entry_value e.missing o chain.filters) (value_same chain.entry (left P (expression_names chain.entry) _ h))) (through_same answers chain.filters (right P (expression_names chain.entry) _ h))

  atom_same : (atom : Atom) → All P (atom_names atom) → atom_truth atom e ≡ atom_truth atom f
  unfolding atom_truth atom_names
  atom_same (bare x) h = ap (λ o. Ok (bare_truth o)) (value_same x h)
  atom_same (compared x comparison y) h = bind_same (sought_same x (left P (expression_names x) _ h)) (λ l. bind_same (sought_same y (right P (expression_names x) _ h)) (λ r. refl))

  all_true_same : (atoms : List Atom) → All P (atoms_names atoms) → all_true atoms e ≡ all_true atoms f
  unfolding all_true atoms_names
  all_true_same [] h = refl
  all_true_same (atom ∷ atoms) h = bind_same (atom_same atom (left P (atom_names atom) _ h)) (λ holds. ap (λ z. cond holds z (Ok false)) (all_true_same atoms (right P (atom_names atom) _ h)))

  pub truth_same : (condition : Condition) → All P (condition_names condition) → truth_of condition e ≡ truth_of condition f
  unfolding truth_of condition_names
  truth_same [] h = refl
  truth_same (conjunction ∷ more) h = bind_same (all_true_same conjunction (left P (atoms_names conjunction) _ h)) (λ holds. ap (λ z. cond holds (Ok true) z) (truth_same more (right P (atoms_names conjunction) _ h)))

  pub source_same : (source : Source) → All P (source_names source) → source_items source e ≡ source_items source f
  unfolding source_items source_names
  source_same (each_of x) h = bind_same (required_same x h) (λ d. refl)
  source_same (counted x y) h = bind_same (whole_same x (left P (expression_names x) _ h)) (λ a. bind_same (whole_same y (right P (expression_names x) _ h)) (λ b. refl))

  pub amount_same : (x : Option Expression) → All P (optional_names x) → amount x e ≡ amount x f
  unfolding amount optional_names
  amount_same None h = refl
  amount_same (Some x) h = sought_whole_same x h

  pub asked_same : (window : Window) (ds : List Datum) → All P (window_names window) → selected_items window ds e ≡ selected_items window ds f
  unfolding selected_items window_names
  asked_same window ds h = bind_same (amount_same window.limit (left P (optional_names window.limit) _ h)) (λ limit. bind_same (amount_same window.offset (right P (optional_names window.limit) _ h)) (λ offset. refl))

  pub bound_same : (bindings : Bindings) → All P (bound_names bindings) → bound_values bindings e ≡ bound_values bindings f
  unfolding bound_values bound_names
  bound_same [] h = refl
  bound_same (b ∷ bs) h = bind_same (required_same b.1 (left P (expression_names b.1) _ h)) (λ d. bind_same (bound_same bs (right P (expression_names b.1) _ h)) (λ ds. refl))
