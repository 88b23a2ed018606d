-- What is evaluated in two environments that agree on the mentioned names is the same.
use Rattle.std.specs.Prelude.{◌≡◌, ℕ, zero, suc, ◌-◌, true, false, cond, T, List, [], ◌∷◌, Option, Some, None, Result, Ok, Err}
use mathlib.Core.Path.{refl, ap, ◌∙◌}
use Rattle.std.specs.Option.{option_and_then, unwrap_or}
use Rattle.liquid_model.specs.Texts.{Text, ◌else◌}
use Rattle.liquid_model.specs.Data.{Datum, nil, scalar}
use Rattle.liquid_model.specs.declared.error.ErrorKind.{ErrorKind}
use Rattle.liquid_model.specs.Find.{find}
use Rattle.liquid_core.specs.Expression.{Expression, literal, variable, Steps, no_steps, step}
use Rattle.liquid_evaluation.specs.Calls.{applied, taken_argument, taken_arguments}
use Rattle.liquid_evaluation.specs.Tree.{FilterCall, Chain, Atom, bare, compared, Condition, Source, each_of, counted, Window, Bindings}
use Rattle.liquid_core.specs.Environment.{Names, Environment, lookup}
use Rattle.liquid_model.specs.Fallible.{◌>>=◌}
use Rattle.liquid_core.specs.Expressions.{value_of, path_of, nil_if_missing, none_if_missing, required, sought, whole_found, sought_whole, needed_whole}
use Rattle.liquid_evaluation.specs.Evaluation.{FilterAnswers, answers_in, entry_value, calls_by, through, chain_value, truth_of_found, bare_truth, atom_truth, all_true, truth_of, source_items, amount, selected_items, bound_values}
use Rattle.liquid_evaluation.specs.Names.{expression_names, steps_names, all_names, optional_names, filters_names, chain_names, atom_names, atoms_names, condition_names, source_names, window_names, bound_names}
use Rattle.liquid_meaning.proofs.Runs.{AgreeOn}
use Rattle.liquid_meaning.specs.Within.{Within}
use Rattle.liquid_meaning.proofs.Within.{left, right}

-- first the same, and then the same of each value
bind_same : {A B : Type 0} {x y : Result A ErrorKind} {k l : A → Result B ErrorKind} → x ≡ y → ((a : A) → k a ≡ l a) → (x >>= k) ≡ (y >>= l)
bind_same {x = x} {k = k} {l = l} e h = on x ∙ ap (λ z. z >>= l) e
  where
    on : (z : Result _ ErrorKind) → (z >>= k) ≡ (z >>= l)
    on (Ok a) = h a
    on (Err kind) = refl

module _ (N : Names) (e f : Environment) (agree : AgreeOn N e f) where
  pub lookup_same : (name : Text) → T (N name) → lookup e name ≡ lookup f name
  lookup_same name h i = ((agree.local name h i else agree.assigned name h i) else agree.counters name h i) else agree.globals name h i

  mutual
    unfolding value_of expression_names

    pub value_same : (x : Expression) → Within N (expression_names x) → value_of x e ≡ value_of x f
    value_same (literal d) h = refl
    value_same (variable name steps) h = λ i. option_and_then (λ path. option_and_then (λ found. find found path) (lookup_same name h.0 i)) (path_same steps h.1 i)

    pub path_same : (steps : Steps) → Within N (steps_names steps) → path_of steps e ≡ path_of steps f
    path_same no_steps h = refl
    path_same (step x more) h = λ i. option_and_then (λ d. cond (scalar d) (option_and_then (λ ds. Some (d ∷ ds)) (path_same more (right N (expression_names x) (steps_names more) h) i)) None) (value_same x (left N (expression_names x) (steps_names more) h) i)

  pub required_same : (x : Expression) → Within N (expression_names x) → required x e ≡ required x f
  required_same x h = λ i. nil_if_missing (agree.missing i) (value_same x h i)

  sought_same : (x : Expression) → Within N (expression_names x) → sought x e ≡ sought x f
  sought_same x h = λ i. none_if_missing (agree.missing i) (value_same x h i)

  sought_whole_same : (x : Expression) → Within N (expression_names x) → sought_whole x e ≡ sought_whole x f
  unfolding sought_whole
  sought_whole_same x h = bind_same (sought_same x h) (λ o i. whole_found (agree.missing i) o)

  pub whole_same : (x : Expression) → Within N (expression_names x) → needed_whole x e ≡ needed_whole x f
  unfolding needed_whole
  whole_same x h = bind_same (sought_whole_same x h) (λ n. refl)

  argument_same : (n : ℕ) (x : Expression) → Within N (expression_names x) → taken_argument n x e ≡ taken_argument n x f
  argument_same zero x h = ap (λ o. Ok (unwrap_or o nil)) (value_same x h)
  argument_same (suc n) x h = required_same x h

  pub arguments_same : (n : ℕ) (xs : List Expression) → Within N (all_names xs) → taken_arguments n xs e ≡ taken_arguments n xs f
  unfolding taken_arguments all_names
  arguments_same n [] h = refl
  arguments_same n (x ∷ xs) h = bind_same (argument_same n x (left N (expression_names x) _ h)) (λ d. bind_same (arguments_same (n - 1) xs (right N (expression_names x) _ h)) (λ ds. refl))

  calls_same : (answers : FilterAnswers) (calls : List FilterCall) → Within N (filters_names calls) → (d : Datum) → applied (calls_by answers calls) d e ≡ applied (calls_by answers calls) d f
  unfolding applied filters_names
  calls_same answers [] h d = refl
  calls_same answers (call ∷ calls) h d = bind_same (arguments_same call.required call.arguments (left N (all_names call.arguments) _ h)) (λ arguments. bind_same refl (λ answer. calls_same answers calls (right N (all_names call.arguments) _ h) answer))

  pub through_same : (answers : FilterAnswers) (calls : List FilterCall) → Within N (filters_names calls) → (d : Datum) → through answers calls d e ≡ through answers calls d f
  through_same answers calls h d = calls_same (answers_in e.missing answers) calls h d ∙ ap (λ m. applied (calls_by (answers_in m answers) calls) d f) agree.missing

  pub chain_same : (answers : FilterAnswers) (chain : Chain) → Within N (chain_names chain) → chain_value answers chain e ≡ chain_value answers chain f
  unfolding chain_value chain_names
  chain_same answers chain h = bind_same (λ i. entry_value (agree.missing i) (value_same chain.entry (left N (expression_names chain.entry) _ h) i) chain.filters) (through_same answers chain.filters (right N (expression_names chain.entry) _ h))

  atom_same : (atom : Atom) → Within N (atom_names atom) → atom_truth atom e ≡ atom_truth atom f
  unfolding atom_truth atom_names
  atom_same (bare x) h = ap (λ o. Ok (bare_truth o)) (value_same x h)
  atom_same (compared x comparison y) h = bind_same (sought_same x (left N (expression_names x) _ h)) (λ l. bind_same (sought_same y (right N (expression_names x) _ h)) (λ r i. truth_of_found (agree.missing i) comparison l r))

  all_true_same : (atoms : List Atom) → Within N (atoms_names atoms) → all_true atoms e ≡ all_true atoms f
  unfolding all_true atoms_names
  all_true_same [] h = refl
  all_true_same (atom ∷ atoms) h = bind_same (atom_same atom (left N (atom_names atom) _ h)) (λ holds. ap (λ z. cond holds z (Ok false)) (all_true_same atoms (right N (atom_names atom) _ h)))

  pub truth_same : (condition : Condition) → Within N (condition_names condition) → truth_of condition e ≡ truth_of condition f
  unfolding truth_of condition_names
  truth_same [] h = refl
  truth_same (conjunction ∷ more) h = bind_same (all_true_same conjunction (left N (atoms_names conjunction) _ h)) (λ holds. ap (λ z. cond holds (Ok true) z) (truth_same more (right N (atoms_names conjunction) _ h)))

  pub source_same : (source : Source) → Within N (source_names source) → source_items source e ≡ source_items source f
  unfolding source_items source_names
  source_same (each_of x) h = bind_same (required_same x h) (λ d. refl)
  source_same (counted x y) h = bind_same (whole_same x (left N (expression_names x) _ h)) (λ a. bind_same (whole_same y (right N (expression_names x) _ h)) (λ b. refl))

  pub amount_same : (x : Option Expression) → Within N (optional_names x) → amount x e ≡ amount x f
  unfolding amount optional_names
  amount_same None h = refl
  amount_same (Some x) h = sought_whole_same x h

  pub asked_same : (window : Window) (ds : List Datum) → Within N (window_names window) → selected_items window ds e ≡ selected_items window ds f
  unfolding selected_items window_names
  asked_same window ds h = bind_same (amount_same window.limit (left N (optional_names window.limit) _ h)) (λ limit. bind_same (amount_same window.offset (right N (optional_names window.limit) _ h)) (λ offset. refl))

  pub bound_same : (bindings : Bindings) → Within N (bound_names bindings) → bound_values bindings e ≡ bound_values bindings f
  unfolding bound_values bound_names
  bound_same [] h = refl
  bound_same (b ∷ bs) h = bind_same (required_same b.1 (left N (expression_names b.1) _ h)) (λ d. bind_same (bound_same bs (right N (expression_names b.1) _ h)) (λ ds. refl))
