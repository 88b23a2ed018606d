-- The names of expressions, chains and conditions, part after part.
use Rattle.std.proofs.Common.{◌≡◌, [], ◌∷◌, ◌++◌, map, refl, ap, string_bytes}
use Rattle.std.specs.Prelude.{Vec}
use Rattle.std.specs.declared.alloc.Global.{Global}
use Rattle.liquid_model.specs.declared.value.Value.{Value}
use Rattle.liquid_core.specs.ExpressionView.{expression_view, variable_view, steps_view}
use Rattle.liquid_core.specs.declared.expression.Expression.{Expression, Literal}
use Rattle.liquid_core.specs.declared.expression.Variable.{Variable}
use Rattle.liquid_core.proofs.ExpressionViews.{literal_is, variable_is}
use Rattle.liquid_evaluation.specs.ChainView.{chain_filter_view}
use Rattle.liquid_evaluation.specs.ConditionView.{atom_view, atoms_view}
use Rattle.liquid_evaluation.specs.Names.{expression_names, steps_names, all_names, filters_names, atom_names, atoms_names, condition_names}
use Rattle.liquid_evaluation.specs.declared.chain.ChainFilter.{ChainFilter}
use Rattle.liquid_evaluation.specs.declared.condition.Atom.{Atom}
use Rattle.liquid_evaluation.proofs.Telling.{IsEach}

pub each_expression : IsEach (λ (x : Expression). expression_names (expression_view x)) (λ xs. all_names (map expression_view xs))
unfolding all_names
each_expression = record { none = refl; more = λ x xs. refl }

pub each_step : IsEach (λ (x : Expression). expression_names (expression_view x)) (λ xs. steps_names (steps_view xs))
unfolding steps_names
each_step = record { none = refl; more = λ x xs. refl }

pub each_filter : IsEach (λ (f : ChainFilter). all_names (map expression_view f.arguments.items)) (λ fs. filters_names (map chain_filter_view fs))
unfolding filters_names
each_filter = record { none = refl; more = λ f fs. refl }

pub each_atom : IsEach (λ (a : Atom). atom_names (atom_view a)) (λ atoms. atoms_names (map atom_view atoms))
unfolding atoms_names
each_atom = record { none = refl; more = λ a atoms. refl }

pub each_conjunction : IsEach (λ (c : Vec Atom Global). atoms_names (atoms_view c)) (λ cs. condition_names (map atoms_view cs))
unfolding condition_names
each_conjunction = record { none = refl; more = λ c cs. refl }

pub literal_names : (v : Value) → expression_names (expression_view (Literal v)) ≡ []
unfolding expression_names
literal_names v = ap expression_names (literal_is v)

pub variable_names : (w : Variable) → expression_names (variable_view w) ≡ (string_bytes w.name ∷ []) ++ steps_names (steps_view w.indexes.items)
unfolding expression_names
variable_names w = ap expression_names (variable_is w)
