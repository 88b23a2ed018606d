-- A variable without steps is a word, and one with steps is none.
use Rattle.std.proofs.Common.{◌≡◌, List, [], ◌∷◌, length, Some, None, string_bytes, refl, sym, ap, ◌∙◌, rules}
use Rattle.liquid_model.specs.Texts.{Text}
use Rattle.liquid_core.specs.Expression as tree
use Rattle.liquid_core.specs.ExpressionView.{expression_view, steps_view}
use Rattle.liquid_core.specs.declared.expression.Expression.{Expression, Variable, the_lemmas}
use Rattle.liquid_core.specs.declared.expression.Variable as declared
use Rattle.liquid_lexer.specs.Tokens.{word_if, word_in}

variable_seen : (v : declared.Variable) → expression_view (Variable v) ≡ tree.variable (string_bytes v.name) (steps_view v.indexes.items)
variable_seen v = search (rules, the_lemmas)

stepped : (w : Text) (xs : List Expression) → (length xs ≡ 0 → ⊥) → None ≡ word_if w (steps_view xs)
stepped w [] some = absurd (some refl)
stepped w (x ∷ xs) some = refl

pub no_word : (x : Expression) (v : declared.Variable) → x ≡ Variable v → (length v.indexes.items ≡ 0 → ⊥) → None ≡ word_in (expression_view x)
no_word x v is some = stepped (string_bytes v.name) v.indexes.items some ∙ sym (ap (λ y. word_in (expression_view y)) is ∙ ap word_in (variable_seen v))

unstepped : (w : Text) (xs : List Expression) → length xs ≡ 0 → Some w ≡ word_if w (steps_view xs)
unstepped w [] none = refl
unstepped w (x ∷ xs) none = absurd cc

pub is_word : (x : Expression) (v : declared.Variable) → x ≡ Variable v → length v.indexes.items ≡ 0 → Some (string_bytes v.name) ≡ word_in (expression_view x)
is_word x v is none = unstepped (string_bytes v.name) v.indexes.items none ∙ sym (ap (λ y. word_in (expression_view y)) is ∙ ap word_in (variable_seen v))
