-- A condition is read where it is written, and is written where it is read.
use Rattle.std.proofs.Common.{◌≡◌, List, [], ◌∷◌, ◌++◌, append_assoc, Bool, true, false, cond, Option, Some, None, codes, refl, sym, ap, ◌∙◌, subst}
use Rattle.std.proofs.lemmas.List.{append-nil}
use Rattle.std.proofs.lemmas.Slice.Eq.{bytes_eq-Decides}
use Rattle.std.specs.Option.{option_map}
use Rattle.liquid_model.specs.Texts.{Text}
use Rattle.liquid_core.specs.Expression.{Expression, literal, variable, Steps, no_steps, step}
use Rattle.liquid_parser.specs.Conditions.{and_word, or_word, IsOperator, equals, not_equals, less_or_greater, less, greater, less_or_equal, greater_or_equal, contains, IsAtom, bare_value, comparison, IsConjunction, one_atom, and_more, IsCondition, one_conjunction, or_more}
use Rattle.liquid_parser.specs.ConditionReading.{operator_of, symbol_operator, with_atom, atom_joined, compared_or, condition_of, after_value, after_operator, after_atom}
use Rattle.liquid_lexer.specs.Tokens.{Token, value, range, symbol, word, is_word}
use Rattle.liquid_evaluation.specs.Tree.{Atom, bare, compared, Condition}
use Rattle.liquid_evaluation.specs.declared.comparison.ComparisonOperator.{ComparisonOperator}
use Rattle.liquid_lexer.specs.declared.symbol.Symbol.{Symbol}
use Rattle.liquid_lexer.specs.declared.symbol.Symbol.TheVariants.{Equals, NotEquals, LessOrGreater, LessThanEquals, GreaterThanEquals, LessThan, GreaterThan, Assign, Colon, Comma, Bar}
use Rattle.liquid_model.proofs.WordLaws.{from_some, map_some}
use Rattle.liquid_evaluation.specs.declared.comparison.ComparisonOperator.TheVariants as operators

-- ---- what is written is read

operator_again : {o : ComparisonOperator} {t : Token} → IsOperator o t → operator_of t ≡ Some o
operator_again equals = refl
operator_again not_equals = refl
operator_again less_or_greater = refl
operator_again less = refl
operator_again greater = refl
operator_again less_or_equal = refl
operator_again greater_or_equal = refl
operator_again contains = refl

-- what no operator begins
abbrev Stops : List Token → Type 0
Stops rest = (x : Expression) → after_value rest x ≡ after_atom rest (bare x)

stops_at_end : Stops []
unfolding condition_of
stops_at_end x = refl

stops_at_and : (ts : List Token) → Stops (and_word ∷ ts)
unfolding condition_of
stops_at_and ts x = refl

stops_at_or : (ts : List Token) → Stops (or_word ∷ ts)
unfolding condition_of
stops_at_or ts x = refl

atom_again : {a : Atom} {ts : List Token} (rest : List Token) → Stops rest → IsAtom a ts → condition_of (ts ++ rest) ≡ after_atom rest a
unfolding condition_of
atom_again rest stops (bare_value x) = stops x
atom_again rest stops (comparison {operator = o} {t = t} x y is) =
    ap (λ p. compared_or p (after_operator (value y ∷ rest) x) (atom_joined (bare x) t (condition_of (value y ∷ rest)))) (operator_again is)

-- what ends a conjunction, and the conjunctions after it
pub data Ends : List Token → Option Condition → Type 0 where
  at_end : Ends [] (Some [])
  at_or : (ts : List Token) → Ends (or_word ∷ ts) (condition_of ts)

ends_stop : {rest : List Token} {o : Option Condition} → Ends rest o → Stops rest
ends_stop at_end = stops_at_end
ends_stop (at_or ts) = stops_at_or ts

last_atom : (a : Atom) {rest : List Token} {o : Option Condition} → Ends rest o → after_atom rest a ≡ option_map (λ cs. (a ∷ []) ∷ cs) o
unfolding condition_of
last_atom a at_end = refl
last_atom a (at_or ts) = refl

put_before : (a : Atom) (more : List Atom) (o : Option Condition) → option_map (with_atom a) (option_map (λ cs. more ∷ cs) o) ≡ option_map (λ cs. (a ∷ more) ∷ cs) o
put_before a more None = refl
put_before a more (Some cs) = refl

after_and : (a : Atom) (ts : List Token) → after_atom (and_word ∷ ts) a ≡ option_map (with_atom a) (condition_of ts)
unfolding condition_of
after_and a ts = refl

conjunction_again : {more : List Atom} {ts rest : List Token} {o : Option Condition} → Ends rest o → IsConjunction more ts → condition_of (ts ++ rest) ≡ option_map (λ cs. more ∷ cs) o
conjunction_again {rest = rest} e (one_atom {a = a} is) = atom_again rest (ends_stop e) is ∙ last_atom a e
conjunction_again {rest = rest} {o = o} e (and_more {a = a} {more = rest_of} {ts = ts} {us = us} is others) =
    ap condition_of (append_assoc ts (and_word ∷ us) rest)
    ∙ atom_again (and_word ∷ (us ++ rest)) (stops_at_and (us ++ rest)) is
    ∙ after_and a (us ++ rest)
    ∙ ap (option_map (with_atom a)) (conjunction_again e others)
    ∙ put_before a rest_of o

pub condition_again : {c : Condition} {ts : List Token} → IsCondition c ts → condition_of ts ≡ Some c
condition_again (one_conjunction {ts = ts} is) = ap condition_of (sym (append-nil ts)) ∙ conjunction_again at_end is
condition_again (or_more {c = c} {us = us} is more) = conjunction_again (at_or us) is ∙ ap (option_map (λ cs. c ∷ cs)) (condition_again more)

-- ---- what is read is written

variable_is : (w u : Text) (s : Steps) → is_word w (value (variable u s)) ≡ true → value (variable u s) ≡ word w
variable_is w u no_steps h = ap (λ (u : Text). word u) ((bytes_eq-Decides u w).0 h)
variable_is w u (step x more) h = absurd cc

pub word_is : (w : Text) (t : Token) → is_word w t ≡ true → t ≡ word w
word_is w (value (literal d)) h = absurd cc
word_is w (value (variable u s)) h = variable_is w u s h
word_is w (range x y) h = absurd cc
word_is w (symbol s) h = absurd cc

symbol_is : (s : Symbol) (o : ComparisonOperator) → symbol_operator s ≡ Some o → IsOperator o (symbol s)
symbol_is Equals o h = subst (λ o. IsOperator o (symbol Equals)) (from_some h) equals
symbol_is NotEquals o h = subst (λ o. IsOperator o (symbol NotEquals)) (from_some h) not_equals
symbol_is LessOrGreater o h = subst (λ o. IsOperator o (symbol LessOrGreater)) (from_some h) less_or_greater
symbol_is LessThanEquals o h = subst (λ o. IsOperator o (symbol LessThanEquals)) (from_some h) less_or_equal
symbol_is GreaterThanEquals o h = subst (λ o. IsOperator o (symbol GreaterThanEquals)) (from_some h) greater_or_equal
symbol_is LessThan o h = subst (λ o. IsOperator o (symbol LessThan)) (from_some h) less
symbol_is GreaterThan o h = subst (λ o. IsOperator o (symbol GreaterThan)) (from_some h) greater
symbol_is Assign o h = absurd cc
symbol_is Colon o h = absurd cc
symbol_is Comma o h = absurd cc
symbol_is Bar o h = absurd cc

contains_by : (t : Token) (o : ComparisonOperator) (b : Bool) → is_word (codes "contains") t ≡ b → cond b (Some operators.Contains) None ≡ Some o → IsOperator o t
contains_by t o true e h = subst (λ o. IsOperator o t) (from_some h) (subst (IsOperator operators.Contains) (sym (word_is (codes "contains") t e)) contains)
contains_by t o false e h = absurd cc

operator_is : (t : Token) (o : ComparisonOperator) → operator_of t ≡ Some o → IsOperator o t
operator_is (value x) o h = contains_by (value x) o (is_word (codes "contains") (value x)) refl h
operator_is (range x y) o h = absurd cc
operator_is (symbol s) o h = symbol_is s o h

with_more : {a : Atom} {c : Condition} {ts us : List Token} → IsAtom a us → IsCondition c ts → IsCondition (with_atom a c) (us ++ (and_word ∷ ts))
with_more at (one_conjunction is) = one_conjunction (and_more at is)
with_more {us = us} at (or_more {c = c} {more = more} {ts = ts} {us = vs} is others) =
    subst (IsCondition _) (append_assoc us (and_word ∷ ts) (or_word ∷ vs)) (or_more (and_more at is) others)

or_by : (a : Atom) (t : Token) (ts us : List Token) (c : Condition) (b : Bool) → is_word (codes "or") t ≡ b → option_map (λ cs. (a ∷ []) ∷ cs) (cond b (condition_of ts) None) ≡ Some c
    → ((d : Condition) → condition_of ts ≡ Some d → IsCondition d ts) → IsAtom a us → IsCondition c (us ++ (t ∷ ts))
or_by a t ts us c true e h go is =
    let (d, read, same) = map_some (condition_of ts) _ c h in
    subst (λ c. IsCondition c (us ++ (t ∷ ts))) same (subst (λ t. IsCondition ((a ∷ []) ∷ d) (us ++ (t ∷ ts))) (sym (word_is (codes "or") t e)) (or_more (one_atom is) (go d read)))
or_by a t ts us c false e h go is = absurd cc

joined_by : (a : Atom) (t : Token) (ts us : List Token) (c : Condition) (b : Bool) → is_word (codes "and") t ≡ b
    → cond b (option_map (with_atom a) (condition_of ts)) (option_map (λ cs. (a ∷ []) ∷ cs) (cond (is_word (codes "or") t) (condition_of ts) None)) ≡ Some c
    → ((d : Condition) → condition_of ts ≡ Some d → IsCondition d ts) → IsAtom a us → IsCondition c (us ++ (t ∷ ts))
joined_by a t ts us c true e h go is =
    let (d, read, same) = map_some (condition_of ts) _ c h in
    subst (λ c. IsCondition c (us ++ (t ∷ ts))) same (subst (λ t. IsCondition (with_atom a d) (us ++ (t ∷ ts))) (sym (word_is (codes "and") t e)) (with_more is (go d read)))
joined_by a t ts us c false e h go is = or_by a t ts us c (is_word (codes "or") t) refl h go is

joined_takes : (a : Atom) (t : Token) (ts us : List Token) (c : Condition) → atom_joined a t (condition_of ts) ≡ Some c
    → ((d : Condition) → condition_of ts ≡ Some d → IsCondition d ts) → IsAtom a us → IsCondition c (us ++ (t ∷ ts))
joined_takes a t ts us c h go is = joined_by a t ts us c (is_word (codes "and") t) refl h go is

compared_by : (x : Expression) (t : Token) (ts : List Token) (c : Condition) (o : Option ComparisonOperator) → operator_of t ≡ o
    → compared_or o (after_operator ts x) (atom_joined (bare x) t (condition_of ts)) ≡ Some c
    → ((d : Condition) → condition_of ts ≡ Some d → IsCondition d ts)
    → ((p : ComparisonOperator) → after_operator ts x p ≡ Some c → IsOperator p t → IsCondition c (value x ∷ t ∷ ts))
    → IsCondition c (value x ∷ t ∷ ts)
compared_by x t ts c None e h go right = joined_takes (bare x) t ts (value x ∷ []) c h go (bare_value x)
compared_by x t ts c (Some p) e h go right = right p h (operator_is t p e)

mutual
  unfolding condition_of

  pub condition_takes : (ts : List Token) (c : Condition) → condition_of ts ≡ Some c → IsCondition c ts
  condition_takes [] c h = absurd cc
  condition_takes (value x ∷ ts) c h = value_takes ts x c h
  condition_takes (range x y ∷ ts) c h = absurd cc
  condition_takes (symbol s ∷ ts) c h = absurd cc

  value_takes : (ts : List Token) (x : Expression) (c : Condition) → after_value ts x ≡ Some c → IsCondition c (value x ∷ ts)
  value_takes [] x c h = subst (λ c. IsCondition c (value x ∷ [])) (from_some h) (one_conjunction (one_atom (bare_value x)))
  value_takes (t ∷ ts) x c h = compared_by x t ts c (operator_of t) refl h (condition_takes ts) (λ p g is. right_takes ts x p t c g is)

  right_takes : (ts : List Token) (x : Expression) (o : ComparisonOperator) (t : Token) (c : Condition) → after_operator ts x o ≡ Some c → IsOperator o t → IsCondition c (value x ∷ t ∷ ts)
  right_takes [] x o t c h is = absurd cc
  right_takes (value y ∷ ts) x o t c h is = atom_takes ts (compared x o y) (value x ∷ t ∷ value y ∷ []) c h (comparison x y is)
  right_takes (range y z ∷ ts) x o t c h is = absurd cc
  right_takes (symbol s ∷ ts) x o t c h is = absurd cc

  atom_takes : (ts : List Token) (a : Atom) (us : List Token) (c : Condition) → after_atom ts a ≡ Some c → IsAtom a us → IsCondition c (us ++ ts)
  atom_takes [] a us c h is = subst (λ c. IsCondition c (us ++ [])) (from_some h) (subst (IsCondition ((a ∷ []) ∷ [])) (sym (append-nil us)) (one_conjunction (one_atom is)))
  atom_takes (t ∷ ts) a us c h is = joined_takes a t ts us c h (condition_takes ts) is
