-- The loops over a condition's tokens, a turn at a time.
use Rattle.std.proofs.Common.{◌≡◌, List, [], ◌∷◌, ◌++◌, length, Bool, true, false, codes, cond, Option, Some, None, refl, sym, ap, ◌∙◌, append_assoc}
use Rattle.std.proofs.lemmas.List.{append-nil}
use Rattle.std.specs.Option.{option_and_then, option_map}
use Rattle.liquid_core.specs.Expression.{Expression}
use Rattle.liquid_parser.specs.inside.ConditionAnswers.{operator_before, operator_first, before_alternatives}
use Rattle.liquid_parser.specs.ConditionReading.{operator_of, with_atom, atom_joined, compared_or, condition_of, after_value, after_operator, after_atom, alternatives_of}
use Rattle.liquid_lexer.specs.Tokens.{Token, value, range, symbol, value_first, is_word, past_word}
use Rattle.liquid_model.proofs.WordLaws.{from_some}
use Rattle.liquid_evaluation.specs.Tree.{Atom, bare, compared, Condition}
use Rattle.liquid_evaluation.specs.declared.comparison.ComparisonOperator.{ComparisonOperator}

-- ---- an atom

abbrev after_first : Expression × List Token → Option Condition
after_first x = after_value x.1 x.0

condition_first : (ts : List Token) → condition_of ts ≡ option_and_then after_first (value_first ts)
unfolding condition_of
condition_first [] = refl
condition_first (value x ∷ ts) = refl
condition_first (range x y ∷ ts) = refl
condition_first (symbol s ∷ ts) = refl

abbrev after_second : Expression → ComparisonOperator → Expression × List Token → Option Condition
after_second x operator y = after_atom y.1 (compared x operator y.0)

operator_right : (x : Expression) (operator : ComparisonOperator) (ts : List Token) → after_operator ts x operator ≡ option_and_then (after_second x operator) (value_first ts)
unfolding condition_of
operator_right x operator [] = refl
operator_right x operator (value y ∷ ts) = refl
operator_right x operator (range y z ∷ ts) = refl
operator_right x operator (symbol s ∷ ts) = refl

pub no_left : (ts : List Token) → value_first ts ≡ None → condition_of ts ≡ None
no_left ts h = condition_first ts ∙ ap (option_and_then after_first) h

no_operator_by : (x : Expression) (t : Token) (ts : List Token) (o : Option ComparisonOperator) → operator_of t ≡ o → operator_before ts o ≡ None → after_value (t ∷ ts) x ≡ after_atom (t ∷ ts) (bare x)
unfolding condition_of
no_operator_by x t ts None e h = ap (λ o. compared_or o (after_operator ts x) (atom_joined (bare x) t (condition_of ts))) e
no_operator_by x t ts (Some operator) e h = absurd cc

no_operator : (x : Expression) (ts : List Token) → operator_first ts ≡ None → after_value ts x ≡ after_atom ts (bare x)
unfolding condition_of
no_operator x [] h = refl
no_operator x (t ∷ ts) h = no_operator_by x t ts (operator_of t) refl h

operator_by : (x : Expression) (t : Token) (ts rest : List Token) (operator : ComparisonOperator) (o : Option ComparisonOperator) → operator_of t ≡ o → operator_before ts o ≡ Some (operator, rest)
    → after_value (t ∷ ts) x ≡ after_operator rest x operator
unfolding condition_of
operator_by x t ts rest operator None e h = absurd cc
operator_by x t ts rest operator (Some found) e h =
    ap (λ o. compared_or o (after_operator ts x) (atom_joined (bare x) t (condition_of ts))) e ∙ ap (λ (p : ComparisonOperator × List Token). after_operator p.1 x p.0) (from_some h)

after_left : (x : Expression) (ts rest : List Token) (operator : ComparisonOperator) → operator_first ts ≡ Some (operator, rest) → after_value ts x ≡ after_operator rest x operator
after_left x [] rest operator h = absurd cc
after_left x (t ∷ ts) rest operator h = operator_by x t ts rest operator (operator_of t) refl h

module _ (all ts : List Token) (x : Expression) (first : value_first all ≡ Some (x, ts)) where
  pub bare_atom : operator_first ts ≡ None → condition_of all ≡ after_atom ts (bare x)
  bare_atom h = condition_first all ∙ ap (option_and_then after_first) first ∙ no_operator x ts h

  module _ (rest : List Token) (operator : ComparisonOperator) (second : operator_first ts ≡ Some (operator, rest)) where
    at_right : condition_of all ≡ option_and_then (after_second x operator) (value_first rest)
    at_right = condition_first all ∙ ap (option_and_then after_first) first ∙ after_left x ts rest operator second ∙ operator_right x operator rest

    pub no_right : value_first rest ≡ None → condition_of all ≡ None
    no_right h = at_right ∙ ap (option_and_then (after_second x operator)) h

    pub comparison_atom : (y : Expression) (new : List Token) → value_first rest ≡ Some (y, new) → condition_of all ≡ after_atom new (compared x operator y)
    comparison_atom y new h = at_right ∙ ap (option_and_then (after_second x operator)) h

-- ---- a conjunction

-- atoms before the first conjunction
pub with_atoms : List Atom → Condition → Condition
with_atoms [] cs = cs
with_atoms (a ∷ atoms) cs = with_atom a (with_atoms atoms cs)

abbrev pub atoms_then : List Atom → Option Condition → Option Condition
atoms_then atoms o = option_map (with_atoms atoms) o

pub atoms_nothing : (o : Option Condition) → o ≡ atoms_then [] o
unfolding with_atoms
atoms_nothing None = refl
atoms_nothing (Some cs) = refl

with_one_more : (atoms : List Atom) (a : Atom) (cs : Condition) → with_atoms atoms (with_atom a cs) ≡ with_atoms (atoms ++ (a ∷ [])) cs
unfolding with_atoms
with_one_more [] a cs = refl
with_one_more (b ∷ atoms) a cs = ap (with_atom b) (with_one_more atoms a cs)

then_one_more : (atoms : List Atom) (a : Atom) (o : Option Condition) → atoms_then atoms (option_map (with_atom a) o) ≡ atoms_then (atoms ++ (a ∷ [])) o
then_one_more atoms a None = refl
then_one_more atoms a (Some cs) = ap (λ cs. Some cs) (with_one_more atoms a cs)

with_last : (atoms : List Atom) (a : Atom) (cs : Condition) → with_atoms atoms ((a ∷ []) ∷ cs) ≡ (atoms ++ (a ∷ [])) ∷ cs
unfolding with_atoms
with_last [] a cs = refl
with_last (b ∷ atoms) a cs = ap (with_atom b) (with_last atoms a cs)

then_last : (atoms : List Atom) (a : Atom) (o : Option Condition) → atoms_then atoms (before_alternatives (a ∷ []) o) ≡ before_alternatives (atoms ++ (a ∷ [])) o
then_last atoms a None = refl
then_last atoms a (Some cs) = ap (λ cs. Some cs) (with_last atoms a cs)

and_by : (a : Atom) (t : Token) (ts rest : List Token) (b : Bool) → is_word (codes "and") t ≡ b → cond b (Some ts) None ≡ Some rest → after_atom (t ∷ ts) a ≡ option_map (with_atom a) (condition_of rest)
unfolding condition_of
and_by a t ts rest true e h =
    let left : ts ≡ rest = cc in
    ap (λ b. cond b (option_map (with_atom a) (condition_of ts)) (option_map (λ cs. (a ∷ []) ∷ cs) (cond (is_word (codes "or") t) (condition_of ts) None))) e ∙ ap (λ ts. option_map (with_atom a) (condition_of ts)) left
and_by a t ts rest false e h = absurd cc

after_and : (a : Atom) (ts rest : List Token) → past_word (codes "and") ts ≡ Some rest → after_atom ts a ≡ option_map (with_atom a) (condition_of rest)
after_and a [] rest h = absurd cc
after_and a (t ∷ ts) rest h = and_by a t ts rest (is_word (codes "and") t) refl h

no_and_by : (a : Atom) (t : Token) (ts : List Token) (b : Bool) → is_word (codes "and") t ≡ b → cond b (Some ts) None ≡ None → after_atom (t ∷ ts) a ≡ before_alternatives (a ∷ []) (alternatives_of (t ∷ ts))
unfolding condition_of alternatives_of
no_and_by a t ts true e h = absurd cc
no_and_by a t ts false e h = ap (λ b. cond b (option_map (with_atom a) (condition_of ts)) (option_map (λ cs. (a ∷ []) ∷ cs) (cond (is_word (codes "or") t) (condition_of ts) None))) e

after_last : (a : Atom) (ts : List Token) → past_word (codes "and") ts ≡ None → after_atom ts a ≡ before_alternatives (a ∷ []) (alternatives_of ts)
unfolding condition_of alternatives_of
after_last a [] h = refl
after_last a (t ∷ ts) h = no_and_by a t ts (is_word (codes "and") t) refl h

module _ (atoms : List Atom) (a : Atom) (all ts : List Token) (taken : condition_of all ≡ after_atom ts a) where
  pub one_atom_more : (rest : List Token) → past_word (codes "and") ts ≡ Some rest → atoms_then atoms (condition_of all) ≡ atoms_then (atoms ++ (a ∷ [])) (condition_of rest)
  one_atom_more rest h = ap (atoms_then atoms) (taken ∙ after_and a ts rest h) ∙ then_one_more atoms a (condition_of rest)

  pub last_atom : past_word (codes "and") ts ≡ None → atoms_then atoms (condition_of all) ≡ before_alternatives (atoms ++ (a ∷ [])) (alternatives_of ts)
  last_atom h = ap (atoms_then atoms) (taken ∙ after_last a ts h) ∙ then_last atoms a (alternatives_of ts)

-- ---- a condition

-- conjunctions before those that are left
abbrev pub conjunctions_then : Condition → Option Condition → Option Condition
conjunctions_then before o = option_map (λ cs. before ++ cs) o

then_conjunction : (before : Condition) (c : List Atom) (o : Option Condition) → conjunctions_then before (before_alternatives c o) ≡ conjunctions_then (before ++ (c ∷ [])) o
then_conjunction before c None = refl
then_conjunction before c (Some cs) = ap (λ cs. Some cs) (sym (append_assoc before (c ∷ []) cs))

or_by : (t : Token) (ts : List Token) (b : Bool) (o : Option (List Token)) → is_word (codes "or") t ≡ b → cond b (Some ts) None ≡ o → alternatives_of (t ∷ ts) ≡ option_and_then condition_of o
unfolding alternatives_of
or_by t ts true o e h = ap (λ b. cond b (condition_of ts) None) e ∙ ap (option_and_then condition_of) h
or_by t ts false o e h = ap (λ b. cond b (condition_of ts) None) e ∙ ap (option_and_then condition_of) h

alternatives_first : (ts : List Token) (o : Option (List Token)) → (length ts ≡ 0 → ⊥) → past_word (codes "or") ts ≡ o → alternatives_of ts ≡ option_and_then condition_of o
alternatives_first [] o some h = absurd (some refl)
alternatives_first (t ∷ ts) o some h = or_by t ts (is_word (codes "or") t) o refl h

alternatives_at_or : (ts rest : List Token) → past_word (codes "or") ts ≡ Some rest → alternatives_of ts ≡ condition_of rest
alternatives_at_or [] rest h = absurd cc
alternatives_at_or (t ∷ ts) rest h = or_by t ts (is_word (codes "or") t) (Some rest) refl h

module _ (before : Condition) (c : List Atom) (all ts : List Token) (taken : condition_of all ≡ before_alternatives c (alternatives_of ts)) where
  with_conjunction : (o : Option Condition) → alternatives_of ts ≡ o → conjunctions_then before (condition_of all) ≡ conjunctions_then (before ++ (c ∷ [])) o
  with_conjunction o h = ap (conjunctions_then before) (taken ∙ ap (before_alternatives c) h) ∙ then_conjunction before c o

  pub one_conjunction_more : (rest : List Token) → past_word (codes "or") ts ≡ Some rest → conjunctions_then before (condition_of all) ≡ conjunctions_then (before ++ (c ∷ [])) (condition_of rest)
  one_conjunction_more rest h = with_conjunction (condition_of rest) (alternatives_at_or ts rest h)

  pub no_or : (length ts ≡ 0 → ⊥) → past_word (codes "or") ts ≡ None → conjunctions_then before (condition_of all) ≡ None
  no_or some h = with_conjunction None (alternatives_first ts None some h)

  pub last_conjunction : ts ≡ [] → conjunctions_then before (condition_of all) ≡ Some (before ++ (c ∷ []))
  unfolding alternatives_of
  last_conjunction e = with_conjunction (Some []) (ap alternatives_of e) ∙ ap (λ cs. Some cs) (append-nil (before ++ (c ∷ [])))
