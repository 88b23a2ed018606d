-- A filter by which a refused nil may be forgiven, applied to its arguments.
use Rattle.std.proofs.Common.{◌≡◌, List, [], ◌∷◌, Bool, true, false, cond, MatchBool, pos, Result, Ok, Err, refl, sym, ap, ◌∙◌, subst}
use Rattle.std.specs.Bool.{⊤}
use Rattle.liquid_model.specs.Answer.{Answers, Faulted}
use Rattle.liquid_model.specs.ErrorKinds.{is_memory, is_refusal}
use Rattle.liquid_model.specs.Data.{Datum, nil, truth, number, text, array, object, no_items}
use Rattle.liquid_model.specs.declared.error.Error.{Error}
use Rattle.liquid_model.specs.declared.error.ErrorKind.{ErrorKind}
use Rattle.liquid_model.specs.declared.error.ErrorKind.TheVariants.{InvalidInput}
use Rattle.liquid_model.specs.declared.value.Value.{Value}
use Rattle.liquid_model.specs.View.{view}
use Rattle.liquid_model.specs.Fallible.{◌>>=◌}
use Rattle.liquid_core.specs.Environment.{Environment}
use Rattle.liquid_core.specs.declared.missing_value.Missing.{Missing}
use Rattle.liquid_core.specs.declared.missing_value.Missing.TheVariants.{IsFault, IsNil}
use Rattle.liquid_model.specs.FilterAnswers.{FilterAnswer}
use Rattle.liquid_evaluation.specs.Calls.{applied, taken_arguments}
use Rattle.liquid_evaluation.specs.Tree.{Filter, existing, hosted, FilterCall}
use Rattle.liquid_evaluation.specs.Evaluation.{FilterAnswers, refuses_input, accepted, accepting_nil, answers_in, call_by}
use Rattle.liquid_evaluation.specs.inside.Forgiveness.{forgives_nil}
use Rattle.liquid_evaluation.proofs.Calls.{faulted_as}

-- ---- answers that are accepted

pub refused_is : (kind : ErrorKind) → refuses_input (Err kind) ≡ true → kind ≡ InvalidInput
refused_is InvalidInput e = refl
refused_is _ e = cc

-- the second stands where the first is refused
pub second_stands : (first second : Result Datum ErrorKind) → first ≡ Err InvalidInput → accepted first second ≡ second
second_stands first second h = ap (λ r. accepted r second) h

pub value_stands : (first second : Result Datum ErrorKind) (d : Datum) → first ≡ Ok d → accepted first second ≡ Ok d
value_stands first second d h = ap (λ r. accepted r second) h

-- another fault of the first stands
pub fault_stands : (kind : ErrorKind) (first second : Result Datum ErrorKind) → (kind ≡ InvalidInput → ⊥) → Faulted kind first → Faulted kind (accepted first second)
fault_stands kind first second other h = at (is_memory kind) h
  where
    on : (b : Bool) → refuses_input (Err kind) ≡ b → accepted (Err kind) second ≡ Err kind
    on true is = absurd (other (refused_is kind is))
    on false is = ap (λ b. cond b second (Err kind)) is

    at : (b : Bool) → MatchBool b ⊤ ((first ≡ Err kind) × (is_refusal kind ≡ false)) → MatchBool b ⊤ ((accepted first second ≡ Err kind) × (is_refusal kind ≡ false))
    at true m = m
    at false m = (ap (λ r. accepted r second) m.0 ∙ on (refuses_input (Err kind)) refl, m.1)

-- a fault of refused input is one
pub refused_by : (kind : ErrorKind) (wanted : Result Datum ErrorKind) → kind ≡ InvalidInput → Faulted kind wanted → wanted ≡ Err InvalidInput
refused_by kind wanted is h =
    let faulted : Faulted InvalidInput wanted = subst (λ k. Faulted k wanted) is h in
    faulted.0

-- ---- a filter with its arguments

abbrev with_answers : FilterAnswer → Result (List Datum) ErrorKind → Datum → Result Datum ErrorKind
with_answers answers asked d = asked >>= (λ ds. answers d ds >>= (λ y. Ok y))

abbrev pub used : FilterAnswers → FilterCall → Datum → Environment → Result Datum ErrorKind
used answers call d e = applied (call_by answers call ∷ []) d e

as_it_is : (a : Result Datum ErrorKind) → a ≡ (a >>= (λ y. Ok y))
as_it_is (Ok y) = refl
as_it_is (Err kind) = refl

kept : (r : Result Datum ErrorKind) → accepted r r ≡ r
kept r = at (refuses_input r)
  where
    at : (b : Bool) → cond b r r ≡ r
    at true = refl
    at false = refl

of_arguments : (asked : Result (List Datum) ErrorKind) (answers : FilterAnswer)
    → with_answers (accepting_nil answers) asked nil
    ≡ accepted (with_answers answers asked nil) (accepted (with_answers answers asked (array no_items)) (with_answers answers asked (number (pos 0))))
of_arguments (Err kind) answers = sym (ap (accepted (Err kind)) (kept (Err kind)) ∙ kept (Err kind))
of_arguments (Ok ds) answers =
    sym (as_it_is (accepting_nil answers nil ds))
    ∙ (λ i. accepted (as_it_is (answers nil ds) i) (accepted (as_it_is (answers (array no_items) ds) i) (as_it_is (answers (number (pos 0)) ds) i)))

instead_at : (m : Missing) (answers : FilterAnswers) (filter : Filter) (d : Datum) (asked : Result (List Datum) ErrorKind) → forgives_nil m filter d ≡ true
    → with_answers (answers_in m answers filter) asked d
    ≡ accepted (with_answers (answers filter) asked d) (accepted (with_answers (answers filter) asked (array no_items)) (with_answers (answers filter) asked (number (pos 0))))
instead_at IsFault answers filter d asked h = absurd cc
instead_at IsNil answers (hosted name) d asked h = absurd cc
instead_at IsNil answers (existing kind) nil asked h = of_arguments asked (answers (existing kind))
instead_at IsNil answers (existing kind) (truth b) asked h = absurd cc
instead_at IsNil answers (existing kind) (number z) asked h = absurd cc
instead_at IsNil answers (existing kind) (text s) asked h = absurd cc
instead_at IsNil answers (existing kind) (array ds) asked h = absurd cc
instead_at IsNil answers (existing kind) (object ps) asked h = absurd cc

alone_at : (m : Missing) (answers : FilterAnswers) (filter : Filter) (d : Datum) (asked : Result (List Datum) ErrorKind) → forgives_nil m filter d ≡ false
    → with_answers (answers_in m answers filter) asked d ≡ with_answers (answers filter) asked d
alone_at IsFault answers filter d asked h = refl
alone_at IsNil answers (hosted name) d asked h = refl
alone_at IsNil answers (existing kind) nil asked h = absurd cc
alone_at IsNil answers (existing kind) (truth b) asked h = refl
alone_at IsNil answers (existing kind) (number z) asked h = refl
alone_at IsNil answers (existing kind) (text s) asked h = refl
alone_at IsNil answers (existing kind) (array ds) asked h = refl
alone_at IsNil answers (existing kind) (object ps) asked h = refl

-- what stands for a refused nil
abbrev pub stand_in : FilterAnswers → FilterCall → Environment → Result Datum ErrorKind
stand_in answers call e = accepted (used answers call (array no_items) e) (used answers call (number (pos 0)) e)

pub with_stand_in : (m : Missing) (answers : FilterAnswers) (call : FilterCall) (d : Datum) (e : Environment) → forgives_nil m call.filter d ≡ true
    → used (answers_in m answers) call d e ≡ accepted (used answers call d e) (stand_in answers call e)
unfolding applied
with_stand_in m answers call d e h = instead_at m answers call.filter d (taken_arguments call.required call.arguments e) h

pub without_stand_in : (m : Missing) (answers : FilterAnswers) (call : FilterCall) (d : Datum) (e : Environment) → forgives_nil m call.filter d ≡ false
    → used (answers_in m answers) call d e ≡ used answers call d e
unfolding applied
without_stand_in m answers call d e h = alone_at m answers call.filter d (taken_arguments call.required call.arguments e) h

-- ---- what a call answers

pub answered : (m : Missing) (answers : FilterAnswers) (call : FilterCall) (d : Datum) (e : Environment) (answer : Datum) → used answers call d e ≡ Ok answer
    → used (answers_in m answers) call d e ≡ Ok answer
answered m answers call d e answer h = at (forgives_nil m call.filter d) refl
  where
    at : (b : Bool) → forgives_nil m call.filter d ≡ b → used (answers_in m answers) call d e ≡ Ok answer
    at true is = with_stand_in m answers call d e is ∙ value_stands (used answers call d e) (stand_in answers call e) answer h
    at false is = without_stand_in m answers call d e is ∙ h

pub stood_in : (m : Missing) (answers : FilterAnswers) (call : FilterCall) (d : Datum) (e : Environment) (kind : ErrorKind) (r : Result Value Error) → forgives_nil m call.filter d ≡ true → kind ≡ InvalidInput
    → Faulted kind (used answers call d e) → Answers view r (stand_in answers call e) → Answers view r (used (answers_in m answers) call d e)
stood_in m answers call d e kind r is input h a =
    subst (Answers view r) (sym (with_stand_in m answers call d e is ∙ second_stands (used answers call d e) (stand_in answers call e) (refused_by kind (used answers call d e) input h))) a

pub not_forgiven : (m : Missing) (answers : FilterAnswers) (call : FilterCall) (d : Datum) (e : Environment) (kind : ErrorKind) → forgives_nil m call.filter d ≡ false
    → Faulted kind (used answers call d e) → Faulted kind (used (answers_in m answers) call d e)
not_forgiven m answers call d e kind is h = faulted_as kind (used (answers_in m answers) call d e) (used answers call d e) (without_stand_in m answers call d e is) h

pub other_fault : (m : Missing) (answers : FilterAnswers) (call : FilterCall) (d : Datum) (e : Environment) (kind : ErrorKind) → (kind ≡ InvalidInput → ⊥)
    → Faulted kind (used answers call d e) → Faulted kind (used (answers_in m answers) call d e)
other_fault m answers call d e kind other h = at (forgives_nil m call.filter d) refl
  where
    at : (b : Bool) → forgives_nil m call.filter d ≡ b → Faulted kind (used (answers_in m answers) call d e)
    at true is = faulted_as kind (used (answers_in m answers) call d e) _ (with_stand_in m answers call d e is) (fault_stands kind (used answers call d e) (stand_in answers call e) other h)
    at false is = not_forgiven m answers call d e kind is h
