-- The bytes of what the filters of a chain make, filter after filter.
use Rattle.std.proofs.Common.{arith, ◌≡◌, ℕ, ◌+◌, ◌<◌, ◌≤◌, List, [], ◌∷◌, length, drop, get_or, map, Option, Some, None, Result, Ok, Err, inl, inr, refl, sym, ap, subst, ◌∙◌}
use Rattle.std.proofs.lemmas.List.{drop_more, drop_all}
use Rattle.std.specs.Prelude.{IfOk, OnOk}
use Rattle.liquid_model.specs.Cow.{cow_view}
use Rattle.liquid_model.specs.Data.{Datum}
use Rattle.liquid_model.specs.ValueSizes.{counted_size, value_size}
use Rattle.liquid_model.specs.declared.cow.ValueCow.{ValueCow}
use Rattle.liquid_model.specs.declared.error.Error.{Error}
use Rattle.liquid_model.specs.declared.error.ErrorKind.{ErrorKind}
use Rattle.liquid_core.specs.Environment.{Environment}
use Rattle.liquid_core.specs.Expressions.{value_of}
use Rattle.liquid_evaluation.specs.Calls.{Call, applied}
use Rattle.liquid_evaluation.specs.Evaluation.{FilterAnswers, answers_in, call_by, calls_by, entry_value}
use Rattle.liquid_evaluation.specs.Tree.{Chain, FilterCall}
use Rattle.liquid_meaning.specs.Runs.{evaluate}
use Rattle.liquid_engine.specs.Limits.{Takes, TakesBytes}
use Rattle.liquid_engine.specs.Performs.{Configuration, Meets}
use Rattle.liquid_engine.specs.declared.limits.Limits.{Limits}
use Rattle.liquid_engine.specs.inside.ChainBytes.{bytes_on, chain_bytes, made_bytes, through_bytes}
use Rattle.liquid_engine.proofs.Taken.{TakesBytes-more}

Takes-none : (o : Option ℕ) → Takes 0 o o
Takes-none None = refl
Takes-none (Some left) = (omega arith, ap Some (omega arith))

pub TakesBytes-none : (l : Limits) → TakesBytes 0 l l
TakesBytes-none l = (Takes-none l.bytes, refl)

-- where there is no limit on bytes, any number of them may be taken
Takes-unlimited : (n : ℕ) (o : Option ℕ) → o ≡ None → Takes n o o
Takes-unlimited n None h = refl
Takes-unlimited n (Some left) h = absurd cc

pub TakesBytes-unlimited : (n : ℕ) (l : Limits) → l.bytes ≡ None → TakesBytes n l l
TakesBytes-unlimited n l h = (Takes-unlimited n l.bytes h, refl)

-- ---- filter after filter

-- a chain so far: the bytes that were taken, with those of the filters that are left, are all
pub record Taken {X : Type 0} (total : ℕ) (answers : FilterAnswers) (f : X → FilterCall) (e : Environment) (rest : List X) (d : Datum) (old new : Limits) : Type 0 where
  pub spent : ℕ
  pub all : total ≡ spent + made_bytes (calls_by answers (map f rest)) d e
  pub taken : TakesBytes spent old new

none_more : (n : ℕ) → n ≡ 0 + n
none_more n = omega arith

pub taken_none : {X : Type 0} (answers : FilterAnswers) (f : X → FilterCall) (e : Environment) (xs : List X) (d : Datum) (l : Limits)
    → Taken (through_bytes answers (map f xs) d e) (answers_in e.missing answers) f e xs d l l
taken_none answers f e xs d l = record { spent = 0; all = none_more _; taken = TakesBytes-none l }

sums : (total spent left size more : ℕ) → total ≡ spent + left → left ≡ size + more → total ≡ (spent + size) + more
sums total spent left size more a b = omega (arith, a, b)

pub taken_more : {X : Type 0} (total : ℕ) (answers : FilterAnswers) (f : X → FilterCall) (e : Environment) (xs : List X) (i : ℕ) (x : X) (d a : Datum) (old mid room new : Limits)
    → i < length xs → x ≡ get_or xs i x → applied (call_by answers (f x) ∷ []) d e ≡ Ok a
    → room ≡ mid → TakesBytes (counted_size (value_size a)) room new
    → Taken total answers f e (drop i xs) d old mid → Taken total answers f e (drop (i + 1) xs) a old new
taken_more total answers f e xs i x d a old mid room new h is applied_is kept taken before =
    let more : List _ → Datum → ℕ = λ ys z. made_bytes (calls_by answers (map f ys)) z e in
    let next : more (drop i xs) d ≡ counted_size (value_size a) + more (drop (i + 1) xs) a =
    ap (λ ys. more ys d) (drop_more xs i x h ∙ ap (λ y. y ∷ drop (i + 1) xs) (sym is))
    ∙ ap (bytes_on (λ z. counted_size (value_size z) + more (drop (i + 1) xs) z)) applied_is in
    record {
      spent = before.spent + counted_size (value_size a);
      all = sums total before.spent (more (drop i xs) d) (counted_size (value_size a)) (more (drop (i + 1) xs) a) before.all next;
      taken = TakesBytes-more before.spent (counted_size (value_size a)) old mid new before.taken (subst (λ m. TakesBytes (counted_size (value_size a)) m new) kept taken);
    }

no_more : (n m : ℕ) → n ≡ m + 0 → m ≡ n
no_more n m h = omega (arith, h)

pub taken_all : {X : Type 0} (total : ℕ) (answers : FilterAnswers) (f : X → FilterCall) (e : Environment) (xs : List X) (i : ℕ) (d : Datum) (old new : Limits)
    → length xs ≤ i → Taken total answers f e (drop i xs) d old new → TakesBytes total old new
taken_all total answers f e xs i d old new h before =
    let none = ap (λ ys. before.spent + made_bytes (calls_by answers (map f ys)) d e) (drop_all i xs h) in
    subst (λ n. TakesBytes n old new) (no_more total before.spent (before.all ∙ none)) before.taken

-- a chain takes what its filters take of the value of its entry
pub chain_taken : {V : Type 0} (r : Result V Error) (answers : FilterAnswers) (chain : Chain) (e : Environment) (d : Datum) (old new : Limits)
    → entry_value e.missing (value_of chain.entry e) chain.filters ≡ Ok d
    → OnOk r (TakesBytes (through_bytes answers chain.filters d e) old new) → OnOk r (TakesBytes (chain_bytes answers chain e) old new)
chain_taken r answers chain e d old new entry taken =
    subst (λ n. OnOk r (TakesBytes n old new)) (sym (ap (bytes_on (λ x. through_bytes answers chain.filters x e)) entry)) taken

-- ---- what is assigned

-- a chain's value is what its run ended by
value_ended : (v : ValueCow) (f : Environment → Result Datum ErrorKind) (p q : Configuration) → Meets cow_view (Ok v) (evaluate f) p q → f p.environment ≡ Ok (cow_view v)
unfolding evaluate
value_ended v f p q (inl x) = sym x.end
value_ended v f p q (inr x) = absurd x.cause

on_ok : {V : Type 0} {P : Type 0} (r : Result V Error) → P → OnOk r P
on_ok (Ok value) h = h
on_ok (Err e) h = tt

-- the filters' answers, then the value
pub assigned_taken : {V : Type 0} (r : Result V Error) (v : ValueCow) (f : Environment → Result Datum ErrorKind) (p q : Configuration) (made : ℕ) (a b c : Limits)
    → Meets cow_view (Ok v) (evaluate f) p q → TakesBytes made a b → TakesBytes (counted_size (value_size (cow_view v))) b c
    → OnOk r (IfOk (f p.environment) (λ d. TakesBytes (made + counted_size (value_size d)) a c))
assigned_taken r v f p q made a b c meets first then =
    on_ok r (subst (λ (x : Result Datum ErrorKind). IfOk x (λ d. TakesBytes (made + counted_size (value_size d)) a c)) (sym (value_ended v f p q meets))
    (TakesBytes-more made (counted_size (value_size (cow_view v))) a b c first then))
