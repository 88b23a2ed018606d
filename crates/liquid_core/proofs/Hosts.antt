-- The filters of a host: what stands under a name, entry by entry, and what is answered.
use Rattle.std.proofs.Common.{◌≡◌, ℕ, ◌+◌, ◌<◌, List, [], ◌∷◌, ◌++◌, length, take, get_or, ap, refl, sym, ◌∙◌, Option, Some, None, String, Global, string_bytes, cond, Bool, true, false, MatchBool, Result, Ok, Err, nat_le}
use Rattle.std.specs.Bool.{⊤}
use Rattle.std.proofs.lemmas.List.{take_more}
use Rattle.liquid_model.specs.Answer.{Faulted}
use Rattle.liquid_model.specs.Data.{Datum}
use Rattle.liquid_model.specs.Texts.{Text, same_text, ◌else◌}
use Rattle.liquid_model.specs.ErrorKinds.{IsKindOrMemory, is_memory, is_refusal, number_of}
use Rattle.liquid_model.specs.declared.error.Error.{Error}
use Rattle.liquid_model.specs.declared.error.ErrorKind.{ErrorKind}
use Rattle.liquid_model.specs.declared.error.ErrorKind.TheVariants.{InvalidInput, Memory, Write, Unclosed, BadItem, NumberLiteral, FloatLiteral, StateWord, UnknownTag, UnknownFilter, FilterArguments, Expected, MissingEnd, TooNested}
use Rattle.liquid_model.specs.FilterAnswers.{AnswersIf, AnswersOrMemory}
use Rattle.liquid_core.specs.Hosts.{last_named, of_host}

-- ---- the last of a name

else_else : {X : Type 0} (a b c : Option X) → ((a else b) else c) ≡ (a else (b else c))
else_else (Some x) b c = refl
else_else None b c = refl

if_named : {X : Type 0} (t : Bool) (x : X) (o : Option X) → (cond t (Some x) None else o) ≡ cond t (Some x) o
if_named true x o = refl
if_named false x o = refl

none_else : {X : Type 0} (o : Option X) → (None else o) ≡ (o else None)
none_else (Some x) = refl
none_else None = refl

last_appended : {X : Type 0} (name : Text) (es : List (String Global × X)) (e : String Global × X)
    → last_named name (es ++ e ∷ []) ≡ (cond (same_text (string_bytes e.0) name) (Some e.1) None else last_named name es)
last_appended name [] e = none_else (cond (same_text (string_bytes e.0) name) (Some e.1) None)
last_appended name (x ∷ es) e =
    ap (λ o. o else cond (same_text (string_bytes x.0) name) (Some x.1) None) (last_appended name es e)
    ∙ else_else (cond (same_text (string_bytes e.0) name) (Some e.1) None) (last_named name es) (cond (same_text (string_bytes x.0) name) (Some x.1) None)

last_more : {X : Type 0} (name : Text) (es : List (String Global × X)) (i : ℕ) (e : String Global × X) → i < length es → e ≡ get_or es i e
    → last_named name (take (i + 1) es) ≡ cond (same_text (string_bytes e.0) name) (Some e.1) (last_named name (take i es))
last_more name es i e h is =
    ap (last_named name) (take_more es i e h ∙ ap (λ y. take i es ++ y ∷ []) (sym is)) ∙ last_appended name (take i es) e
    ∙ if_named (same_text (string_bytes e.0) name) e.1 (last_named name (take i es))

pub last_is_this : {X : Type 0} (name : Text) (es : List (String Global × X)) (i : ℕ) (e : String Global × X) (o : Option X) → i < length es → e ≡ get_or es i e
    → same_text (string_bytes e.0) name ≡ true → o ≡ Some e.1 → o ≡ last_named name (take (i + 1) es)
last_is_this name es i e o h is t s = s ∙ ap (λ b. cond b (Some e.1) (last_named name (take i es))) (sym t) ∙ sym (last_more name es i e h is)

pub last_is_before : {X : Type 0} (name : Text) (es : List (String Global × X)) (i : ℕ) (e : String Global × X) (o : Option X) → i < length es → e ≡ get_or es i e
    → same_text (string_bytes e.0) name ≡ false → o ≡ last_named name (take i es) → o ≡ last_named name (take (i + 1) es)
last_is_before name es i e o h is t s = s ∙ ap (λ b. cond b (Some e.1) (last_named name (take i es))) (sym t) ∙ sym (last_more name es i e h is)

-- ---- the kinds of a run

-- memory is a kind of a run, so that another one is the wanted answer's
not_memory : (kind : ErrorKind) → nat_le (number_of kind) 17 ≡ false → is_memory kind ≡ false
not_memory Memory h = absurd cc
not_memory Write h = refl
not_memory Unclosed h = refl
not_memory BadItem h = refl
not_memory NumberLiteral h = refl
not_memory FloatLiteral h = refl
not_memory StateWord h = refl
not_memory UnknownTag h = refl
not_memory UnknownFilter h = refl
not_memory FilterArguments h = refl
not_memory Expected h = refl
not_memory MissingEnd h = refl
not_memory TooNested h = refl
not_memory kind h = absurd cc

-- any other kind is InvalidInput
pub kind_replaced : (kind reported : ErrorKind) (wanted : Result Datum ErrorKind) → nat_le (number_of kind) 17 ≡ false
    → MatchBool (is_memory kind) ⊤ (wanted ≡ Err kind) → IsKindOrMemory InvalidInput reported → Faulted reported (of_host wanted)
kind_replaced kind reported wanted h m t = on (is_memory reported) t
  where
    same : (b : Bool) → is_memory kind ≡ b → b ≡ false → MatchBool b ⊤ (wanted ≡ Err kind) → wanted ≡ Err kind
    same true e f n = absurd cc
    same false e f n = n

    answered : of_host wanted ≡ Err InvalidInput
    answered = ap of_host (same (is_memory kind) refl (not_memory kind h) m) ∙ ap (λ b. Err (cond b kind InvalidInput)) h

    on : (b : Bool) → MatchBool b ⊤ (InvalidInput ≡ reported) → MatchBool b ⊤ ((of_host wanted ≡ Err reported) × (is_refusal reported ≡ false))
    on true n = n
    on false n = (answered ∙ ap Err n, ap is_refusal (sym n))

-- ---- what is answered

pub answers_or_memory_if : {X Y : Type 0} (within : Bool) (view : X → Y) (r : Result X Error) (wanted : Result Y ErrorKind) → AnswersIf within view r wanted → AnswersOrMemory view r wanted
answers_or_memory_if true view (Ok x) wanted h = h
answers_or_memory_if true view (Err e) wanted h = on (is_memory e.kind) h
  where
    on : (b : Bool) → MatchBool b ⊤ ((wanted ≡ Err e.kind) × (is_refusal e.kind ≡ false)) → MatchBool b ⊤ (wanted ≡ Err e.kind)
    on true m = m
    on false m = m.0
answers_or_memory_if false view r wanted h = h
