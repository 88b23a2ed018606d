-- The messages of what has no value.
use Rattle.std.proofs.Common.{◌≡◌, ℕ, Bool, false, String, Global, string_bytes, List, ◌++◌, true, Option, Some, None, Result, Ok, Err, IfOk, IfSome, IsTrue, sym, ap, ◌∙◌, subst, arith, append_assoc, refl}
use Rattle.std.specs.Prelude.{codes, MatchBool, ⊤}
use Rattle.std.specs.Option.{option_map}
use Rattle.liquid_model.specs.Errors.{BeginsUnlessMemory, without_value_front}
use Rattle.liquid_model.specs.ErrorKinds.{is_memory}
use Rattle.liquid_model.specs.declared.error.Error.{Error}
use Rattle.liquid_model.specs.Quotes.{is_line, is_message, quotation}
use Rattle.liquid_model.specs.declared.error.ErrorKind.TheVariants.{UnknownVariable}
use Rattle.liquid_model.proofs.Quotes.{line_append, line_wider, line_is_message, quotation_is_line}

-- the spelling, and at most 600 bytes of further words
pub message_line : (all t words : List ℕ) → all ≡ codes "`" ++ (quotation t ++ (codes "` has no value" ++ words)) → is_line 600 words ≡ true → is_line 900 all ≡ true
message_line all t words is short =
    let end : is_line 614 (codes "` has no value" ++ words) ≡ true = line_append 14 600 (codes "` has no value") words refl short in
    let tail_line : is_line 857 (quotation t ++ (codes "` has no value" ++ words)) ≡ true = line_append 243 614 (quotation t) (codes "` has no value" ++ words) (quotation_is_line t) end in
    let whole : is_line 858 (codes "`" ++ (quotation t ++ (codes "` has no value" ++ words))) ≡ true = line_append 1 857 (codes "`") (quotation t ++ (codes "` has no value" ++ words)) refl tail_line in
    subst (λ s. is_line 900 s ≡ true) (sym is) (line_wider 858 900 (codes "`" ++ (quotation t ++ (codes "` has no value" ++ words))) (omega arith) whole)

pub message_front : (o : Option (List ℕ)) (all t words : List ℕ) → IfSome o (λ form. t ≡ form) → all ≡ codes "`" ++ (quotation t ++ (codes "` has no value" ++ words))
    → IfSome o (λ form. (rest : List ℕ) × (all ≡ without_value_front form ++ rest))
message_front None all t words same is = tt
message_front (Some form) all t words same is =
    (words, is ∙ ap (λ l. codes "`" ++ l) (sym (append_assoc (quotation t) (codes "` has no value") words)) ∙ ap (λ x. without_value_front x ++ words) same)

pub nowhere_is_message : (t : List ℕ) → IsTrue (is_message UnknownVariable (codes "the path from `" ++ (quotation t ++ codes "` leads to no value")))
nowhere_is_message t =
    let end : is_line 263 (quotation t ++ codes "` leads to no value") ≡ true = line_append 243 20 (quotation t) (codes "` leads to no value") (quotation_is_line t) refl in
    let whole : is_line 279 (codes "the path from `" ++ (quotation t ++ codes "` leads to no value")) ≡ true = line_append 16 263 (codes "the path from `") (quotation t ++ codes "` leads to no value") refl end in
    let text = codes "the path from `" ++ (quotation t ++ codes "` leads to no value") in
    line_is_message UnknownVariable text (line_wider 279 1000 text (omega arith) whole)

pub where_ok : {A E : Type 0} {P Q : A → Type 0} (r : Result A E) → IfOk r P → ((a : A) → P a → Q a) → IfOk r Q
where_ok (Ok a) p f = f a p
where_ok (Err e) p f = tt

unless_memory : (b : Bool) {P : Type 0} → P → MatchBool b ⊤ P
unless_memory true p = tt
unless_memory false p = p

pub message_begins : (o : Option (List ℕ)) (m : String Global) (e : Error) → is_line 900 (string_bytes m) ≡ true → (IsTrue (is_message UnknownVariable (string_bytes m)) → e.message ≡ Some m)
    → IfSome o (λ form. (rest : List ℕ) × (string_bytes m ≡ without_value_front form ++ rest)) → IfSome o (λ form. BeginsUnlessMemory (without_value_front form) e)
message_begins None m e short says front = tt
message_begins (Some form) m e short says front =
    let kept = says (line_is_message UnknownVariable (string_bytes m) (line_wider 900 1000 (string_bytes m) (omega arith) short)) in
    unless_memory (is_memory e.kind) (front.0, ap (option_map string_bytes) kept ∙ ap Some front.1)
