-- Lemmas on what a writer took.
use Rattle.std.proofs.Common.{◌≡◌, ℕ, ◌-◌, ◌<◌, cond, eqb, ltb, ◌&&◌, List, ◌++◌, length, take, drop, Option, sym, ap, ◌∙◌, append_assoc, take-append-drop}
use Rattle.std.proofs.Common.{arith}
use Rattle.std.proofs.lemmas.Bool.Decides.{nat_tests}
use Rattle.std.proofs.lemmas.List.{take_rest}
use Rattle.std.specs.Io.KnownBytes.{Appends, Keeps}
use Rattle.std.proofs.KnownBytes.{Appends-trans, Appends-kept}
use Rattle.liquid_engine.specs.Added.{AppendsPart}
use Rattle.liquid_engine.specs.Failures.{raised}

-- the next n bytes move from the rest to what is done
pub moves_front : (all done rest : List ℕ) (n : ℕ) → all ≡ done ++ rest → all ≡ (done ++ take n rest) ++ take (length rest - n) (drop n rest)
moves_front all done rest n e =
    e ∙ ap (λ l. done ++ l) (sym (take-append-drop n rest)) ∙ sym (append_assoc done (take n rest) (drop n rest)) ∙ ap (λ l. (done ++ take n rest) ++ l) (sym (take_rest rest n))

-- what is done, and what the last write took of the rest, are a beginning of the whole
pub begun : (old mid new : Option (List ℕ)) (all done rest : List ℕ) (n : ℕ) → all ≡ done ++ rest → Appends old mid done → Appends mid new (take n rest) → AppendsPart old new all
begun old mid new all done rest n split appended more = record {
  front = done ++ take n rest;
  rest = drop n rest;
  whole = append_assoc done (take n rest) (drop n rest) ∙ ap (λ l. done ++ l) (take-append-drop n rest) ∙ sym split;
  appended = Appends-trans old mid new done (take n rest) appended more;
}

-- what is done is a beginning of the whole, where the last write took nothing
pub begun_before : (old mid new : Option (List ℕ)) (all done rest : List ℕ) → all ≡ done ++ rest → Appends old mid done → Keeps mid new → AppendsPart old new all
begun_before old mid new all done rest split appended kept = record {
  front = done;
  rest = rest;
  whole = sym split;
  appended = Appends-kept old mid new done appended kept;
}

-- a write that took nothing of some bytes is a failure
pub none_taken_counts : (n before after : ℕ) (bytes : List ℕ) → n ≡ 0 → 0 < length bytes → after ≡ cond (eqb n 0 && ltb 0 (length bytes)) (raised before) before → after ≡ raised before
none_taken_counts n before after bytes none some e = grind (arith, nat_tests)

-- a write that took some bytes is no failure
pub taken_counts_none : (n before after : ℕ) (bytes : List ℕ) → (n ≡ 0 → ⊥) → after ≡ cond (eqb n 0 && ltb 0 (length bytes)) (raised before) before → after ≡ before
taken_counts_none n before after bytes some e = grind (arith, nat_tests)
