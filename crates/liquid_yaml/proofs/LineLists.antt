-- Lines that are joined, and the lines of a text.
use Rattle.std.proofs.Common.{◌≡◌, ℕ, List, [], ◌∷◌, ◌++◌, Bool, true, false, not, cond, eqb, ap, ◌∙◌, refl}
use Rattle.std.specs.List.{list_all, onto_first}
use Rattle.std.proofs.lemmas.Bool.{and_parts}
use Rattle.std.proofs.lemmas.List.Splits.{join_with_byte-slice_split}
use Rattle.liquid_model.specs.Texts.{Text}
use Rattle.liquid_yaml.specs.Grammar.{IsOneLine, AreLines}
use Rattle.liquid_yaml.specs.Reading.{joined_lines, source_lines}

pub lines_joined : (s : Text) → joined_lines (source_lines s) ≡ s
lines_joined s = join_with_byte-slice_split 10 s

not_true : (b : Bool) → not b ≡ true → b ≡ false
not_true true h = absurd cc
not_true false h = refl

-- a line, its end, and the lines after it
line_first : (line rest : Text) → IsOneLine line → source_lines (line ++ 10 ∷ rest) ≡ line ∷ source_lines rest
line_first [] rest h = refl
line_first (b ∷ bs) rest h =
    let p = and_parts (not (eqb b 10)) (list_all (λ b. not (eqb b 10)) bs) h in
    ap (λ (c : Bool). cond c ([] ∷ source_lines (bs ++ 10 ∷ rest)) (onto_first b (source_lines (bs ++ 10 ∷ rest)))) (not_true (eqb b 10) p.0)
    ∙ ap (onto_first b) (line_first bs rest p.1)

line_alone : (line : Text) → IsOneLine line → source_lines line ≡ line ∷ []
line_alone [] h = refl
line_alone (b ∷ bs) h =
    let p = and_parts (not (eqb b 10)) (list_all (λ b. not (eqb b 10)) bs) h in
    ap (λ (c : Bool). cond c ([] ∷ source_lines bs) (onto_first b (source_lines bs))) (not_true (eqb b 10) p.0)
    ∙ ap (onto_first b) (line_alone bs p.1)

-- the lines of joined lines are these
pub joined_again : (line : Text) (lines : List Text) → AreLines (line ∷ lines) → source_lines (joined_lines (line ∷ lines)) ≡ line ∷ lines
joined_again line [] h = line_alone line h.0
joined_again line (next ∷ lines) h = line_first line (joined_lines (next ∷ lines)) h.0 ∙ ap (λ ls. line ∷ ls) (joined_again next lines h.1)

onto_lines : (b : ℕ) (lines : List Text) → eqb b 10 ≡ false → AreLines lines → AreLines (onto_first b lines)
onto_lines b [] e h = (rw e refl, tt)
onto_lines b (line ∷ lines) e h = (rw e h.0, h.1)

lines_by : (b : ℕ) (bs : Text) (c : Bool) → eqb b 10 ≡ c → AreLines (source_lines bs) → AreLines (cond c ([] ∷ source_lines bs) (onto_first b (source_lines bs)))
lines_by b bs true e h = (refl, h)
lines_by b bs false e h = onto_lines b (source_lines bs) e h

-- the parts between line feeds have none
pub lines_are : (s : Text) → AreLines (source_lines s)
lines_are [] = (refl, tt)
lines_are (b ∷ bs) = lines_by b bs (eqb b 10) refl (lines_are bs)
