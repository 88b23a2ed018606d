-- A text may be cut where a body ends; a mark begins with `{`.
use Rattle.std.proofs.Common.{◌≡◌, ℕ, suc, ◌<◌, List, [], ◌∷◌, length, get_or, Bool, true, false, cond, eqb, None, refl, ap, sym, ◌∙◌, arith}
use Rattle.std.specs.Str.{IsUtf8, IsCharBoundary}
use Rattle.std.proofs.lemmas.Bool.{eqb-true}
use Rattle.liquid_model.specs.Front.{run_len}
use Rattle.liquid_lexer.specs.SourceReading.{mark_at, in_raw, in_comment, in_body, goes_on}
use Rattle.liquid_lexer.specs.declared.piece.Body.{Body}
use Rattle.liquid_lexer.specs.declared.piece.Body.TheVariants.{Raw, Comment}
use Rattle.liquid_model.proofs.Cuts.{run_within}

unmarked_by : (b : ℕ) (bs : List ℕ) (c : Bool) → eqb b 123 ≡ c → (b ≡ 123 → ⊥) → mark_at (b ∷ bs) ≡ None
unfolding mark_at
unmarked_by b bs true e h = absurd (h (eqb-true b 123 e))
unmarked_by b bs false e h = rw e refl

unmarked : (b : ℕ) (bs : List ℕ) → (b ≡ 123 → ⊥) → mark_at (b ∷ bs) ≡ None
unmarked b bs h = unmarked_by b bs (eqb b 123) refl h

-- over a byte that opens nothing a body goes on
pub goes_over : (body : Body) (b : ℕ) (bs : List ℕ) → (b ≡ 123 → ⊥) → in_body body b bs ≡ true
unfolding in_raw in_comment
goes_over Raw b bs h = rw (unmarked b bs h) refl
goes_over Comment b bs h = rw (unmarked b bs h) refl

pub in_body_is : (body : Body) (b : ℕ) (bs : List ℕ) → in_body body b bs ≡ goes_on body (b ∷ bs)
unfolding in_raw in_comment
in_body_is Raw b bs = refl
in_body_is Comment b bs = refl

stop_by : (body : Body) (b : ℕ) (bs : List ℕ) (c d : Bool) → in_body body b bs ≡ c → eqb b 123 ≡ d → cond c (suc (run_len (in_body body) bs)) 0 < suc (length bs)
    → (run_len (in_body body) bs < length bs → get_or bs (run_len (in_body body) bs) 0 ≡ 123) → get_or (b ∷ bs) (cond c (suc (run_len (in_body body) bs)) 0) 0 ≡ 123
stop_by body b bs true d e f h k = k (omega (arith, h))
stop_by body b bs false true e f h k = eqb-true b 123 f
stop_by body b bs false false e f h k = let g : true ≡ false = sym (goes_over body b bs (λ i. let j : true ≡ false = sym (ap (λ n. eqb n 123) i) ∙ f in absurd cc)) ∙ e in absurd cc

body_stop : (body : Body) (bs : List ℕ) → run_len (in_body body) bs < length bs → get_or bs (run_len (in_body body) bs) 0 ≡ 123
body_stop body [] h = absurd (omega arith)
body_stop body (b ∷ bs) h = stop_by body b bs (in_body body b bs) (eqb b 123) refl refl h (body_stop body bs)

pub body_cut : (body : Body) (bs : List ℕ) → IsUtf8 bs → IsCharBoundary bs (run_len (in_body body) bs)
body_cut body bs u = (run_within (in_body body) bs, λ l h. absurd (omega (arith, body_stop body bs l)))
