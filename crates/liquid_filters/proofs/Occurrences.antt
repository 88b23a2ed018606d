-- The pieces stand in their relation, and no others do.
use Rattle.std.proofs.Common.{◌≡◌, ℕ, zero, suc, ◌-◌, ◌<◌, Bool, true, false, List, [], ◌∷◌, ◌++◌, length, take, drop, map, ap, subst, refl, sym, ◌∙◌, arith, if◌then◌else◌}
use Rattle.std.proofs.Math.Seq.{drop-append_seam, take-append_seam}
use Rattle.std.proofs.lemmas.Str.{chars-encodes, encodes-chars, scalars-chars}
use Rattle.std.specs.Char.{encode_utf8}
use Rattle.std.specs.Str.{chars, encode_utf8_all, IsUtf8}
use Rattle.std.specs.Str.Pattern.{LacksTextAt}
use Rattle.liquid_model.specs.Answer.{IsTheOne}
use Rattle.liquid_model.specs.Joined.{joined, joined_rest}
use Rattle.liquid_model.specs.Text.{begins}
use Rattle.liquid_filters.specs.Occurrences.{AreCharacters, ArePieces, Lacks, Splits}
use Rattle.liquid_filters.specs.Pieces.{push, pieces, single_characters, split_by}
use Rattle.liquid_filters.proofs.Pieces.{begins_is, begins_own, drop_pred, joined-pieces, pieces_found, pieces_none}

lacks_nil : (p : List ℕ) → 0 < length p → Lacks p []
lacks_nil [] l i m r e = absurd (omega arith)
lacks_nil (x ∷ p) l zero m r e = cc
lacks_nil (x ∷ p) l (suc i) m r e = absurd (omega arith)

pub lacks_cons : (p s : List ℕ) (b i : ℕ) → LacksTextAt p (b ∷ s) 0 → ((k : ℕ) → k < i → LacksTextAt p s k) → (k : ℕ) → k < suc i → LacksTextAt p (b ∷ s) k
lacks_cons p s b i z h zero m = z
lacks_cons p s b i z h (suc k) m = h k (omega arith)

pub lacks_start : (p s : List ℕ) → begins p s ≡ false → LacksTextAt p s 0
lacks_start p s e r h = let t = ap (begins p) h ∙ begins_own p r in let u : ⊥ = cc in u

empty_piece : (p s rest : List ℕ) (ps : List (List ℕ)) → s ≡ p ++ rest → ArePieces p ps rest → ArePieces p ([] ∷ ps) s
empty_piece p s rest [] e h = absurd h
empty_piece p s rest (y ∷ ys) e h = (rest, e, (λ k m r. absurd (omega arith)), h)

push_piece : (p s : List ℕ) (b : ℕ) (ps : List (List ℕ)) → LacksTextAt p (b ∷ s) 0 → ArePieces p ps s → ArePieces p (push b ps) (b ∷ s)
push_piece p s b [] z h = absurd h
push_piece p s b (x ∷ []) z h = (ap (λ t. b ∷ t) h.0, λ i m. lacks_cons p s b (suc (length s)) z (λ k n. h.1 k (omega arith)) i (omega arith))
push_piece p s b (x ∷ (y ∷ ys)) z h = (h.0, ap (λ t. b ∷ t) h.1, (λ k m. lacks_cons p s b (length x) z h.2 k (omega arith)), h.3)

are_either : (p : List ℕ) (b : ℕ) (s : List ℕ) (t : Bool) → 0 < length p → begins p (b ∷ s) ≡ t → ArePieces p (pieces p (length p - 1) s) (drop (length p - 1) s) → ArePieces p (pieces p 0 s) s
    → ArePieces p (if t then [] ∷ pieces p (length p - 1) s else push b (pieces p 0 s)) (b ∷ s)
are_either p b s true l e one two = empty_piece p (b ∷ s) (drop (length p - 1) s) _ (begins_is p (b ∷ s) e ∙ ap (λ t. p ++ t) (drop_pred p b s l)) one
are_either p b s false l e one two = push_piece p s b _ (lacks_start p (b ∷ s) e) two

are_pieces : (p : List ℕ) (k : ℕ) (s : List ℕ) → 0 < length p → ArePieces p (pieces p k s) (drop k s)
are_pieces p zero [] l = (refl, lacks_nil p l)
are_pieces p (suc k) [] l = (refl, lacks_nil p l)
are_pieces p (suc k) (b ∷ s) l = are_pieces p k s l
are_pieces p zero (b ∷ s) l = are_either p b s (begins p (b ∷ s)) l refl (are_pieces p (length p - 1) s l) (are_pieces p zero s l)

unique : (p : List ℕ) (ps : List (List ℕ)) (s : List ℕ) → 0 < length p → ArePieces p ps s → ps ≡ pieces p 0 s
unique p [] s l h = absurd h
unique p (x ∷ []) s l h = ap (λ t. t ∷ []) h.0 ∙ sym (pieces_none p s l h.1)
unique p (x ∷ (y ∷ ys)) s l h =
    let f = pieces_found p s (length x) h.0 l h.2 (ap (drop (length x)) h.1 ∙ drop-append_seam x (p ++ h.0)) in
    ap (λ t. x ∷ t) (unique p (y ∷ ys) h.0 l h.3) ∙ ap (λ t. t ∷ pieces p 0 h.0) (sym (ap (take (length x)) h.1 ∙ take-append_seam x (p ++ h.0))) ∙ sym f

pub pieces_one : (p s : List ℕ) → 0 < length p → IsTheOne (λ ps. ArePieces p ps s) (pieces p 0 s)
pieces_one p s l = λ ps. (unique p ps s l, λ e. subst (λ x. ArePieces p x s) (sym e) (are_pieces p 0 s l))

-- ---- by the empty text
pub characters_one : (s : List ℕ) → IsUtf8 s → IsTheOne (λ ps. AreCharacters ps s) (single_characters s)
characters_one s u = λ ps. (
  (λ h. h.3 ∙ ap (λ cs. [] ∷ (map encode_utf8 cs ++ ([] ∷ []))) (sym (chars-encodes h.0 h.1) ∙ ap chars (sym h.2))),
  λ e. (chars s, scalars-chars s u, sym (encodes-chars s u), e),
)

pub split_one : (p s : List ℕ) → IsUtf8 s → IsTheOne (Splits p s) (split_by p s)
split_one [] s u = characters_one s u
split_one (x ∷ p) s u = pieces_one (x ∷ p) s (omega arith)

-- ---- joining gives the text back
joined_characters : (cs : List ℕ) → joined_rest [] (map encode_utf8 cs ++ ([] ∷ [])) ≡ encode_utf8_all cs
joined_characters [] = refl
joined_characters (c ∷ cs) = ap (λ t. encode_utf8 c ++ t) (joined_characters cs)

pub joined-split_by : (p s : List ℕ) → IsUtf8 s → joined p (split_by p s) ≡ s
joined-split_by [] s u = joined_characters (chars s) ∙ encodes-chars s u
joined-split_by (x ∷ p) s u = joined-pieces (x ∷ p) 0 s (omega arith)
