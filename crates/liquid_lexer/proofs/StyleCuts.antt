-- A text may be cut where a path after a tag's name ends, since each byte of a path is ASCII, and
-- where a text ends, before a closer.
use Rattle.std.proofs.Common.{◌≡◌, ℕ, suc, ◌<◌, ◌≤◌, List, [], ◌∷◌, length, get_or, Bool, true, false, cond, eqb, not, ◌&&◌, ◌||◌, refl, ap, sym, ◌∙◌, arith}
use Rattle.std.specs.Str.{IsUtf8, IsCharBoundary}
use Rattle.std.proofs.lemmas.Bool.{eqb-true}
use Rattle.std.proofs.lemmas.Bool.Decides.{nat_tests}
use Rattle.liquid_model.specs.Bytes.{in_word}
use Rattle.liquid_model.specs.Front.{run_len}
use Rattle.liquid_lexer.specs.Styles.{begins_path_separator, closes_bare, closes_tag, in_path, in_tag_text, is_path_mark, is_path_separator}
use Rattle.liquid_model.proofs.Cuts.{run_cut, run_within, word_low}

mark_low : (b : ℕ) → is_path_mark b ≡ true → b < 128
mark_low b h = grind (arith, nat_tests)

first_of : (m s : Bool) → (m && s) ≡ true → m ≡ true
first_of true s h = refl
first_of false s h = h

path_low_by : (b : ℕ) (bs : List ℕ) (w : Bool) → in_word b bs ≡ w → in_path b bs ≡ true → b < 128
unfolding in_path
path_low_by b bs true e h = word_low b bs e
path_low_by b bs false e h =
    let alone = not (is_path_separator b && begins_path_separator bs) in
    mark_low b (first_of (is_path_mark b) alone (sym (ap (λ (t : Bool). t || (is_path_mark b && alone)) e) ∙ h))

path_low : (b : ℕ) (bs : List ℕ) → in_path b bs ≡ true → b < 128
path_low b bs h = path_low_by b bs (in_word b bs) refl h

pub path_cut : (bs : List ℕ) → IsUtf8 bs → IsCharBoundary bs (run_len in_path bs)
path_cut = run_cut in_path path_low

-- ---- before a closer

bare_low : (b : ℕ) (bs : List ℕ) (c : Bool) → eqb b 37 ≡ c → closes_bare (b ∷ bs) ≡ true → b < 128
bare_low b [] c e h = absurd cc
bare_low b (x ∷ bs) true e h = let s = eqb-true b 37 e in omega (arith, s)
bare_low b (x ∷ bs) false e h = let g : false ≡ true = sym (ap (λ (t : Bool). t && eqb x 125) e) ∙ h in absurd cc

closes_low : (b : ℕ) (bs : List ℕ) (c d : Bool) → closes_bare (b ∷ bs) ≡ c → eqb b 45 ≡ d → in_tag_text b bs ≡ false → b < 128
unfolding in_tag_text
closes_low b bs true d e f h = bare_low b bs (eqb b 37) refl e
closes_low b bs false true e f h = let s = eqb-true b 45 f in omega (arith, s)
closes_low b bs false false e f h = let g : true ≡ false = sym (ap (λ (t : Bool). not (t || (eqb b 45 && closes_bare bs))) e ∙ ap (λ (t : Bool). not (t && closes_bare bs)) f) ∙ h in absurd cc

stop_by : (b : ℕ) (bs : List ℕ) (t : Bool) → in_tag_text b bs ≡ t → cond t (suc (run_len in_tag_text bs)) 0 < suc (length bs)
    → (run_len in_tag_text bs < length bs → get_or bs (run_len in_tag_text bs) 0 < 128) → get_or (b ∷ bs) (cond t (suc (run_len in_tag_text bs)) 0) 0 < 128
stop_by b bs true e h f = f (omega (arith, h))
stop_by b bs false e h f = closes_low b bs (closes_bare (b ∷ bs)) (eqb b 45) refl refl e

text_stop : (bs : List ℕ) → run_len in_tag_text bs < length bs → get_or bs (run_len in_tag_text bs) 0 < 128
text_stop [] h = absurd (omega arith)
text_stop (b ∷ bs) h = stop_by b bs (in_tag_text b bs) refl h (text_stop bs)

pub text_cut : (bs : List ℕ) → IsUtf8 bs → IsCharBoundary bs (run_len in_tag_text bs)
text_cut bs u = (run_within in_tag_text bs, λ l h. absurd (omega (arith, text_stop bs l, h)))
