-- Words that are joined have themselves for words.
use Rattle.std.proofs.Common.{◌≡◌, ℕ, ◌<◌, Bool, true, false, List, [], ◌∷◌, ◌++◌, length, codes, ap, refl, ◌∙◌, arith, if◌then◌else◌}
use Rattle.std.specs.Char.{is_ascii_whitespace}
use Rattle.liquid_model.specs.Joined.{joined, joined_rest}
use Rattle.liquid_jekyll_host_filters.specs.Laws.{NormalizeKeepsWords}
use Rattle.liquid_jekyll_host_filters.specs.Words.{with_finished_word, words, words_after}
use Rattle.liquid_jekyll_host_filters.proofs.SplitWords.{AreNoWhite, ended_is, white_ends, word_first}

abbrev AreWords : List (List ℕ) → Type 0
AreWords [] = Unit {0}
AreWords (w ∷ ws) = (0 < length w) × AreNoWhite w × AreWords ws

no_white_more : (w : List ℕ) (b : ℕ) → AreNoWhite w → is_ascii_whitespace b ≡ false → AreNoWhite (w ++ b ∷ [])
no_white_more [] b h e = (e, tt)
no_white_more (c ∷ w) b h e = (h.0, no_white_more w b h.1 e)

ended_words : (w : List ℕ) (ws : List (List ℕ)) → AreNoWhite w → AreWords ws → AreWords (with_finished_word w ws)
ended_words [] ws h k = k
ended_words (b ∷ w) ws h k = (omega arith, h, k)

words_by : (w s : List ℕ) (b : ℕ) (t : Bool) → is_ascii_whitespace b ≡ t → AreNoWhite w → AreWords (words s) → (AreNoWhite (w ++ b ∷ []) → AreWords (words_after (w ++ b ∷ []) s))
    → AreWords (if t then with_finished_word w (words_after [] s) else words_after (w ++ b ∷ []) s)
words_by w s b true e h k more = ended_words w (words s) h k
words_by w s b false e h k more = more (no_white_more w b h e)

words_are : (w s : List ℕ) → AreNoWhite w → AreWords (words_after w s)
words_are w [] h = ended_words w [] h tt
words_are w (b ∷ s) h = words_by w s b (is_ascii_whitespace b) refl h (words_are [] s tt) (words_are (w ++ b ∷ []) s)

joined_on : (w : List ℕ) (ws : List (List ℕ)) → 0 < length w → AreWords ws → words_after w (joined_rest (codes " ") ws) ≡ w ∷ ws
joined_on w [] l h = ended_is w [] l
joined_on w (v ∷ ws) l h =
    white_ends w (v ++ joined_rest (codes " ") ws) 32 refl ∙ ap (with_finished_word w) (word_first [] v (joined_rest (codes " ") ws) h.1 ∙ joined_on v ws h.0 h.2) ∙ ended_is w (v ∷ ws) l

joined_words : (ws : List (List ℕ)) → AreWords ws → words (joined (codes " ") ws) ≡ ws
joined_words [] h = refl
joined_words (w ∷ ws) h = word_first [] w (joined_rest (codes " ") ws) h.1 ∙ joined_on w ws h.0 h.2

pub normalize_keeps : NormalizeKeepsWords
normalize_keeps s = joined_words (words s) (words_are [] s tt)
