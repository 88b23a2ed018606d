-- Words, one after the other.
use Rattle.std.proofs.Common.{◌≡◌, ℕ, zero, suc, ◌+◌, ◌<◌, ◌≤◌, Bool, true, false, List, [], ◌∷◌, ◌++◌, length, get_or, codes, ap, ap₂, refl, sym, ◌∙◌, arith, append_assoc, append-nil, Option, None, if◌then◌else◌}
use Rattle.std.proofs.lemmas.Bool.Decides.{nat_tests}
use Rattle.std.proofs.lemmas.List.{nil_from_length}
use Rattle.std.proofs.lemmas.List.Elements.{All-head, All-tail}
use Rattle.std.proofs.lemmas.Str.{NoCharPasses-byte}
use Rattle.std.specs.Prelude.{All, nat_lt}
use Rattle.std.specs.Char.{is_ascii_whitespace}
use Rattle.std.specs.Str.{NoCharPasses}
use Rattle.std.specs.Borrow.{Bor}
use Rattle.std.specs.Iterator.{Yields}
use Rattle.std.specs.Str.Iter.{CutsAsciiWord, IsAsciiSeparator}
use Rattle.std.specs.List.{AllPass}
use Rattle.liquid_model.specs.Joined.{joined, joined_rest}
use Rattle.liquid_jekyll_host_filters.specs.Words.{with_finished_word, words, words_after}

abbrev pub IsWhite : ℕ → Type 0
IsWhite b = is_ascii_whitespace b ≡ true

abbrev pub AreNoWhite : List ℕ → Type 0
AreNoWhite [] = Unit {0}
AreNoWhite (b ∷ s) = (is_ascii_whitespace b ≡ false) × AreNoWhite s

pub white_ends : (w s : List ℕ) (b : ℕ) → IsWhite b → words_after w (b ∷ s) ≡ with_finished_word w (words s)
white_ends w s b h = ap (λ t. if t then with_finished_word w (words_after [] s) else words_after (w ++ b ∷ []) s) h

gap_first : (gap s : List ℕ) → AllPass is_ascii_whitespace gap → words (gap ++ s) ≡ words s
gap_first [] s h = refl
gap_first (b ∷ gap) s h = white_ends [] (gap ++ s) b (All-head IsWhite b gap h) ∙ gap_first gap s (All-tail IsWhite b gap h)

pub word_first : (w x s : List ℕ) → AreNoWhite x → words_after w (x ++ s) ≡ words_after (w ++ x) s
word_first w [] s h = ap (λ v. words_after v s) (sym (append-nil w))
word_first w (b ∷ x) s h =
    ap (λ t. if t then with_finished_word w (words_after [] (x ++ s)) else words_after (w ++ b ∷ []) (x ++ s)) h.0
    ∙ word_first (w ++ b ∷ []) x s h.1 ∙ ap (λ v. words_after v s) (append_assoc w (b ∷ []) x)

pub ended_is : (x : List ℕ) (ws : List (List ℕ)) → 0 < length x → with_finished_word x ws ≡ x ∷ ws
ended_is [] ws h = absurd (omega arith)
ended_is (b ∷ x) ws h = refl

separated : (x sep rest : List ℕ) → 0 < length x → IsAsciiSeparator sep rest → words_after x (sep ++ rest) ≡ x ∷ words rest
separated x [] rest h s = let e = nil_from_length rest (s.2 refl) in ap (words_after x) e ∙ ended_is x [] h ∙ ap (λ r. x ∷ words r) (sym e)
separated x (b ∷ []) rest h s = white_ends x rest b (All-head IsWhite b [] s.0) ∙ ended_is x (words rest) h
separated x (b ∷ c ∷ sep) rest h s = absurd (omega (arith, s.1))

high_or_not : (b : ℕ) (t : Bool) → nat_lt b 128 ≡ t → (b < 128 → is_ascii_whitespace b ≡ false) → is_ascii_whitespace b ≡ false
high_or_not b true e h = h (grind (arith, nat_tests))
high_or_not b false e h =
    let high : 128 ≤ b = grind (arith, nat_tests) in
    let e1 : nat_lt b 9 ≡ false = grind (arith, nat_tests) in
    grind (arith, nat_tests)

no_white : (x : List ℕ) → ((k : ℕ) → k < length x → get_or x k 0 < 128 → is_ascii_whitespace (get_or x k 0) ≡ false) → AreNoWhite x
no_white [] h = tt
no_white (b ∷ x) h = (high_or_not b (nat_lt b 128) refl (h 0 (omega arith)), no_white x (λ k l. h (suc k) (omega (arith, l))))

-- a word comes off the front
pub word_off : (s x rest : List ℕ) → 0 < length x → NoCharPasses is_ascii_whitespace x → (gap : List ℕ) → (sep : List ℕ) → s ≡ gap ++ (x ++ (sep ++ rest)) → AllPass is_ascii_whitespace gap → IsAsciiSeparator sep rest
    → words s ≡ x ∷ words rest
word_off s x rest l n gap sep e g p =
    ap words e ∙ gap_first gap (x ++ (sep ++ rest)) g ∙ word_first [] x (sep ++ rest) (no_white x (λ k i. NoCharPasses-byte is_ascii_whitespace x k n i)) ∙ separated x sep rest l p

pub none_left : (s : List ℕ) → AllPass is_ascii_whitespace s → words s ≡ []
none_left s h = ap words (sym (append-nil s)) ∙ gap_first s [] h

-- ---- with spaces between them
abbrev pub after : List ℕ → List (List ℕ) → List ℕ
after before [] = []
after before (w ∷ ws) = before ++ (w ++ joined_rest (codes " ") ws)

pub after_none : (ws : List (List ℕ)) → joined (codes " ") ws ≡ after [] ws
after_none [] = refl
after_none (w ∷ ws) = refl

after_one : (ws : List (List ℕ)) → joined_rest (codes " ") ws ≡ after (codes " ") ws
after_one [] = refl
after_one (w ∷ ws) = refl

pub next_word : (before word old mid new all : List ℕ) (ws left : List (List ℕ)) → ws ≡ word ∷ left → mid ≡ old ++ before → new ≡ mid ++ word → all ≡ old ++ after before ws → all ≡ new ++ after (codes " ") left
next_word before word old mid new all ws left is m n inv =
    inv ∙ ap (λ w. old ++ after before w) is ∙ sym (append_assoc old before (word ++ joined_rest (codes " ") left)) ∙ ap (λ t. t ++ (word ++ joined_rest (codes " ") left)) (sym m)
    ∙ sym (append_assoc mid word (joined_rest (codes " ") left)) ∙ ap₂ (λ x y. x ++ y) (sym n) (after_one left)

-- ---- counted, in a run over an iterator that has this text left
module _ {S : Type 0} (left : S → List ℕ) where
  abbrev Cuts : S → Option (Bor (List ℕ)) → S → Type 0
  Cuts s r t = CutsAsciiWord (left s) r (left t) (λ gap x sep. gap ++ (x ++ (sep ++ left t)))

  all_words : (xs : List (Bor (List ℕ))) (s t : S) → Yields Cuts s xs t → words (left t) ≡ [] → length (words (left s)) ≡ length xs
  all_words [] s t y h = ap length (ap (λ u. words (left u)) y ∙ h)
  all_words (x ∷ xs) s t y h =
      let off = word_off (left s) x.now (left y.0) y.1.0 y.1.1 y.1.3.0 y.1.3.1 y.1.3.2 y.1.3.3 y.1.3.4 in
      ap length off ∙ ap suc (all_words xs y.0 t y.2 h)

  pub counted_words : (xs : List (Bor (List ℕ))) (s u t : S) → Yields Cuts s xs t → Cuts t None u → length (words (left s)) ≡ length xs
  counted_words xs s u t y n = all_words xs s t y (none_left (left t) n.0)
