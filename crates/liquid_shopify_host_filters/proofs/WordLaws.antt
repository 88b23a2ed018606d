-- Handles and squished texts stay as they are.
use Rattle.std.proofs.Common.{◌≡◌, ℕ, ◌<◌, ◌&&◌, Bool, true, false, if◌then◌else◌, List, [], ◌∷◌, ◌++◌, Ok, ap, refl, ◌∙◌, arith}
use Rattle.std.proofs.lemmas.Bool.{and_parts}
use Rattle.std.proofs.lemmas.Bool.Decides.{nat_tests}
use Rattle.std.proofs.lemmas.Str.{chars-encodes, scalars-chars}
use Rattle.std.specs.Char.{to_ascii_lowercase}
use Rattle.std.specs.Str.{all_scalars, chars, encode_utf8_all, IsUtf8}
use lib.Utf8.{low_scalar, scalar}
use Rattle.liquid_model.specs.Data.{text}
use Rattle.liquid_model.specs.Texts.{Text}
use Rattle.liquid_model.specs.Arguments.{Answer}
use Rattle.liquid_shopify_host_filters.specs.Laws.{HandleTwiceIsOnce, SquishTwiceIsOnce}
use Rattle.liquid_shopify_host_filters.specs.Words.{after_at, is_left_out, is_space, is_word_character, character_role, separator, shaped, shown_at, worded, worded_text}
use Rattle.liquid_shopify_host_filters.specs.declared.words.Place.{Place}
use Rattle.liquid_shopify_host_filters.specs.declared.words.Place.TheVariants.{Word, Between, Nowhere}
use Rattle.liquid_shopify_host_filters.specs.declared.words.State.{State}
use Rattle.liquid_shopify_host_filters.specs.declared.words.State.TheVariants.{Before, Inside, Past}
use Rattle.liquid_shopify_host_filters.specs.declared.words.Wording.{Wording}
use Rattle.liquid_shopify_host_filters.specs.declared.words.Wording.TheVariants.{Handle, Squish}

-- in which state what is written from a state on is read again
abbrev again : State → State
again Before = Before
again Inside = Inside
again Past = Inside

-- a wording with a separator of one character, whose words stay as they are
record Stays (w : Wording) (mark : ℕ) : Type 0 where
  parts : separator w ≡ mark ∷ []
  mark_between : character_role w mark ≡ Between
  mark_scalar : scalar mark ≡ true
  word_stays : (state : State) (c : ℕ) → character_role w c ≡ Word → character_role w (shaped w state c) ≡ Word
  shape_stays : (s t : State) (c : ℕ) → shaped w s (shaped w t c) ≡ shaped w t c
  shape_scalar : (state : State) (c : ℕ) → character_role w c ≡ Word → scalar c ≡ true → scalar (shaped w state c) ≡ true

module _ (w : Wording) (mark : ℕ) (h : Stays w mark) where
  abbrev Reads : State → List ℕ → Type 0
  Reads state cs = worded w (again state) (worded w state cs) ≡ worded w state cs

  -- a word's character after a separator is read as both
  past : (c : ℕ) (cs : List ℕ) → character_role w c ≡ Word → Reads Inside cs
      → worded w Inside (shown_at Word w Past c ++ worded w Inside cs) ≡ shown_at Word w Past c ++ worded w Inside cs
  past c cs e r =
      let d = shaped w Past c in
      let rest = worded w Inside cs in
      ap (λ s. worded w Inside ((s ++ (d ∷ [])) ++ rest)) h.parts
      ∙ ap (λ q. shown_at q w Inside mark ++ worded w (after_at q Inside) (d ∷ rest)) h.mark_between
      ∙ ap (λ q. shown_at q w Past d ++ worded w (after_at q Past) rest) (h.word_stays Past c e)
      ∙ ap (λ n. (separator w ++ (n ∷ [])) ++ worded w Inside rest) (h.shape_stays Past Past c)
      ∙ ap (λ t. (separator w ++ (d ∷ [])) ++ t) r

  stays_by : (p : Place) (state : State) (c : ℕ) (cs : List ℕ) → character_role w c ≡ p → ((st : State) → Reads st cs)
      → worded w (again state) (shown_at p w state c ++ worded w (after_at p state) cs)
      ≡ shown_at p w state c ++ worded w (after_at p state) cs
  stays_by Nowhere state c cs e r = r state
  stays_by Between Before c cs e r = r Before
  stays_by Between Inside c cs e r = r Past
  stays_by Between Past c cs e r = r Past
  stays_by Word Before c cs e r =
      let d = shaped w Before c in
      let rest = worded w Inside cs in
      ap (λ q. shown_at q w Before d ++ worded w (after_at q Before) rest) (h.word_stays Before c e)
      ∙ ap (λ n. n ∷ worded w Inside rest) (h.shape_stays Before Before c) ∙ ap (λ t. d ∷ t) (r Inside)
  stays_by Word Inside c cs e r =
      let d = shaped w Inside c in
      let rest = worded w Inside cs in
      ap (λ q. shown_at q w Inside d ++ worded w (after_at q Inside) rest) (h.word_stays Inside c e)
      ∙ ap (λ n. n ∷ worded w Inside rest) (h.shape_stays Inside Inside c) ∙ ap (λ t. d ∷ t) (r Inside)
  stays_by Word Past c cs e r = past c cs e (r Inside)

  stays : (cs : List ℕ) (state : State) → Reads state cs
  stays [] state = refl
  stays (c ∷ cs) state = stays_by (character_role w c) state c cs refl (λ st. stays cs st)

  scalars_by : (p : Place) (state : State) (c : ℕ) (rest : List ℕ) → character_role w c ≡ p → scalar c ≡ true
      → all_scalars rest ≡ true → all_scalars (shown_at p w state c ++ rest) ≡ true
  scalars_by Nowhere state c rest e k r = r
  scalars_by Between state c rest e k r = r
  scalars_by Word Before c rest e k r = ap (λ b. b && all_scalars rest) (h.shape_scalar Before c e k) ∙ r
  scalars_by Word Inside c rest e k r = ap (λ b. b && all_scalars rest) (h.shape_scalar Inside c e k) ∙ r
  scalars_by Word Past c rest e k r =
      let d = shaped w Past c in
      ap (λ s. all_scalars ((s ++ (d ∷ [])) ++ rest)) h.parts
      ∙ ap (λ b. b && (scalar d && all_scalars rest)) h.mark_scalar
      ∙ ap (λ b. b && all_scalars rest) (h.shape_scalar Past c e k) ∙ r

  scalars : (cs : List ℕ) (state : State) → all_scalars cs ≡ true → all_scalars (worded w state cs) ≡ true
  scalars [] state k = refl
  scalars (c ∷ cs) state k =
      let p = and_parts (scalar c) (all_scalars cs) k in
      scalars_by (character_role w c) state c (worded w (after_at (character_role w c) state) cs) refl p.0
      (scalars cs (after_at (character_role w c) state) p.1)

  twice : (s : List ℕ) → IsUtf8 s → worded_text w (worded_text w s) ≡ worded_text w s
  twice s u =
      ap (λ cs. encode_utf8_all (worded w Before cs))
      (chars-encodes (worded w Before (chars s)) (scalars (chars s) Before (scalars-chars s u)))
      ∙ ap encode_utf8_all (stays (chars s) Before)

-- ---- handles
found_word : (b l : Bool) → (let p : Place = if b then Word else (if l then Nowhere else Between) in p) ≡ Word → b ≡ true
found_word true l e = refl
found_word false true e = cc
found_word false false e = cc

is_place : (c : ℕ) → character_role Handle c ≡ Word → is_word_character c ≡ true
is_place c e = found_word (is_word_character c) (is_left_out c) e

lower_word : (c : ℕ) → is_word_character c ≡ true → is_word_character (to_ascii_lowercase c) ≡ true
lower_word c e = grind (arith, nat_tests)

lower_twice : (c : ℕ) → to_ascii_lowercase (to_ascii_lowercase c) ≡ to_ascii_lowercase c
lower_twice c = grind (arith, nat_tests)

lower_low : (c : ℕ) → is_word_character c ≡ true → to_ascii_lowercase c < 128
lower_low c e = grind (arith, nat_tests)

of_word : (c : ℕ) → is_word_character c ≡ true → character_role Handle c ≡ Word
of_word c e = ap (λ b. let p : Place = if b then Word else (if is_left_out c then Nowhere else Between) in p) e

handle_stays : Stays Handle 45
handle_stays = record {
  parts = refl;
  mark_between = refl;
  mark_scalar = refl;
  word_stays = λ state c e. of_word (to_ascii_lowercase c) (lower_word c (is_place c e));
  shape_stays = λ s t c. lower_twice c;
  shape_scalar = λ state c e k.
      let low = lower_low c (is_place c e) in low_scalar (to_ascii_lowercase c) (omega (arith, low));
}

squish_stays : Stays Squish 32
squish_stays = record {
  parts = refl;
  mark_between = refl;
  mark_scalar = refl;
  word_stays = λ state c e. e;
  shape_stays = λ s t c. refl;
  shape_scalar = λ state c e k. k;
}

abbrev answer : Text → Answer
answer t = Ok (text t)

pub handle_twice : HandleTwiceIsOnce
handle_twice s u = ap answer (twice Handle 45 handle_stays s u)

pub squish_twice : SquishTwiceIsOnce
squish_twice s u = ap answer (twice Squish 32 squish_stays s u)
