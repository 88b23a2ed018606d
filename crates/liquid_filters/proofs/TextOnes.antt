-- Each filter's answer stands in its relation, and nothing else does.
use Rattle.std.proofs.Common.{◌≡◌, ℕ, zero, suc, ◌+◌, ◌-◌, ◌<◌, ◌≤◌, ◌⊎◌, inl, inr, min, ltb, Bool, true, false, ℤ, pos, negsuc, List, [], ◌∷◌, ◌++◌, length, take, drop, map, Some, None, Result, Ok, Err, ap, subst, refl, sym, ◌∙◌, arith, codes, if◌then◌else◌, nat_le}
use Rattle.std.proofs.lemmas.Bool.Decides.{nat_tests}
use Rattle.std.proofs.lemmas.List.{drop_min, length-take, take-append-drop, take_min}
use Rattle.std.proofs.Math.Seq.{drop-append_seam, take-append_seam}
use Rattle.std.specs.Char.{to_ascii_lowercase, to_ascii_uppercase}
use Rattle.std.specs.List.{concat}
use Rattle.std.specs.Str.{chars, encode_utf8_all, IsUtf8}
use Rattle.unicode_segmentation.specs.Grapheme.{graphemes}
use Rattle.liquid_model.specs.Answer.{IsTheOne}
use Rattle.liquid_model.specs.Data.{Datum, nil, truth, number, text, array, object, text_of}
use Rattle.liquid_model.specs.Fallible.{◌>>=◌}
use Rattle.liquid_model.specs.Lists.{list_of}
use Rattle.liquid_model.specs.View.{items_of}
use Rattle.liquid_model.specs.declared.error.ErrorKind.{ErrorKind}
use Rattle.liquid_model.specs.Arguments.{Answer, text_or}
use Rattle.liquid_model.specs.Joined.{joined}
use Rattle.liquid_model.specs.Text.{begins, Makes, Texts}
use Rattle.liquid_model.proofs.Ones.{image_one, same_one}
use Rattle.liquid_filters.specs.Arguments.{whole_or}
use Rattle.liquid_filters.specs.Case.{capitalize_answer, downcase_answer, upcase_answer}
use Rattle.liquid_filters.specs.Strip.{lstrip_answer, rstrip_answer, strip_answer, strip_newlines_answer}
use Rattle.liquid_filters.specs.TextLaws.{CapitalizesText, Divides, Downcases, KeepsClusters, KeepsWords, ReadThen, RemoveFirstIsOne, RemovesAll, ReplaceFirstIsOne, ReplacesAll, SliceIsOne, Slices, SplitsText, StripsLines, StripsText, StripsTextAtEnd, StripsTextAtStart, TakesPart, TruncateIsOne, TruncateWordsIsOne, Truncates, TruncatesWords, Upcases}
use Rattle.liquid_filters.specs.Occurrences.{Lacks, Replaces, ReplacesFirst}
use Rattle.liquid_filters.specs.Operate.{replaced, replaced_first, remove_answer, replace_answer}
use Rattle.liquid_filters.specs.Parts.{AreFirst, FollowFirst, IsPart}
use Rattle.liquid_filters.specs.Pieces.{split_by}
use Rattle.liquid_filters.specs.TextPlaces.{start, part_from}
use Rattle.liquid_filters.specs.Slice.{part, sliced}
use Rattle.liquid_filters.specs.TextSpelling.{Capitalizes, MapsCharacters, StripsEnd, StripsEnds, StripsNewlines, StripsStart}
use Rattle.liquid_filters.specs.Split.{divided, texts, split_answer}
use Rattle.liquid_filters.specs.Truncate.{first_clusters, truncated, words_of, words_truncated}
use Rattle.liquid_filters.proofs.Occurrences.{lacks_cons, lacks_start, joined-split_by, pieces_one, split_one}
use Rattle.liquid_filters.proofs.Pieces.{begins_is}
use Rattle.liquid_filters.proofs.TextReplaced.{here_nil, first_found, first_none}
use Rattle.liquid_filters.proofs.Spellings.{capitalized_one, downcased_one, strips_end_one, strips_ends_one, strips_newlines_one, strips_start_one, upcased_one}

-- ---- answers
read_one : (r : Result ℤ ErrorKind) (f : ℤ → Answer) (R : ℤ → Answer → Type 0) → ((z : ℤ) → IsTheOne (R z) (f z)) → IsTheOne (ReadThen r R) (r >>= f)
read_one (Ok z) f R one = one z
read_one (Err kind) f R one = λ a. ((λ h. h), λ e. e)

-- ---- pieces
divides_one : (p s : List ℕ) → IsUtf8 s → IsTheOne (Divides p s) (divided p s)
divides_one p [] u = same_one []
divides_one p (b ∷ s) u = split_one p (b ∷ s) u

pub split_relates : (d : Datum) (args : List Datum) → IsUtf8 (text_of d) → IsTheOne (SplitsText d args) (split_answer d args)
split_relates d args u = image_one (Divides (text_or [] args) (text_of d)) (λ ps. Ok (texts ps)) _ (divides_one (text_or [] args) (text_of d) u)

pub texts_of : (ts : List (List ℕ)) → map text_of (list_of (items_of (map (λ t. text t) ts))) ≡ ts
texts_of [] = refl
texts_of (t ∷ ts) = ap (λ us. t ∷ us) (texts_of ts)

pub given_back : (p s : List ℕ) → IsUtf8 s → joined p (divided p s) ≡ s
given_back p [] u = refl
given_back p (b ∷ s) u = joined-split_by p (b ∷ s) u

replaces_one : (p r s : List ℕ) → IsUtf8 s → IsTheOne (Replaces p r s) (replaced p r s)
replaces_one p r s u = λ t. ((λ h. h.2 ∙ ap (joined r) ((split_one p s u h.0).0 h.1)), λ e. (split_by p s, (split_one p s u (split_by p s)).1 refl, e))

pub replace_relates : (d : Datum) (args : List Datum) → IsUtf8 (text_of d) → IsTheOne (ReplacesAll d args) (replace_answer d args)
replace_relates d args u = image_one (Replaces (text_or [] args) (text_or [] (drop 1 args)) (text_of d)) (λ t. Ok (text t)) _ (replaces_one (text_or [] args) (text_or [] (drop 1 args)) (text_of d) u)

pub remove_relates : (d : Datum) (args : List Datum) → IsUtf8 (text_of d) → IsTheOne (RemovesAll d args) (remove_answer d args)
remove_relates d args u = image_one (Replaces (text_or [] args) [] (text_of d)) (λ t. Ok (text t)) _ (replaces_one (text_or [] args) [] (text_of d) u)

-- ---- the first occurrence
lacks_empty : (p : List ℕ) → begins p [] ≡ false → Lacks p []
lacks_empty p e zero l = lacks_start p [] e
lacks_empty p e (suc i) l = absurd (omega arith)

first_of_none : (p r : List ℕ) (t : Bool) → begins p [] ≡ t → ReplacesFirst p r [] (if t then r else [])
first_of_none p r true e = inr ([], drop (length p) [], begins_is p [] e, (λ k l. absurd (omega arith)), here_nil r p e)
first_of_none p r false e = inl (lacks_empty p e, refl)

lacks_more : (p s : List ℕ) (b : ℕ) → begins p (b ∷ s) ≡ false → Lacks p s → Lacks p (b ∷ s)
lacks_more p s b e h i l = lacks_cons p s b (suc (length s)) (lacks_start p (b ∷ s) e) (λ k m. h k (omega arith)) i (omega arith)

first_later : (p r s : List ℕ) (b : ℕ) → begins p (b ∷ s) ≡ false → ReplacesFirst p r s (replaced_first p r s) → ReplacesFirst p r (b ∷ s) (b ∷ replaced_first p r s)
first_later p r s b e (inl h) = inl (lacks_more p s b e h.0, ap (λ t. b ∷ t) h.1)
first_later p r s b e (inr h) =
    inr (b ∷ h.0, h.1, ap (λ t. b ∷ t) h.2, (λ k l. lacks_cons p s b (length h.0) (lacks_start p (b ∷ s) e) h.3 k (omega arith)), ap (λ t. b ∷ t) h.4)

first_either : (p r s : List ℕ) (b : ℕ) (t : Bool) → begins p (b ∷ s) ≡ t → ReplacesFirst p r s (replaced_first p r s)
    → ReplacesFirst p r (b ∷ s) (if t then r ++ drop (length p) (b ∷ s) else b ∷ replaced_first p r s)
first_either p r s b true e h = inr ([], drop (length p) (b ∷ s), begins_is p (b ∷ s) e, (λ k l. absurd (omega arith)), refl)
first_either p r s b false e h = first_later p r s b e h

first_stands : (p r s : List ℕ) → ReplacesFirst p r s (replaced_first p r s)
first_stands p r [] = first_of_none p r (begins p []) refl
first_stands p r (b ∷ s) = first_either p r s b (begins p (b ∷ s)) refl (first_stands p r s)

first_unique : (p r s t : List ℕ) → ReplacesFirst p r s t → t ≡ replaced_first p r s
first_unique p r s t (inl h) = h.1 ∙ sym (first_none r p s h.0)
first_unique p r s t (inr h) =
    let after = ap (drop (length h.0)) h.2 ∙ drop-append_seam h.0 (p ++ h.1) in
    let before = ap (take (length h.0)) h.2 ∙ take-append_seam h.0 (p ++ h.1) in
    h.4 ∙ ap (λ x. x ++ (r ++ h.1)) (sym before) ∙ sym (first_found r p s (length h.0) h.1 h.3 after)

replaces_first_one : (p r s : List ℕ) → IsTheOne (ReplacesFirst p r s) (replaced_first p r s)
replaces_first_one p r s = λ t. (first_unique p r s t, λ e. subst (ReplacesFirst p r s) (sym e) (first_stands p r s))

pub replace_first_law : ReplaceFirstIsOne
replace_first_law d args = image_one (ReplacesFirst (text_or [] args) (text_or [] (drop 1 args)) (text_of d)) (λ t. Ok (text t)) _ (replaces_first_one (text_or [] args) (text_or [] (drop 1 args)) (text_of d))

pub remove_first_law : RemoveFirstIsOne
remove_first_law d args = image_one (ReplacesFirst (text_or [] args) [] (text_of d)) (λ t. Ok (text t)) _ (replaces_first_one (text_or [] args) [] (text_of d))

-- ---- parts of lists
first_one : {X : Type 0} (n : ℕ) (xs : List X) → IsTheOne (AreFirst n xs) (take n xs)
first_one n xs = λ ys. (
  (λ h. sym (ap (take (length ys)) h.1 ∙ take-append_seam ys h.0) ∙ ap (λ k. take k xs) h.2 ∙ take_min n xs),
  λ e. subst (AreFirst n xs) (sym e) (drop n xs, sym (take-append-drop n xs), length-take n xs),
)

follow_one : {X : Type 0} (from n : ℕ) (xs : List X) → IsTheOne (FollowFirst from n xs) (take n (drop from xs))
follow_one from n xs = λ ys. (
  (λ h. (first_one n h.1 ys).0 h.4 ∙ ap (take n) (sym (ap (drop (length h.0)) h.2 ∙ drop-append_seam h.0 h.1) ∙ ap (λ k. drop k xs) h.3 ∙ drop_min from xs)),
  λ e. (take from xs, drop from xs, sym (take-append-drop from xs), length-take from xs, (first_one n (drop from xs) ys).1 e),
)

module _ {X : Type 0} (n count : ℕ) (xs : List X) where
  from_start : (z : ℕ) (ys : List X) → IsPart n (pos z) count xs ys → ys ≡ part_from n (start n (pos z)) count xs
  from_start z ys (inl h) = (follow_one h.0 (min count (n - h.0)) xs ys).0 h.2 ∙ ap (λ k. take (min count (n - k)) (drop k xs)) h.1
  from_start z ys (inr h) = absurd h.0

  from_end : (z : ℕ) (ys : List X) (t : Bool) → nat_le (suc z) n ≡ t → IsPart n (negsuc z) count xs ys → ys ≡ part_from n (if t then Some (n - suc z) else None) count xs
  from_end z ys true e (inl h) =
      let place : h.0 ≡ n - suc z = omega (arith, h.1) in
      (follow_one h.0 (min count (n - h.0)) xs ys).0 h.2 ∙ ap (λ k. take (min count (n - k)) (drop k xs)) place
  from_end z ys true e (inr h) = let before : n < suc z = h.0 in absurd (grind (arith, nat_tests))
  from_end z ys false e (inl h) = let place : h.0 + suc z ≡ n = h.1 in let u : suc z ≤ n = omega arith in absurd (grind (arith, nat_tests))
  from_end z ys false e (inr h) = h.1

  at_end : (z : ℕ) (ys : List X) (t : Bool) → nat_le (suc z) n ≡ t → ys ≡ part_from n (if t then Some (n - suc z) else None) count xs → IsPart n (negsuc z) count xs ys
  at_end z ys true e g =
      let within : suc z ≤ n = grind (arith, nat_tests) in
      inl (n - suc z, omega arith, (follow_one (n - suc z) (min count (n - (n - suc z))) xs ys).1 g)
  at_end z ys false e g = let before : n < suc z = grind (arith, nat_tests) in inr (before, g)

  part_one : (z : ℤ) → IsTheOne (IsPart n z count xs) (part_from n (start n z) count xs)
  part_one (pos z) = λ ys. (from_start z ys, λ e. inl (min z n, refl, (follow_one (min z n) (min count (n - min z n)) xs ys).1 e))
  part_one (negsuc z) = λ ys. (from_end z ys (nat_le (suc z) n) refl, at_end z ys (nat_le (suc z) n) refl)

characters_part : (offset : ℤ) (count : ℕ) (s : List ℕ)
    → IsTheOne (Makes (λ cs. Ok (text (encode_utf8_all cs))) (IsPart (length s) offset count (chars s))) (Ok (text (encode_utf8_all (part_from (length s) (start (length s) offset) count (chars s)))))
characters_part offset count s = image_one (IsPart (length s) offset count (chars s)) (λ cs. Ok (text (encode_utf8_all cs))) _ (part_one (length s) count (chars s) offset)

takes_one : (offset : ℤ) (count : ℕ) (d : Datum) → IsTheOne (TakesPart offset count d) (Ok (part offset count d))
takes_one offset count nil = characters_part offset count (text_of nil)
takes_one offset count (truth b) = characters_part offset count (text_of (truth b))
takes_one offset count (number z) = characters_part offset count (text_of (number z))
takes_one offset count (text s) = characters_part offset count s
takes_one offset count (array ds) = image_one (IsPart (length (list_of ds)) offset count (list_of ds)) (λ out. Ok (array (items_of out))) _ (part_one (length (list_of ds)) count (list_of ds) offset)
takes_one offset count (object ms) = characters_part offset count (text_of (object ms))

slices_one : (d : Datum) (offset count : ℤ) → IsTheOne (Slices d offset count) (sliced d offset count)
slices_one d offset (pos zero) = same_one (sliced d offset (pos zero))
slices_one d offset (pos (suc n)) = takes_one offset (suc n) d
slices_one d offset (negsuc n) = same_one (sliced d offset (negsuc n))

pub slice_law : SliceIsOne
slice_law d args =
    read_one (whole_or (pos 0) args) (λ offset. whole_or (pos 1) (drop 1 args) >>= (λ count. sliced d offset count)) (λ offset. ReadThen (whole_or (pos 1) (drop 1 args)) (Slices d offset))
    (λ offset. read_one (whole_or (pos 1) (drop 1 args)) (sliced d offset) (Slices d offset) (slices_one d offset))

-- ---- beginnings
module _ (n m : ℕ) (d x : Datum) (R : Answer → Type 0) (one : IsTheOne R (Ok x)) where
  shorter_unique : (a : Answer) (t : Bool) → ltb n m ≡ t → ((n < m) × R a) ⊎ ((m ≤ n) × (a ≡ Ok d)) → a ≡ Ok (if t then x else d)
  shorter_unique a true e (inl h) = (one a).0 h.1
  shorter_unique a true e (inr h) = let few : m ≤ n = h.0 in absurd (grind (arith, nat_tests))
  shorter_unique a false e (inl h) = let more : n < m = h.0 in absurd (grind (arith, nat_tests))
  shorter_unique a false e (inr h) = h.1

  shorter_stands : (a : Answer) (t : Bool) → ltb n m ≡ t → a ≡ Ok (if t then x else d) → ((n < m) × R a) ⊎ ((m ≤ n) × (a ≡ Ok d))
  shorter_stands a true e g = let more : n < m = grind (arith, nat_tests) in inl (more, (one a).1 g)
  shorter_stands a false e g = let few : m ≤ n = grind (arith, nat_tests) in inr (few, g)

  shorter_one : IsTheOne (λ a. ((n < m) × R a) ⊎ ((m ≤ n) × (a ≡ Ok d))) (Ok (if ltb n m then x else d))
  shorter_one = λ a. (shorter_unique a (ltb n m) refl, shorter_stands a (ltb n m) refl)

clusters_one : (n : ℕ) (end s : List ℕ) → IsTheOne (KeepsClusters n end s) (first_clusters n s ++ end)
clusters_one n end s = λ t. (
  (λ h. h.2 ∙ ap (λ ks. concat ks ++ end) ((first_one n (graphemes true s) h.0).0 h.1)),
  λ e. (take n (graphemes true s), (first_one n (graphemes true s) (take n (graphemes true s))).1 refl, e),
)

truncates_one : (d : Datum) (end : List ℕ) (z : ℤ) → IsTheOne (Truncates d end z) (Ok (truncated d end z))
truncates_one d end (pos n) =
    shorter_one n (length (text_of d)) d (text (first_clusters (n - length end) (text_of d) ++ end)) (Texts (KeepsClusters (n - length end) end (text_of d)))
    (image_one (KeepsClusters (n - length end) end (text_of d)) (λ t. Ok (text t)) _ (clusters_one (n - length end) end (text_of d)))
truncates_one d end (negsuc n) = same_one (Ok d)

pub truncate_law : TruncateIsOne
truncate_law d args =
    read_one (whole_or (pos 50) args) (λ n. Ok (truncated d (text_or (codes "...") (drop 1 args)) n)) (Truncates d (text_or (codes "...") (drop 1 args))) (truncates_one d (text_or (codes "...") (drop 1 args)))

words_one : (n : ℕ) (end : List ℕ) (ws : List (List ℕ)) → IsTheOne (KeepsWords n end ws) (joined (codes " ") (take n ws) ++ end)
words_one n end ws = λ t. (
  (λ h. h.2 ∙ ap (λ ks. joined (codes " ") ks ++ end) ((first_one n ws h.0).0 h.1)),
  λ e. (take n ws, (first_one n ws (take n ws)).1 refl, e),
)

-- the words being known
words_known : (d : Datum) (end : List ℕ) (n : ℕ) (ws : List (List ℕ))
    → IsTheOne (λ a. ((n < length ws) × Texts (KeepsWords n end ws) a) ⊎ ((length ws ≤ n) × (a ≡ Ok d))) (Ok (if ltb n (length ws) then text (joined (codes " ") (take n ws) ++ end) else d))
words_known d end n ws =
    shorter_one n (length ws) d (text (joined (codes " ") (take n ws) ++ end)) (Texts (KeepsWords n end ws))
    (image_one (KeepsWords n end ws) (λ t. Ok (text t)) _ (words_one n end ws))

truncates_words_one : (d : Datum) (end : List ℕ) (z : ℤ) → IsTheOne (TruncatesWords d end z) (Ok (words_truncated d end z))
truncates_words_one d end (pos n) =
    λ a. (
      (λ h. (words_known d end n h.0 a).0 h.2 ∙ ap (λ us. Ok (if ltb n (length us) then text (joined (codes " ") (take n us) ++ end) else d)) ((pieces_one (codes " ") (text_of d) (omega arith) h.0).0 h.1)),
      λ e. (words_of (text_of d), (pieces_one (codes " ") (text_of d) (omega arith) (words_of (text_of d))).1 refl, (words_known d end n (words_of (text_of d)) a).1 e),
    )
truncates_words_one d end (negsuc n) = same_one (Ok d)

pub truncatewords_law : TruncateWordsIsOne
truncatewords_law d args =
    read_one (whole_or (pos 50) args) (λ n. Ok (words_truncated d (text_or (codes "...") (drop 1 args)) n)) (TruncatesWords d (text_or (codes "...") (drop 1 args))) (truncates_words_one d (text_or (codes "...") (drop 1 args)))

-- ---- characters
text_one : (R : List ℕ → Type 0) (t : List ℕ) → IsTheOne R t → IsTheOne (Texts R) (Ok (text t))
text_one R t one = image_one R (λ t. Ok (text t)) t one

pub downcase_relates : (d : Datum) (args : List Datum) → IsUtf8 (text_of d) → IsTheOne (Downcases d args) (downcase_answer d args)
downcase_relates d args u = text_one (MapsCharacters to_ascii_lowercase (text_of d)) _ (downcased_one (text_of d) u)

pub upcase_relates : (d : Datum) (args : List Datum) → IsUtf8 (text_of d) → IsTheOne (Upcases d args) (upcase_answer d args)
upcase_relates d args u = text_one (MapsCharacters to_ascii_uppercase (text_of d)) _ (upcased_one (text_of d) u)

pub capitalize_relates : (d : Datum) (args : List Datum) → IsUtf8 (text_of d) → IsTheOne (CapitalizesText d args) (capitalize_answer d args)
capitalize_relates d args u = text_one (Capitalizes (text_of d)) _ (capitalized_one (text_of d) u)

pub strip_relates : (d : Datum) (args : List Datum) → IsUtf8 (text_of d) → IsTheOne (StripsText d args) (strip_answer d args)
strip_relates d args u = text_one (StripsEnds (text_of d)) _ (strips_ends_one (text_of d) u)

pub lstrip_relates : (d : Datum) (args : List Datum) → IsUtf8 (text_of d) → IsTheOne (StripsTextAtStart d args) (lstrip_answer d args)
lstrip_relates d args u = text_one (StripsStart (text_of d)) _ (strips_start_one (text_of d) u)

pub rstrip_relates : (d : Datum) (args : List Datum) → IsUtf8 (text_of d) → IsTheOne (StripsTextAtEnd d args) (rstrip_answer d args)
rstrip_relates d args u = text_one (StripsEnd (text_of d)) _ (strips_end_one (text_of d) u)

pub strip_newlines_relates : (d : Datum) (args : List Datum) → IsUtf8 (text_of d) → IsTheOne (StripsLines d args) (strip_newlines_answer d args)
strip_newlines_relates d args u = text_one (StripsNewlines (text_of d)) _ (strips_newlines_one (text_of d) u)
