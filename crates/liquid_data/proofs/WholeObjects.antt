-- An object that is read up to one closing brace after another.
use Rattle.std.proofs.Common.{arith, drop, length, subst, take}
use Rattle.std.proofs.lemmas.List.{append_assoc, length-append, length-drop, take_all}
use Rattle.std.proofs.Math.Seq.{drop-append_seam}
use Rattle.std.specs.Prelude.{◌≡◌, ℕ, ◌+◌, ◌-◌, ◌==◌, Bool, true, false, List, [], ◌∷◌, ◌++◌, Option, Some, None, IfSome, if◌then◌else◌}
use Rattle.std.specs.Io.BufRead.{DropsThrough, drop_through, take_through}
use mathlib.Core.Path.{refl, sym, ap, ◌∙◌}
use Rattle.liquid_data.proofs.RowObjects.{open_goes_on, through_brace}
use Rattle.liquid_data.specs.Braces.{after_all, after_object, if_closed, is_closed}
use Rattle.liquid_data.specs.Lists.{ObjectIs}
use Rattle.liquid_data.specs.declared.braces.Braces.{Braces}
use Rattle.liquid_data.specs.declared.braces.Braces.TheVariants.{Between, Closed, Escaped, InText}

-- of the object these bytes were read, and its braces are open
pub record IsWithin (old now : Option (List ℕ)) (read : List ℕ) (braces : Braces) : Type 0 where
  pub still : is_closed braces ≡ false
  pub so_far : IfSome old (λ text. (t : List ℕ) × (front : List ℕ) × (now ≡ Some t) × (read ≡ 123 ∷ front) × (text ≡ front ++ t) × (after_object (Between 0) text ≡ after_object braces t))

pub at_brace : (old : Option (List ℕ)) (read : List ℕ) → read ≡ 123 ∷ [] → IsWithin old old read (Between 0)
at_brace None read is = record { still = refl; so_far = tt }
at_brace (Some text) read is = record { still = refl; so_far = (text, [], refl, is, refl, refl) }

-- the bytes from one of them on
pub tail : (n : ℕ) (xs : List ℕ) → take (length xs - n) (drop n xs) ≡ drop n xs
tail n xs = take_all (length xs - n) (drop n xs) (omega (arith, length-drop n xs))

-- the bytes up to the next closing brace
both : (t : List ℕ) → t ≡ take_through 125 t ++ drop_through 125 t
both [] = refl
both (b ∷ bs) = at (b == 125) (both bs)
  where
    at : (x : Bool) → bs ≡ take_through 125 bs ++ drop_through 125 bs → b ∷ bs ≡ (if x then b ∷ [] else b ∷ take_through 125 bs) ++ (if x then bs else drop_through 125 bs)
    at true next = refl
    at false next = ap (λ z. b ∷ z) next

-- what one more read gives, where the bytes are known
record Chunk (text t front : List ℕ) (next : Option (List ℕ)) (read more : List ℕ) (braces after : Braces) : Type 0 where
  rest : next ≡ Some (drop_through 125 t)
  bytes : more ≡ 123 ∷ (front ++ take_through 125 t)
  whole : text ≡ (front ++ take_through 125 t) ++ drop_through 125 t
  braces_are : after ≡ after_all braces (take_through 125 t)

chunk_of : (text t front : List ℕ) (now next : Option (List ℕ)) (read more : List ℕ) (start : ℕ) (braces after : Braces) → now ≡ Some t → read ≡ 123 ∷ front → text ≡ front ++ t → IfSome now (λ xs. more ≡ read ++ take_through 125 xs) → DropsThrough now next 125
    → start ≡ length read → after ≡ after_all braces (drop start more) → Chunk text t front next read more braces after
chunk_of text t front now next read more start braces after is begun parts got drops from states =
    let is_more : more ≡ read ++ take_through 125 t = subst (λ o. IfSome o (λ xs. more ≡ read ++ take_through 125 xs)) is got in
    record {
      rest = subst (λ o. DropsThrough o next 125) is drops;
      bytes = is_more ∙ ap (λ r. r ++ take_through 125 t) begun;
      whole = parts ∙ ap (λ z. front ++ z) (both t) ∙ sym (append_assoc front (take_through 125 t) (drop_through 125 t));
      braces_are = states ∙ ap (after_all braces) ((λ i. drop (from i) (is_more i)) ∙ drop-append_seam read (take_through 125 t));
    }

pub one_part : (old now next : Option (List ℕ)) (read more : List ℕ) (start : ℕ) (braces after : Braces) → IsWithin old now read braces → IfSome now (λ xs. more ≡ read ++ take_through 125 xs) → DropsThrough now next 125 → start ≡ length read
    → after ≡ after_all braces (drop start more) → is_closed after ≡ false → IsWithin old next more after
one_part None now next read more start braces after within got drops from states unclosed = record { still = unclosed; so_far = tt }
one_part (Some text) now next read more start braces after within got drops from states unclosed =
    let s = within.so_far in
    let c = chunk_of text s.0 s.1 now next read more start braces after s.2 s.3 s.4 got drops from states in
    let rest = drop_through 125 s.0 in
    record {
      still = unclosed;
      so_far = (
        rest,
        s.1 ++ take_through 125 s.0,
        c.rest,
        c.bytes,
        c.whole,
        s.5 ∙ through_brace braces s.0 within.still ∙ (λ i. if_closed (sym c.braces_are i) rest (after_object (sym c.braces_are i) rest)) ∙ open_goes_on after rest (after_object after rest) unclosed,
      );
    }

closed_ends : (s : Braces) (bs : List ℕ) (more : Option (List ℕ)) → is_closed s ≡ true → if_closed s bs more ≡ Some bs
closed_ends Closed bs more e = refl
closed_ends (Between n) bs more e = cc
closed_ends (InText n) bs more e = cc
closed_ends (Escaped n) bs more e = cc

pub last_part : (old now next : Option (List ℕ)) (read more : List ℕ) (start : ℕ) (braces after : Braces) → IsWithin old now read braces → IfSome now (λ xs. more ≡ read ++ take_through 125 xs) → DropsThrough now next 125 → start ≡ length read
    → after ≡ after_all braces (drop start more) → is_closed after ≡ true → IfSome old (λ text. ObjectIs true more next text (after_object (Between 0) text))
last_part None now next read more start braces after within got drops from states unclosed = tt
last_part (Some text) now next read more start braces after within got drops from states closed =
    let s = within.so_far in
    let c = chunk_of text s.0 s.1 now next read more start braces after s.2 s.3 s.4 got drops from states in
    let rest = drop_through 125 s.0 in
    let found : after_object (Between 0) text ≡ Some rest = s.5 ∙ through_brace braces s.0 within.still ∙ (λ i. if_closed (sym c.braces_are i) rest (after_object (sym c.braces_are i) rest)) ∙ closed_ends after rest (after_object after rest) closed in
    subst (ObjectIs true more next text) (sym found) (c.rest, s.1 ++ take_through 125 s.0, c.bytes, c.whole)

none_taken : (t read more : List ℕ) → more ≡ read ++ take_through 125 t → length more ≡ length read + 0 → t ≡ []
none_taken [] read more is same = refl
none_taken (b ∷ bs) read more is same = absurd (at (b == 125) (ap length is ∙ length-append read (take_through 125 (b ∷ bs))))
  where
    at : (x : Bool) → length more ≡ length read + length (if x then b ∷ [] else b ∷ take_through 125 bs) → ⊥
    at true h = omega (arith, same, h)
    at false h = omega (arith, same, h)

pub no_part : (old now next : Option (List ℕ)) (read more : List ℕ) (braces : Braces) → IsWithin old now read braces → IfSome now (λ xs. more ≡ read ++ take_through 125 xs) → length more ≡ length read + 0 → IfSome old (λ text. ObjectIs false more next text (after_object (Between 0) text))
no_part None now next read more braces within got same = tt
no_part (Some text) now next read more braces within got same =
    let s = within.so_far in
    let is_more : more ≡ read ++ take_through 125 s.0 = subst (λ o. IfSome o (λ xs. more ≡ read ++ take_through 125 xs)) s.2 got in
    subst (ObjectIs false more next text) (sym (s.5 ∙ ap (after_object braces) (none_taken s.0 read more is_more same))) tt
