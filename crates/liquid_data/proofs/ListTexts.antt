-- Lists of objects with white space between their signs, and the braces of a map's JSON.
use Rattle.std.proofs.Common.{◌≡◌, ℕ, ℤ, pos, negsuc, zero, suc, ◌+◌, ◌^◌, ◌<◌, ◌≤◌, min, Bool, true, false, cond, ◌&&◌, ◌==◌, List, [], ◌∷◌, ◌++◌, fold, length, get_or, decimal, Option, Some, inl, inr, ◌⊎◌, refl, sym, ap, ◌∙◌, subst, arith, append_assoc, ltb-true}
use Rattle.std.proofs.lemmas.Bool.{cases_eq, cases_lt, ne_eqb}
use Rattle.std.proofs.lemmas.Fmt.{decimal_is_IsNumeral}
use Rattle.std.proofs.lemmas.Str.Parse.{digit_at}
use Rattle.std.specs.Char.{is_ascii_whitespace}
use Rattle.std.specs.Fmt.{signed_decimal}
use Rattle.std.specs.Prelude.{IsTrue}
use Rattle.json.specs.Token.{Token, begin_object, end_object, begin_array, end_array, key, string, number as number_token, boolean, null}
use Rattle.json.specs.Print.{escape_byte, escape, quoted, token_text, begins, ends, separator, print_from, print}
use Rattle.json.proofs.Printed.Strings.{escape_byte_plain}
use Rattle.json.proofs.Printed.Tokens.{print_from-append}
use Rattle.liquid_json.specs.JsonTexts.{items_tokens, json_text, json_tokens, pairs_tokens}
use Rattle.liquid_model.specs.Data.{Datum, nil, truth, number, text, array, object, Items, no_items, item, Pairs, no_pairs, pair}
use Rattle.liquid_model.specs.Whole.{fits}
use Rattle.liquid_data.specs.Braces.{after_object, if_closed, one_closed}
use Rattle.liquid_data.specs.ListLaws.{FitsInList, IsRestOfObject, IsWhiteSpace, ItemsFitInList, ListsAreRead, MapsAreObjects, PairsFitInList}
use Rattle.liquid_data.specs.Lists.{list_step_at, list_end, next_sign, front_sign, first_sign, nothing_more, object_sign, one_object, sign_in, step_of, whole_object}
use Rattle.liquid_data.specs.declared.braces.Braces.{Braces}
use Rattle.liquid_data.specs.declared.braces.Braces.TheVariants.{Between, Closed, Escaped, InText}

-- ---- signs after white space

sign_after : (ws : List ℕ) (b : ℕ) (more : List ℕ) → IsWhiteSpace ws → is_ascii_whitespace b ≡ false → sign_in (ws ++ b ∷ more) ≡ Some (b, more)
sign_after [] b more h not_white = rw not_white refl
sign_after (w ∷ ws) b more h not_white = rw h.0 (sign_after ws b more h.1 not_white)

no_sign : (ws : List ℕ) → IsWhiteSpace ws → nothing_more (sign_in ws) ≡ list_end
no_sign [] h = refl
no_sign (w ∷ ws) h = rw h.0 (no_sign ws h.1)

an_object : (us inside more : List ℕ) → IsWhiteSpace us → IsRestOfObject inside → step_of (object_sign (sign_in (us ++ 123 ∷ (inside ++ more)))) ≡ one_object (inside ++ more) more
an_object us inside more h whole =
    ap (λ o. step_of (object_sign o)) (sign_after us 123 (inside ++ more) h refl) ∙ ap (whole_object (inside ++ more)) (whole more)

a_first : (us inside more : List ℕ) → IsWhiteSpace us → IsRestOfObject inside → step_of (first_sign (sign_in (us ++ 123 ∷ (inside ++ more)))) ≡ one_object (inside ++ more) more
a_first us inside more h whole =
    ap (λ o. step_of (first_sign o)) (sign_after us 123 (inside ++ more) h refl) ∙ ap (whole_object (inside ++ more)) (whole more)

pub lists_are_read : ListsAreRead
lists_are_read = record {
  first = λ ws us inside more h k whole. ap (λ o. step_of (front_sign o)) (sign_after ws 91 (us ++ 123 ∷ (inside ++ more)) h refl) ∙ a_first us inside more k whole;
  next = λ ws us inside more h k whole. ap (λ o. step_of (next_sign o)) (sign_after ws 44 (us ++ 123 ∷ (inside ++ more)) h refl) ∙ an_object us inside more k whole;
  last = λ ws us h k. ap (λ o. step_of (next_sign o)) (sign_after ws 93 us h refl) ∙ no_sign us k;
  empty = λ ws us vs h k l. ap (λ o. step_of (front_sign o)) (sign_after ws 91 (us ++ 93 ∷ vs) h refl) ∙ ap (λ o. step_of (first_sign o)) (sign_after us 93 vs k refl) ∙ no_sign vs l;
}

-- ---- the braces of a text that goes on

-- after these bytes it goes on so
abbrev Passes : Braces → List ℕ → Braces → Type 0
Passes s xs t = (r : List ℕ) → after_object s (xs ++ r) ≡ after_object t r

then : (s t u : Braces) (xs ys : List ℕ) → Passes s xs t → Passes t ys u → Passes s (xs ++ ys) u
then s t u xs ys f g r = ap (after_object s) (append_assoc xs ys r) ∙ f (ys ++ r) ∙ g r

byte_between : (n x : ℕ) → (x ≡ 34 → ⊥) → (x ≡ 123 → ⊥) → (x ≡ 125 → ⊥) → Passes (Between n) (x ∷ []) (Between n)
byte_between n x q o c r = rw (ne_eqb x 34 q, ne_eqb x 123 o, ne_eqb x 125 c) refl

-- ---- strings

abbrev InTextPasses : ℕ → Type 0
InTextPasses x = (n : ℕ) → Passes (InText n) (escape_byte x) (InText n)

-- P holds below n, counted down from the top
abbrev Each : (ℕ → Type 0) → ℕ → Type 0
Each P zero = Unit {0}
Each P (suc n) = P n × Each P n

each_sound : (P : ℕ → Type 0) (n : ℕ) → Each P n → (x : ℕ) → x < n → P x
each_sound P zero h x lt = absurd (omega arith)
each_sound P (suc n) h x lt = go (each_sound P n h.1 x) (cases_eq x n)
  where
    go : (x < n → P x) → (x ≡ n) ⊎ (x ≡ n → ⊥) → P x
    go below (inl e) = subst P (sym e) h.0
    go below (inr ne) = below (omega arith)

controls : Each InTextPasses 32
unfolding escape_byte
controls = (λ n r. refl, (λ n r. refl, (λ n r. refl, (λ n r. refl, (λ n r. refl, (λ n r. refl, (λ n r. refl, (λ n r. refl, (λ n r. refl, (λ n r. refl, (λ n r. refl, (λ n r. refl, (λ n r. refl, (λ n r. refl, (λ n r. refl, (λ n r. refl, (λ n r. refl, (λ n r. refl, (λ n r. refl, (λ n r. refl, (λ n r. refl, (λ n r. refl, (λ n r. refl, (λ n r. refl, (λ n r. refl, (λ n r. refl, (λ n r. refl, (λ n r. refl, (λ n r. refl, (λ n r. refl, (λ n r. refl, (λ n r. refl, tt))))))))))))))))))))))))))))))))

quote_passes : InTextPasses 34
unfolding escape_byte
quote_passes n r = refl

backslash_passes : InTextPasses 92
unfolding escape_byte
backslash_passes n r = refl

plain_passes : (x : ℕ) → (x ≡ 34 → ⊥) → (x ≡ 92 → ⊥) → 32 ≤ x → InTextPasses x
plain_passes x q b l n r = rw (escape_byte_plain x q b l, ne_eqb x 34 q, ne_eqb x 92 b) refl

byte_passes : (x : ℕ) → InTextPasses x
byte_passes x = low (cases_lt x 32)
  where
    high : (x ≡ 34) ⊎ (x ≡ 34 → ⊥) → (x ≡ 92) ⊎ (x ≡ 92 → ⊥) → 32 ≤ x → InTextPasses x
    high (inl e) b l = subst InTextPasses (sym e) quote_passes
    high (inr q) (inl e) l = subst InTextPasses (sym e) backslash_passes
    high (inr q) (inr b) l = plain_passes x q b l

    low : (x < 32) ⊎ (32 ≤ x) → InTextPasses x
    low (inl l) = each_sound InTextPasses 32 controls x l
    low (inr l) = high (cases_eq x 34) (cases_eq x 92) l

text_passes : (s : List ℕ) (n : ℕ) → Passes (InText n) (escape s) (InText n)
text_passes [] n = λ r. refl
text_passes (x ∷ s) n = then (InText n) (InText n) (InText n) (escape_byte x) (escape s) (byte_passes x n) (text_passes s n)

quoted_passes : (s : List ℕ) (n : ℕ) → Passes (Between n) (quoted s) (Between n)
quoted_passes s n r = ap (after_object (InText n)) (append_assoc (escape s) (34 ∷ []) r) ∙ text_passes s n (34 ∷ r)

-- ---- numbers

digits_pass : (ds : List ℕ) (n : ℕ) → ((i : ℕ) → i < length ds → (48 ≤ get_or ds i 0) × (get_or ds i 0 ≤ 57)) → Passes (Between n) ds (Between n)
digits_pass [] n h = λ r. refl
digits_pass (d ∷ ds) n h =
    let first = h 0 (omega arith) in
    then (Between n) (Between n) (Between n) (d ∷ []) ds (byte_between n d (λ e. omega arith) (λ e. omega arith) (λ e. omega arith)) (digits_pass ds n (λ i l. h (suc i) (omega arith)))

decimal_passes : (m n : ℕ) → m < 2 ^ 64 → Passes (Between n) (decimal m) (Between n)
decimal_passes m n h = digits_pass (decimal m) n (λ i l. digit_at _ i (decimal_is_IsNumeral m h).0.1 l)

number_passes : (z : ℤ) (n : ℕ) → IsTrue (fits z) → Passes (Between n) (signed_decimal z) (Between n)
number_passes (pos m) n h = let small = ltb-true m (2 ^ 63) h in decimal_passes m n (omega arith)
number_passes (negsuc m) n h =
    let small = ltb-true m (2 ^ 63) h in
    then (Between n) (Between n) (Between n) (45 ∷ []) (decimal (suc m)) (λ r. refl) (decimal_passes (suc m) n (omega arith))

-- ---- tokens

separator_passes : (c : Bool) (t : Token) (n : ℕ) → Passes (Between n) (separator c t) (Between n)
separator_passes c t n = go (c && begins t)
  where
    go : (b : Bool) → Passes (Between n) (cond b (44 ∷ []) []) (Between n)
    go true r = refl
    go false r = refl

-- a token after its comma, and the text after it
token_then : (c : Bool) (t : Token) (ts : List Token) (n : ℕ) (u : Braces) → Passes (Between n) (token_text t ++ print_from (ends t) ts) u → Passes (Between n) (print_from c (t ∷ ts)) u
unfolding print_from
token_then c t ts n u h = then (Between n) (Between n) u (separator c t) (token_text t ++ print_from (ends t) ts) (separator_passes c t n) h

one_token : (c : Bool) (t : Token) (n : ℕ) → Passes (Between n) (token_text t) (Between n) → Passes (Between n) (print_from c (t ∷ [])) (Between n)
unfolding print_from
one_token c t n h = token_then c t [] n (Between n) (then (Between n) (Between n) (Between n) (token_text t) [] h (λ r. refl))

truth_passes : (b : Bool) (n : ℕ) → Passes (Between n) (token_text (boolean b)) (Between n)
truth_passes true n r = refl
truth_passes false n r = refl

-- where the closing brace of the object with n more around it leads
abbrev closing : ℕ → List ℕ → Option (List ℕ)
closing n r = if_closed (one_closed n) r (after_object (one_closed n) r)

opened : (n : ℕ) (xs r : List ℕ) → n < 18446744073709551615 → after_object (Between n) (123 ∷ xs) ≡ after_object (Between (suc n)) xs
opened n xs r h =
    let more : min (n + 1) 18446744073709551615 ≡ suc n = omega arith in
    ap (λ k. after_object (Between k) xs) more

mutual
  unfolding print_from

  value_passes : (d : Datum) (c : Bool) (n m : ℕ) → n + m ≤ 18446744073709551615 → FitsInList m d → Passes (Between n) (print_from c (json_tokens d)) (Between n)
  value_passes nil c n m l h = one_token c null n (λ r. refl)
  value_passes (truth b) c n m l h = one_token c (boolean b) n (truth_passes b n)
  value_passes (number z) c n m l h = one_token c (number_token (signed_decimal z)) n (number_passes z n h)
  value_passes (text s) c n m l h = one_token c (string s) n (quoted_passes s n)
  value_passes (array ds) c n m l h =
      token_then c begin_array (items_tokens ds) n (Between n) (then (Between n) (Between n) (Between n) (91 ∷ []) (print_from false (items_tokens ds)) (λ r. refl) (items_pass ds false n m l h))
  value_passes (object ms) c n zero l h = absurd h
  value_passes (object ms) c n (suc m) l h =
      token_then c begin_object (pairs_tokens ms) n (Between n) (λ r. opened n (print_from false (pairs_tokens ms) ++ r) r (omega arith) ∙ pairs_pass ms false (suc n) m (omega arith) h r)

  items_pass : (ds : Items) (c : Bool) (n m : ℕ) → n + m ≤ 18446744073709551615 → ItemsFitInList m ds → Passes (Between n) (print_from c (items_tokens ds)) (Between n)
  items_pass no_items c n m l h = one_token c end_array n (λ r. refl)
  items_pass (item d ds) c n m l h = λ r.
      ap (λ xs. after_object (Between n) (xs ++ r)) (print_from-append c (json_tokens d) (items_tokens ds))
      ∙ then (Between n) (Between n) (Between n) (print_from c (json_tokens d)) _ (value_passes d c n m l h.0) (items_pass ds (fold (λ _ u. ends u) c (json_tokens d)) n m l h.1) r

  pairs_pass : (ms : Pairs) (c : Bool) (n m : ℕ) → n + m ≤ 18446744073709551615 → PairsFitInList m ms → (r : List ℕ) → after_object (Between n) (print_from c (pairs_tokens ms) ++ r) ≡ closing n r
  pairs_pass no_pairs c n m l h r =
      ap (after_object (Between n)) (append_assoc (separator c end_object) (125 ∷ []) r) ∙ separator_passes c end_object n (125 ∷ r)
  pairs_pass (pair k d ms) c n m l h r =
      let rest = json_tokens d ++ pairs_tokens ms in
      let b = fold (λ _ u. ends u) false (json_tokens d) in
      ap (after_object (Between n)) (append_assoc (separator c (key k)) _ r) ∙ separator_passes c (key k) n _
      ∙ ap (after_object (Between n)) (append_assoc (quoted k ++ 58 ∷ []) (print_from false rest) r)
      ∙ then (Between n) (Between n) (Between n) (quoted k) (58 ∷ []) (quoted_passes k n) (λ q. refl) (print_from false rest ++ r)
      ∙ ap (λ xs. after_object (Between n) (xs ++ r)) (print_from-append false (json_tokens d) (pairs_tokens ms))
      ∙ ap (after_object (Between n)) (append_assoc (print_from false (json_tokens d)) (print_from b (pairs_tokens ms)) r)
      ∙ value_passes d false n m l h.0 (print_from b (pairs_tokens ms) ++ r) ∙ pairs_pass ms b n m l h.1 r

pub maps_are_objects : MapsAreObjects
unfolding print_from
maps_are_objects n ms l h = (print_from false (pairs_tokens ms), refl, λ more. pairs_pass ms false 0 n (omega arith) h more)
