-- The loops over tokens, a turn at a time.
use Rattle.std.proofs.Common.{◌≡◌, ℕ, zero, suc, ◌-◌, ◌<◌, ◌≤◌, List, [], ◌∷◌, ◌++◌, length, Option, Some, None, option_map, option_and_then, refl, ap, ◌∙◌}
use Rattle.json.specs.Token.{Token}
use Rattle.json.specs.Json as json
use Rattle.json.specs.Json.{Parse, parse_map, after_end_array, read_key, items_step, items, members_step, members}
use Rattle.json.proofs.Grammar.{items_end, items_more, members_end, members_no_key, members_more}
use Rattle.serde_json.specs.Read.{converted}
use Rattle.liquid_model.specs.Data.{Datum, array, object, Items, no_items, item, Pairs, no_pairs, put}
use Rattle.liquid_model.specs.View.{view}
use Rattle.liquid_model.specs.declared.value.Value.{Value}
use Rattle.liquid_json.specs.inside.Tokens as tokens
use Rattle.liquid_json.specs.declared.tokens.Numbers.{Numbers}
use Rattle.liquid_json.proofs.After.{after, after_next}

abbrev pick : {A : Type 0} → A → Option A → A
pick d None = d
pick d (Some a) = a

found : {B : Type 0} (r s : List Token) (x : Option B) (b : B) → option_map {U = B × List Token} (λ y. (y, r)) x ≡ Some (b, s) → (r ≡ s) × (x ≡ Some b)
found r s None b e = absurd (cc)
found r s (Some y) b e = let same = ap (pick (y, r)) e in (ap (λ p. p.1) same, ap (λ p. Some p.0) same)

no_value : {B : Type 0} (r : List Token) (x : Option B) → option_map {U = B × List Token} (λ y. (y, r)) x ≡ None → x ≡ None
no_value r None e = refl
no_value r (Some y) e = absurd (cc)

-- what was read, before it was converted
pub converted_some : {A B : Type 0} (f : A → Option B) (o : Option (A × List Token)) (b : B) (r : List Token) → converted f o ≡ Some (b, r) → (a : A) × (o ≡ Some (a, r)) × (f a ≡ Some b)
converted_some f None b r e = absurd (cc)
converted_some f (Some p) b r e = let both = found p.1 r (f p.0) b e in (p.0, ap (λ s. Some (p.0, s)) both.0, both.1)

twice : {A B : Type 0} (g : A → B) (r : List Token) (x : Option A) → option_map (λ b. (b, r)) (option_map g x) ≡ parse_map g (option_map (λ a. (a, r)) x)
twice g r None = refl
twice g r (Some a) = refl

module _ (numbers : Numbers) where
  pub converted-array : (o : Option (json.Items × List Token)) → converted (tokens.datum_of numbers) (parse_map json.array o) ≡ parse_map array (converted (tokens.token_items numbers) o)
  converted-array None = refl
  converted-array (Some p) = twice array p.1 (tokens.token_items numbers p.0)

  pub converted-object : (o : Option (json.Members × List Token)) → converted (tokens.datum_of numbers) (parse_map json.object o) ≡ parse_map object (converted (λ ms. tokens.token_pairs numbers ms no_pairs) o)
  converted-object None = refl
  converted-object (Some p) = twice object p.1 (tokens.token_pairs numbers p.0 no_pairs)

  with_item : (j : json.Json) (d : Datum) → tokens.datum_of numbers j ≡ Some d → (o : Option (json.Items × List Token)) → converted (tokens.token_items numbers) (parse_map (json.item j) o) ≡ parse_map (item d) (converted (tokens.token_items numbers) o)
  with_item j d e None = refl
  with_item j d e (Some p) = rw e (twice (item d) p.1 (tokens.token_items numbers p.0))

  with_pair : (k : List ℕ) (j : json.Json) (d : Datum) (old : Pairs) → tokens.datum_of numbers j ≡ Some d → (o : Option (json.Members × List Token))
      → converted (λ ms. tokens.token_pairs numbers ms old) (parse_map (json.member k j) o) ≡ converted (λ ms. tokens.token_pairs numbers ms (put k d old)) o
  with_pair k j d old e None = refl
  with_pair k j d old e (Some p) = rw e

  without_item : (j : json.Json) → tokens.datum_of numbers j ≡ None → (o : Option (json.Items × List Token)) → converted (tokens.token_items numbers) (parse_map (json.item j) o) ≡ None
  without_item j e None = refl
  without_item j e (Some p) = ap (λ d. option_map {U = Items × List Token} (λ y. (y, p.1)) (option_and_then (λ d. option_map (item d) (tokens.token_items numbers p.0)) d)) e

  without_pair : (k : List ℕ) (old : Pairs) (j : json.Json) → tokens.datum_of numbers j ≡ None → (o : Option (json.Members × List Token))
      → converted (λ ms. tokens.token_pairs numbers ms old) (parse_map (json.member k j) o) ≡ None
  without_pair k old j e None = refl
  without_pair k old j e (Some p) = ap (λ d. option_map {U = Pairs × List Token} (λ y. (y, p.1)) (option_and_then (λ d. tokens.token_pairs numbers p.0 (put k d old)) d)) e

  no_item : (o : Option (json.Json × List Token)) → converted (tokens.datum_of numbers) o ≡ None → (next : List Token → Option (json.Items × List Token))
      → converted (tokens.token_items numbers) (option_and_then (λ q. parse_map (json.item q.0) (next q.1)) o) ≡ None
  no_item None e next = refl
  no_item (Some q) e next = without_item q.0 (no_value q.1 (tokens.datum_of numbers q.0) e) (next q.1)

  no_pair : (k : List ℕ) (old : Pairs) (o : Option (json.Json × List Token)) → converted (tokens.datum_of numbers) o ≡ None → (next : List Token → Option (json.Members × List Token))
      → converted (λ ms. tokens.token_pairs numbers ms old) (option_and_then (λ q. parse_map (json.member k q.0) (next q.1)) o) ≡ None
  no_pair k old None e next = refl
  no_pair k old (Some q) e next = without_pair k old q.0 (no_value q.1 (tokens.datum_of numbers q.0) e) (next q.1)

  module _ (p : Parse json.Json) where
    pub item_read : (n : ℕ) (ts r : List Token) (d : Datum) → 0 < n → after_end_array ts ≡ None → converted (tokens.datum_of numbers) (p ts) ≡ Some (d, r)
        → converted (tokens.token_items numbers) (items p n ts) ≡ parse_map (item d) (converted (tokens.token_items numbers) (items p (n - 1) r))
    item_read n ts r d some going e = let j = converted_some (tokens.datum_of numbers) (p ts) d r e in ap (converted (tokens.token_items numbers)) (items_more p n ts r j.0 some going j.1) ∙ with_item j.0 d j.2 _

    pub item_refused : (n : ℕ) (ts : List Token) → after_end_array ts ≡ None → converted (tokens.datum_of numbers) (p ts) ≡ None → converted (tokens.token_items numbers) (items p n ts) ≡ None
    unfolding items
    item_refused zero ts going e = refl
    item_refused (suc n) ts going e = ap (λ o. converted (tokens.token_items numbers) (items_step p (items p n) ts o)) going ∙ no_item (p ts) e (items p n)

    pub items_over : (n : ℕ) (ts r : List Token) → length ts ≤ n → after_end_array ts ≡ Some r → converted (tokens.token_items numbers) (items p n ts) ≡ Some (no_items, r)
    items_over n ts r enough e = ap (converted (tokens.token_items numbers)) (items_end p n ts r enough e)

    module _ (old : Pairs) where
      pub pair_read : (n : ℕ) (k : List ℕ) (ts s r : List Token) (d : Datum) → 0 < n → read_key ts ≡ Some (Some k, s) → converted (tokens.datum_of numbers) (p s) ≡ Some (d, r)
          → converted (λ ms. tokens.token_pairs numbers ms old) (members p n ts) ≡ converted (λ ms. tokens.token_pairs numbers ms (put k d old)) (members p (n - 1) r)
      pair_read n k ts s r d some key e =
          let j = converted_some (tokens.datum_of numbers) (p s) d r e in
          ap (converted (λ ms. tokens.token_pairs numbers ms old)) (members_more p n k ts s r j.0 some key j.1) ∙ with_pair k j.0 d old j.2 _

      pub pairs_over : (n : ℕ) (ts r : List Token) → length ts ≤ n → read_key ts ≡ Some (None, r) → converted (λ ms. tokens.token_pairs numbers ms old) (members p n ts) ≡ Some (old, r)
      pairs_over n ts r enough e = ap (converted (λ ms. tokens.token_pairs numbers ms old)) (members_end p n ts r enough e)

      pub pair_refused : (n : ℕ) (k : List ℕ) (ts s : List Token) → read_key ts ≡ Some (Some k, s) → converted (tokens.datum_of numbers) (p s) ≡ None
          → converted (λ ms. tokens.token_pairs numbers ms old) (members p n ts) ≡ None
      unfolding members
      pair_refused zero k ts s key e = refl
      pair_refused (suc n) k ts s key e =
          ap (λ o. converted (λ ms. tokens.token_pairs numbers ms old) (option_and_then (λ q. members_step p (members p n) q.0 q.1) o)) key ∙ no_pair k old (p s) e (members p n)

      pub key_refused : (n : ℕ) (ts : List Token) → read_key ts ≡ None → converted (λ ms. tokens.token_pairs numbers ms old) (members p n ts) ≡ None
      key_refused n ts e = ap (converted (λ ms. tokens.token_pairs numbers ms old)) (members_no_key p n ts e)

pub one_more_item : (vs : List Value) (v : Value) (r : Option (Items × List Token)) → parse_map (after vs) (parse_map (item (view v)) r) ≡ parse_map (after (vs ++ v ∷ [])) r
one_more_item vs v None = refl
one_more_item vs v (Some p) = ap (λ ds. Some (ds, p.1)) (after_next vs v p.0)

pub none_before : (r : Option (Items × List Token)) → r ≡ parse_map (λ a. a) r
none_before None = refl
none_before (Some p) = refl
