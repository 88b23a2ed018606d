-- A value is alike with what is left of it.
use Rattle.std.specs.Prelude.{◌≡◌, ℕ, suc, Bool, true, false, cond, not, ◌&&◌, ◌||◌, T, ℤ, Option, Some, None, is_some, bytes_eq, codes}
use mathlib.Core.Path.{refl, sym, ap, subst, subst₂, ◌∙◌}
use Rattle.std.specs.Cmp.Lexicographic.{bytes_decides}
use Rattle.std.specs.Option.{unwrap_or}
use Rattle.liquid_model.specs.Texts.{Text, same_text}
use Rattle.liquid_model.specs.Data.{Datum, nil, truth, number, text, array, object, Items, no_items, item, Pairs, no_pairs, pair}
use Rattle.liquid_model.specs.Digest.{items_len, pairs_len}
use Rattle.liquid_model.specs.Find.{counted, value_at, item_at, item_back, item_step, or_size}
use Rattle.liquid_model.specs.Lists.{list_of, pair_lists}
use Rattle.liquid_model.specs.Whole.{whole_text}
use Rattle.liquid_model.specs.Uses.{Use, nothing, everything, parts, Fields, no_fields, field, ItemUse, uncounted, up_to, member, Pairwise, Alike, AlikeFields, AlikeItems, asks_whether, use_of_each, has_every, join, is_place, items_wanted}
use Rattle.liquid_model.specs.Projected.{use_of_key, asks_length, asks_of_list, finds_key, of_seconds, second_wanted, values_wanted, pairs_wanted, projected, projected_items, projected_pairs, ProjectedAlike}
use Rattle.liquid_model.proofs.Alike.{alike_same, alike_equal, alike_shape, join_left, join_right, up_to_all, AlikeLists}
use Rattle.liquid_model.proofs.AlikeLists.{array_alike, step_alike}
use Rattle.liquid_model.proofs.Maps.{same_text_equal}

-- ---- tests

true_is : (b : Bool) → b ≡ true → T b
true_is b e = subst (λ c. T c) (sym e) tt

first_false : (a b : Bool) → a || b ≡ false → a ≡ false
first_false true b e = absurd cc
first_false false b e = refl

pub second_false : (a b : Bool) → a || b ≡ false → b ≡ false
second_false true b e = absurd cc
second_false false b e = e

pub unasked : (u : Use) (o p : Option Datum) → asks_whether u ≡ false → Alike u o p
unasked nothing o p e = tt
unasked everything o p e = absurd cc
unasked (parts members turns) o p e = absurd cc

-- by whether u is asked
if_asked : (u : Use) (o p : Option Datum) → (asks_whether u ≡ true → Alike u o p) → Alike u o p
if_asked nothing o p k = tt
if_asked everything o p k = k refl
if_asked (parts members turns) o p k = k refl

-- W asks of each name for all that these fields ask
abbrev pub CoversKeys : (Text → Use) → Fields → Type 0
CoversKeys W members = (key : Text) (o p : Option Datum) → Alike (W key) o p → Alike (use_of_key key members) o p

of_first : (W : Text → Use) (k : Text) (u : Use) (more : Fields) → CoversKeys W (field k u more) → (o p : Option Datum) → Alike (W k) o p → Alike u o p
of_first W k u more c o p a = at (same_text k k) ((bytes_decides k k).1 refl) (c k o p a)
  where
    at : (b : Bool) → b ≡ true → Alike (cond b (join u (use_of_key k more)) (use_of_key k more)) o p → Alike u o p
    at true e h = join_left u (use_of_key k more) o p h
    at false e h = absurd cc

of_more : (W : Text → Use) (k : Text) (u : Use) (more : Fields) → CoversKeys W (field k u more) → CoversKeys W more
of_more W k u more c key o p a = at (same_text k key) (c key o p a)
  where
    at : (b : Bool) → Alike (cond b (join u (use_of_key key more)) (use_of_key key more)) o p → Alike (use_of_key key more) o p
    at true h = join_right u (use_of_key key more) o p h
    at false h = h

-- ---- maps

or_size_alike : (u : Use) (o p : Option Datum) (k : Text) (n m : ℕ) → Alike u o p → (bytes_eq k (codes "size") ≡ true → n ≡ m) → T (asks_whether u) → Alike u (or_size o k n) (or_size p k m)
or_size_alike u (Some c) (Some d) k n m a e h = a
or_size_alike u (Some c) None k n m a e h = let s = alike_shape u (Some c) None h a in absurd cc
or_size_alike u None (Some d) k n m a e h = let s = alike_shape u None (Some d) h a in absurd cc
or_size_alike u None None k n m a e h = at (bytes_eq k (codes "size")) e
  where
    at : (b : Bool) → (b ≡ true → n ≡ m) → Alike u (cond b (Some (counted n)) None) (cond b (Some (counted m)) None)
    at true e = alike_equal u _ _ (ap (λ i. Some (counted i)) (e refl))
    at false e = alike_same u None

left_true : (a b : Bool) → a ≡ true → a || b ≡ true
left_true true b e = refl
left_true false b e = absurd cc

right_true : (a b : Bool) → b ≡ true → a || b ≡ true
right_true true b e = refl
right_true false b e = e

both_true : (a b : Bool) → a ≡ true → b ≡ true → a && b ≡ true
both_true true b e f = f
both_true false b e f = absurd cc

-- the fields of maps whose values are alike by W, and whose lengths are the same where one is asked for
pub fields_of_maps : (W : Text → Use) (ps qs : Pairs) → ((key : Text) → Alike (W key) (value_at key ps) (value_at key qs))
    → (members : Fields) → (asks_length members ≡ true → pairs_len ps ≡ pairs_len qs) → CoversKeys W members → AlikeFields members (Some (object ps)) (Some (object qs))
fields_of_maps W ps qs values no_fields lengths c = tt
fields_of_maps W ps qs values (field k u more) lengths c = (
  if_asked u (member k (Some (object ps))) (member k (Some (object qs))) (λ h.
      or_size_alike u (value_at k ps) (value_at k qs) k (pairs_len ps) (pairs_len qs) (of_first W k u more c _ _ (values k))
      (λ e. lengths (left_true _ (asks_length more) (both_true (asks_whether u) _ h e))) (true_is _ h)),
  fields_of_maps W ps qs values more (λ e. lengths (right_true (asks_whether u && same_text k (codes "size")) (asks_length more) e)) (of_more W k u more c),
)

-- ---- lists of which nothing is asked

none_found : (k : Text) (ds : Items) → same_text k (codes "size") || is_place k ≡ false → member k (Some (array ds)) ≡ None
none_found k ds none = at (whole_text k) (first_false _ _ places)
  where
    places : is_place k ≡ false
    places = second_false (same_text k (codes "size")) (is_place k) none

    ends : (same_text k (codes "first") || same_text k (codes "last")) ≡ false
    ends = second_false (is_some (whole_text k)) _ places

    named : (a b c : Bool) → a ≡ false → b ≡ false → c ≡ false → cond a (item_at 0 ds) (cond b (item_back 1 ds) (cond c (Some (counted (items_len ds))) None)) ≡ None
    named true b c e f g = absurd cc
    named false true c e f g = absurd cc
    named false false true e f g = absurd cc
    named false false false e f g = refl

    at : (i : Option ℤ) → is_some i ≡ false → item_step i k ds ≡ None
    at None e = named (bytes_eq k (codes "first")) (bytes_eq k (codes "last")) (bytes_eq k (codes "size")) (first_false _ _ ends) (second_false (same_text k (codes "first")) _ ends) (first_false _ _ none)
    at (Some i) e = absurd cc

pub fields_unseen : (ds es : Items) (members : Fields) → asks_of_list members ≡ false → AlikeFields members (Some (array ds)) (Some (array es))
fields_unseen ds es no_fields none = tt
fields_unseen ds es (field k u more) none = (
  if_asked u (member k (Some (array ds))) (member k (Some (array es))) (λ h.
      let found : same_text k (codes "size") || is_place k ≡ false = unplaced (asks_whether u) _ h (first_false _ _ none) in
      alike_equal u _ _ (none_found k ds found ∙ sym (none_found k es found))),
  fields_unseen ds es more (second_false (asks_whether u && (same_text k (codes "size") || is_place k)) _ none),
)
  where
    unplaced : (a b : Bool) → a ≡ true → a && b ≡ false → b ≡ false
    unplaced true b h e = e
    unplaced false b h e = absurd cc

-- ---- pairs

kept_pair : (a keep : Bool) → keep ≡ true → (ps qs : Pairs) → cond (a || keep) ps qs ≡ ps
kept_pair true keep e ps qs = refl
kept_pair false true e ps qs = refl
kept_pair false false e ps qs = absurd cc

pairs_length : (W : Text → Use) (keep : Bool) → keep ≡ true → (ps : Pairs) → pairs_len ps ≡ pairs_len (projected_pairs W keep ps)
pairs_length W keep e no_pairs = refl
pairs_length W keep e (pair key d ps) = ap suc (pairs_length W keep e ps) ∙ ap pairs_len (sym (kept_pair (asks_whether (W key)) keep e (pair key (projected (W key) d) (projected_pairs W keep ps)) (projected_pairs W keep ps)))

at_its_key : (key l : Text) (d : Datum) (ps : Pairs) → bytes_eq key l ≡ true → value_at key (pair l d ps) ≡ Some d
at_its_key key l d ps e = ap (λ b. cond b (Some d) (value_at key ps)) e

at_other_key : (key l : Text) (d : Datum) (ps : Pairs) → bytes_eq key l ≡ false → value_at key (pair l d ps) ≡ value_at key ps
at_other_key key l d ps e = ap (λ b. cond b (Some d) (value_at key ps)) e

-- what stands at a key of the pairs that are left
key_alike : (W : Text → Use) (keep : Bool) (l : Text) (d : Datum) (ps : Pairs) (key : Text) → Alike (W l) (Some d) (Some (projected (W l) d)) → Alike (W key) (value_at key ps) (value_at key (projected_pairs W keep ps))
    → Alike (W key) (value_at key (pair l d ps)) (value_at key (projected_pairs W keep (pair l d ps)))
key_alike W keep l d ps key first rest = at (bytes_eq key l) refl (asks_whether (W l) || keep) refl (projected_pairs W keep ps) rest
  where
    at : (b : Bool) → bytes_eq key l ≡ b → (kept : Bool) → asks_whether (W l) || keep ≡ kept → (qs : Pairs) → Alike (W key) (value_at key ps) (value_at key qs)
        → Alike (W key) (value_at key (pair l d ps)) (value_at key (cond kept (pair l (projected (W l) d) qs) qs))
    at true is true e qs r = subst₂ (Alike (W key)) (sym (at_its_key key l d ps is)) (sym (at_its_key key l (projected (W l) d) qs is))
        (subst (λ name. Alike (W name) (Some d) (Some (projected (W l) d))) (sym ((bytes_decides key l).0 is)) first)
    at true is false e qs r = unasked (W key) _ _ (ap (λ name. asks_whether (W name)) ((bytes_decides key l).0 is) ∙ first_false _ keep e)
    at false is true e qs r = subst₂ (Alike (W key)) (sym (at_other_key key l d ps is)) (sym (at_other_key key l (projected (W l) d) qs is)) r
    at false is false e qs r = subst (λ o. Alike (W key) o (value_at key qs)) (sym (at_other_key key l d ps is)) r

-- a pair as a list
abbrev as_list : Text → Datum → Items
as_list key d = item (text key) (item d no_items)

-- a step that finds the key, or else one that finds the value or nothing
pair_step : (W u : Use) (k key : Text) (c d : Datum) → Alike W (Some c) (Some d) → (T (is_place k && not (finds_key k)) → (o p : Option Datum) → Alike W o p → Alike u o p)
    → Alike u (member k (Some (array (as_list key c)))) (member k (Some (array (as_list key d))))
pair_step W u k key c d a into = at (same_text k (codes "0")) (same_text_equal k (codes "0")) (same_text k (codes "first")) (same_text_equal k (codes "first")) into
  where
    found : (word : Text) → k ≡ word → member word (Some (array (as_list key c))) ≡ member word (Some (array (as_list key d))) → Alike u (member k (Some (array (as_list key c)))) (member k (Some (array (as_list key d))))
    found word is e = subst (λ w. Alike u (member w (Some (array (as_list key c)))) (member w (Some (array (as_list key d))))) (sym is) (alike_equal u _ _ e)

    placed : (b : Bool) → T b → T (b && true)
    placed true h = tt
    placed false h = absurd h

    at : (zero : Bool) → (T zero → k ≡ codes "0") → (first : Bool) → (T first → k ≡ codes "first") → (T (is_place k && not (zero || first)) → (o p : Option Datum) → Alike W o p → Alike u o p)
        → Alike u (member k (Some (array (as_list key c)))) (member k (Some (array (as_list key d))))
    at true z first f into = found (codes "0") (z tt) refl
    at false z true f into = found (codes "first") (f tt) refl
    at false z false f into = step_alike W u k (as_list key c) (as_list key d) (alike_same W (Some (text key)), (a, tt)) (λ h. into (placed (is_place k) h))

pair_fields : (W : Use) (key : Text) (c d : Datum) → Alike W (Some c) (Some d) → (members : Fields) → ((o p : Option Datum) → Alike W o p → Alike (of_seconds members) o p)
    → AlikeFields members (Some (array (as_list key c))) (Some (array (as_list key d)))
pair_fields W key c d a no_fields into = tt
pair_fields W key c d a (field k u more) into = (pair_step W u k key c d a (here (is_place k && not (finds_key k)) into), pair_fields W key c d a more (rest (is_place k && not (finds_key k)) into))
  where
    here : (b : Bool) → ((o p : Option Datum) → Alike W o p → Alike (cond b (join u (of_seconds more)) (of_seconds more)) o p) → T b → (o p : Option Datum) → Alike W o p → Alike u o p
    here true into h o p a = join_left u (of_seconds more) o p (into o p a)
    here false into h o p a = absurd h

    rest : (b : Bool) → ((o p : Option Datum) → Alike W o p → Alike (cond b (join u (of_seconds more)) (of_seconds more)) o p) → (o p : Option Datum) → Alike W o p → Alike (of_seconds more) o p
    rest true into o p a = join_right u (of_seconds more) o p (into o p a)
    rest false into o p a = into o p a

pub pair_alike : (u : Use) (key : Text) (c d : Datum) → Alike (second_wanted u) (Some c) (Some d) → Alike u (Some (array (as_list key c))) (Some (array (as_list key d)))
pair_alike nothing key c d a = tt
pair_alike everything key c d a = ap (λ o. Some (array (as_list key (unwrap_or o c)))) a
pair_alike (parts members turns) key c d a =
    (refl, (pair_fields (second_wanted (parts members turns)) key c d a members (λ o p h. join_right (use_of_each turns) (of_seconds members) o p h), over turns a))
  where
    over : (turns : ItemUse) → Alike (join (use_of_each turns) (of_seconds members)) (Some c) (Some d) → AlikeItems turns (Some (array (as_list key c))) (Some (array (as_list key d)))
    over uncounted a = tt
    over (up_to n u) a = up_to_all _ n (list_of (as_list key c)) (list_of (as_list key d)) (alike_same u (Some (text key)), (join_left u (of_seconds members) (Some c) (Some d) a, tt))

-- ---- values

of_list : (members : Fields) (turns : ItemUse) (ds : Items) → ((u : Use) → AlikeLists u (list_of ds) (list_of (projected_items u true ds)))
    → Alike (parts members turns) (Some (array ds)) (Some (projected (parts members turns) (array ds)))
of_list members (up_to n u) ds all = array_alike members (up_to n u) ds _ (all (items_wanted (parts members (up_to n u))))
of_list members uncounted ds all = at (asks_of_list members) refl
  where
    at : (b : Bool) → asks_of_list members ≡ b → Alike (parts members uncounted) (Some (array ds)) (Some (array (projected_items (items_wanted (parts members uncounted)) b ds)))
    at true e = array_alike members uncounted ds _ (all (items_wanted (parts members uncounted)))
    at false e = (refl, (fields_unseen ds _ members e, tt))

over_map : (ps : Pairs) (turns : ItemUse) (members : Fields) → ((n : Option ℕ) (u : Use) → AlikeLists u (pair_lists ps) (pair_lists (projected_pairs (pairs_wanted members (up_to n u)) true ps)))
    → AlikeItems turns (Some (object ps)) (Some (object (projected_pairs (pairs_wanted members turns) (has_every turns || asks_length members) ps)))
over_map ps uncounted members each = tt
over_map ps (up_to n u) members each = up_to_all _ n (pair_lists ps) (pair_lists (projected_pairs (pairs_wanted members (up_to n u)) true ps)) (each n u)

of_map : (members : Fields) (turns : ItemUse) (ps : Pairs) → ((key : Text) → Alike (pairs_wanted members turns key) (value_at key ps) (value_at key (projected_pairs (pairs_wanted members turns) (has_every turns || asks_length members) ps)))
    → AlikeItems turns (Some (object ps)) (Some (object (projected_pairs (pairs_wanted members turns) (has_every turns || asks_length members) ps)))
    → Alike (parts members turns) (Some (object ps)) (Some (object (projected_pairs (pairs_wanted members turns) (has_every turns || asks_length members) ps)))
of_map members turns ps values over = (
  refl,
  (
    fields_of_maps (pairs_wanted members turns) ps (projected_pairs (pairs_wanted members turns) (has_every turns || asks_length members) ps) values members
        (λ e. pairs_length (pairs_wanted members turns) (has_every turns || asks_length members) (right_true (has_every turns) (asks_length members) e) ps)
        (λ key o p a. join_left (use_of_key key members) (values_wanted turns) o p a),
    over,
  ),
)

mutual
  alike_projected : (d : Datum) (u : Use) → Alike u (Some d) (Some (projected u d))
  alike_projected nil nothing = tt
  alike_projected nil everything = refl
  alike_projected nil (parts members turns) = alike_same (parts members turns) (Some nil)
  alike_projected (truth b) nothing = tt
  alike_projected (truth b) everything = refl
  alike_projected (truth b) (parts members turns) = alike_same (parts members turns) (Some (truth b))
  alike_projected (number z) nothing = tt
  alike_projected (number z) everything = refl
  alike_projected (number z) (parts members turns) = alike_same (parts members turns) (Some (number z))
  alike_projected (text s) nothing = tt
  alike_projected (text s) everything = refl
  alike_projected (text s) (parts members turns) = alike_same (parts members turns) (Some (text s))
  alike_projected (array ds) nothing = tt
  alike_projected (array ds) everything = refl
  alike_projected (array ds) (parts members turns) = of_list members turns ds (λ u. list_projected ds u)
  alike_projected (object ps) nothing = tt
  alike_projected (object ps) everything = refl
  alike_projected (object ps) (parts members turns) = of_map members turns ps
      (λ key. pairs_projected ps (pairs_wanted members turns) (has_every turns || asks_length members) key)
      (over_map ps turns members (λ n u. each_projected ps n u members))

  list_projected : (ds : Items) (u : Use) → AlikeLists u (list_of ds) (list_of (projected_items u true ds))
  list_projected no_items u = tt
  list_projected (item d ds) u = (alike_projected d u, list_projected ds u)

  pub pairs_projected : (ps : Pairs) (W : Text → Use) (keep : Bool) (key : Text) → Alike (W key) (value_at key ps) (value_at key (projected_pairs W keep ps))
  pairs_projected no_pairs W keep key = alike_same (W key) None
  pairs_projected (pair l d ps) W keep key = key_alike W keep l d ps key (alike_projected d (W l)) (pairs_projected ps W keep key)

  each_projected : (ps : Pairs) (n : Option ℕ) (u : Use) (members : Fields) → AlikeLists u (pair_lists ps) (pair_lists (projected_pairs (pairs_wanted members (up_to n u)) true ps))
  each_projected no_pairs n u members = tt
  each_projected (pair l d ps) n u members =
      let W = pairs_wanted members (up_to n u) in
      let rest = projected_pairs W true ps in
      subst (λ qs. Pairwise (λ c e. Alike u (Some c) (Some e)) (pair_lists (pair l d ps)) (pair_lists qs)) (sym (kept_pair (asks_whether (W l)) true refl (pair l (projected (W l) d) rest) rest))
      (pair_alike u l d (projected (W l) d) (join_right (use_of_key l members) (second_wanted u) (Some d) (Some (projected (W l) d)) (alike_projected d (W l))), each_projected ps n u members)

pub projected_alike : ProjectedAlike
projected_alike u d = alike_projected d u
