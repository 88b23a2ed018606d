-- What may be asked of pairs of places and of chains.
use Rattle.std.proofs.Common.{◌≡◌, ℕ, suc, ◌+◌, ◌<◌, ◌≤◌, length, drop, get_or, map, List, [], ◌∷◌, add-one, drop-cons, arith, Bool, true, false, cond, not, ◌&&◌, ◌||◌, refl, sym, ap, ◌∙◌}
use Rattle.std.proofs.lemmas.List.{drop_all, nil_from_length}
use Rattle.std.proofs.lemmas.Bool.Decides.{nat_tests}
use Rattle.std.proofs.lemmas.Bool.{leb-true, le-leb}
use Rattle.std.specs.Borrow.{Bor}
use Rattle.std.specs.Prelude.{◌==◌, max, MatchOption, Option, Some, None}
use Rattle.liquid_model.specs.declared.uses.Use.{Use as RustUse}
use mathlib.Core.Path.{subst}
use Rattle.liquid_core.specs.Expression.{Expression, literal, no_steps, step}
use Rattle.liquid_evaluation.specs.ChainView.{chain_filter_view}
use Rattle.liquid_evaluation.specs.Tree.{Chain}
use Rattle.liquid_evaluation.specs.declared.chain.ChainFilter.{ChainFilter}
use Rattle.liquid_model.specs.Data.{text}
use Rattle.liquid_model.specs.Texts.{Text}
use Rattle.liquid_model.specs.Uses.{Use, nothing, everything, parts, Fields, no_fields, field, ItemUse, uncounted, every, up_to, there, present, use_at, use_of_items, asks_items, reaches, further, asks_whether, includes, includes_fields, includes_items, joined_fields, join, join_turns, is_place, of_places, items_wanted, use_of_each, has_every}
use Rattle.liquid_model.specs.UseViews.{use_view}
use Rattle.liquid_model.proofs.UseViews.{everything_includes}
use Rattle.liquid_meaning.specs.FilterNeeds.{compact_needs, items_each, items_or_itself, known_needs, one_field, with_field}
use Rattle.liquid_meaning.specs.Reading.{Uses, grants, grants_along, grants_chain, grants_filters, use_before}
use Rattle.liquid_uses.specs.declared.places.Place.{Place}
use Rattle.liquid_uses.specs.declared.places.Place.TheVariants.{Whole, Asked, Unnamed, Refused}
use Rattle.liquid_uses.specs.declared.place_pairs.Pair.{Pair}
use Rattle.liquid_uses.specs.declared.chain_places.ChainPlace.{ChainPlace}
use Rattle.liquid_uses.specs.declared.chain_places.ChainPlace.TheVariants.{Items, Value}
use Rattle.liquid_uses.specs.inside.Placing.{gives, gives_along, option_use}
use Rattle.liquid_uses.specs.inside.Chains.{are_unplaced_fields, is_plain, takes, sees, NamesProperty, CoversCall}
use Rattle.liquid_uses.proofs.Steps.{true_both}

-- ---- truth

pub true_left : (a b : Bool) → a && b ≡ true → a ≡ true
true_left true b h = refl
true_left false b h = absurd cc

pub true_right : (a b : Bool) → a && b ≡ true → b ≡ true
true_right true b h = h
true_right false b h = absurd cc

or_more : (n a b : Bool) → (a ≡ true → b ≡ true) → n || a ≡ true → n || b ≡ true
or_more true a b k h = refl
or_more false a b k h = k h

or_both : (n a b c : Bool) → (a ≡ true → b ≡ true → c ≡ true) → n || a ≡ true → n || b ≡ true → n || c ≡ true
or_both true a b c k h g = refl
or_both false a b c k h g = k h g

-- ---- what includes the parts of a use includes it

-- the members, and the items
pub fields_then_turns : (u : Use) (ms : Fields) (ts : ItemUse) → includes u (parts ms uncounted) ≡ true → includes u (parts no_fields ts) ≡ true → includes u (parts ms ts) ≡ true
fields_then_turns u ms ts h k =
    true_both (asks_whether u) _ (true_left (asks_whether u) _ h)
    (true_both (includes_fields u ms) _ (true_left (includes_fields u ms) _ (true_right (asks_whether u) _ h)) (true_right (asks_whether u) _ k))

includes_present : (v u : Use) → includes u there ≡ true → includes u v ≡ true → includes u (present v) ≡ true
includes_present nothing u h k = h
includes_present everything u h k = k
includes_present (parts ms ts) u h k = k

includes_with : (key : Text) (w v u : Use) → includes u (one_field key w) ≡ true → includes u v ≡ true → includes u (with_field key w v) ≡ true
includes_with key w nothing u h k = h
includes_with key w everything u h k = k
includes_with key w (parts ms ts) u h k =
    let m = true_left (includes (use_at key u) w) _ (true_left _ _ (true_right (asks_whether u) _ h)) in
    let f = true_left (includes_fields u ms) _ (true_right (asks_whether u) _ k) in
    let t = true_right (includes_fields u ms) _ (true_right (asks_whether u) _ k) in
    true_both (asks_whether u) _ (true_left (asks_whether u) _ h) (true_both _ _ (true_both (includes (use_at key u) w) _ m f) t)

fields_join : (ms ns : Fields) (u : Use) → includes_fields u ms ≡ true → includes_fields u ns ≡ true → includes_fields u (joined_fields ms ns) ≡ true
fields_join no_fields ns u h k = k
fields_join (field key v ms) ns u h k =
    true_both (includes (use_at key u) v) _ (true_left (includes (use_at key u) v) _ h) (fields_join ms ns u (true_right (includes (use_at key u) v) _ h) k)

reaches_further : (r m n : Option ℕ) → reaches r m ≡ true → reaches r n ≡ true → reaches r (further m n) ≡ true
reaches_further None m n h k = refl
reaches_further (Some r) None n h k = h
reaches_further (Some r) (Some m) None h k = k
reaches_further (Some r) (Some m) (Some n) h k =
    let below : m ≤ r = leb-true m r h in
    let beside : n ≤ r = leb-true n r k in
    le-leb (max m n) r (omega arith)

asks_further : (m n : Option ℕ) (u : Use) → asks_items m u ≡ true → asks_items n u ≡ true → asks_items (further m n) u ≡ true
asks_further m n nothing h k = h
asks_further m n everything h k = refl
asks_further m n (parts ms uncounted) h k = h
asks_further m n (parts ms (up_to r v)) h k = reaches_further r m n h k

mutual
  includes_join : (v w u : Use) → includes u v ≡ true → includes u w ≡ true → includes u (join v w) ≡ true
  includes_join nothing w u h k = k
  includes_join everything w u h k = h
  includes_join (parts ms ts) nothing u h k = h
  includes_join (parts ms ts) everything u h k = k
  includes_join (parts ms ts) (parts ns us) u h k =
      let f = true_right (asks_whether u) _ h in
      let g = true_right (asks_whether u) _ k in
      true_both (asks_whether u) _ (true_left (asks_whether u) _ h)
      (true_both (includes_fields u (joined_fields ms ns)) _
      (fields_join ms ns u (true_left (includes_fields u ms) _ f) (true_left (includes_fields u ns) _ g))
      (turns_join ts us u (true_right (includes_fields u ms) _ f) (true_right (includes_fields u ns) _ g)))

  turns_join : (ts us : ItemUse) (u : Use) → includes_items u ts ≡ true → includes_items u us ≡ true → includes_items u (join_turns ts us) ≡ true
  turns_join uncounted us u h k = k
  turns_join (up_to m v) uncounted u h k = h
  turns_join (up_to m v) (up_to n w) u h k =
      true_both (asks_items (further m n) u) _ (asks_further m n u (true_left (asks_items m u) _ h) (true_left (asks_items n u) _ k))
      (includes_join v w (use_of_items u) (true_right (asks_items m u) _ h) (true_right (asks_items n u) _ k))

-- the items of a list, or the members of the map itself
includes_itself : (v u : Use) → is_plain v ≡ true → asks_whether v ≡ true → includes u v ≡ true → includes u (items_each v) ≡ true → includes u (items_or_itself v) ≡ true
includes_itself nothing u plain asks h k = absurd cc
includes_itself everything u plain asks h k = h
includes_itself (parts ms uncounted) u plain asks h k = fields_then_turns u ms (every (parts ms uncounted)) h k
includes_itself (parts ms (up_to n w)) u plain asks h k = absurd cc

includes_default : (w u : Use) → includes u (items_each nothing) ≡ true → includes u w ≡ true → includes u (present (join (items_each nothing) w)) ≡ true
includes_default nothing u h k = h
includes_default everything u h k = k
includes_default (parts ms uncounted) u h k = fields_then_turns u ms (every nothing) k h
includes_default (parts ms (up_to n v)) u h k =
    let f = true_right (asks_whether u) _ k in
    let t = true_right (includes_fields u ms) _ f in
    true_both (asks_whether u) _ (true_left (asks_whether u) _ k)
    (true_both (includes_fields u ms) _ (true_left (includes_fields u ms) _ f)
    (true_both (asks_items None u) _ (true_left (asks_items None u) _ (true_right (asks_whether u) _ h)) (true_right (asks_items n u) _ t)))

-- ---- plain uses

plain_with : (key : Text) (w v : Use) → is_plain (one_field key w) ≡ true → is_plain v ≡ true → is_plain (with_field key w v) ≡ true
plain_with key w nothing h k = h
plain_with key w everything h k = k
plain_with key w (parts ms ts) h k =
    true_both (not (has_every ts)) _ (true_left (not (has_every ts)) _ k) (true_both (not (is_place key)) _ (true_left (not (is_place key)) _ h) (true_right (not (has_every ts)) _ k))

plain_present : (v : Use) → is_plain v ≡ true → is_plain (present v) ≡ true
plain_present nothing h = refl
plain_present everything h = h
plain_present (parts ms ts) h = h

plain_fields_join : (ms ns : Fields) → are_unplaced_fields ms ≡ true → are_unplaced_fields ns ≡ true → are_unplaced_fields (joined_fields ms ns) ≡ true
plain_fields_join no_fields ns h k = k
plain_fields_join (field key v ms) ns h k = true_both (not (is_place key)) _ (true_left (not (is_place key)) _ h) (plain_fields_join ms ns (true_right (not (is_place key)) _ h) k)

plain_turns_join : (ts us : ItemUse) → not (has_every ts) ≡ true → not (has_every us) ≡ true → not (has_every (join_turns ts us)) ≡ true
plain_turns_join uncounted us h k = k
plain_turns_join (up_to n v) us h k = absurd cc

plain_join : (v w : Use) → is_plain v ≡ true → is_plain w ≡ true → is_plain (join v w) ≡ true
plain_join nothing w h k = k
plain_join everything w h k = refl
plain_join (parts ms ts) nothing h k = h
plain_join (parts ms ts) everything h k = refl
plain_join (parts ms ts) (parts ns us) h k =
    true_both (not (has_every (join_turns ts us))) _ (plain_turns_join ts us (true_left (not (has_every ts)) _ h) (true_left (not (has_every us)) _ k))
    (plain_fields_join ms ns (true_right (not (has_every ts)) _ h) (true_right (not (has_every us)) _ k))

no_places : (ms : Fields) → are_unplaced_fields ms ≡ true → of_places ms ≡ nothing
no_places no_fields h = refl
no_places (field key v ms) h = at (is_place key) (no_places ms) h
  where
    at : (b : Bool) → (are_unplaced_fields ms ≡ true → of_places ms ≡ nothing) → not b && are_unplaced_fields ms ≡ true → cond b (join v (of_places ms)) (of_places ms) ≡ nothing
    at true k h = absurd cc
    at false k h = k h

-- ---- what an item is asked

join_none : (u : Use) → join u nothing ≡ u
join_none nothing = refl
join_none everything = refl
join_none (parts ms ts) = refl

-- of each item of a list
pub wanted_each : (u : Use) → items_wanted (items_each u) ≡ u
wanted_each u = join_none u

-- of the one at a place
pub wanted_at : (key : Text) (u : Use) → is_place key ≡ true → items_wanted (one_field key u) ≡ u
wanted_at key u h = ap (λ b. cond b (join u nothing) nothing) h ∙ join_none u

-- of those that are chosen or ordered
wanted_itself : (u : Use) → is_plain u ≡ true → asks_whether u ≡ true → items_wanted (items_or_itself u) ≡ u
wanted_itself nothing plain asks = absurd cc
wanted_itself everything plain asks = refl
wanted_itself (parts ms uncounted) plain asks = ap (join (parts ms uncounted)) (no_places ms plain)
wanted_itself (parts ms (up_to n w)) plain asks = absurd cc

pub wanted_present : (u : Use) → items_wanted (present u) ≡ items_wanted u
wanted_present nothing = refl
wanted_present everything = refl
wanted_present (parts ms ts) = refl

pub wanted_default : (w : Use) → items_wanted (present (join (items_each nothing) w)) ≡ items_wanted w
wanted_default nothing = refl
wanted_default everything = refl
wanted_default (parts ms uncounted) = refl
wanted_default (parts ms (up_to n v)) = refl

pub asks_with : (key : Text) (v : Use) → asks_whether (with_field key everything v) ≡ true
asks_with key nothing = refl
asks_with key everything = refl
asks_with key (parts ms ts) = refl

pub itself_present : (key : Text) (v : Use) → present (items_or_itself (with_field key everything v)) ≡ items_or_itself (with_field key everything v)
itself_present key nothing = refl
itself_present key everything = refl
itself_present key (parts ms ts) = refl

-- ---- places

gives_both : (a b c : Use) → ((u : Use) → includes u a ≡ true → includes u b ≡ true → includes u c ≡ true) → (p : Place) → gives p a ≡ true → gives p b ≡ true → gives p c ≡ true
gives_both a b c k Whole h g = k everything h g
gives_both a b c k (Asked w) h g = k (use_view w.now) h g
gives_both a b c k Unnamed h g = k nothing h g
gives_both a b c k Refused h g = absurd cc

pub gives_present : (u : Use) (p : Place) → gives p there ≡ true → gives p u ≡ true → gives p (present u) ≡ true
gives_present u p = gives_both there u (present u) (includes_present u) p

-- a place of which everything may be asked
pub gives_whole : (p : Place) (u : Use) → gives p everything ≡ true → gives p u ≡ true
gives_whole Whole u h = everything_includes u
gives_whole (Asked w) u h = at (use_view w.now) h
  where
    at : (v : Use) → includes v everything ≡ true → includes v u ≡ true
    at nothing h = absurd cc
    at everything h = everything_includes u
    at (parts ms ts) h = absurd cc
gives_whole Unnamed u h = absurd cc
gives_whole Refused u h = absurd cc

-- the member that a step finds
member_included : (key : Text) (u v : Use) → includes v there ≡ true → includes (use_at key v) u ≡ true → includes v (one_field key u) ≡ true
member_included key u v h k = true_both (asks_whether v) _ (true_left (asks_whether v) _ h) (true_both _ _ (true_both (includes (use_at key v) u) _ k refl) refl)

pub gives_member : (U : Uses) (key : Text) (u : Use) (p : Place) → gives p there ≡ true → gives_along U p (step (literal (text key)) no_steps) u ≡ true → gives p (one_field key u) ≡ true
unfolding grants
gives_member U key u Whole h k = member_included key u everything h k
gives_member U key u (Asked w) h k = member_included key u (use_view w.now) h k
gives_member U key u Unnamed h k = absurd cc
gives_member U key u Refused h k = absurd cc

-- ---- pairs

takes_both : (a b c : Use) → ((u : Use) → includes u a ≡ true → includes u b ≡ true → includes u c ≡ true) → (is_plain a ≡ true → is_plain b ≡ true → is_plain c ≡ true)
    → (r : Pair) → takes r a ≡ true → takes r b ≡ true → takes r c ≡ true
takes_both a b c k plain r h g =
    let h2 = true_right (gives r.first a) _ h in
    let g2 = true_right (gives r.first b) _ g in
    true_both (gives r.first c) _ (gives_both a b c k r.first (true_left (gives r.first a) _ h) (true_left (gives r.first b) _ g))
    (true_both (gives r.second c) _ (gives_both a b c k r.second (true_left (gives r.second a) _ h2) (true_left (gives r.second b) _ g2))
    (or_both (not r.plain) _ _ _ plain (true_right (gives r.second a) _ h2) (true_right (gives r.second b) _ g2)))

pub takes_with : (key : Text) (w u : Use) (r : Pair) → takes r (one_field key w) ≡ true → takes r u ≡ true → takes r (with_field key w u) ≡ true
takes_with key w u r = takes_both (one_field key w) u (with_field key w u) (includes_with key w u) (plain_with key w u) r

pub takes_join : (v w : Use) (r : Pair) → takes r v ≡ true → takes r w ≡ true → takes r (join v w) ≡ true
takes_join v w r = takes_both v w (join v w) (includes_join v w) (plain_join v w) r

pub takes_default : (w : Use) (r : Pair) → takes r (items_each nothing) ≡ true → takes r w ≡ true → takes r (present (join (items_each nothing) w)) ≡ true
takes_default w r = takes_both (items_each nothing) w (present (join (items_each nothing) w)) (includes_default w) (λ h k. absurd cc) r

pub or_true : (n b : Bool) → b ≡ true → n || b ≡ true
or_true true b h = refl
or_true false b h = h

pub not_refl : (b : Bool) → b ≡ false → (c : Bool) → not b || c ≡ true
not_refl true e c = absurd cc
not_refl false e c = refl

pub takes_all : (r : Pair) (u : Use) → gives r.first u ≡ true → gives r.second u ≡ true → not r.plain || is_plain u ≡ true → takes r u ≡ true
takes_all r u f s p = true_both (gives r.first u) _ f (true_both (gives r.second u) _ s p)

pub takes_plain : (r : Pair) (u : Use) → is_plain u ≡ true → gives r.first u ≡ true → gives r.second u ≡ true → takes r u ≡ true
takes_plain r u plain f s = takes_all r u f s (or_true (not r.plain) (is_plain u) plain)

pub takes_free : (r : Pair) (u : Use) → r.plain ≡ false → takes r everything ≡ true → takes r u ≡ true
takes_free r u free h =
    takes_all r u (gives_whole r.first u (true_left (gives r.first everything) _ h)) (gives_whole r.second u (true_left (gives r.second everything) _ (true_right (gives r.first everything) _ h))) (not_refl r.plain free (is_plain u))

module _ (r : Pair) (f s : Place) (u : Use) where
  pub takes_present : (gives f u ≡ true → gives r.first (present u) ≡ true) → (gives s u ≡ true → gives r.second (present u) ≡ true) → gives f u && (gives s u && (not r.plain || is_plain u)) ≡ true → takes r (present u) ≡ true
  takes_present j k h =
      let g = true_right (gives f u) _ h in
      takes_all r (present u) (j (true_left (gives f u) _ h)) (k (true_left (gives s u) _ g)) (or_more (not r.plain) (is_plain u) (is_plain (present u)) (plain_present u) (true_right (gives s u) _ g))

  pub takes_member : (key : Text) → not r.plain || not (is_place key) ≡ true → (gives f u ≡ true → gives r.first (one_field key u) ≡ true) → (gives s u ≡ true → gives r.second (one_field key u) ≡ true)
      → gives f u && (gives s u && true) ≡ true → takes r (one_field key u) ≡ true
  takes_member key allowed j k h =
      let g = true_right (gives f u) _ h in
      takes_all r (one_field key u) (j (true_left (gives f u) _ h)) (k (true_left (gives s u) _ g))
      (or_more (not r.plain) (not (is_place key)) (not (is_place key) && true) (λ e. true_both (not (is_place key)) true e refl) allowed)

  pub takes_items : r.plain ≡ false → (gives f u ≡ true → gives r.first (items_each u) ≡ true) → (gives s u ≡ true → gives r.second (items_each u) ≡ true)
      → gives f u && (gives s u && true) ≡ true → takes r (items_each u) ≡ true
  takes_items free j k h =
      let g = true_right (gives f u) _ h in
      takes_all r (items_each u) (j (true_left (gives f u) _ h)) (k (true_left (gives s u) _ g)) (not_refl r.plain free (is_plain (items_each u)))

  -- of the list's items and of the map itself
  pub takes_itself : r.plain ≡ false → r.second ≡ Whole → asks_whether u ≡ true → (gives s u ≡ true → gives r.first (items_each u) ≡ true)
      → gives r.first u && (gives s u && is_plain u) ≡ true → takes r (items_or_itself u) ≡ true
  takes_itself free whole asks k h =
      let g = true_right (gives r.first u) _ h in
      let plain = true_right (gives s u) _ g in
      takes_all r (items_or_itself u)
      (gives_both u (items_each u) (items_or_itself u) (λ v. includes_itself u v plain asks) r.first (true_left (gives r.first u) _ h) (k (true_left (gives s u) _ g)))
      (subst (λ p. gives p (items_or_itself u) ≡ true) (sym whole) (everything_includes (items_or_itself u))) (not_refl r.plain free (is_plain (items_or_itself u)))

-- of items that are chosen or ordered
pub takes_plainly : (r : Pair) (u : Use) → asks_whether u ≡ true → gives r.first u && (gives r.second u && is_plain u) ≡ true → takes r (items_wanted (items_or_itself u)) ≡ true
takes_plainly r u asks h =
    let g = true_right (gives r.first u) _ h in
    let plain = true_right (gives r.second u) _ g in
    subst (λ v. takes r v ≡ true) (sym (wanted_itself u plain asks)) (takes_plain r u plain (true_left (gives r.first u) _ h) (true_left (gives r.second u) _ g))

-- ---- members that are found by their place, one after another

abbrev pub Placed : Pair → Fields → Type 0
Placed r ms = takes r (of_places ms) ≡ true

pub placed_more : (r : Pair) (key : Text) (u : Use) (ms : Fields) → takes r (cond (is_place key) u nothing) ≡ true → Placed r ms → Placed r (field key u ms)
placed_more r key u ms h k = at (is_place key) h
  where
    at : (b : Bool) → takes r (cond b u nothing) ≡ true → takes r (cond b (join u (of_places ms)) (of_places ms)) ≡ true
    at true h = takes_join u (of_places ms) r h k
    at false h = k

-- ---- chains

pub value_sees : (s : ChainPlace) (r : Pair) (v : Use) → s ≡ Value r → takes r v ≡ true → sees s v ≡ true
value_sees s r v is h = subst (λ t. sees t v ≡ true) (sym is) h

pub items_sees : (s : ChainPlace) (r : Pair) (v : Use) → s ≡ Items r → takes r (items_wanted v) ≡ true → sees s v ≡ true
items_sees s r v is h = subst (λ t. sees t v ≡ true) (sym is) h

pub items_seen : (s : ChainPlace) (r : Pair) (v : Use) → s ≡ Items r → sees s v ≡ true → takes r (items_wanted v) ≡ true
items_seen s r v is h = subst (λ t. sees t v ≡ true) is h

pub value_seen : (s : ChainPlace) (r : Pair) (v : Use) → s ≡ Value r → sees s v ≡ true → takes r v ≡ true
value_seen s r v is h = subst (λ t. sees t v ≡ true) is h

-- of a list it is known that it is there
pub items_present : (s : ChainPlace) (r : Pair) (v : Use) → s ≡ Items r → sees s v ≡ true → sees s (present v) ≡ true
items_present s r v is h = items_sees s r (present v) is (subst (λ u. takes r u ≡ true) (sym (wanted_present v)) (items_seen s r v is h))

pub items_default : (s : ChainPlace) (r : Pair) (w : Use) → s ≡ Items r → sees s w ≡ true → sees s (present (join (items_each nothing) w)) ≡ true
items_default s r w is h = items_sees s r _ is (subst (λ u. takes r u ≡ true) (sym (wanted_default w)) (items_seen s r w is h))

pub value_default : (s : ChainPlace) (r : Pair) (w : Use) → s ≡ Value r → takes r (items_each nothing) ≡ true → sees s w ≡ true → sees s (present (join (items_each nothing) w)) ≡ true
value_default s r w is counted h = value_sees s r _ is (takes_default w r counted (value_seen s r w is h))

pub never : (b : Bool) → b ≡ false → b ≡ true → (c : Bool) → c ≡ true
never true e h c = absurd cc
never false e h c = absurd cc

pub empty_list : {X : Type 0} (xs : List X) → (length xs == 0) ≡ true → xs ≡ []
empty_list xs e =
    let none : length xs ≡ 0 = grind (arith, nat_tests) in
    nil_from_length xs none

pub compact_named : (xs : List Expression) (name : Text) (w : Use) → NamesProperty xs name → compact_needs xs w ≡ items_each (with_field name there (items_wanted w))
compact_named [] name w named = let e = named (λ t. nothing) in absurd cc
compact_named (x ∷ xs) name w named = named (λ t. items_each (with_field t there (items_wanted w)))

-- ---- the filters of a chain, one after another

-- what is asked of the value that goes through the filters from the i-th on is asked of the first
abbrev pub SeenSoFar : ChainPlace → ChainPlace → List ChainFilter → ℕ → Type 0
SeenSoFar place first filters i = (v : Use) → sees place (use_before known_needs (map chain_filter_view (drop i filters)) v) ≡ true → sees first (use_before known_needs (map chain_filter_view filters) v) ≡ true

pub seen_further : (place next first : ChainPlace) (filters : List ChainFilter) (i : ℕ) (f : ChainFilter) → f ≡ get_or filters i f → i < length filters → SeenSoFar place first filters i → CoversCall place (chain_filter_view f) next → SeenSoFar next first filters (i + 1)
seen_further place next first filters i f is lt sofar passes v h =
    let e : drop i filters ≡ f ∷ drop (i + 1) filters = rw add-one (drop-cons filters i f lt ∙ ap (λ y. y ∷ drop (suc i) filters) (sym is)) in
    sofar v (subst (λ fs. sees place (use_before known_needs (map chain_filter_view fs) v) ≡ true) (sym e) (passes (use_before known_needs (map chain_filter_view (drop (i + 1) filters)) v) h))

pub seen_all : (place first : ChainPlace) (filters : List ChainFilter) (i : ℕ) → length filters ≤ i → SeenSoFar place first filters i → (v : Use) → sees place v ≡ true → sees first (use_before known_needs (map chain_filter_view filters) v) ≡ true
seen_all place first filters i le sofar v h = sofar v (subst (λ fs. sees place (use_before known_needs (map chain_filter_view fs) v) ≡ true) (sym (drop_all i filters le)) h)

-- a chain of which this may be asked, and whose arguments are whole
pub chain_granted : (U : Uses) (v : Use) (chain : Chain) → grants U chain.entry (use_before known_needs chain.filters v) ≡ true → grants_filters U chain.filters ≡ true → grants_chain known_needs U v chain ≡ true
unfolding grants_chain
chain_granted U v chain e f = true_both _ _ e f

pub found_use_is : (u : Use) (found : Option (Bor RustUse)) → MatchOption found (u ≡ nothing) (λ r. u ≡ use_view r.now) → u ≡ option_use found
found_use_is u None m = m
found_use_is u (Some r) m = m
