-- A turn of a loop over the parts of a list or map.
use Rattle.std.proofs.Common.{◌≡◌, ℕ, suc, ◌+◌, ◌-◌, ◌<◌, ◌≤◌, List, [], ◌∷◌, ◌++◌, length, take, drop, Bool, true, false, cond, nat_lt, Option, Some, None, option_map, option_and_then, Bor, ap, ◌∙◌, sym, refl, arith, drop-cons}
use Rattle.std.specs.List.{onto_first}
use Rattle.std.proofs.lemmas.Bool.Decides.{nat_tests}
use Rattle.std.proofs.lemmas.List.{length-drop, take_all, drop_all}
use Rattle.liquid_model.specs.Data.{Datum, Items, Pairs, put}
use Rattle.liquid_model.specs.Texts.{Text}
use Rattle.liquid_model.specs.View.{view, items_view}
use Rattle.liquid_model.specs.declared.value.Value.{Value}
use Rattle.liquid_yaml.specs.Bytes.{first_part_view, left_view, state_len}
use Rattle.liquid_yaml.specs.Flows.{trimmed_around, first_flow_part, first_spot, flow_value, flow_with, flow_len, flow_parts, flow_parts_left, flow_items_of, member_put, members_by, spot_after, stops_flow, with_item}
use Rattle.liquid_yaml.specs.Lines.{SaidMember, member_of}
use Rattle.liquid_yaml.specs.declared.flow_parts.Spot.{Spot}
use Rattle.liquid_yaml.proofs.Items.{before, before_next, before_none, before_refused, none_with}
use Rattle.liquid_yaml.proofs.Parts.{size_left, size_of, sizes}

abbrev after_comma : Text → List Text
after_comma [] = []
after_comma (b ∷ bs) = flow_parts first_spot bs

abbrev Len : Spot → Text → ℕ
Len at s = state_len (stops_flow false) spot_after at s

flow_by : (at : Spot) (b : ℕ) (bs : Text) (e : Bool) → flow_parts (spot_after at b bs) bs ≡ take (Len (spot_after at b bs) bs) bs ∷ after_comma (drop (Len (spot_after at b bs) bs) bs)
    → cond e ([] ∷ flow_parts first_spot bs) (onto_first b (flow_parts (spot_after at b bs) bs))
    ≡ take (cond e 0 (suc (Len (spot_after at b bs) bs))) (b ∷ bs) ∷ after_comma (drop (cond e 0 (suc (Len (spot_after at b bs) bs))) (b ∷ bs))
flow_by at b bs true h = refl
flow_by at b bs false h = ap (onto_first b) h

-- the parts are the first one, and those after its comma
flow_first : (at : Spot) (s : Text) → flow_parts at s ≡ take (Len at s) s ∷ after_comma (drop (Len at s) s)
flow_first at [] = refl
flow_first at (b ∷ bs) = flow_by at b bs (stops_flow false at b bs) (flow_first (spot_after at b bs) bs)

first_by : (s : Text) (e : Bool) → nat_lt (flow_len false s) (length s) ≡ e
    → take (flow_len false s) s ∷ after_comma (drop (flow_len false s) s)
    ≡ (cond {A = Text × Option Text} e (take (flow_len false s) s, Some (drop (flow_len false s + 1) s)) (s, None)).0
    ∷ flow_parts_left (cond {A = Text × Option Text} e (take (flow_len false s) s, Some (drop (flow_len false s + 1) s)) (s, None)).1
first_by s true e =
    let l : flow_len false s < length s = grind (arith, nat_tests) in
    let one : suc (flow_len false s) ≡ flow_len false s + 1 = omega arith in
    ap (λ ds. take (flow_len false s) s ∷ after_comma ds) (drop-cons s (flow_len false s) 0 l)
    ∙ ap (λ n. take (flow_len false s) s ∷ flow_parts first_spot (drop n s)) one
first_by s false e =
    let l : length s ≤ flow_len false s = grind (arith, nat_tests) in
    (λ i. take_all (flow_len false s) s l i ∷ after_comma (drop_all (flow_len false s) s l i))

pub flow_parts_first : (s : Text) → flow_parts first_spot s ≡ (first_flow_part s).0 ∷ flow_parts_left (first_flow_part s).1
flow_parts_first s = flow_first first_spot s ∙ first_by s (nat_lt (flow_len false s) (length s)) refl

flow_size_by : (s : Text) (e : Bool) → nat_lt (flow_len false s) (length s) ≡ e
    → size_of (cond {A = Text × Option Text} e (take (flow_len false s) s, Some (drop (flow_len false s + 1) s)) (s, None)).1 ≤ length s
flow_size_by s true e =
    let near : flow_len false s < length s = grind (arith, nat_tests) in
    let cut = length-drop (flow_len false s + 1) s in
    omega (arith, near, cut)
flow_size_by s false e = omega arith

flow_size : (s : Text) → size_of (first_flow_part s).1 ≤ length s
flow_size s = flow_size_by s (nat_lt (flow_len false s) (length s)) refl

abbrev Cut : Type 0
Cut = Bor Text × Option (Bor Text)

module _ (left : Option (Bor Text)) (text : Bor Text) (p : Cut) (is : left ≡ Some text) (first : first_part_view p ≡ first_flow_part text.now) where
  flow_cut_parts : flow_parts_left (left_view left) ≡ p.0.now ∷ flow_parts_left (left_view p.1)
  flow_cut_parts =
      ap (λ o. flow_parts_left (left_view o)) is ∙ flow_parts_first text.now
      ∙ ap (λ (q : Text × Option Text). q.0 ∷ flow_parts_left q.1) (sym first)

  pub flow_less : size_left p.1 < size_left left
  flow_less =
      let small = flow_size text.now in
      let same : size_left p.1 ≡ size_of (first_flow_part text.now).1 = sizes p.1 ∙ ap (λ (q : Text × Option Text). size_of q.1) first in
      let big : size_left left ≡ suc (length text.now) = ap size_left is in
      omega (arith, small, same, big)

  module _ (value : Text → Option Datum) where
    pub items_turn : (vs new : List Value) (v : Value) (whole : Option Items) → Some (view v) ≡ value (trimmed_around p.0.now) → new ≡ vs ++ v ∷ []
        → before vs (flow_items_of value (flow_parts_left (left_view left))) ≡ whole → before new (flow_items_of value (flow_parts_left (left_view p.1))) ≡ whole
    items_turn vs new v whole entry push inv =
        ap (λ ws. before ws (flow_items_of value (flow_parts_left (left_view p.1)))) push
        ∙ sym (before_next vs v (flow_items_of value (flow_parts_left (left_view p.1))))
        ∙ ap (λ d. before vs (with_item d (flow_items_of value (flow_parts_left (left_view p.1))))) entry
        ∙ ap (λ ps. before vs (flow_items_of value ps)) (sym flow_cut_parts)
        ∙ inv

    pub items_refused : (vs : List Value) (whole : Option Items) → None ≡ value (trimmed_around p.0.now) → before vs (flow_items_of value (flow_parts_left (left_view left))) ≡ whole → None ≡ whole
    items_refused vs whole entry inv =
        sym (before_refused vs)
        ∙ ap (before vs) (sym (none_with (flow_items_of value (flow_parts_left (left_view p.1)))))
        ∙ ap (λ d. before vs (with_item d (flow_items_of value (flow_parts_left (left_view p.1))))) entry
        ∙ ap (λ ps. before vs (flow_items_of value ps)) (sym flow_cut_parts)
        ∙ inv

    pub members_turn : (ps qs : Pairs) (whole : Option Pairs) → member_put value ps (member_of true 0 (trimmed_around p.0.now)) ≡ Some qs
        → members_by value ps (flow_parts_left (left_view left)) ≡ whole → members_by value qs (flow_parts_left (left_view p.1)) ≡ whole
    members_turn ps qs whole put inv =
        ap (λ o. option_and_then (λ rs. members_by value rs (flow_parts_left (left_view p.1))) o) (sym put)
        ∙ ap (members_by value ps) (sym flow_cut_parts)
        ∙ inv

    pub members_refused : (ps : Pairs) (whole : Option Pairs) → member_put value ps (member_of true 0 (trimmed_around p.0.now)) ≡ None
        → members_by value ps (flow_parts_left (left_view left)) ≡ whole → None ≡ whole
    members_refused ps whole put inv =
        ap (λ o. option_and_then (λ rs. members_by value rs (flow_parts_left (left_view p.1))) o) (sym put)
        ∙ ap (members_by value ps) (sym flow_cut_parts)
        ∙ inv

-- a depth of nothing, and one of more
pub flow_none : (d : ℕ) (may_note : Bool) (s : Text) → d ≡ 0 → None ≡ flow_value d may_note s
unfolding flow_value
flow_none d may_note s e = ap (λ n. flow_value n may_note s) (sym e)

pub flow_more : (d : ℕ) (may_note : Bool) (s : Text) → 0 < d → flow_with (flow_value (d - 1) false) may_note s ≡ flow_value d may_note s
unfolding flow_value
flow_more d may_note s h =
    let one : suc (d - 1) ≡ d = omega arith in
    ap (λ n. flow_value n may_note s) one

-- a member that is stored
pub members_stored : (value : Text → Option Datum) (ps qs : Pairs) (s part key : Text) (m : SaidMember) (d : Datum) → s ≡ trimmed_around part → Some m ≡ member_of true 0 s → Some d ≡ value m.value → key ≡ m.key → qs ≡ put key d ps
    → member_put value ps (member_of true 0 (trimmed_around part)) ≡ Some qs
members_stored value ps qs s part key m d b e v k st =
    ap (λ t. member_put value ps (member_of true 0 t)) (sym b)
    ∙ ap (member_put value ps) (sym e)
    ∙ ap (option_map (λ d. put m.key d ps)) (sym v)
    ∙ ap (λ k. Some (put k d ps)) (sym k)
    ∙ ap Some (sym st)

pub none_stored : (value : Text → Option Datum) (ps : Pairs) (s part : Text) (m : SaidMember) → s ≡ trimmed_around part → Some m ≡ member_of true 0 s → None ≡ value m.value
    → member_put value ps (member_of true 0 (trimmed_around part)) ≡ None
none_stored value ps s part m b e v =
    ap (λ t. member_put value ps (member_of true 0 t)) (sym b)
    ∙ ap (member_put value ps) (sym e)
    ∙ ap (option_map (λ d. put m.key d ps)) (sym v)

pub no_member : (value : Text → Option Datum) (ps : Pairs) (s part : Text) → s ≡ trimmed_around part → None ≡ member_of true 0 s → member_put value ps (member_of true 0 (trimmed_around part)) ≡ None
no_member value ps s part b e = ap (λ t. member_put value ps (member_of true 0 t)) (sym b) ∙ ap (member_put value ps) (sym e)

pub items_end : (value : Text → Option Datum) (vs : List Value) (left : Option (Bor Text)) (whole : Option Items) → left ≡ None
    → before vs (flow_items_of value (flow_parts_left (left_view left))) ≡ whole → Some (items_view vs) ≡ whole
items_end value vs left whole e inv = sym (before_none vs) ∙ ap (λ o. before vs (flow_items_of value (flow_parts_left (left_view o)))) (sym e) ∙ inv

pub members_end : (value : Text → Option Datum) (ps : Pairs) (left : Option (Bor Text)) (whole : Option Pairs) → left ≡ None
    → members_by value ps (flow_parts_left (left_view left)) ≡ whole → Some ps ≡ whole
members_end value ps left whole e inv = ap (λ o. members_by value ps (flow_parts_left (left_view o))) (sym e) ∙ inv

-- ---- what calls answer

pub none_by : (o : Option Value) (w : Option Datum) → o ≡ None → option_map view o ≡ w → None ≡ w
none_by o w e h = sym (ap (option_map view) e) ∙ h

pub some_by : (o : Option Value) (v : Value) (w : Option Datum) → o ≡ Some v → option_map view o ≡ w → Some (view v) ≡ w
some_by o v w e h = sym (ap (option_map view) e) ∙ h
