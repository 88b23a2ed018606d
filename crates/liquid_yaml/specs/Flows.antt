-- Lists in brackets and maps in braces, on one line, and the values of a line.
--     flow_value d may_note s      a list in brackets, a map in braces or a scalar; lists and maps
--                                  stand at most d deep in others
--     line_value s      such a value, and perhaps a comment
use Rattle.std.specs.Prelude.{ℕ, zero, suc, ◌+◌, ◌-◌, ◌==◌, ◌||◌, ◌&&◌, not, min, Bool, true}
use Rattle.std.specs.Prelude.{false, List, [], ◌∷◌, length, take, drop, cond, nat_lt}
use Rattle.std.specs.Prelude.{Option, Some, None, option_map, option_and_then}
use Rattle.std.specs.List.{list_all, onto_first}
use Rattle.std.specs.Borrow.{Bor}
use Rattle.liquid_model.specs.Data.{Datum, array, object, Items, no_items, item, Pairs, no_pairs}
use Rattle.liquid_model.specs.Data.{put}
use Rattle.liquid_model.specs.Texts.{Text}
use Rattle.liquid_model.specs.Bytes.{close_brace, close_bracket, colon, comma, double_quote}
use Rattle.liquid_model.specs.Bytes.{open_brace, open_bracket, single_quote, space}
use Rattle.liquid_yaml.specs.Bytes.{end_trimmed, is_rest, state_len, without_spaces}
use Rattle.liquid_yaml.specs.Lines.{SaidMember, member_of}
use Rattle.liquid_yaml.specs.Quotings.{begins_escape}
use Rattle.liquid_yaml.specs.Values.{plain_at, quoted_scalar, scalar_at}
use Rattle.liquid_yaml.specs.declared.flow_parts.Spot.{Spot}
use Rattle.liquid_yaml.specs.declared.flow_parts.FlowPlace.{FlowPlace}
use Rattle.liquid_yaml.specs.declared.flow_parts.FlowPlace.TheVariants.{Start, Inside, Quoted}
use Rattle.liquid_yaml.specs.declared.flow_parts.FlowPlace.TheVariants.{Escaped}

-- ---- where a byte stands

abbrev pub first_spot : Spot
first_spot = record { depth = 0; place = Start }

abbrev pub is_quote_sign : ℕ → Bool
is_quote_sign b = b == double_quote || b == single_quote

abbrev pub opens_flow : ℕ → Bool
opens_flow b = b == open_bracket || b == open_brace

abbrev pub closes_flow : ℕ → Bool
closes_flow b = b == close_bracket || b == close_brace

-- how many lists and maps are open after a byte outside of quotes
abbrev pub depth_after : ℕ → ℕ → ℕ
depth_after n b = cond (opens_flow b) (min (n + 1) 18446744073709551615)
    (cond (closes_flow b) (n - 1) n)

-- a value may start after such a sign
abbrev pub starts_after : ℕ → Bool
starts_after b = opens_flow b || (b == comma || b == colon)

abbrev pub outer_place : ℕ → FlowPlace
outer_place b = cond (starts_after b) Start Inside

abbrev pub place_from_start : ℕ → FlowPlace
place_from_start b = cond (is_quote_sign b) (Quoted b) (cond (b == space) Start (outer_place b))

abbrev pub outside_spot : ℕ → ℕ → FlowPlace → Spot
outside_spot n b place = record { depth = depth_after n b; place = place }

abbrev pub in_quotes_after : ℕ → ℕ → Text → FlowPlace
in_quotes_after q b bs =
    cond (begins_escape q b bs) (Escaped q) (cond (b == q) Inside (Quoted q))

-- after the byte b, which stands before bs
abbrev pub spot_by : ℕ → FlowPlace → ℕ → Text → Spot
spot_by n Start b bs = outside_spot n b (place_from_start b)
spot_by n Inside b bs = outside_spot n b (outer_place b)
spot_by n (Quoted q) b bs = record { depth = n; place = in_quotes_after q b bs }
spot_by n (Escaped q) b bs = record { depth = n; place = Quoted q }

abbrev pub spot_after : Spot → ℕ → Text → Spot
spot_after at b bs = spot_by at.depth at.place b bs

abbrev pub is_outside_quotes : FlowPlace → Bool
is_outside_quotes Start = true
is_outside_quotes Inside = true
is_outside_quotes _ = false

-- the sign that ends the whole, or else the comma after a part of it
abbrev pub end_sign : Bool → ℕ → Bool
end_sign is_whole b = cond is_whole (closes_flow b) (b == comma)

abbrev pub stops_flow : Bool → Spot → ℕ → Text → Bool
stops_flow is_whole at b bs =
    at.depth == 0 && (is_outside_quotes at.place && end_sign is_whole b)

abbrev pub flow_len : Bool → Text → ℕ
flow_len is_whole s = state_len (stops_flow is_whole) spot_after first_spot s

-- ---- parts

-- the parts between the commas of a list or map
abbrev pub flow_parts : Spot → Text → List Text
flow_parts at [] = [] ∷ []
flow_parts at (b ∷ bs) = cond (stops_flow false at b bs) ([] ∷ flow_parts first_spot bs)
    (onto_first b (flow_parts (spot_after at b bs) bs))

-- what stands before the closing sign, which ends the text, but for a comment
abbrev pub closed_by : Bool → ℕ → Text → Text → Option Text
closed_by may_note sign inside [] = None
closed_by may_note sign inside (b ∷ bs) =
    cond (b == sign && is_rest may_note bs) (Some inside) None

abbrev pub closed_flow : Bool → ℕ → Text → Option Text
closed_flow may_note sign bs = closed_by may_note sign (take (flow_len true bs) bs)
    (drop (flow_len true bs) bs)

-- ---- scalars

-- a byte of a plain text in a list or map
abbrev pub is_flow_plain : ℕ → Bool
is_flow_plain b = not (opens_flow b) && (not (closes_flow b) && not (b == comma))

abbrev pub flow_scalar : ℕ → List ℕ → Option Datum
flow_scalar b bs = cond (is_quote_sign b) (quoted_scalar false b bs)
    (cond (list_all is_flow_plain (b ∷ bs)) (plain_at false (b ∷ bs)) None)

abbrev pub flow_scalar_at : Text → Option Datum
flow_scalar_at [] = None
flow_scalar_at (b ∷ bs) = flow_scalar b bs

abbrev pub trimmed_around : Text → Text
trimmed_around s = end_trimmed (without_spaces s)

-- ---- values

abbrev pub with_item : Option Datum → Option Items → Option Items
with_item (Some d) (Some ds) = Some (item d ds)
with_item _ _ = None

abbrev pub flow_items_of : (Text → Option Datum) → List Text → Option Items
flow_items_of value [] = Some no_items
flow_items_of value (s ∷ rest) = with_item (value (trimmed_around s)) (flow_items_of value rest)

abbrev pub member_put : (Text → Option Datum) → Pairs → Option SaidMember → Option Pairs
member_put value ps None = None
member_put value ps (Some m) = option_map (λ d. put m.key d ps) (value m.value)

abbrev pub members_by : (Text → Option Datum) → Pairs → List Text → Option Pairs
members_by value ps [] = Some ps
members_by value ps (s ∷ rest) = option_and_then (λ qs. members_by value qs rest)
    (member_put value ps (member_of true 0 (trimmed_around s)))

-- spaces alone have no parts
abbrev pub text_with_parts : Text → Option Text
text_with_parts s = cond (length (without_spaces s) == 0) None (Some s)

abbrev pub flow_parts_left : Option Text → List Text
flow_parts_left None = []
flow_parts_left (Some s) = flow_parts first_spot s

-- nothing, or values with commas between them
abbrev pub flow_items : (Text → Option Datum) → Text → Option Items
flow_items value s = flow_items_of value (flow_parts_left (text_with_parts s))

abbrev pub flow_members : (Text → Option Datum) → Text → Option Pairs
flow_members value s = members_by value no_pairs (flow_parts_left (text_with_parts s))

-- a list, a map or a scalar, whose parts are such values
abbrev pub flow_with : (Text → Option Datum) → Bool → Text → Option Datum
flow_with value may_note [] = None
flow_with value may_note (b ∷ bs) = cond (b == open_bracket)
    (option_and_then (λ s. option_map array (flow_items value s))
    (closed_flow may_note close_bracket bs))
    (cond (b == open_brace)
    (option_and_then (λ s. option_map object (flow_members value s))
    (closed_flow may_note close_brace bs))
    (flow_scalar b bs))

unfoldable pub flow_value : ℕ → Bool → Text → Option Datum
flow_value zero may_note s = None
flow_value (suc d) may_note s = flow_with (flow_value d false) may_note s

-- how deep lists and maps stand in others
abbrev pub deepest_flow : ℕ
deepest_flow = 32

abbrev pub line_value : Text → Option Datum
line_value [] = None
line_value (b ∷ bs) = cond (opens_flow b) (flow_value deepest_flow true (b ∷ bs))
    (scalar_at true (b ∷ bs))

-- ---- as contracts see it

-- the first part of a text, and what follows its comma
abbrev pub first_flow_part : Text → Text × Option Text
first_flow_part s = cond (nat_lt (flow_len false s) (length s))
    (take (flow_len false s) s, Some (drop (flow_len false s + 1) s))
    (s, None)
