-- The value that lines make, one line after another.
--     taken_line g line      what is gathered after one more line, where that fits
--     document g      the value, once no line is left
use Rattle.std.specs.Prelude.{ℕ, ◌==◌, ◌||◌, ◌&&◌, not, nat_lt, Bool, true, false, List, [], ◌∷◌}
use Rattle.std.specs.Prelude.{◌++◌, length, cond, Option, Some, None, option_map}
use Rattle.std.specs.Prelude.{option_and_then, string_bytes}
use Rattle.liquid_model.specs.Data.{Datum, nil, text, array, object, Items, no_items, item, Pairs}
use Rattle.liquid_model.specs.Data.{no_pairs, put}
use Rattle.liquid_model.specs.Texts.{Text}
use Rattle.liquid_model.specs.View.{view, items_view, pairs_view}
use Rattle.liquid_model.specs.Bytes.{greater_sign, line_feed, number_sign, space}
use Rattle.liquid_yaml.specs.Blocks.{Lines, Stepped, ends_before, refused, goes_on, block_step}
use Rattle.liquid_yaml.specs.Blocks.{block_text, block_view, cut_off, header_at}
use Rattle.liquid_yaml.specs.Blocks.{vertical_bar, without_feeds}
use Rattle.liquid_yaml.specs.Bytes.{end_trimmed, is_clean, without_return}
use Rattle.liquid_yaml.specs.Flows.{line_value}
use Rattle.liquid_yaml.specs.Lines.{LineMeaning, SaidMember, blank, note, sets, adds, adds_map}
use Rattle.liquid_yaml.specs.Lines.{spells, said}
use Rattle.liquid_yaml.specs.Values.{is_all_plain, is_plain_scalar, plain_text}
use Rattle.liquid_yaml.specs.declared.block.Step.{Step}
use Rattle.liquid_yaml.specs.declared.block.Step.TheVariants as step
use Rattle.liquid_yaml.specs.declared.places.Gathered.{Gathered}
use Rattle.liquid_yaml.specs.declared.place.Here.{Here}
use Rattle.liquid_yaml.specs.declared.place.Here.TheVariants as at
use Rattle.liquid_yaml.specs.declared.place.OpenList.{OpenList}
use Rattle.liquid_yaml.specs.declared.place.OpenMap.{OpenMap}
use Rattle.liquid_yaml.specs.declared.place.Place.{Place}
use Rattle.liquid_yaml.specs.declared.words.PlainWords.{PlainWords}
use Rattle.liquid_yaml.specs.declared.place.Place.TheVariants as of
use Rattle.liquid_yaml.specs.declared.place.Start.{Start}

-- Where a value stands that isn't whole: under a key, in a map after so many spaces with the
-- members before it; or in a list, after the items before it.
pub data Around : Type 0 where
  member : ℕ → Pairs → Text → Around
  element : ℕ → Items → Around

-- A text without quotes that may go on, below what stands after so many spaces. It ends with a line
-- feed for each blank line after its words.
pub record Words : Type 0 where
  pub below : ℕ
  pub words : Text

-- What is read of that value: nothing yet, all of it, words, or lines of a text below `|` or `>`.
pub data ValueSoFar : Type 0 where
  nothing : ValueSoFar
  whole : Datum → ValueSoFar
  plain : Words → ValueSoFar
  block : Lines → ValueSoFar

-- the places around what is read, from the inmost one outwards
pub record Gathering : Type 0 where
  pub around : List Around
  pub here : ValueSoFar

abbrev pub nothing_read : Gathering
nothing_read = record { around = []; here = nothing }

abbrev pub words_value : Words → Datum
words_value p = text (without_feeds p.words)

-- no value is nil
abbrev pub value_so_far : ValueSoFar → Datum
value_so_far nothing = nil
value_so_far (whole d) = d
value_so_far (plain p) = words_value p
value_so_far (block t) = text (block_text t)

-- ---- the ends of maps and lists

abbrev pub with_last : Items → Datum → Items
with_last no_items d = item d no_items
with_last (item e ds) d = item e (with_last ds d)

abbrev pub holding : Around → Datum → Datum
holding (member n ps key) d = object (put key d ps)
holding (element n ds) d = array (with_last ds d)

-- A line that starts there ends what stands deeper; and, where it begins no item, a list as deep.
-- The end of all lines ends all.
abbrev pub is_left : Option Start → Around → Bool
is_left None p = true
is_left (Some start) (member n ps key) = nat_lt start.column n
is_left (Some start) (element n ds) =
    nat_lt start.column n || (start.column == n && not start.is_item)

abbrev pub closed_places : Option Start → List Around → ValueSoFar → Gathering
closed_places start [] here = record { around = []; here = here }
closed_places start (p ∷ ps) here =
    cond (is_left start p) (closed_places start ps (whole (holding p (value_so_far here))))
    (record { around = p ∷ ps; here = here })

abbrev pub closed_before : ℕ → Bool → Gathering → Gathering
closed_before n is_item s =
    closed_places (Some (record { column = n; is_item = is_item })) s.around s.here

abbrev pub document : Gathering → Datum
document s = value_so_far (closed_places None s.around s.here).here

-- where no line is left, the last one has no line feed
abbrev pub read_at_end : ValueSoFar → ValueSoFar
read_at_end (block t) = block (cut_off t)
read_at_end here = here

abbrev pub cut_at_end : Gathering → Gathering
cut_at_end s = record { around = s.around; here = read_at_end s.here }

-- ---- a line

abbrev pub is_unread : ValueSoFar → Bool
is_unread nothing = true
is_unread here = false

abbrev pub is_words : ValueSoFar → Bool
is_words (plain p) = true
is_words here = false

-- a map or a list begins where no value stands yet
abbrev pub opened_place : Around → ValueSoFar → List Around → ValueSoFar → Option Gathering
opened_place p value ps here =
    cond (is_unread here) (Some (record { around = p ∷ ps; here = value })) None

-- the value that is read is that of the last key; another key follows
abbrev pub next_member : Around → Text → ValueSoFar → Gathering → Gathering
next_member (member n ps last) key value s =
    record { around = member n (put last (value_so_far s.here) ps) key ∷ s.around; here = value }
next_member (element n ds) key value s = s

abbrev pub first_member : SaidMember → Around
first_member m = member m.column no_pairs m.key

-- one more member of the map that begins as far to the right, or the first one of a map
abbrev pub set_in : SaidMember → ValueSoFar → List Around → ValueSoFar → Option Gathering
set_in m value [] here = opened_place (first_member m) value [] here
set_in m value (member n ps key ∷ rest) here = cond (n == m.column)
    (Some (next_member (member n ps key) m.key value (record { around = rest; here = here })))
    (opened_place (first_member m) value (member n ps key ∷ rest) here)
set_in m value (element n ds ∷ rest) here =
    opened_place (first_member m) value (element n ds ∷ rest) here

abbrev pub with_member : SaidMember → ValueSoFar → Gathering → Option Gathering
with_member m value s = set_in m value s.around s.here

-- the value that is read is the last item; another item follows
abbrev pub next_element : Around → ValueSoFar → Gathering → Gathering
next_element (member n ps key) value s = s
next_element (element n ds) value s =
    record { around = element n (with_last ds (value_so_far s.here)) ∷ s.around; here = value }

abbrev pub first_element : ℕ → Around
first_element n = element n no_items

-- one more item of the list that begins as far to the right, or the first one of a list
abbrev pub add_to : ℕ → ValueSoFar → List Around → ValueSoFar → Option Gathering
add_to n value [] here = opened_place (first_element n) value [] here
add_to n value (member m ps key ∷ rest) here =
    opened_place (first_element n) value (member m ps key ∷ rest) here
add_to n value (element m ds ∷ rest) here = cond (m == n)
    (Some (next_element (element m ds) value (record { around = rest; here = here })))
    (opened_place (first_element n) value (element m ds ∷ rest) here)

abbrev pub with_element : ℕ → ValueSoFar → Gathering → Option Gathering
with_element n value s = add_to n value s.around s.here

-- a text without quotes and without a comment after it may go on
abbrev pub words_read : ℕ → Text → Text → ValueSoFar
words_read n s t =
    cond (is_all_plain s) (plain (record { below = n; words = t })) (whole (text t))

abbrev pub scalar_read : ℕ → Text → Datum → ValueSoFar
scalar_read n s (text t) = words_read n s t
scalar_read n s d = whole d

-- what follows a key or a `-` that stands after n spaces: nothing, or a comment; the header of a
-- text; or a value
abbrev pub read_at : ℕ → Text → Option ValueSoFar
read_at n [] = Some nothing
read_at n (b ∷ bs) = cond (b == number_sign) (Some nothing)
    (cond (b == vertical_bar) (option_map block (header_at false n bs))
    (cond (b == greater_sign) (option_map block (header_at true n bs))
    (option_map (scalar_read n (b ∷ bs)) (line_value (b ∷ bs)))))

abbrev pub taken_member : SaidMember → Gathering → Option Gathering
taken_member m s = option_and_then
    (λ value. with_member m value (closed_before m.column false s)) (read_at m.column m.value)

abbrev pub taken_item : ℕ → Text → Gathering → Option Gathering
taken_item n s state = option_and_then
    (λ value. with_element n value (closed_before n true state)) (read_at n s)

-- ---- a line that is no member and no item

abbrev pub with_here : Gathering → ValueSoFar → Gathering
with_here s here = record { around = s.around; here = here }

-- a blank line within words is a line feed
abbrev pub with_blank : Words → Words
with_blank p = record { below = p.below; words = p.words ++ line_feed ∷ [] }

-- further words stand after a space, unless blank lines stand between them
abbrev pub word_gap : Text → Text
word_gap s = cond (length (without_feeds s) == length s) (space ∷ []) []

abbrev pub with_words : Words → Text → Words
with_words p line = record {
  below = p.below;
  words = (p.words ++ word_gap p.words) ++ plain_text line;
}

abbrev pub after_blank : ValueSoFar → ValueSoFar
after_blank (plain p) = plain (with_blank p)
after_blank here = here

-- a comment ends words
abbrev pub after_note : ValueSoFar → ValueSoFar
after_note (plain p) = whole (words_value p)
after_note here = here

abbrev pub words_on : Words → Text → ValueSoFar
words_on p line = cond (is_all_plain line) (plain (with_words p line))
    (whole (words_value (with_words p line)))

abbrev pub words_gone_on : Words → ℕ → Text → Option ValueSoFar
words_gone_on p n line =
    cond (nat_lt p.below n && is_plain_scalar true line) (Some (words_on p line)) None

abbrev pub column_of_place : Around → ℕ
column_of_place (member n ps key) = n
column_of_place (element n ds) = n

-- after how many spaces the key or the `-` stands whose value is read
abbrev pub inmost_column : List Around → Option ℕ
inmost_column [] = None
inmost_column (p ∷ ps) = Some (column_of_place p)

-- a value stands below its key or its `-`, and deeper
abbrev pub value_below : Option ℕ → ℕ → Text → Option ValueSoFar
value_below None n line = None
value_below (Some m) n line = cond (nat_lt m n) (read_at m line) None

-- words go on, or a value begins where none stands yet
abbrev pub spelled_on : List Around → ValueSoFar → ℕ → Text → Option ValueSoFar
spelled_on ps (plain p) n line = words_gone_on p n line
spelled_on ps nothing n line = value_below (inmost_column ps) n line
spelled_on ps here n line = None

abbrev pub taken_part : ℕ → Text → Gathering → Option Gathering
taken_part n line s = option_map (with_here s) (spelled_on s.around s.here n line)

abbrev pub taken : Gathering → Option LineMeaning → Option Gathering
taken s None = None
taken s (Some blank) = Some (with_here s (after_blank s.here))
taken s (Some note) = Some (with_here s (after_note s.here))
taken s (Some (sets m)) = taken_member m s
taken s (Some (adds n value)) = taken_item n value s
taken s (Some (adds_map n m)) =
    option_and_then (taken_member m) (with_element n nothing (closed_before n true s))
taken s (Some (spells n line)) = taken_part n line s

-- the line isn't one of a text, and says something after this state; it isn't read; or it is one
pub data Reached : Type 0 where
  outside : Gathering → Reached
  unread : Reached
  inside : Gathering → Reached

-- what a line is where lines of a text may stand
abbrev pub reached_after : List Around → Lines → Stepped → Reached
reached_after ps t (ends_before u) =
    outside (record { around = ps; here = whole (text (block_text u)) })
reached_after ps t refused = unread
reached_after ps t (goes_on u) = inside (record { around = ps; here = block u })

abbrev pub reached_by : List Around → ValueSoFar → Text → Reached
reached_by ps nothing line = outside (record { around = ps; here = nothing })
reached_by ps (whole d) line = outside (record { around = ps; here = whole d })
reached_by ps (plain p) line = outside (record { around = ps; here = plain p })
reached_by ps (block t) line = reached_after ps t (block_step t line)

abbrev pub step_here : Gathering → Text → Reached
step_here s line = reached_by s.around s.here line

abbrev pub taken_after : Text → Reached → Option Gathering
taken_after line (outside s) = taken s (said (end_trimmed line))
taken_after line unread = None
taken_after line (inside s) = Some s

abbrev pub taken_clean : Gathering → Text → Option Gathering
taken_clean s line = cond (is_clean line) (taken_after line (step_here s line)) None

abbrev pub taken_line : Gathering → Text → Option Gathering
taken_line s line = taken_clean s (without_return line)

-- ---- as contracts see it

abbrev pub map_view : OpenMap → Around
map_view m = member m.column (pairs_view m.members.entries) m.key.now

abbrev pub list_view : OpenList → Around
list_view l = element l.column (items_view l.items.items)

abbrev pub around_view : Place → Around
around_view (of.Member m) = map_view m
around_view (of.Item l) = list_view l

-- the places of a list, the last one first, and then those before them
abbrev pub places_view : List Place → List Around → List Around
places_view [] outer = outer
places_view (p ∷ ps) outer = places_view ps (around_view p ∷ outer)

abbrev pub words_view : PlainWords → Words
words_view w = record { below = w.below; words = string_bytes w.words }

abbrev pub so_far_view : Here → ValueSoFar
so_far_view at.Nothing = nothing
so_far_view (at.Whole v) = whole (view v)
so_far_view (at.Words w) = plain (words_view w)
so_far_view (at.Block b) = block (block_view b)

abbrev pub gathering_view : Gathered → Gathering
gathering_view g = record { around = places_view g.around.items []; here = so_far_view g.here }

-- the state, where the line fits
abbrev pub fitting : Bool → Gathering → Option Gathering
fitting true s = Some s
fitting false s = None

-- a step, after which this is the state
abbrev pub reached_view : Step → Gathering → Reached
reached_view step.EndsBefore s = outside s
reached_view step.Refused s = unread
reached_view step.GoesOn s = inside s
