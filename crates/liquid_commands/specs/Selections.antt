-- Which files below a folder are looked at.
--     has_ending es path      the path ends in a dot and one of es, or there are none
--     stands_in qs ps      the parts qs of a pattern are parts of a path that stand together
--     can_stand q      a part of a pattern may be that of a path
--     is_selected es qs path      a file is looked at, by endings and by patterns
use Rattle.std.specs.Prelude.{ℕ, ◌-◌, ◌==◌, ◌&&◌, ◌||◌, not, nat_le, nat_lt, Bool, true, false}
use Rattle.std.specs.Prelude.{List, [], ◌∷◌, map, length, take, drop, slice_index, cond, bytes_eq}
use Rattle.std.specs.Prelude.{codes, Option, Some, None}
use Rattle.std.specs.Borrow.{Bor}
use Rattle.std.specs.List.{after_first, before_first, list_any, position_or_len, slice_split}
use Rattle.liquid_commands.specs.Words.{CommandWord}
use Rattle.liquid_commands.specs.Words as words
use Rattle.liquid_commands.specs.declared.selection.Pattern.{Pattern}

abbrev pub words_seen : List (Bor CommandWord) → List CommandWord
words_seen ws = map (λ w. w.now) ws

-- a dot, and the ending after it
abbrev pub ends_in_dot : CommandWord → CommandWord → Bool
ends_in_dot path ending = nat_lt (length ending) (length path)
    && ((slice_index path (length path - length ending - 1) == 46) && words.has_ending ending path)

abbrev pub has_ending : List (Bor CommandWord) → CommandWord → Bool
has_ending es path = length es == 0 || list_any (λ e. ends_in_dot path e.now) es

-- ---- patterns

-- the text begins_with_parts with one text and ends, after that, with another
abbrev pub is_around : CommandWord → CommandWord → CommandWord → Bool
is_around front end text = nat_le (length front) (length text)
    && (bytes_eq (take (length front) text) front
    && (nat_le (length end) (length text - length front) && words.has_ending end text))

-- whether a `*` stands in it
abbrev pub has_star : CommandWord → Bool
has_star q = nat_lt (position_or_len (λ b. b == 42) q) (length q)

-- the same, with any characters for the first `*`
abbrev pub is_pattern_part : CommandWord → CommandWord → Bool
is_pattern_part q p = cond (has_star q)
    (is_around (before_first (λ b. b == 42) q) (after_first (λ b. b == 42) q) p) (bytes_eq q p)

-- the parts of the pattern are the first ones of the path
abbrev pub begins_with_parts : List CommandWord → List CommandWord → Bool
begins_with_parts [] ps = true
begins_with_parts (q ∷ qs) [] = false
begins_with_parts (q ∷ qs) (p ∷ ps) = is_pattern_part q p && begins_with_parts qs ps

abbrev pub stands_in : List CommandWord → List CommandWord → Bool
stands_in qs [] = false
stands_in qs (p ∷ ps) = begins_with_parts qs (p ∷ ps) || stands_in qs ps

abbrev pub is_excluded : List Pattern → List CommandWord → Bool
is_excluded qs ps = list_any (λ q. stands_in (words_seen q.parts.items) ps) qs

abbrev pub is_selected : List (Bor CommandWord) → List Pattern → CommandWord → Bool
is_selected es qs path =
    has_ending es path && not (is_excluded qs (slice_split (λ b. b == 47) path))

-- one `*` at most, and without one a name
abbrev pub can_stand : CommandWord → Bool
can_stand q = cond (has_star q)
    (not (list_any (λ b. b == 42) (after_first (λ b. b == 42) q)))
    (not (bytes_eq q (codes "") || (bytes_eq q (codes ".") || bytes_eq q (codes ".."))))
