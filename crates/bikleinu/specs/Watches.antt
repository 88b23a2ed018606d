-- Which warnings of a merge are looked for and printed.
--     look_cost t n d      how many bytes it is worth to look at templates of t bytes and n nodes
--                          over d bytes of data
--     looks_on q l n      more records are looked at: without -q, with l bytes left, and n warnings
--     kept_marks ms m      the places of the warnings after one more was met
use Rattle.std.specs.Prelude.{ℕ, ◌+◌, ◌*◌, ◌-◌, ◌/◌, ◌==◌, ◌&&◌, not, min, nat_le, nat_lt, Bool}
use Rattle.std.specs.Prelude.{List, [], ◌∷◌, ◌++◌, length, cond, bytes_eq}
use Rattle.std.specs.List.{list_any}
use Rattle.bikleinu.specs.declared.watch.Mark.{Mark}

-- as far as a number of 64 bits goes
abbrev pub within_word : ℕ → ℕ
within_word n = min n 18446744073709551615

abbrev pub look_cost : ℕ → ℕ → ℕ → ℕ
look_cost t n d = within_word (within_word (t + d) + within_word (n * d) / 512)

-- a record is looked at where it can be paid for, and the first that can't is the last one
abbrev pub pays : ℕ → ℕ → Bool
pays left price = nat_le price left

abbrev pub left_after : ℕ → ℕ → ℕ
left_after left price = left - price

abbrev pub looks_on : Bool → ℕ → ℕ → Bool
looks_on is_quiet left marks = not is_quiet && (nat_lt 0 left && nat_lt marks 20)

-- ---- places

abbrev pub is_same_mark : Mark → Mark → Bool
is_same_mark a b = (a.file == b.file) && ((a.line == b.line) && ((a.column == b.column)
    && bytes_eq a.kind.now b.kind.now))

abbrev pub is_printed_mark : List Mark → Mark → Bool
is_printed_mark ms m = list_any (is_same_mark m) ms

-- one that isn't there yet, and of twenty at most
abbrev pub is_new_mark : List Mark → Mark → Bool
is_new_mark ms m = nat_lt (length ms) 20 && not (is_printed_mark ms m)

abbrev pub kept_marks : List Mark → Mark → List Mark
kept_marks ms m = cond (is_new_mark ms m) (ms ++ m ∷ []) ms
