-- Texts over several lines, below `|` or `>`.
--     block_at n s      the header of such a text, below what stands after n spaces
--     block_step block line      what one more line is to it
--     block_text block      its text
use Rattle.std.specs.Prelude.{ℕ, suc, ◌+◌, ◌==◌, ◌&&◌, nat_le, nat_lt, Bool, true, false}
use Rattle.std.specs.Prelude.{List, [], ◌∷◌, ◌++◌, map, length, take, drop, cond, ◌-◌}
use Rattle.std.specs.Prelude.{Option, Some, None}
use Rattle.std.specs.List.{slice_get, suffix_len}
use Rattle.liquid_model.specs.Texts.{Text}
use Rattle.liquid_model.specs.Bytes.{dash, line_feed, space}
use Rattle.liquid_yaml.specs.Bytes.{is_rest, spaces_in}
use Rattle.liquid_yaml.specs.declared.block.Block.{Block}
use Rattle.liquid_yaml.specs.declared.block.Step.{Step}
use Rattle.liquid_yaml.specs.declared.block.Step.TheVariants as step

-- Whether lines are folded, whether the last one ends with a line feed, after how many spaces the
-- key or item stands, after how many the lines do (0 before the first), and the lines.
pub record Lines : Type 0 where
  pub folds : Bool
  pub ends : Bool
  pub below : ℕ
  pub column : ℕ
  pub lines : List Text

-- ---- the header

abbrev pub vertical_bar : ℕ
vertical_bar = 124

abbrev pub header_by : Bool → ℕ → Bool → Text → Option Lines
header_by folds n ends rest = cond (is_rest true rest)
    (Some (record { folds = folds; ends = ends; below = n; column = 0; lines = [] })) None

-- what follows `|` or `>`: a `-` leaves the last line feed out
abbrev pub header_at : Bool → ℕ → Text → Option Lines
header_at folds n [] = header_by folds n true []
header_at folds n (b ∷ bs) = cond (b == dash) (header_by folds n false bs)
    (header_by folds n true (b ∷ bs))

-- ---- a line

-- the text ends before the line; the line isn't read; or it is one of the text's
pub data Stepped : Type 0 where
  ends_before : Lines → Stepped
  refused : Stepped
  goes_on : Lines → Stepped

abbrev pub with_line : Lines → Text → Lines
with_line t line = record {
  folds = t.folds;
  ends = t.ends;
  below = t.below;
  column = t.column;
  lines = t.lines ++ line ∷ [];
}

-- lines stand where the first of them that isn't blank does
abbrev pub column_of : Lines → Text → ℕ
column_of t line = cond (t.column == 0) (spaces_in line) t.column

-- deeper than the key, and no less deep than the first line
abbrev pub is_inside : Lines → Text → Bool
is_inside t line = nat_lt t.below (spaces_in line) && nat_le t.column (spaces_in line)

-- a line that begins with a space isn't folded, and not read
abbrev pub block_text_step : Lines → ℕ → Text → Stepped
block_text_step t n line = cond (t.folds && nat_lt n (spaces_in line)) refused
    (goes_on (with_line (record {
      folds = t.folds;
      ends = t.ends;
      below = t.below;
      column = n;
      lines = t.lines;
    }) (drop n line)))

-- spaces alone are a blank line where no text could stand after them
abbrev pub blank_step : Lines → ℕ → Stepped
blank_step t n = cond (nat_le n t.column) (goes_on (with_line t [])) refused

abbrev pub block_step : Lines → Text → Stepped
block_step t line = cond (spaces_in line == length line) (blank_step t (length line))
    (cond (is_inside t line) (block_text_step t (column_of t line) line) (ends_before t))

-- ---- the text

-- what stands between two lines: a line feed; or, where lines are folded, a space between two that
-- aren't blank, and a line feed after each blank one
abbrev pub between_lines : Bool → Text → Text → Text
between_lines false line next = line_feed ∷ []
between_lines true [] next = line_feed ∷ []
between_lines true (b ∷ bs) [] = []
between_lines true (b ∷ bs) (c ∷ cs) = space ∷ []

abbrev pub gap : Bool → Option Text → Text → Text
gap folds None line = []
gap folds (Some before) line = between_lines folds before line

abbrev pub joined_text : Bool → Option Text → List Text → Text
joined_text folds before [] = []
joined_text folds before (line ∷ rest) =
    gap folds before line ++ line ++ joined_text folds (Some line) rest

abbrev pub without_feeds : Text → Text
without_feeds s = take (length s - suffix_len (λ b. b == line_feed) s) s

abbrev pub with_feed : Bool → Text → Text
with_feed ends [] = []
with_feed false s = s
with_feed true s = s ++ line_feed ∷ []

-- the lines joined, without line feeds at the end, but for one
abbrev pub block_text : Lines → Text
block_text t = with_feed t.ends (without_feeds (joined_text t.folds None t.lines))

abbrev pub is_blank_line : Option Text → Bool
is_blank_line None = true
is_blank_line (Some s) = length s == 0

abbrev pub ends_blank : List Text → Bool
ends_blank lines = is_blank_line (slice_get lines (length lines - 1))

-- at the end of all lines: one without a line feed gets none
abbrev pub cut_off : Lines → Lines
cut_off t = record {
  folds = t.folds;
  ends = t.ends && ends_blank t.lines;
  below = t.below;
  column = t.column;
  lines = t.lines;
}

-- ---- as contracts see it

abbrev pub block_view : Block → Lines
block_view b = record {
  folds = b.folds;
  ends = b.ends;
  below = b.below;
  column = b.column;
  lines = map (λ l. l.now) b.lines.items;
}

-- a step, after which these are the lines
abbrev pub stepped_view : Step → Lines → Stepped
stepped_view step.EndsBefore t = ends_before t
stepped_view step.Refused t = refused
stepped_view step.GoesOn t = goes_on t
