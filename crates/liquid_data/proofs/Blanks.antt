-- The lines of a reader up to the first that isn't blank.
use Rattle.std.specs.Prelude.{◌≡◌, ℕ, suc, Bool, true, false, List, [], Option, Some, None, IfSome}
use Rattle.std.specs.Char.{is_ascii_whitespace}
use Rattle.std.specs.Io.BufRead.{DropsThrough, drop_through, take_through}
use Rattle.std.specs.Io.KnownBytes.{IsAtEnd}
use Rattle.std.specs.List.{list_all}
use Rattle.liquid_data.specs.Lines.{AreBlank, FindsLine, HasBlankLinesAlone, after_lines}
use mathlib.Core.Path.{refl, sym, ap, subst, ◌∙◌}

-- some blank lines were read, and what stands after them is to come
abbrev pub IsPastBlanks : Option (List ℕ) → Option (List ℕ) → Type 0
IsPastBlanks old now = IfSome old (λ text. (n : ℕ) × AreBlank n text × (now ≡ Some (after_lines n text)))

pub none_read : (old : Option (List ℕ)) → IsPastBlanks old old
none_read None = tt
none_read (Some text) = (0, tt, refl)

-- what a line is read from, where it is known what is to come
line_of : (now : Option (List ℕ)) (line text : List ℕ) → now ≡ Some text → IfSome now (λ xs. line ≡ take_through 10 xs) → line ≡ take_through 10 text
line_of now line text is read = subst (λ o. IfSome o (λ xs. line ≡ take_through 10 xs)) is read

rest_of : (now next : Option (List ℕ)) (text : List ℕ) → now ≡ Some text → DropsThrough now next 10 → next ≡ Some (drop_through 10 text)
rest_of now next text is drops = subst (λ o. DropsThrough o next 10) is drops

pub one_more : (old now next : Option (List ℕ)) (line : List ℕ) → IsPastBlanks old now → DropsThrough now next 10 → IfSome now (λ xs. line ≡ take_through 10 xs) → list_all is_ascii_whitespace line ≡ true → IsPastBlanks old next
one_more None now next line past drops read blank = tt
one_more (Some text) now next line past drops read blank = (
  suc past.0,
  (past.1, ap (list_all is_ascii_whitespace) (sym (line_of now line (after_lines past.0 text) past.2 read)) ∙ blank),
  rest_of now next (after_lines past.0 text) past.2 drops,
)

pub found : (old now next : Option (List ℕ)) (left_out : Bool) (line : List ℕ) → IsPastBlanks old now → DropsThrough now next 10 → (left_out ≡ false → IfSome now (λ xs. line ≡ take_through 10 xs)) → FindsLine old next left_out line
found None now next left_out line past drops read = tt
found (Some text) now next left_out line past drops read = (
  past.0,
  past.1,
  rest_of now next (after_lines past.0 text) past.2 drops,
  (λ k. line_of now line (after_lines past.0 text) past.2 (read k)),
)

pub at_end : (old now : Option (List ℕ)) → IsPastBlanks old now → IsAtEnd now → IfSome old HasBlankLinesAlone
at_end None now past end = tt
at_end (Some text) now past end = (past.0, past.1, subst IsAtEnd past.2 end)
