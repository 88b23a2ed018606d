-- The lines of a text, as they come out of a reader.
--     lines_left remaining lines      the bytes that are still to come, where these are known
--     FindsLine old new is_left_out line      what reading the next line that isn't blank gives
--     HasBlankLinesAlone text      no other line is in the text
use Rattle.std.specs.Char.{is_ascii_whitespace}
use Rattle.std.specs.Io.Buffered.{reader_remaining}
use Rattle.std.specs.Io.BufRead.{drop_through, take_through}
use Rattle.std.specs.List.{list_all}
use Rattle.std.specs.Prelude.{◌≡◌, ⊤, Bool, false, true, ℕ, zero, suc, List, []}
use Rattle.std.specs.Prelude.{Option, Some, IfSome}
use Rattle.liquid_data.specs.declared.lines.Lines.{Lines}

abbrev pub lines_left : {R : Type 0} → (R → Option (List ℕ)) → Lines R → Option (List ℕ)
lines_left remaining lines = reader_remaining remaining lines.reader

-- the text after its first n lines, each with its end
abbrev pub after_lines : ℕ → List ℕ → List ℕ
after_lines zero text = text
after_lines (suc n) text = drop_through 10 (after_lines n text)

-- its first n lines have nothing but white space
abbrev pub AreBlank : ℕ → List ℕ → Type 0
AreBlank zero text = ⊤
AreBlank (suc n) text = AreBlank n text
    × (list_all is_ascii_whitespace (take_through 10 (after_lines n text)) ≡ true)

-- the line after some blank ones, unless it was left out; and what stands after it is to come
abbrev pub FindsLine : Option (List ℕ) → Option (List ℕ) → Bool → List ℕ → Type 0
FindsLine old new is_left_out line = IfSome old (λ text. (n : ℕ) × AreBlank n text
    × (new ≡ Some (after_lines (suc n) text))
    × (is_left_out ≡ false → line ≡ take_through 10 (after_lines n text)))

-- after some blank lines the text ends
abbrev pub HasBlankLinesAlone : List ℕ → Type 0
HasBlankLinesAlone text = (n : ℕ) × AreBlank n text × (after_lines n text ≡ [])
