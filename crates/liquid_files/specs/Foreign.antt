-- Files that are no text of UTF-8.
--     foreign_of front      what a file is that begins so, where it is no such text
--     foreign_words foreign      what is said of it
use Rattle.std.specs.Prelude.{ℕ, Bool, true, false, cond, nat_eq, List, [], ◌∷◌, codes}
use Rattle.std.specs.Prelude.{Option, Some, None, ◌&&◌, ◌||◌, not, ◌==◌}
use Rattle.std.specs.List.{starts_with}
use Rattle.liquid_model.specs.Texts.{Text}
use Rattle.liquid_files.specs.declared.foreign.Foreign.{Foreign}
use Rattle.liquid_files.specs.declared.foreign.Foreign.TheVariants.{Zip, OldOffice, Pdf, Gzip}
use Rattle.liquid_files.specs.declared.foreign.Foreign.TheVariants.{Utf16}

-- the mark of the byte order, low byte first or last, or a byte 0 beside another one
abbrev pub has_utf16_letter : ℕ → ℕ → Bool
has_utf16_letter a b = (a == 255 && b == 254 || a == 254 && b == 255)
    || (a == 0 && not (b == 0) || not (a == 0) && b == 0)

abbrev pub is_utf16 : List ℕ → Bool
is_utf16 (a ∷ b ∷ rest) = has_utf16_letter a b
is_utf16 front = false

-- by what each kind of file begins with
abbrev pub foreign_of : List ℕ → Option Foreign
foreign_of front =
    cond (starts_with nat_eq front (80 ∷ 75 ∷ 3 ∷ 4 ∷ [])) (Some Zip)
    (cond (starts_with nat_eq front (208 ∷ 207 ∷ 17 ∷ 224 ∷ [])) (Some OldOffice)
    (cond (starts_with nat_eq front (codes "%PDF-")) (Some Pdf)
    (cond (starts_with nat_eq front (31 ∷ 139 ∷ [])) (Some Gzip)
    (cond (is_utf16 front) (Some Utf16) None))))

abbrev pub foreign_words : Foreign → Text
foreign_words Zip =
    codes "it is no text but a ZIP file, as workbooks are: save its table as CSV, in UTF-8"
foreign_words OldOffice =
    codes "it is no text but a file of Office: save its table as CSV, in UTF-8"
foreign_words Pdf = codes "it is no text but a PDF file"
foreign_words Gzip = codes "it is no text but a gzip file: unpack it by `gunzip`"
foreign_words Utf16 = codes "its text is UTF-16: save it as UTF-8"
