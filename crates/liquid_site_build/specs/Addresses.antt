-- Where a document is written, and the address that it has there.
--     document_file path front      the path of its file below the folder that is written to
--     address_of file      its address
use Rattle.std.specs.Prelude.{ℕ, ◌==◌, ◌||◌, Bool, false, cond, List, [], ◌∷◌, ◌++◌, length}
use Rattle.std.specs.Prelude.{bytes_eq, codes, nat_lt, Option, Some, None}
use Rattle.std.specs.List.{after_first, before_first, position_or_len}
use Rattle.std.specs.Path.{dot, rsplit_once, slash}
use Rattle.liquid_files.specs.FileNames.{suffix_parts, ends_with_slash}
use Rattle.liquid_model.specs.Data.{Datum, text, Pairs}
use Rattle.liquid_model.specs.Find.{value_at}
use Rattle.liquid_model.specs.Texts.{Text}

-- ---- by its path

-- the texts before and after the first of a sign
abbrev pub first_cut : ℕ → Text → Option (Text × Text)
first_cut sign s = cond (nat_lt (position_or_len (λ b. b == sign) s) (length s))
    (Some (before_first (λ b. b == sign) s, after_first (λ b. b == sign) s)) None

abbrev pub rest_unless : Text → Option (Text × Text) → Text
rest_unless s None = s
rest_unless s (Some p) = cond (length p.0 == 0) p.1 s

-- without a slash that it begins with
abbrev pub without_root : Text → Text
without_root s = rest_unless s (first_cut slash s)

-- without a `_` that it begins with, as folders of collections do
abbrev pub without_mark : Text → Text
without_mark s = rest_unless s (first_cut 95 s)

abbrev pub is_markdown : Text → Bool
is_markdown suffix = bytes_eq suffix (codes "md") || bytes_eq suffix (codes "markdown")

abbrev pub written_by : Text → Option (Text × Text) → Text
written_by path None = path
written_by path (Some p) = cond (is_markdown p.1) (p.0 ++ codes ".html") path

-- a text of Markdown gives a file of HTML, and the folder of a collection has no mark
abbrev pub written_path : Text → Text
written_path path = written_by (without_mark path) (suffix_parts (without_mark path))

-- ---- by its permalink

-- a folder is written to the file `index` in it
abbrev pub with_index : Text → Text
with_index address = cond ((length address == 0) || ends_with_slash address)
    (address ++ codes "index") address

abbrev pub has_suffix : Text → Option (Text × Text) → Bool
has_suffix suffix None = false
has_suffix suffix (Some p) = bytes_eq p.1 suffix

abbrev pub with_suffix : Text → Text → Text
with_suffix suffix file = cond (has_suffix suffix (suffix_parts file)) file
    ((file ++ codes ".") ++ suffix)

-- a file has the suffix that the document's path gives it
abbrev pub suffixed_by : Text → Option (Text × Text) → Text
suffixed_by file None = file
suffixed_by file (Some p) = with_suffix (cond (is_markdown p.1) (codes "html") p.1) file

abbrev pub file_by : Text → Option Datum → Text
file_by path (Some (text s)) = suffixed_by (with_index (without_root s)) (suffix_parts path)
file_by path _ = written_path path

-- the member `permalink` says where a document is written, and else its path does
abbrev pub document_file : Text → Pairs → Text
document_file path front = file_by path (value_at (codes "permalink") front)

-- ---- its address

abbrev pub address_by : Text → Option (Text × Text) → Text
address_by file None = cond (bytes_eq file (codes "index.html")) (codes "/") (codes "/" ++ file)
address_by file (Some p) =
    cond (bytes_eq p.1 (codes "index.html")) ((codes "/" ++ p.0) ++ codes "/") (codes "/" ++ file)

-- `index.html` has the address of its folder
abbrev pub address_of : Text → Text
address_of file = address_by file (rsplit_once slash file)
