-- The data of a text of YAML, and the front matter of a text.
--     yaml_value source      its value, or a fault
--     front_matter_of source      none, its members and the text after it, or a fault
use Rattle.std.specs.Prelude.{◌==◌, ◌&&◌, Bool, true, false, List, [], ◌∷◌, cond}
use Rattle.std.specs.Prelude.{Option, Some, None, Result, Ok, Err}
use Rattle.std.specs.List.{join_with_byte, slice_split}
use Rattle.liquid_model.specs.Data.{Datum, nil, object, Pairs, no_pairs}
use Rattle.liquid_model.specs.Texts.{Text}
use Rattle.liquid_model.specs.View.{pairs_view, view}
use Rattle.liquid_model.specs.declared.error.ErrorKind.{ErrorKind}
use Rattle.liquid_model.specs.declared.error.ErrorKind.TheVariants.{InvalidInput}
use Rattle.liquid_model.specs.Bytes.{line_feed}
use Rattle.liquid_yaml.specs.Bytes.{ends_with_return, first_part, parts_left}
use Rattle.liquid_yaml.specs.Lines.{opens_front, ends_front}
use Rattle.liquid_yaml.specs.Places.{Gathering, nothing_read, document, taken_line, cut_at_end}
use Rattle.liquid_yaml.specs.declared.reading.FrontMatter.{FrontMatter}
use Rattle.liquid_yaml.specs.declared.reading.Document.{Document}

-- a value, and the text after it
pub record ReadDocument : Type 0 where
  pub value : Datum
  pub rest : Text

abbrev pub source_lines : Text → List Text
source_lines s = slice_split (λ b. b == line_feed) s

abbrev pub joined_lines : List Text → Text
joined_lines lines = join_with_byte line_feed lines

-- what follows the last line that was read, where it had an end
abbrev pub rest_of : Option Text → Text
rest_of None = []
rest_of (Some s) = s

abbrev pub document_before : Gathering → Option Text → ReadDocument
document_before s rest = record { value = document s; rest = rest_of rest }

abbrev pub or_fault : Option Gathering → Result Gathering ErrorKind
or_fault None = Err InvalidInput
or_fault (Some s) = Ok s

-- What lines say, to the last one; or, where they are front matter, up to the line that ends it,
-- which must be there. A line that doesn't fit is a fault.
abbrev pub read_on : Bool → Option Gathering → List Text → Result ReadDocument ErrorKind
read_on is_front None lines = Err InvalidInput
read_on is_front (Some s) [] =
    cond is_front (Err InvalidInput) (Ok (record { value = document (cut_at_end s); rest = [] }))
read_on is_front (Some s) (line ∷ lines) = cond (is_front && ends_front line)
    (Ok (record { value = document s; rest = joined_lines lines }))
    (read_on is_front (taken_line s line) lines)

-- ---- data

-- a first line `---` says nothing
abbrev pub yaml_content : Text → Option Text
yaml_content s = cond (opens_front (first_part line_feed s).0) (first_part line_feed s).1 (Some s)

abbrev pub value_found : Result ReadDocument ErrorKind → Result Datum ErrorKind
value_found (Ok f) = Ok f.value
value_found (Err kind) = Err kind

-- a carriage return that no line feed follows ends a line of YAML too, and isn't read
abbrev pub yaml_value : Text → Result Datum ErrorKind
yaml_value source = cond (ends_with_return source) (Err InvalidInput)
    (value_found (read_on false (Some nothing_read) (parts_left line_feed (yaml_content source))))

-- a map, or nothing
abbrev pub yaml_members : Datum → Result Pairs ErrorKind
yaml_members nil = Ok no_pairs
yaml_members (object ps) = Ok ps
yaml_members d = Err InvalidInput

abbrev pub members_found : Result Datum ErrorKind → Result Pairs ErrorKind
members_found (Ok d) = yaml_members d
members_found (Err kind) = Err kind

abbrev pub yaml_data : Text → Result Pairs ErrorKind
yaml_data source = members_found (yaml_value source)

-- ---- front matter

-- members, and the text after them
pub record Front : Type 0 where
  pub members : Pairs
  pub body : Text

abbrev pub with_body : Text → Result Pairs ErrorKind → Result (Option Front) ErrorKind
with_body rest (Ok ps) = Ok (Some (record { members = ps; body = rest }))
with_body rest (Err kind) = Err kind

abbrev pub front_found : Result ReadDocument ErrorKind → Result (Option Front) ErrorKind
front_found (Ok f) = with_body f.rest (yaml_members f.value)
front_found (Err kind) = Err kind

abbrev pub front_of_lines : List Text → Result (Option Front) ErrorKind
front_of_lines [] = Ok None
front_of_lines (first ∷ lines) = cond (opens_front first)
    (front_found (read_on true (Some nothing_read) lines)) (Ok None)

abbrev pub front_matter_of : Text → Result (Option Front) ErrorKind
front_matter_of source = front_of_lines (source_lines source)

-- ---- as contracts see it

abbrev pub document_view : Document → ReadDocument
document_view d = record { value = view d.value; rest = d.rest.now }

abbrev pub front_view : FrontMatter → Front
front_view f = record { members = pairs_view f.members.entries; body = f.body.now }

abbrev pub front_found_view : Option FrontMatter → Option Front
front_found_view None = None
front_found_view (Some f) = Some (front_view f)
