-- The written grammar of a text with front matter, and that what is read stands in it.
--     IsFrontMatter source members body      a line `---`, lines that say something, one after
--       another, a line that ends them, and the text after it
--     ReadStands, StandingIsRead, RefusedHasNone      the laws of the reader
use Rattle.std.specs.Prelude.{◌≡◌, ⊤, ◌==◌, not, true, false, List, [], ◌∷◌, ◌++◌, Some, Ok, Err}
use Rattle.std.specs.List.{list_all}
use Rattle.liquid_model.specs.Data.{Pairs}
use Rattle.liquid_model.specs.Texts.{Text}
use Rattle.liquid_model.specs.declared.error.ErrorKind.{ErrorKind}
use Rattle.liquid_model.specs.Bytes.{line_feed}
use Rattle.liquid_yaml.specs.Lines.{opens_front, ends_front}
use Rattle.liquid_yaml.specs.Places.{Gathering, nothing_read, document, taken_line}
use Rattle.liquid_yaml.specs.Reading.{Front, front_matter_of, joined_lines, yaml_members}

-- no line feed stands in it
abbrev pub IsOneLine : Text → Type 0
IsOneLine s = list_all (λ b. not (b == line_feed)) s ≡ true

abbrev pub AreLines : List Text → Type 0
AreLines [] = ⊤
AreLines (line ∷ lines) = IsOneLine line × AreLines lines

-- no line of front matter ends it; each says something that fits what the lines before it say
abbrev pub Gather : Gathering → List Text → Gathering → Type 0
Gather g [] h = h ≡ g
Gather g (line ∷ lines) h = (ends_front line ≡ false) ×
    ((m : Gathering) × (taken_line g line ≡ Some m) × Gather m lines h)

pub record IsFrontMatter (source : Text) (members : Pairs) (body : Text) : Type 0 where
  pub opening : Text
  pub front : List Text
  pub closing : Text
  pub after : List Text
  pub joined_text : source ≡ joined_lines (opening ∷ (front ++ closing ∷ after))
  pub lines : AreLines (opening ∷ (front ++ closing ∷ after))
  pub opens_front : opens_front opening ≡ true
  pub ends_front : ends_front closing ≡ true
  pub all : Gathering
  pub gathered : Gather nothing_read front all
  pub makes : yaml_members (document all) ≡ Ok members
  pub rest : body ≡ joined_lines after

-- ---- the laws of the reader

abbrev pub ReadStands : Type 0
ReadStands = (source : Text) (f : Front) → front_matter_of source ≡ Ok (Some f) →
    IsFrontMatter source f.members f.body

abbrev pub StandingIsRead : Type 0
StandingIsRead = (source : Text) (members : Pairs) (body : Text) →
    IsFrontMatter source members body →
    front_matter_of source ≡ Ok (Some (record { members = members; body = body }))

-- so a text has one front matter at most, and one that is refused has none
abbrev pub RefusedHasNone : Type 0
RefusedHasNone = (source : Text) (kind : ErrorKind) → front_matter_of source ≡ Err kind →
    (members : Pairs) (body : Text) → IsFrontMatter source members body → ⊥
