-- What is read stands in the written grammar, and what stands in it is read.
use Rattle.std.proofs.Common.{◌≡◌, List, [], ◌∷◌, ◌++◌, Bool, true, false, cond, Option, Some, None, Result, Ok, Err, ap, ◌∙◌, sym, refl, subst}
use Rattle.liquid_model.specs.Texts.{Text}
use Rattle.liquid_model.specs.declared.error.ErrorKind.{ErrorKind}
use Rattle.liquid_yaml.specs.Grammar.{AreLines, Gather, IsFrontMatter, ReadStands, StandingIsRead, RefusedHasNone}
use Rattle.liquid_yaml.specs.Lines.{opens_front, ends_front}
use Rattle.liquid_yaml.specs.Places.{Gathering, nothing_read, document, taken_line}
use Rattle.liquid_yaml.specs.Reading.{ReadDocument, Front, front_found, front_of_lines, front_matter_of, joined_lines, yaml_members, source_lines, read_on, with_body}
use Rattle.liquid_model.specs.Data.{Datum, Pairs}
use Rattle.liquid_yaml.proofs.LineLists.{joined_again, lines_are, lines_joined}

-- ---- what is read

-- the lines that are read, and those after them
record Cut (g : Gathering) (lines : List Text) (f : ReadDocument) : Type 0 where
  front : List Text
  closing : Text
  after : List Text
  all : Gathering
  joined_text : lines ≡ front ++ closing ∷ after
  ends_front : ends_front closing ≡ true
  gathered : Gather g front all
  value : f.value ≡ document all
  rest : f.rest ≡ joined_lines after

cut_more : (g m : Gathering) (line : Text) (lines : List Text) (f : ReadDocument) → ends_front line ≡ false → taken_line g line ≡ Some m → Cut m lines f → Cut g (line ∷ lines) f
cut_more g m line lines f goes taken c = record {
  front = line ∷ c.front;
  closing = c.closing;
  after = c.after;
  all = c.all;
  joined_text = ap (λ ls. line ∷ ls) c.joined_text;
  ends_front = c.ends_front;
  gathered = (goes, (m, taken, c.gathered));
  value = c.value;
  rest = c.rest;
}

cut_here : (g : Gathering) (line : Text) (lines : List Text) (f : ReadDocument) → ends_front line ≡ true → record { value = document g; rest = joined_lines lines } ≡ f → Cut g (line ∷ lines) f
cut_here g line lines f ends e = record {
  front = [];
  closing = line;
  after = lines;
  all = g;
  joined_text = refl;
  ends_front = ends;
  gathered = refl;
  value = ap (λ (x : ReadDocument). x.value) (sym e);
  rest = ap (λ (x : ReadDocument). x.rest) (sym e);
}

from_ok : {A : Type 0} {x y : A} → ◌≡◌ {A = Result A ErrorKind} (Ok x) (Ok y) → x ≡ y
from_ok h = cc

-- what the lines after this one are read as
abbrev Later : List Text → ReadDocument → Type 0
Later lines f = (m : Gathering) → read_on true (Some m) lines ≡ Ok f → Cut m lines f

none_read : (lines : List Text) (f : ReadDocument) → read_on true None lines ≡ Ok f → ⊥
none_read [] f h = absurd cc
none_read (x ∷ xs) f h = absurd cc

cut_taken : (g : Gathering) (line : Text) (lines : List Text) (f : ReadDocument) → Later lines f → ends_front line ≡ false → (o : Option Gathering) → taken_line g line ≡ o
    → read_on true o lines ≡ Ok f → Cut g (line ∷ lines) f
cut_taken g line lines f later e None t h = absurd (none_read lines f h)
cut_taken g line lines f later e (Some m) t h = cut_more g m line lines f e t (later m h)

cut_by : (g : Gathering) (line : Text) (lines : List Text) (f : ReadDocument) → Later lines f → (b : Bool) → ends_front line ≡ b
    → cond b (Ok (record { value = document g; rest = joined_lines lines })) (read_on true (taken_line g line) lines) ≡ Ok f → Cut g (line ∷ lines) f
cut_by g line lines f later true e h = cut_here g line lines f e (from_ok h)
cut_by g line lines f later false e h = cut_taken g line lines f later e (taken_line g line) refl h

cut_of : (g : Gathering) (lines : List Text) (f : ReadDocument) → read_on true (Some g) lines ≡ Ok f → Cut g lines f
cut_of g [] f h = absurd cc
cut_of g (line ∷ lines) f h = cut_by g line lines f (λ m k. cut_of m lines f k) (ends_front line) refl h

stands_by : (source opening : Text) (lines : List Text) (f : ReadDocument) (ps : Pairs) → source_lines source ≡ opening ∷ lines → opens_front opening ≡ true → yaml_members f.value ≡ Ok ps → Cut nothing_read lines f → IsFrontMatter source ps f.rest
stands_by source opening lines f ps all starts makes c =
    let parts : source_lines source ≡ opening ∷ (c.front ++ c.closing ∷ c.after) = all ∙ ap (λ ls. opening ∷ ls) c.joined_text in
    record {
      opening = opening;
      front = c.front;
      closing = c.closing;
      after = c.after;
      joined_text = sym (lines_joined source) ∙ ap joined_lines parts;
      lines = subst AreLines parts (lines_are source);
      opens_front = starts;
      ends_front = c.ends_front;
      all = c.all;
      gathered = c.gathered;
      makes = ap yaml_members (sym c.value) ∙ makes;
      rest = c.rest;
    }

-- the value that is read, whose members these are
record Members (r : Result ReadDocument ErrorKind) (f : Front) : Type 0 where
  value : ReadDocument
  found : r ≡ Ok value
  members : yaml_members value.value ≡ Ok f.members
  body : value.rest ≡ f.body

from_some : (p q : Front) → ◌≡◌ {A = Result (Option Front) ErrorKind} (Ok (Some p)) (Ok (Some q)) → p ≡ q
from_some p q h = cc

members_by : (x : ReadDocument) (f : Front) (m : Result Pairs ErrorKind) → yaml_members x.value ≡ m → with_body x.rest m ≡ Ok (Some f) → Members (Ok x) f
members_by x f (Ok ps) e h =
    let same = from_some (record { members = ps; body = x.rest }) f h in
    record { value = x; found = refl; members = e ∙ ap (λ (y : Front). Ok y.members) same; body = ap (λ (y : Front). y.body) same }
members_by x f (Err k) e h = absurd cc

found_some : (r : Result ReadDocument ErrorKind) (f : Front) → front_found r ≡ Ok (Some f) → Members r f
found_some (Ok x) f h = members_by x f (yaml_members x.value) refl h
found_some (Err k) f h = absurd cc

stands_of : (source opening : Text) (lines : List Text) (f : Front) → source_lines source ≡ opening ∷ lines → opens_front opening ≡ true → Members (read_on true (Some nothing_read) lines) f → IsFrontMatter source f.members f.body
stands_of source opening lines f e starts m =
    subst (IsFrontMatter source f.members) m.body (stands_by source opening lines m.value f.members e starts m.members (cut_of nothing_read lines m.value m.found))

pub read_stands : ReadStands
read_stands source f h = at (source_lines source) refl h
  where
    open_by : (opening : Text) (lines : List Text) → source_lines source ≡ opening ∷ lines → (b : Bool) → opens_front opening ≡ b
        → cond b (front_found (read_on true (Some nothing_read) lines)) (Ok None) ≡ Ok (Some f) → IsFrontMatter source f.members f.body
    open_by opening lines e true starts k = stands_of source opening lines f e starts (found_some _ f k)
    open_by opening lines e false starts k = absurd cc

    at : (lines : List Text) → source_lines source ≡ lines → front_of_lines lines ≡ Ok (Some f) → IsFrontMatter source f.members f.body
    at [] e k = absurd cc
    at (opening ∷ lines) e k = open_by opening lines e (opens_front opening) refl k

-- ---- what stands is read

read_again : (g all : Gathering) (front : List Text) (closing : Text) (after : List Text) → Gather g front all → ends_front closing ≡ true
    → read_on true (Some g) (front ++ closing ∷ after) ≡ Ok (record { value = document all; rest = joined_lines after })
read_again g all [] closing after h ends = rw (ends, h) refl
read_again g all (line ∷ front) closing after h ends = rw (h.0, h.1.1) (read_again h.1.0 all front closing after h.1.2 ends)

pub standing_is_read : StandingIsRead
standing_is_read source members body h =
    let again = read_again nothing_read h.all h.front h.closing h.after h.gathered h.ends_front in
    ap front_matter_of h.joined_text
    ∙ ap front_of_lines (joined_again h.opening (h.front ++ h.closing ∷ h.after) h.lines)
    ∙ ap (λ (b : Bool). cond b (front_found (read_on true (Some nothing_read) (h.front ++ h.closing ∷ h.after))) (Ok None)) h.opens_front
    ∙ ap front_found again
    ∙ ap (with_body (joined_lines h.after)) h.makes
    ∙ (λ i. Ok (Some (record { members = members; body = sym h.rest i })))

pub refused_has_none : RefusedHasNone
refused_has_none source kind h members body stands = let read = standing_is_read source members body stands in absurd cc
