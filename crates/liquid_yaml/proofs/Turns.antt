-- A turn of a loop over the parts of a text.
use Rattle.std.proofs.Common.{◌&&◌, MatchBool, option_map, ◌≡◌, ℕ, suc, ◌<◌, List, [], ◌∷◌, ◌++◌, length, Bool, true, false, cond, Option, Some, None, Result, Ok, Err, Bor, ap, ◌∙◌, sym, refl, subst, arith}
use Rattle.std.specs.Bool.{⊤}
use Rattle.liquid_model.specs.Data.{Datum, Items, Pairs}
use Rattle.liquid_model.specs.Texts.{Text}
use Rattle.liquid_model.specs.View.{view, items_view}
use Rattle.liquid_model.specs.Answer.{Answers, Faulted, IsValueOrMemory}
use Rattle.liquid_model.specs.ErrorKinds.{IsKindOrMemory, is_memory, is_refusal}
use Rattle.liquid_model.specs.declared.error.Error.{Error}
use Rattle.liquid_model.specs.declared.error.ErrorKind.{ErrorKind}
use Rattle.liquid_model.specs.declared.error.ErrorKind.TheVariants.{InvalidInput, Memory}
use Rattle.liquid_model.specs.declared.value.Value.{Value}
use Rattle.liquid_yaml.specs.Bytes.{ends_with_return, first_part, first_part_view, left_view, parts_left}
use Rattle.liquid_yaml.specs.Lines.{ends_front, opens_front}
use Rattle.liquid_yaml.specs.Places.{Gathering, nothing_read, document, taken_line, cut_at_end}
use Rattle.liquid_yaml.specs.Reading.{Front, front_found, front_matter_of, front_of_lines, yaml_members, with_body, ReadDocument, document_before, document_view, joined_lines, or_fault, read_on, rest_of, value_found, yaml_content, yaml_value}
use Rattle.liquid_yaml.specs.declared.reading.Document.{Document}
use Rattle.liquid_yaml.proofs.LineLists.{lines_joined}
use Rattle.liquid_yaml.proofs.Parts.{parts_first, size_left, size_less, size_of, sizes}

abbrev Cut : Type 0
Cut = Bor Text × Option (Bor Text)

-- the parts that are left are the first and those after it
pub parts_cut : (c : ℕ) (left : Option (Bor Text)) (text : Bor Text) (p : Cut) → left ≡ Some text → first_part_view p ≡ first_part c text.now
    → parts_left c (left_view left) ≡ p.0.now ∷ parts_left c (left_view p.1)
parts_cut c left text p e f =
    ap (λ o. parts_left c (left_view o)) e ∙ parts_first c text.now
    ∙ ap (λ (q : Text × Option Text). q.0 ∷ parts_left c q.1) (sym f)

pub less_left : (c : ℕ) (left : Option (Bor Text)) (text : Bor Text) (p : Cut) → left ≡ Some text → first_part_view p ≡ first_part c text.now → size_left p.1 < size_left left
less_left c left text p e f =
    let small = size_less c text.now in
    let same : size_left p.1 ≡ size_of (first_part c text.now).1 = sizes p.1 ∙ ap (λ (q : Text × Option Text). size_of q.1) f in
    let big : size_left left ≡ suc (length text.now) = ap size_left e in
    omega (arith, small, same, big)

-- ---- lines

lines_left : (o : Option Text) → joined_lines (parts_left 10 o) ≡ rest_of o
lines_left None = refl
lines_left (Some s) = lines_joined s

abbrev Here : Bool → Gathering → Bor Text × Option (Bor Text) → Result ReadDocument ErrorKind
Here front g p = Ok (record { value = document g; rest = joined_lines (parts_left 10 (left_view p.1)) })

abbrev After : Bool → Gathering → Bor Text × Option (Bor Text) → Result ReadDocument ErrorKind
After front g p = read_on front (taken_line g p.0.now) (parts_left 10 (left_view p.1))

-- a line that ends them
pub read_end : (front : Bool) (g : Gathering) (left : Option (Bor Text)) (text : Bor Text) (p : Cut) (whole : Result ReadDocument ErrorKind) → left ≡ Some text → first_part_view p ≡ first_part 10 text.now
    → (front && ends_front p.0.now) ≡ true → read_on front (Some g) (parts_left 10 (left_view left)) ≡ whole → whole ≡ Ok (document_before g (left_view p.1))
read_end front g left text p whole e f ends inv =
    sym inv ∙ ap (read_on front (Some g)) (parts_cut 10 left text p e f)
    ∙ ap (λ (b : Bool). cond b (Here front g p) (After front g p)) ends
    ∙ ap (λ s. Ok (record { value = document g; rest = s })) (lines_left (left_view p.1))

on_line : (front : Bool) (g : Gathering) (left : Option (Bor Text)) (text : Bor Text) (p : Cut) (whole : Result ReadDocument ErrorKind) → left ≡ Some text → first_part_view p ≡ first_part 10 text.now
    → (front && ends_front p.0.now) ≡ false → read_on front (Some g) (parts_left 10 (left_view left)) ≡ whole → read_on front (taken_line g p.0.now) (parts_left 10 (left_view p.1)) ≡ whole
on_line front g left text p whole e f ends inv =
    sym (ap (λ (b : Bool). cond b (Here front g p) (After front g p)) ends)
    ∙ sym (ap (read_on front (Some g)) (parts_cut 10 left text p e f))
    ∙ inv

taken_some : (o : Option Gathering) (h : Gathering) → or_fault o ≡ Ok h → o ≡ Some h
taken_some None h e = absurd cc
taken_some (Some g) h e = cc

pub read_turn : (front : Bool) (g h : Gathering) (left : Option (Bor Text)) (text : Bor Text) (p : Cut) (whole : Result ReadDocument ErrorKind) → left ≡ Some text → first_part_view p ≡ first_part 10 text.now
    → (front && ends_front p.0.now) ≡ false → or_fault (taken_line g p.0.now) ≡ Ok h → read_on front (Some g) (parts_left 10 (left_view left)) ≡ whole
    → read_on front (Some h) (parts_left 10 (left_view p.1)) ≡ whole
read_turn front g h left text p whole e f ends taken inv =
    ap (λ o. read_on front o (parts_left 10 (left_view p.1))) (sym (taken_some _ h taken)) ∙ on_line front g left text p whole e f ends inv

taken_none : (o : Option Gathering) (kind : ErrorKind) → or_fault o ≡ Err kind → (o ≡ None) × (◌≡◌ {A = Result Gathering ErrorKind} (Err InvalidInput) (Err kind))
taken_none None kind e = (refl, e)
taken_none (Some g) kind e = absurd cc

kind_of : (k l : ErrorKind) → ◌≡◌ {A = Result Gathering ErrorKind} (Err k) (Err l) → ◌≡◌ {A = Result ReadDocument ErrorKind} (Err k) (Err l)
kind_of k l e = cc

read_none : (front : Bool) (lines : List Text) → read_on front None lines ≡ Err InvalidInput
read_none front [] = refl
read_none front (line ∷ lines) = refl

read_refused : (front : Bool) (g : Gathering) (kind : ErrorKind) (left : Option (Bor Text)) (text : Bor Text) (p : Cut) (whole : Result ReadDocument ErrorKind) → left ≡ Some text
    → first_part_view p ≡ first_part 10 text.now → (front && ends_front p.0.now) ≡ false → or_fault (taken_line g p.0.now) ≡ Err kind
    → read_on front (Some g) (parts_left 10 (left_view left)) ≡ whole → whole ≡ Err kind
read_refused front g kind left text p whole e f ends taken inv =
    let none = taken_none _ kind taken in
    sym (on_line front g left text p whole e f ends inv)
    ∙ ap (λ o. read_on front o (parts_left 10 (left_view p.1))) none.0
    ∙ read_none front (parts_left 10 (left_view p.1))
    ∙ kind_of InvalidInput kind none.1

pub read_out : (front : Bool) (g : Gathering) (left : Option (Bor Text)) (whole : Result ReadDocument ErrorKind) → left ≡ None → read_on front (Some g) (parts_left 10 (left_view left)) ≡ whole
    → cond front (Err InvalidInput) (Ok (document_before (cut_at_end g) None)) ≡ whole
read_out front g left whole e inv = sym (ap (λ o. read_on front (Some g) (parts_left 10 (left_view o))) e) ∙ inv

-- ---- what calls answer

-- the fault of a line ends the reading
pub whole_faulted : (front : Bool) (g : Gathering) (k : ErrorKind) (left : Option (Bor Text)) (text : Bor Text) (p : Cut) (whole : Result ReadDocument ErrorKind) → left ≡ Some text
    → first_part_view p ≡ first_part 10 text.now → (front && ends_front p.0.now) ≡ false → Faulted k (or_fault (taken_line g p.0.now))
    → read_on front (Some g) (parts_left 10 (left_view left)) ≡ whole → Faulted k whole
whole_faulted front g k left text p whole e f ends h inv = at (is_memory k) h
  where
    at : (b : Bool) → MatchBool b ⊤ ((or_fault (taken_line g p.0.now) ≡ Err k) × (is_refusal k ≡ false)) → MatchBool b ⊤ ((whole ≡ Err k) × (is_refusal k ≡ false))
    at true h = tt
    at false h = (read_refused front g k left text p whole e f ends h.0 inv, h.1)

memory_faulted : (k : ErrorKind) (whole : Result ReadDocument ErrorKind) → k ≡ Memory → Faulted k whole
memory_faulted k whole h = subst (λ k. Faulted k whole) (sym h) tt

-- the value and what follows it are the whole
pub ended_answers : (r : Result Document Error) (whole : Result ReadDocument ErrorKind) (f : ReadDocument) → whole ≡ Ok f → IsValueOrMemory document_view r f → Answers document_view r whole
ended_answers (Ok x) whole f e h = e ∙ ap Ok (sym h)
ended_answers (Err x) whole f e h = memory_faulted x.kind whole h

-- what follows from one fault has that fault
pub faulted_on : {A B : Type 0} (k : ErrorKind) (r : Result A ErrorKind) (s : Result B ErrorKind) → (r ≡ Err k → s ≡ Err k) → Faulted k r → Faulted k s
faulted_on k r s carries h = at (is_memory k) h
  where
    at : (b : Bool) → MatchBool b ⊤ ((r ≡ Err k) × (is_refusal k ≡ false)) → MatchBool b ⊤ ((s ≡ Err k) × (is_refusal k ≡ false))
    at true h = tt
    at false h = (carries h.0, h.1)

-- a text that ends with no carriage return is read by its lines
pub read_lines : (s : Text) → ends_with_return s ≡ false → yaml_value s ≡ value_found (read_on false (Some nothing_read) (parts_left 10 (yaml_content s)))
read_lines s e = ap (λ (b : Bool). cond b (Err InvalidInput) (value_found (read_on false (Some nothing_read) (parts_left 10 (yaml_content s))))) e

-- ---- front matter

abbrev FrontRead : Cut → Result ReadDocument ErrorKind
FrontRead p = read_on true (Some nothing_read) (parts_left 10 (left_view p.1))

-- the lines of a text are its first line and those after it
front_first : (source : Text) (p : Cut) → first_part_view p ≡ first_part 10 source → front_of_lines (p.0.now ∷ parts_left 10 (left_view p.1)) ≡ front_matter_of source
front_first source p f = ap front_of_lines (ap (λ (q : Text × Option Text). q.0 ∷ parts_left 10 q.1) f ∙ sym (parts_first 10 source))

pub front_closed : (source : Text) (p : Cut) → first_part_view p ≡ first_part 10 source → opens_front p.0.now ≡ false → front_matter_of source ≡ Ok None
front_closed source p f shut = sym (front_first source p f) ∙ ap (λ (b : Bool). cond b (front_found (FrontRead p)) (Ok None)) shut

pub front_opened : (source : Text) (p : Cut) → first_part_view p ≡ first_part 10 source → opens_front p.0.now ≡ true → front_found (FrontRead p) ≡ front_matter_of source
front_opened source p f shown = sym (ap (λ (b : Bool). cond b (front_found (FrontRead p)) (Ok None)) shown) ∙ front_first source p f

pub front_faulted : (source : Text) (p : Cut) (k : ErrorKind) → first_part_view p ≡ first_part 10 source → opens_front p.0.now ≡ true → Faulted k (FrontRead p) → Faulted k (front_matter_of source)
front_faulted source p k f shown h = faulted_on k (FrontRead p) (front_matter_of source) (λ e. sym (front_opened source p f shown) ∙ ap front_found e) h

pub no_members : (source : Text) (p : Cut) (k : ErrorKind) (d : ReadDocument) → first_part_view p ≡ first_part 10 source → opens_front p.0.now ≡ true → FrontRead p ≡ Ok d → Faulted k (yaml_members d.value)
    → Faulted k (front_matter_of source)
no_members source p k d f shown read h =
    faulted_on k (yaml_members d.value) (front_matter_of source) (λ e. sym (front_opened source p f shown) ∙ ap front_found read ∙ ap (with_body d.rest) e) h

pub front_whole : (source : Text) (p : Cut) (d : ReadDocument) (ps : Pairs) → first_part_view p ≡ first_part 10 source → opens_front p.0.now ≡ true → FrontRead p ≡ Ok d → yaml_members d.value ≡ Ok ps
    → front_matter_of source ≡ Ok (Some (record { members = ps; body = d.rest }))
front_whole source p d ps f shown read members = sym (front_opened source p f shown) ∙ ap front_found read ∙ ap (with_body d.rest) members
