-- The objects of a JSON list, as they come out of a reader.
--     list_left remaining objects      the bytes that are still to come, where these are known
--     list_step_at place text      what is next in a list that goes on so: an object, its end or a
--                                  fault
--     ListSteps remaining found new step      reading the next object gives that
use Rattle.std.specs.Prelude.{◌≡◌, ⊤, ℕ, ◌==◌, cond, Bool, true, false, List, [], ◌∷◌, ◌++◌, codes}
use Rattle.std.specs.Prelude.{Option, Some, None, IfSome}
use Rattle.std.specs.Char.{is_ascii_whitespace}
use Rattle.std.specs.Io.Buffered.{reader_remaining}
use Rattle.std.specs.declared.alloc.Global.{Global}
use Rattle.std.specs.declared.io.buffered.BufReader.{BufReader}
use Rattle.liquid_model.specs.Texts.{Text}
use Rattle.liquid_data.specs.Braces.{after_object}
use Rattle.liquid_data.specs.declared.braces.Braces.TheVariants.{Between}
use Rattle.liquid_data.specs.declared.list_objects.Head.{Head}
use Rattle.liquid_data.specs.declared.list_objects.Head.TheVariants as head
use Rattle.liquid_data.specs.declared.list_objects.ListFault.{ListFault}
use Rattle.liquid_data.specs.declared.list_objects.ListFault.TheVariants.{NoList}
use Rattle.liquid_data.specs.declared.list_objects.ListFault.TheVariants.{NoObject, NoComma}
use Rattle.liquid_data.specs.declared.list_objects.ListFault.TheVariants.{Unclosed, More}
use Rattle.liquid_data.specs.declared.list_objects.ListObjects.{ListObjects}
use Rattle.liquid_data.specs.declared.list_objects.Place.{Place}
use Rattle.liquid_data.specs.declared.list_objects.Place.TheVariants.{Front, Within, Over}

abbrev pub list_left : {R : Type 0} → (R → Option (List ℕ)) → ListObjects R → Option (List ℕ)
list_left remaining objects = reader_remaining remaining objects.reader

-- what the message says of a fault
abbrev pub list_fault_text : ListFault → Text
list_fault_text NoList = codes "the text is no JSON list: it doesn't begin with `[`"
list_fault_text NoObject = codes "this item of the list is no JSON object"
list_fault_text NoComma = codes "neither `,` nor `]` stands before it"
list_fault_text Unclosed = codes "the text ends before the list's `]`"
list_fault_text More = codes "more text stands after the list's `]`"

-- ---- the text

-- the first byte that is no white space, and the text after it
abbrev pub sign_in : List ℕ → Option (ℕ × List ℕ)
sign_in [] = None
sign_in (b ∷ bs) = cond (is_ascii_whitespace b) (sign_in bs) (Some (b, bs))

-- an object, of which the text after its opening brace is given; the end of the list, with the text
-- after it; or a fault
pub data ListHead : Type 0 where
  object : List ℕ → ListHead
  end : List ℕ → ListHead
  faulted : ListFault → ListHead

abbrev pub object_sign : Option (ℕ × List ℕ) → ListHead
object_sign None = faulted Unclosed
object_sign (Some p) = cond (p.0 == 123) (object p.1) (faulted NoObject)

abbrev pub object_after_comma : List ℕ → ListHead
object_after_comma text = object_sign (sign_in text)

abbrev pub first_sign : Option (ℕ × List ℕ) → ListHead
first_sign None = faulted Unclosed
first_sign (Some p) = cond (p.0 == 93) (end p.1) (object_sign (Some p))

-- after the list's `[` an object stands, or the list ends
abbrev pub list_first_item : List ℕ → ListHead
list_first_item text = first_sign (sign_in text)

abbrev pub front_sign : Option (ℕ × List ℕ) → ListHead
front_sign None = faulted NoList
front_sign (Some p) = cond (p.0 == 91) (list_first_item p.1) (faulted NoList)

-- `[` begins a list
abbrev pub front_of_list : List ℕ → ListHead
front_of_list text = front_sign (sign_in text)

abbrev pub next_sign : Option (ℕ × List ℕ) → ListHead
next_sign None = faulted Unclosed
next_sign (Some p) = cond (p.0 == 44) (object_after_comma p.1)
    (cond (p.0 == 93) (end p.1) (faulted NoComma))

-- after an object a comma stands and one more, or the list ends
abbrev pub next_item : List ℕ → ListHead
next_item text = next_sign (sign_in text)

-- an object with the text after its opening brace, and the text after its closing one; the end; or
-- a fault
pub data ListStep : Type 0 where
  one_object : List ℕ → List ℕ → ListStep
  list_end : ListStep
  broken : ListFault → ListStep

-- an object that has no closing brace ends with the text
abbrev pub whole_object : List ℕ → Option (List ℕ) → ListStep
whole_object text None = broken Unclosed
whole_object text (Some rest) = one_object text rest

abbrev pub nothing_more : Option (ℕ × List ℕ) → ListStep
nothing_more None = list_end
nothing_more (Some p) = broken More

abbrev pub step_of : ListHead → ListStep
step_of (object text) = whole_object text (after_object (Between 0) text)
step_of (end text) = nothing_more (sign_in text)
step_of (faulted fault) = broken fault

abbrev pub list_step_at : Place → List ℕ → ListStep
list_step_at Front text = step_of (front_of_list text)
list_step_at Within text = step_of (next_item text)
list_step_at (Over fault) text = list_end

abbrev pub fault_at : Place → Option ListFault
fault_at Front = None
fault_at Within = None
fault_at (Over fault) = fault

abbrev pub is_end : Place → Bool
is_end (Over None) = true
is_end _ = false

-- ---- what the reader does

abbrev pub SignIs : Option ℕ → Option (List ℕ) → Option (ℕ × List ℕ) → Type 0
SignIs None new None = ⊤
SignIs (Some b) new (Some p) = (b ≡ p.0) × (new ≡ Some p.1)
SignIs _ new _ = ⊥

abbrev pub left_of : {R : Type 0} → (R → Option (List ℕ)) → BufReader R Global → Option (List ℕ)
left_of remaining reader = reader_remaining remaining reader

abbrev pub FindsSign : {R : Type 0} → (R → Option (List ℕ)) → BufReader R Global →
    BufReader R Global → Option ℕ → Type 0
FindsSign remaining old new sign = IfSome (left_of remaining old)
    (λ text. SignIs sign (left_of remaining new) (sign_in text))

abbrev pub HeadIs : Head → Option (List ℕ) → ListHead → Type 0
HeadIs head.Object new (object text) = new ≡ Some text
HeadIs head.End new (end text) = new ≡ Some text
HeadIs (head.Faulted fault) new (faulted wanted) = fault ≡ wanted
HeadIs _ new _ = ⊥

abbrev pub FindsHead : {R : Type 0} → (R → Option (List ℕ)) → BufReader R Global →
    BufReader R Global → Head → (List ℕ → ListHead) → Type 0
FindsHead remaining old new found wanted = IfSome (left_of remaining old)
    (λ text. HeadIs found (left_of remaining new) (wanted text))

-- the object is its opening brace and the text up to what is left
abbrev pub ObjectIs : Bool → List ℕ → Option (List ℕ) → List ℕ → Option (List ℕ) → Type 0
ObjectIs true read new text (Some rest) = (new ≡ Some rest)
    × (front : List ℕ) × (read ≡ 123 ∷ front) × (text ≡ front ++ rest)
ObjectIs false read new text None = ⊤
ObjectIs _ read new text _ = ⊥

abbrev pub FindsObject : {R : Type 0} → (R → Option (List ℕ)) → BufReader R Global →
    BufReader R Global → Bool → List ℕ → Type 0
FindsObject remaining old new found read = IfSome (left_of remaining old)
    (λ text. ObjectIs found read (left_of remaining new) text (after_object (Between 0) text))

-- where a step leads to
abbrev pub Reaches : {R : Type 0} → (R → Option (List ℕ)) → Place → ListObjects R → ListStep →
    Type 0
Reaches remaining place new (one_object text rest) = (place ≡ Within)
    × ObjectIs true new.object.items (list_left remaining new) text (Some rest)
Reaches remaining place new (broken fault) = place ≡ Over (Some fault)
Reaches remaining place new list_end = place ≡ Over None

-- where a head leads to
abbrev pub HeadLeads : {R : Type 0} → (R → Option (List ℕ)) → Head → Option (List ℕ) → Place →
    ListObjects R → Type 0
HeadLeads remaining head.Object old place new = IfSome old
    (λ text. Reaches remaining place new (whole_object text (after_object (Between 0) text)))
HeadLeads remaining head.End old place new = IfSome old
    (λ text. Reaches remaining place new (nothing_more (sign_in text)))
HeadLeads remaining (head.Faulted fault) old place new = place ≡ Over (Some fault)

abbrev pub ListSteps : {R : Type 0} → (R → Option (List ℕ)) → Bool → ListObjects R →
    ListStep → Type 0
ListSteps remaining found new (one_object text rest) = (found ≡ true) × (new.place ≡ Within)
    × ObjectIs true new.object.items (list_left remaining new) text (Some rest)
ListSteps remaining found new (broken fault) = (found ≡ true) × (new.place ≡ Over (Some fault))
ListSteps remaining found new list_end = found ≡ false
