-- What each filter's answer is, said without the filter: the relation that holds of it and of
-- nothing else.
use Rattle.std.specs.Prelude.{◌≡◌, ◌↔◌, ◌==◌, ◌⊎◌, MatchBool, ℤ, pos, List, [], ◌∷◌, ◌++◌, length}
use Rattle.std.specs.Prelude.{map, codes, Some, None, Result, Ok, Err}
use Rattle.liquid_model.specs.Answer.{IsTheOne}
use Rattle.liquid_model.specs.Data.{Datum, text, text_of}
use Rattle.liquid_model.specs.Texts.{Text}
use Rattle.liquid_model.specs.Whole.{whole}
use Rattle.liquid_model.specs.declared.error.ErrorKind.{ErrorKind}
use Rattle.liquid_model.specs.declared.error.ErrorKind.TheVariants.{InvalidInput, InvalidArgument}
use Rattle.liquid_model.specs.Arguments.{Answer, first_of, text_or}
use Rattle.liquid_model.specs.Text.{Texts}
use Rattle.liquid_filters.specs.ListLaws.{Lists, OfList, OfMaps}
use Rattle.liquid_filters.specs.ListPlaces.{IsFollowed}
use Rattle.liquid_filters.specs.Sequences.{sequence}
use Rattle.liquid_filters.specs.Sorts.{IsSort}
use Rattle.liquid_filters.specs.JekyllEnds.{pop_answer, push_answer, shift_answer}
use Rattle.liquid_filters.specs.JekyllEnds.{unshift_answer}
use Rattle.liquid_filters.specs.Runs.{IsSlug, IsSlugOf}
use Rattle.liquid_filters.specs.Sentence.{array_to_sentence_string_answer}
use Rattle.liquid_filters.specs.Slugs.{mode_named, slugify_answer}
use Rattle.liquid_filters.specs.JekyllSorting.{found_key, nils_given, jekyll_sort_answer}
use Rattle.liquid_filters.specs.Path.{path}
use Rattle.liquid_filters.specs.Pluralize.{pluralize_answer}
use Rattle.liquid_filters.specs.WrittenPaths.{IsPath}
use Rattle.liquid_filters.specs.declared.jekyll.array.sort.Nils.TheVariants.{First}
use Rattle.liquid_filters.specs.declared.jekyll.slugify.Mode.{Mode}
use Rattle.liquid_filters.specs.declared.jekyll.slugify.Mode.TheVariants.{Default}

-- where something was read R holds of it and the answer, else the fault is the answer
abbrev pub AfterReading : {X : Type 0} → Result X ErrorKind → (X → Answer → Type 0) → Answer →
    Type 0
AfterReading (Ok x) R a = R x a
AfterReading (Err kind) R a = a ≡ Err kind

-- ---- numbers

-- the singular where the input's whole number is 1, the plural where it is another
abbrev pub Pluralizes : Datum → Datum → Datum → Answer → Type 0
Pluralizes d singular plural a =
    ((whole d ≡ Some (pos 1)) × (a ≡ Ok singular))
    ⊎ (((z : ℤ) × (whole d ≡ Some z) × (z ≡ pos 1 → ⊥) × (a ≡ Ok plural))
    ⊎ ((whole d ≡ None) × (a ≡ Err InvalidInput)))

abbrev pub PluralizeIsOne : Type 0
PluralizeIsOne =
    (d singular plural : Datum) (args : List Datum)
    → IsTheOne (Pluralizes d singular plural) (pluralize_answer d (singular ∷ plural ∷ args))

-- ---- ends
abbrev pub Pushes : Datum → Datum → Answer → Type 0
Pushes x = OfList (λ ds. Lists (IsFollowed ds (x ∷ [])))

abbrev pub PushIsOne : Type 0
PushIsOne = (d x : Datum) (args : List Datum) → IsTheOne (Pushes x d) (push_answer d (x ∷ args))

abbrev pub Unshifts : Datum → Datum → Answer → Type 0
Unshifts x = OfList (λ ds. Lists (IsFollowed (x ∷ []) ds))

abbrev pub UnshiftIsOne : Type 0
UnshiftIsOne = (d x : Datum) (args : List Datum) →
    IsTheOne (Unshifts x d) (unshift_answer d (x ∷ args))

-- out has all items but the last, or there is none
abbrev pub LosesLast : List Datum → List Datum → Type 0
LosesLast ds out = ((x : Datum) × (ds ≡ out ++ x ∷ [])) ⊎ ((ds ≡ []) × (out ≡ []))

-- all but the first
abbrev pub LosesFirst : List Datum → List Datum → Type 0
LosesFirst ds out = ((x : Datum) × (ds ≡ x ∷ out)) ⊎ ((ds ≡ []) × (out ≡ []))

abbrev pub PopIsOne : Type 0
PopIsOne = (d : Datum) (args : List Datum) → IsTheOne (OfList (λ ds. Lists (LosesLast ds)) d)
    (pop_answer d args)

abbrev pub ShiftIsOne : Type 0
ShiftIsOne = (d : Datum) (args : List Datum) → IsTheOne (OfList (λ ds. Lists (LosesFirst ds)) d)
    (shift_answer d args)

-- where it isn't refused, a push and then a pop gives the list back
abbrev pub PopUndoesPush : Type 0
PopUndoesPush = (d x e : Datum) → push_answer d (x ∷ []) ≡ Ok e → pop_answer e [] ≡ Ok d

abbrev pub ShiftUndoesUnshift : Type 0
ShiftUndoesUnshift = (d x e : Datum) → unshift_answer d (x ∷ []) ≡ Ok e → shift_answer e [] ≡ Ok d

-- ---- sentences
-- what follows the first text
abbrev pub ContinuesSentence : Text → List Text → Text → Type 0
ContinuesSentence connector [] s = s ≡ []
ContinuesSentence connector (t ∷ []) s = s ≡ codes ", " ++ (connector ++ (codes " " ++ t))
ContinuesSentence connector (t ∷ (u ∷ ts)) s = (rest : Text) × (s ≡ codes ", " ++ (t ++ rest)) ×
    ContinuesSentence connector (u ∷ ts) rest

abbrev pub IsSentence : Text → List Text → Text → Type 0
IsSentence connector [] s = s ≡ []
IsSentence connector (t ∷ ts) s = (rest : Text) × (s ≡ t ++ rest) ×
    ContinuesSentence connector ts rest

abbrev pub MakesSentence : Text → Datum → Answer → Type 0
MakesSentence connector = OfList (λ ds. Texts (IsSentence connector (map text_of ds)))

abbrev pub SentenceIsOne : Type 0
SentenceIsOne = (d : Datum) (args : List Datum) →
    IsTheOne (MakesSentence (text_or (codes "and") args) d) (array_to_sentence_string_answer d args)

-- ---- paths

-- what is read as a path is written as one, and the other way round
abbrev pub PathIsRead : Type 0
PathIsRead = (s : Text) (p : List Datum) → IsPath p s ↔ (path s ≡ Some p)

-- where the text is a path R holds of it and the answer, else the fault is the answer
abbrev pub AtPath : Text → (List Datum → Answer → Type 0) → Answer → Type 0
AtPath s R a =
    ((p : List Datum) × IsPath p s × R p a)
    ⊎ (((p : List Datum) → IsPath p s → ⊥) × (a ≡ Err InvalidArgument))

-- ---- sorts
abbrev pub SortsItems : List Datum → List Datum → Answer → Type 0
SortsItems ds [] = Lists (IsSort (found_key First []) ds)
SortsItems ds (name ∷ args) =
    OfMaps ds
    (AfterReading (nils_given (first_of args))
    (λ nils. AtPath (text_of name) (λ p. Lists (IsSort (found_key nils p) ds))))
    (λ a. a ≡ Err InvalidInput)

abbrev pub JekyllSorts : Datum → List Datum → Answer → Type 0
JekyllSorts d args a = MatchBool (length (sequence d) == 0) (a ≡ Err InvalidInput)
    (SortsItems (sequence d) args a)

abbrev pub JekyllSortIsOne : Type 0
JekyllSortIsOne = (d : Datum) (args : List Datum) →
    IsTheOne (JekyllSorts d args) (jekyll_sort_answer d args)

-- where it isn't refused, a sort twice is the sort once
abbrev pub JekyllSortTwiceIsOnce : Type 0
JekyllSortTwiceIsOnce = (d e : Datum) (args : List Datum) → jekyll_sort_answer d args ≡ Ok e →
    jekyll_sort_answer e args ≡ Ok e

-- ---- slugs
abbrev pub mode_given : List Datum → Result Mode ErrorKind
mode_given [] = Ok Default
mode_given (name ∷ args) = mode_named (text_of name)

abbrev pub SlugifyIsOne : Type 0
SlugifyIsOne = (d : Datum) (args : List Datum) →
    IsTheOne (AfterReading (mode_given args) (λ mode. Texts (IsSlugOf mode (text_of d))))
    (slugify_answer d args)

-- what the mode `ascii` makes of a text is a slug, and stays as it is
abbrev pub AsciiSlugs : Type 0
AsciiSlugs = (d e : Datum) → slugify_answer d (text (codes "ascii") ∷ []) ≡ Ok e
    → (t : Text) × (e ≡ text t) × IsSlug t × (slugify_answer e (text (codes "ascii") ∷ []) ≡ Ok e)
