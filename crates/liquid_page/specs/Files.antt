-- What a call of the program does, over files whose texts are known.
use Rattle.std.specs.Prelude.{◌≡◌, ℕ, List, [], ◌∷◌, ◌++◌, Option, Result, Ok, Err, MatchBool, ⊤}
use Rattle.std.specs.Prelude.{string_bytes}
use Rattle.std.specs.Io.KnownBytes.{Keeps}
use Rattle.std.specs.Option.{ok_or}
use Rattle.liquid_model.specs.Texts.{Text}
use Rattle.liquid_model.specs.ErrorKinds.{is_refusal}
use Rattle.liquid_model.specs.declared.error.ErrorKind.TheVariants.{Memory}
use Rattle.liquid_page.specs.Words.{NamedTexts, NamedFiles, page_call}
use Rattle.liquid_page.specs.Written.{IsBegun, IsPageWritten}
use Rattle.liquid_page.specs.declared.outcome.Outcome.{Outcome}
use Rattle.liquid_page.specs.declared.outcome.Outcome.TheVariants.{Done, Usage, Unreadable, Fault}
use Rattle.liquid_page_texts.specs.Page.{Sources, PageTexts}

-- the text of the file at each path, where it can be read
abbrev pub ReadableFiles : Type 0
ReadableFiles = Text → Option Text

-- why no page is begun
pub data Stop : Type 0 where
  no_call : Stop
  unreadable : Text → Stop

infixl 10 ◌>>=◌
abbrev pub ◌>>=◌ : {A B : Type 0} → Result A Stop → (A → Result B Stop) → Result B Stop
◌>>=◌ (Ok a) k = k a
◌>>=◌ (Err stop) k = Err stop

abbrev pub file_text : ReadableFiles → Text → Result Text Stop
file_text files path = ok_or (files path) (unreadable path)

-- the texts of named files, in order, after those that are read
abbrev pub sources_from : ReadableFiles → NamedTexts → Sources → Result Sources Stop
sources_from files [] done = Ok done
sources_from files (p ∷ ps) done = file_text files p.1 >>= λ t. sources_from files ps
    (done ++ (p.0, t) ∷ [])

abbrev pub texts_at : ReadableFiles → NamedFiles → Result PageTexts Stop
texts_at files c = file_text files c.template >>= λ t. file_text files c.«data» >>= λ d.
    sources_from files c.partials [] >>= λ ps. Ok (record {
      template = t;
      «data» = d;
      partials = ps;
    })

-- the words are judged first, then the files are read, in their order
abbrev pub called_texts : ReadableFiles → List Text → Result PageTexts Stop
called_texts files words = ok_or (page_call words) no_call >>= texts_at files

-- what a step of reading answers, unless memory ran out
abbrev pub Finds : {X A : Type 0} → (X → A) → Result A Stop → Result X Outcome → Type 0
Finds view wanted (Ok x) = wanted ≡ Ok (view x)
Finds view wanted (Err Done) = ⊥
Finds view wanted (Err Usage) = wanted ≡ Err no_call
Finds view wanted (Err (Unreadable file)) = wanted ≡ Err (unreadable (string_bytes file))
Finds view wanted (Err (Fault e)) = e.kind ≡ Memory

-- how a call ends by the texts that it is to read, unless memory ran out or the writer refused
abbrev pub EndsCall : Result PageTexts Stop → Outcome → Option (List ℕ) → Option (List ℕ) → Type 0
EndsCall wanted Done old new = (texts : PageTexts) × (wanted ≡ Ok texts) ×
    IsPageWritten texts (Ok tt) old new
EndsCall wanted Usage old new = (wanted ≡ Err no_call) × Keeps old new
EndsCall wanted (Unreadable file) old new =
    (wanted ≡ Err (unreadable (string_bytes file))) × Keeps old new
EndsCall wanted (Fault e) old new = MatchBool (is_refusal e.kind) ⊤ ((texts : PageTexts) ×
    (wanted ≡ Ok texts) × IsPageWritten texts (Err e) old new)

-- what a call leaves at its writer, however it ends: a beginning of the page of the texts that it
-- is to read, or, where it is to begin no page, what was there
abbrev pub LeavesAtWriter : Result PageTexts Stop → Option (List ℕ) → Option (List ℕ) → Type 0
LeavesAtWriter (Ok texts) old new = IsBegun texts old new
LeavesAtWriter (Err stop) old new = Keeps old new
