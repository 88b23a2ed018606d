-- What a page leaves at its writer, from what was written through a buffer, and how its call ends.
use Rattle.std.proofs.lemmas.Bool.{true≢false}
use Rattle.std.proofs.Common.{◌≡◌, ℕ, Bool, true, false, List, [], ◌++◌, Option, Some, None, Ok, Err, Result, IfSome, inl, inr, refl, sym, ap, ◌∙◌, subst, append_assoc, append-nil}
use Rattle.std.specs.Prelude.{◌⊎◌, MatchBool, MatchResult, IsErrAnd, OnOk, ⊤}
use Rattle.std.specs.Io.KnownBytes.{Keeps, Appends, append_known}
use Rattle.std.proofs.KnownBytes.{Appends-nil, Appends-kept}
use Rattle.liquid_model.specs.declared.error.Error.{Error}
use Rattle.liquid_model.specs.declared.error.ErrorKind.TheVariants.{Memory, Write}
use Rattle.liquid_model.specs.Texts.{Text}
use Rattle.liquid_engine.specs.Added.{AppendsPart}
use Rattle.liquid_page_texts.specs.Page.{Sources, PageTexts, IsPage}
use Rattle.liquid_page_texts.specs.Shown.{RanOut, ShowsStandard}
use Rattle.liquid_engine.specs.Performs.{is_refused}
use Rattle.liquid_model.specs.ErrorKinds.{IsKindOrMemory, is_memory, is_refusal}
use Rattle.liquid_model.specs.declared.error.ErrorKind.{ErrorKind}
use Rattle.liquid_page.specs.declared.outcome.Outcome.{Outcome}
use Rattle.liquid_page.specs.declared.outcome.Outcome.TheVariants.{Done, Fault}
use Rattle.liquid_page.specs.Files.{Stop, ReadableFiles, LeavesAtWriter, EndsCall}
use Rattle.liquid_page.specs.Written.{HoldsBeginning, IsBegun, IsPageWritten, a_page, no_page}

-- of a text's beginning after what was there, the writer has what isn't held back
holds_front : (before start after now : Option (List ℕ)) (held text : List ℕ) → Keeps before start → AppendsPart start after text → Keeps after (append_known now held) → HoldsBeginning before now text
holds_front None start after now held text p q k = tt
holds_front (Some x) None after now held text p q k = absurd p
holds_front (Some x) (Some y) None now held text p q k = absurd q.appended
holds_front (Some x) (Some y) (Some z) None held text p q k = absurd k
holds_front (Some x) (Some y) (Some z) (Some w) held text p q k =
    (held ++ q.rest, sym (append_assoc w held q.rest) ∙ ap (λ l. l ++ q.rest) (k ∙ q.appended ∙ ap (λ l. l ++ q.front) p) ∙ append_assoc x q.front q.rest ∙ ap (λ l. x ++ l) q.whole)

part_of_none : (a b : Option (List ℕ)) → Keeps a b → AppendsPart a b []
part_of_none a b p = record { front = []; rest = []; whole = refl; appended = Appends-kept a a b [] (Appends-nil a) p }

-- a run wrote to a buffer in front of the writer, and some of what the buffer held was handed on
pub after_begun : (texts : PageTexts) (r : Result (Unit {0}) Error) (before start done now : Option (List ℕ)) (held : List ℕ)
    → Keeps before start → RanOut r start done ⊎ ShowsStandard texts r start done → Keeps done (append_known now held) → IsBegun texts before now
after_begun texts r before start done now held p (inl out) k = no_page (holds_front before start done now held [] p (part_of_none start done out.kept) k)
after_begun texts r before start done now held p (inr shown) k = a_page {text = shown.2.text} (shown.2.end, (shown.0, shown.1, shown.2.is_page)) (holds_front before start done now held shown.2.text p shown.2.begun k)

-- ---- a page that went through the buffer whole

refused_of_memory : (r : Result (Unit {0}) Error) → IsErrAnd r (λ e. e.kind ≡ Memory) → is_refused r ≡ true
refused_of_memory (Ok u) m = absurd m
refused_of_memory (Err e) m = ap is_refusal m

kind_memory : (kind : ErrorKind) → is_memory kind ≡ true → kind ≡ Memory
kind_memory Memory is = refl
kind_memory _ is = cc

not_memory : (kind : ErrorKind) → is_refusal kind ≡ false → is_memory kind ≡ false
not_memory kind within = on (is_memory kind) refl
  where
    on : (b : Bool) → is_memory kind ≡ b → is_memory kind ≡ false
    on true p = absurd (true≢false (sym (ap is_refusal (kind_memory kind p)) ∙ within))
    on false p = p

-- a refused write is a refusal, in want of memory too
pub refused_write : (kind : ErrorKind) → IsKindOrMemory Write kind → is_refusal kind ≡ false → ⊥
refused_write kind kept within = on (subst (λ b. MatchBool b ⊤ (Write ≡ kind)) (not_memory kind within) kept)
  where
    on : Write ≡ kind → ⊥
    on p = true≢false (ap is_refusal p ∙ within)

-- what holds after a success, where there was one
pub after_success : {E P : Type 0} (r : Result (Unit {0}) E) (u : Unit {0}) → r ≡ Ok u → OnOk r P → P
after_success {E} {P} r u is held = subst (λ x. OnOk x P) is held

whole_after : (before start after now : Option (List ℕ)) (text : Text) → Keeps before start → Appends start after text → Keeps after (append_known now []) → Appends before now text
whole_after None start after now text p q k = tt
whole_after (Some x) None after now text p q k = absurd p
whole_after (Some x) (Some y) None now text p q k = absurd q
whole_after (Some x) (Some y) (Some z) None text p q k = absurd k
whole_after (Some x) (Some y) (Some z) (Some w) text p q k = sym (append-nil w) ∙ k ∙ q ∙ ap (λ l. l ++ text) p

-- a run wrote its page to an empty buffer in front of the writer, and all that the buffer held was handed on
pub after_written : (texts : PageTexts) (r : Result (Unit {0}) Error) (before start after now : Option (List ℕ))
    → Keeps before start → RanOut r start after ⊎ ShowsStandard texts r start after → Keeps after (append_known now []) → is_refused r ≡ false → IsPageWritten texts r before now
after_written texts r before start after now p (inl out) k within = absurd (true≢false (sym (refused_of_memory r out.memory) ∙ within))
after_written texts r before start after now p (inr shown) k within = record {
  text = shown.2.text;
  page = (shown.0, shown.1, subst (λ end. IsPage shown.0 texts shown.2.text end) (sym (shown.2.ended within)) shown.2.is_page);
  written = whole_after before start after now shown.2.text p (shown.2.whole within) k;
}

-- the page of the texts that were read is begun
left_begun : (known : Option ReadableFiles) (wanted : ReadableFiles → Result PageTexts Stop) (texts : PageTexts) (old new : Option (List ℕ))
    → IfSome known (λ files. wanted files ≡ Ok texts) → IsBegun texts old new → IfSome known (λ files. LeavesAtWriter (wanted files) old new)
left_begun None wanted texts old new read begun = tt
left_begun (Some files) wanted texts old new read begun = subst (λ w. LeavesAtWriter w old new) (sym read) begun

-- the same of borrowed texts
pub borrowed_begun : (known : Option ReadableFiles) (wanted : ReadableFiles → Result PageTexts Stop) (read : PageTexts) (t d : Text) (ps : Sources) (old new : Option (List ℕ))
    → t ≡ read.template → d ≡ read.«data» → ps ≡ read.partials
    → IfSome known (λ files. wanted files ≡ Ok read) → IsBegun (record { template = t; «data» = d; partials = ps }) old new → IfSome known (λ files. LeavesAtWriter (wanted files) old new)
borrowed_begun known wanted read t d ps old new ts ds pss is begun = left_begun known wanted read old new is
    (subst (λ x. IsBegun (record { template = x; «data» = read.«data»; partials = read.partials }) old new) ts
    (subst (λ x. IsBegun (record { template = t; «data» = x; partials = read.partials }) old new) ds
    (subst (λ x. IsBegun (record { template = t; «data» = d; partials = x }) old new) pss begun)))

-- ---- how the call ends, by the answer of writing the page

ended_by : (texts : PageTexts) (r : Result (Unit {0}) Error) (o : Outcome) (wanted : Result PageTexts Stop) (old new : Option (List ℕ))
    → wanted ≡ Ok texts → (is_refused r ≡ false → IsPageWritten texts r old new) → MatchResult r (λ u. o ≡ Done) (λ e. o ≡ Fault e) → EndsCall wanted o old new
ended_by texts (Ok u) o wanted old new is written ends = subst (λ x. EndsCall wanted x old new) (sym ends) (texts, is, written refl)
ended_by texts (Err e) o wanted old new is written ends = subst (λ x. EndsCall wanted x old new) (sym ends) (fault_of (is_refusal e.kind) refl)
  where
    fault_of : (b : Bool) → is_refusal e.kind ≡ b → MatchBool b ⊤ ((t : PageTexts) × (wanted ≡ Ok t) × IsPageWritten t (Err e) old new)
    fault_of true q = tt
    fault_of false q = (texts, is, written q)

left_ended : (known : Option ReadableFiles) (wanted : ReadableFiles → Result PageTexts Stop) (texts : PageTexts) (r : Result (Unit {0}) Error) (o : Outcome) (old new : Option (List ℕ))
    → IfSome known (λ files. wanted files ≡ Ok texts) → (is_refused r ≡ false → IsPageWritten texts r old new) → MatchResult r (λ u. o ≡ Done) (λ e. o ≡ Fault e) → IfSome known (λ files. EndsCall (wanted files) o old new)
left_ended None wanted texts r o old new read written ends = tt
left_ended (Some files) wanted texts r o old new read written ends = ended_by texts r o (wanted files) old new read written ends

-- the same of borrowed texts
pub borrowed_ended : (known : Option ReadableFiles) (wanted : ReadableFiles → Result PageTexts Stop) (read : PageTexts) (t d : Text) (ps : Sources) (r : Result (Unit {0}) Error) (o : Outcome) (old new : Option (List ℕ))
    → t ≡ read.template → d ≡ read.«data» → ps ≡ read.partials
    → IfSome known (λ files. wanted files ≡ Ok read) → (is_refused r ≡ false → IsPageWritten (record { template = t; «data» = d; partials = ps }) r old new)
    → MatchResult r (λ u. o ≡ Done) (λ e. o ≡ Fault e) → IfSome known (λ files. EndsCall (wanted files) o old new)
borrowed_ended known wanted read t d ps r o old new ts ds pss is written ends = left_ended known wanted read r o old new is (λ q.
    (subst (λ x. IsPageWritten (record { template = x; «data» = read.«data»; partials = read.partials }) r old new) ts
    (subst (λ x. IsPageWritten (record { template = t; «data» = x; partials = read.partials }) r old new) ds
    (subst (λ x. IsPageWritten (record { template = t; «data» = d; partials = x }) r old new) pss (written q))))) ends
