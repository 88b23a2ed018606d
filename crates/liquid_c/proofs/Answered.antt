-- An answer on its way into a table.
use Rattle.std.proofs.Common.{◌≡◌, ℕ, Option, Some, None, Result, Ok, Err, MatchOption, refl, sym, subst}
use Rattle.std.specs.Prelude.{⊤}
use Rattle.liquid_model.specs.Data.{Datum}
use Rattle.liquid_model.specs.declared.error.ErrorKind.{ErrorKind}
use Rattle.liquid_answers.specs.Tables.{said_by}
use Rattle.liquid_answers.specs.declared.answers.Answer.{Answer}
use Rattle.liquid_answers.specs.declared.answers.Answers.{Answers}
use Rattle.liquid_c.specs.Tables.{ChangesTable, Given, IsAnswering, StoresAnswer}
use Rattle.liquid_c.specs.declared.handle_content.HandleContent.{HandleContent}
use Rattle.liquid_c.specs.declared.handle_content.HandleContent.TheVariants.{Own}
use Rattle.liquid_c.specs.declared.content.Content.TheVariants as content
use Rattle.liquid_c.specs.declared.refusal.Refusal.{Refusal}

-- a call that changes the table so, whatever the answer says, puts the given one into it
put_given : (table : Answers) (d : Datum) (a : Option Answer) (wanted : Result (Result Datum ErrorKind) Refusal) (n : ℕ) (left : Option HandleContent) → Given (Ok a) wanted → ((said : Result Datum ErrorKind) → MatchOption a ⊤ (λ b. said_by b ≡ said) → ChangesTable (StoresAnswer d said) table n left) → IsAnswering (Some (Own (content.Answers table))) (Ok d) wanted n left
put_given table d (Some a) wanted n left given changes = subst (λ w. IsAnswering (Some (Own (content.Answers table))) (Ok d) w n left) (sym given) (changes (said_by a) refl)
put_given table d None wanted n left given changes = subst (λ w. IsAnswering (Some (Own (content.Answers table))) (Ok d) w n left) (sym given.1) (changes given.0 tt)

-- the same in a handle
pub answering : (old : Option HandleContent) (call : Result Datum Refusal) (answer : Result (Option Answer) Refusal) (wanted : Result (Result Datum ErrorKind) Refusal) (n : ℕ) (left : Option HandleContent) (table : Answers) (d : Datum) (a : Option Answer) → old ≡ Some (Own (content.Answers table)) → call ≡ Ok d → answer ≡ Ok a → Given answer wanted → ((said : Result Datum ErrorKind) → MatchOption a ⊤ (λ b. said_by b ≡ said) → ChangesTable (StoresAnswer d said) table n left) → IsAnswering old call wanted n left
answering old call answer wanted n left table d a is_old is_call is_answer given changes =
    subst (λ o. IsAnswering o call wanted n left) (sym is_old)
    (subst (λ k. IsAnswering (Some (Own (content.Answers table))) k wanted n left) (sym is_call)
    (put_given table d a wanted n left (subst (λ it. Given it wanted) is_answer given) changes))
