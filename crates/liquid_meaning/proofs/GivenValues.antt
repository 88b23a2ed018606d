-- Arguments that aren't required, spelled out.
use Rattle.std.proofs.Common.{◌≡◌, ℕ, zero, suc, ◌-◌, ◌<◌, List, [], ◌∷◌, length, map, Option, Some, None, Result, Ok, Err, arith, refl, sym, ap, ◌∙◌}
use Rattle.std.specs.Option.{unwrap_or}
use Rattle.liquid_model.specs.Data.{Datum, nil}
use Rattle.liquid_model.specs.Fallible.{◌>>=◌}
use Rattle.liquid_model.specs.declared.error.ErrorKind.{ErrorKind}
use Rattle.liquid_core.specs.Environment.{Environment}
use Rattle.liquid_core.specs.Expression.{Expression, literal}
use Rattle.liquid_core.specs.Expressions.{value_of}
use Rattle.liquid_core.specs.declared.missing_value.Missing.{Missing}
use Rattle.liquid_evaluation.specs.Calls.{applied, taken_argument, taken_arguments}
use Rattle.liquid_evaluation.specs.Evaluation.{FilterAnswers, answers_in, calls_by, chain_value, entry_value, through}
use Rattle.liquid_evaluation.specs.Tree.{Chain, FilterCall}
use Rattle.liquid_evaluation.proofs.Calls.{argument_required, argument_there}
use Rattle.liquid_meaning.specs.GivenValues.{GivenAreLiterals, spelled_argument, spelled_arguments, spelled_call}

argument_spelled : (n m : ℕ) (x : Expression) (e : Environment) → 0 < m → taken_argument n x e ≡ taken_argument m (spelled_argument e n x) e
unfolding value_of
argument_spelled zero m x e h = sym (argument_there m (literal (unwrap_or (value_of x e) nil)) e (unwrap_or (value_of x e) nil) refl)
argument_spelled (suc n) m x e h = sym (argument_required m x e h)

arguments_spelled : (n m : ℕ) (xs : List Expression) (e : Environment) → m ≡ length xs → taken_arguments n xs e ≡ taken_arguments m (spelled_arguments e n xs) e
unfolding taken_arguments
arguments_spelled n m [] e h = refl
arguments_spelled n m (x ∷ xs) e h =
    let first = argument_spelled n m x e (omega (arith, h)) in
    let others = arguments_spelled (n - 1) (m - 1) xs e (omega (arith, h)) in
    λ i. first i >>= (λ d. others i >>= (λ ds. Ok (d ∷ ds)))

calls_spelled : (answers : FilterAnswers) (calls : List FilterCall) (d : Datum) (e : Environment) → applied (calls_by answers calls) d e ≡ applied (calls_by answers (map (spelled_call e) calls)) d e
unfolding applied
calls_spelled answers [] d e = refl
calls_spelled answers (call ∷ calls) d e =
    let given = arguments_spelled call.required (length call.arguments) call.arguments e refl in
    λ i. given i >>= (λ ds. answers call.filter d ds >>= (λ answer. calls_spelled answers calls answer e i))

entry_spelled : (missing : Missing) (o : Option Datum) (calls : List FilterCall) (e : Environment) → entry_value missing o calls ≡ entry_value missing o (map (spelled_call e) calls)
entry_spelled missing o [] e = refl
entry_spelled missing None (call ∷ calls) e = refl
entry_spelled missing (Some d) (call ∷ calls) e = refl

chain_spelled : (answers : FilterAnswers) (chain : Chain) (e : Environment) → chain_value answers chain e ≡ chain_value answers (record { entry = chain.entry; filters = map (spelled_call e) chain.filters }) e
unfolding chain_value
chain_spelled answers chain e =
    λ i. entry_spelled e.missing (value_of chain.entry e) chain.filters e i >>= (λ d. calls_spelled (answers_in e.missing answers) chain.filters d e i)

pub given_are_literals : GivenAreLiterals
given_are_literals = record {
  chains = chain_spelled;
  blocks = λ answers calls d e. calls_spelled (answers_in e.missing answers) calls d e;
}
