-- A word or a value, and nothing after it.
use Rattle.std.proofs.Common.{◌≡◌, List, [], ◌∷◌, Bool, true, false, Option, Some, None, refl, sym, ap, ◌∙◌}
use Rattle.std.specs.Option.{option_and_then, option_map}
use Rattle.liquid_core.specs.Expression.{Expression}
use Rattle.liquid_model.specs.Texts.{Text}
use Rattle.liquid_lexer.specs.Tokens.{Token, value, word, value_first, word_first}
use Rattle.liquid_parser.specs.Classification.{alone, word_alone, value_alone}
use Rattle.liquid_parser.specs.Loops.{is_nothing}
use Rattle.std.specs.Prelude.{Err}
use Rattle.liquid_lexer.specs.Readers.{IsOfKind}
use Rattle.liquid_lexer.specs.declared.fault.FaultKind.TheVariants.{Expected}
use Rattle.liquid_lexer.specs.declared.fault.ParseError.{ParseError}
use Rattle.liquid_lexer.specs.declared.fault.ParseError.TheVariants as errors
use Rattle.liquid_model.proofs.WordLaws.{bind_some, from_some}
use Rattle.liquid_evaluation.specs.Tree.{case_of}
use Rattle.liquid_parser.specs.inside.Classifies.{ReadsBlock}
use Rattle.liquid_parser.specs.Classification.{case_for, many_or}
use Rattle.liquid_language.specs.declared.block.Block.TheVariants.{Case}
use Rattle.liquid_parser.specs.declared.build.Stage.TheVariants.{CaseHead}
use Rattle.liquid_parser.proofs.Printed.{first_word}
use Rattle.liquid_parser.proofs.TokenLaws.{first_value}

alone_is : {A : Type 0} (x : A × List Token) (y : A) → alone x ≡ Some y → (x.0 ≡ y) × (x.1 ≡ [])
alone_is (x, []) y h = (from_some h, refl)
alone_is (x, t ∷ ts) y h = absurd cc

pub one_word : (ts : List Token) (w : Text) → word_alone ts ≡ Some w → ts ≡ word w ∷ []
one_word ts w h =
    let (x, named, last) = bind_some (word_first ts) alone w h in
    let (same, none) = alone_is x w last in
    first_word ts x.0 x.1 named ∙ ap (λ (u : Text). word u ∷ x.1) same ∙ ap (λ (ts : List Token). word w ∷ ts) none

pub one_value : (ts : List Token) (y : Expression) → value_alone ts ≡ Some y → ts ≡ value y ∷ []
one_value ts y h =
    let (x, front, last) = bind_some (value_first ts) alone y h in
    let (same, none) = alone_is x y last in
    first_value ts x.0 x.1 front ∙ ap (λ (y : Expression). value y ∷ x.1) same ∙ ap (λ (ts : List Token). value y ∷ ts) none

alone_at : {A : Type 0} (x : A) (rest : List Token) (b : Bool) → is_nothing rest ≡ b → (b ≡ true → alone (x, rest) ≡ Some x) × (b ≡ false → alone (x, rest) ≡ None)
alone_at x [] b h = (λ e. refl, λ e. absurd cc)
alone_at x (t ∷ ts) b h = (λ e. absurd cc, λ e. refl)

pub word_done : (ts : List Token) (w : Text) (rest : List Token) → Some (w, rest) ≡ word_first ts → is_nothing rest ≡ true → word_alone ts ≡ Some w
word_done ts w rest h e = ap (option_and_then alone) (sym h) ∙ (alone_at w rest true e).0 refl

pub word_more : (ts : List Token) (w : Text) (rest : List Token) → Some (w, rest) ≡ word_first ts → is_nothing rest ≡ false → word_alone ts ≡ None
word_more ts w rest h e = ap (option_and_then alone) (sym h) ∙ (alone_at w rest false e).1 refl

pub value_done : (ts : List Token) (x : Expression) (rest : List Token) → Some (x, rest) ≡ value_first ts → is_nothing rest ≡ true → value_alone ts ≡ Some x
value_done ts x rest h e = ap (option_and_then alone) (sym h) ∙ (alone_at x rest true e).0 refl

pub value_more : (ts : List Token) (x : Expression) (rest : List Token) → Some (x, rest) ≡ value_first ts → is_nothing rest ≡ false → value_alone ts ≡ None
value_more ts x rest h e = ap (option_and_then alone) (sym h) ∙ (alone_at x rest false e).1 refl

-- the items of a `case` are refused
pub case_faulted : (e : ParseError) (ts : List Token) → IsOfKind Expected e → value_alone ts ≡ None → ReadsBlock Case CaseHead (many_or Case (case_for ts)) (Err e)
case_faulted errors.Memory ts kind h = tt
case_faulted (errors.Fault f) ts kind h = ap (λ (o : Option Expression). many_or Case (option_map (λ x ws o. case_of x ws o) o)) h
