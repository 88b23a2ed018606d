-- What stands at the front where a symbol, a word or a value was taken off it.
use Rattle.std.proofs.Common.{◌≡◌, ℕ, nat_eq, List, [], ◌∷◌, ◌++◌, get_or, length, ◌<◌, Bool, true, cond, Some, None, refl, sym, ap, ◌∙◌, arith}
use Rattle.std.proofs.lemmas.Bool.Decides.{nat_tests}
use Rattle.std.proofs.Common.{length-append}
use Rattle.std.proofs.lemmas.Option.{cond_some}
use Rattle.liquid_core.specs.Expression.{Expression}
use Rattle.liquid_model.specs.Texts.{Text}
use Rattle.liquid_lexer.specs.Tokens.{Token, value, range, symbol, word, symbol_number, is_symbol, past, past_word, is_word, value_first}
use Rattle.liquid_lexer.specs.declared.symbol.Symbol.{Symbol}
use Rattle.liquid_lexer.specs.declared.symbol.Symbol.TheVariants.{Equals, NotEquals, LessOrGreater, LessThanEquals, GreaterThanEquals, LessThan, GreaterThan, Assign, Colon, Comma, Bar}
use Rattle.liquid_model.proofs.WordLaws.{from_some}
use Rattle.liquid_parser.proofs.ConditionLaws.{word_is}

-- the symbol at a place
at_place : ℕ → Symbol
at_place n = get_or (Equals ∷ NotEquals ∷ LessOrGreater ∷ LessThanEquals ∷ GreaterThanEquals ∷ LessThan ∷ GreaterThan ∷ Assign ∷ Colon ∷ Comma ∷ Bar ∷ []) n Bar

placed : (s : Symbol) → at_place (symbol_number s) ≡ s
unfolding at_place
placed Equals = refl
placed NotEquals = refl
placed LessOrGreater = refl
placed LessThanEquals = refl
placed GreaterThanEquals = refl
placed LessThan = refl
placed GreaterThan = refl
placed Assign = refl
placed Colon = refl
placed Comma = refl
placed Bar = refl

same_number : (n m : ℕ) → nat_eq n m ≡ true → n ≡ m
same_number n m h = grind (arith, nat_tests)

pub symbol_is : (s : Symbol) (t : Token) → is_symbol s t ≡ true → t ≡ symbol s
symbol_is s (value x) h = absurd cc
symbol_is s (range x y) h = absurd cc
symbol_is s (symbol u) h = ap (λ (u : Symbol). symbol u) (sym (placed u) ∙ ap at_place (sym (same_number (symbol_number s) (symbol_number u) h)) ∙ placed s)

pub symbol_again : (s : Symbol) → is_symbol s (symbol s) ≡ true
symbol_again Equals = refl
symbol_again NotEquals = refl
symbol_again LessOrGreater = refl
symbol_again LessThanEquals = refl
symbol_again GreaterThanEquals = refl
symbol_again LessThan = refl
symbol_again GreaterThan = refl
symbol_again Assign = refl
symbol_again Colon = refl
symbol_again Comma = refl
symbol_again Bar = refl

pub past_again : (s : Symbol) (ts : List Token) → past s (symbol s ∷ ts) ≡ Some ts
past_again s ts = ap (λ (b : Bool). cond b (Some ts) None) (symbol_again s)

pub past_is : (s : Symbol) (ts rest : List Token) → past s ts ≡ Some rest → ts ≡ symbol s ∷ rest
past_is s [] rest h = absurd cc
past_is s (t ∷ ts) rest h = let (e, same) = cond_some (is_symbol s t) ts rest h in ap (λ (t : Token). t ∷ ts) (symbol_is s t e) ∙ ap (λ (ts : List Token). symbol s ∷ ts) same

pub past_word_is : (w : Text) (ts rest : List Token) → past_word w ts ≡ Some rest → ts ≡ word w ∷ rest
past_word_is w [] rest h = absurd cc
past_word_is w (t ∷ ts) rest h = let (e, same) = cond_some (is_word w t) ts rest h in ap (λ (t : Token). t ∷ ts) (word_is w t e) ∙ ap (λ (ts : List Token). word w ∷ ts) same

pub first_value : (ts : List Token) (x : Expression) (rest : List Token) → value_first ts ≡ Some (x, rest) → ts ≡ value x ∷ rest
first_value [] x rest h = absurd cc
first_value (value y ∷ ts) x rest h = let e : (y, ts) ≡ (x, rest) = from_some h in ap (λ (p : Expression × List Token). value p.0 ∷ p.1) e
first_value (range y z ∷ ts) x rest h = absurd cc
first_value (symbol s ∷ ts) x rest h = absurd cc

-- what is left after what was taken off is shorter
pub cut_shorter : (ts us rest : List Token) → ts ≡ us ++ rest → 0 < length us → length rest < length ts
cut_shorter ts us rest cut some = omega (arith, ap length cut ∙ length-append us rest, some)
