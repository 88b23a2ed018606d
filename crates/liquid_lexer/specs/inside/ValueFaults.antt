-- Which fault a text has that no value begins.
use Rattle.std.specs.Prelude.{ℕ, zero, suc, ℤ, List, [], ◌∷◌, take, drop, Bool, false, ◌==◌, ◌||◌}
use Rattle.std.specs.Prelude.{◌&&◌, if◌then◌else◌, Option, Some, None}
use Rattle.liquid_model.specs.Whole.{whole_text}
use Rattle.liquid_model.specs.Bytes.{is_digit, dot, double_quote, single_quote}
use Rattle.liquid_model.specs.Front.{number_len}
use Rattle.liquid_lexer.specs.declared.fault.FaultKind.{FaultKind}
use Rattle.liquid_lexer.specs.declared.fault.FaultKind.TheVariants.{Unclosed, BadItem}
use Rattle.liquid_lexer.specs.declared.fault.FaultKind.TheVariants.{NumberLiteral, FloatLiteral}

-- `.` and a digit stand at the front
abbrev pub is_fraction : List ℕ → Bool
is_fraction [] = false
is_fraction (b ∷ []) = false
is_fraction (b ∷ c ∷ cs) = b == dot && is_digit c cs

-- of a number that isn't taken, before these bytes: it is beyond 64 bits, a decimal number, or goes
-- on as no number does
abbrev pub number_fault : Option ℤ → List ℕ → FaultKind
number_fault None after = NumberLiteral
number_fault (Some n) after = if is_fraction after then FloatLiteral else BadItem

-- the fault of bytes that begin with a sign and digits, which take n bytes; 0 where there are none
abbrev pub fault_after : ℕ → List ℕ → FaultKind
fault_after zero bs = BadItem
fault_after (suc n) bs = number_fault (whole_text (take (suc n) bs)) (drop (suc n) bs)

-- nothing is left, a quote isn't closed, a number isn't taken, or no item stands there at all
abbrev pub value_fault : List ℕ → FaultKind
value_fault [] = Unclosed
value_fault (b ∷ bs) = if b == double_quote || b == single_quote then Unclosed else fault_after
    (number_len (b ∷ bs)) (b ∷ bs)
