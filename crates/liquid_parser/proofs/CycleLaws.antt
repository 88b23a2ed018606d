-- A cycle is read just where the grammar says so.
use Rattle.std.proofs.Common.{◌≡◌, List, [], ◌∷◌, length, Bool, true, false, cond, Option, Some, None, string_bytes, refl, sym, ap, subst, ◌∙◌, arith, rules}
use Rattle.std.specs.Option.{option_and_then, option_map}
use Rattle.liquid_core.specs.Expression.{Expression, literal, variable, Steps, no_steps, step}
use Rattle.liquid_core.specs.ExpressionView.{expression_view, steps_view}
use Rattle.liquid_core.specs.declared.expression.Expression.{Variable, the_lemmas}
use Rattle.liquid_core.specs.declared.expression.Expression as code
use Rattle.liquid_core.specs.declared.expression.Variable as declared
use Rattle.liquid_model.specs.Texts.{Text}
use Rattle.liquid_lexer.specs.Tokens.{Token, value, symbol, value_first, past}
use Rattle.liquid_lexer.specs.declared.symbol.Symbol.TheVariants.{Colon}
use Rattle.liquid_model.proofs.WordLaws.{bind_some, map_some, from_some, guard_opt}
use Rattle.liquid_evaluation.specs.Groups.{values_group}
use Rattle.liquid_parser.specs.Cycles.{Cycle, with_group, grouped_of, IsName, an_identifier, a_literal, IsCycle, without_name, with_name, name_alone, is_cycle_name, has_no_steps, named_of, after_first, cycle_of}
use Rattle.liquid_parser.specs.Repeated.{AreRepeated, no_more, one_more}
use Rattle.liquid_parser.specs.ValueLists.{a_comma, IsFurther, a_further, IsValuesEnd, no_value, a_last_comma, AreValues, some_values, any_values_of, further_of}
use Rattle.liquid_parser.specs.declared.value_items.Separators.TheVariants.{Commas}
use Rattle.liquid_parser.proofs.ItemLaws.{all_further_takes, all_further_again, values_takes, values_again}
use Rattle.liquid_parser.proofs.TokenLaws.{past_is, first_value}

-- ---- names

no_steps_is : (w : Text) (steps : Steps) → has_no_steps steps ≡ true → IsName (variable w steps)
no_steps_is w no_steps h = an_identifier w
no_steps_is w (step x more) h = absurd cc

name_is : (x : Expression) → is_cycle_name x ≡ true → IsName x
name_is (literal d) h = a_literal d
name_is (variable w steps) h = no_steps_is w steps h

name_again : (x : Expression) → IsName x → is_cycle_name x ≡ true
name_again x (an_identifier w) = refl
name_again x (a_literal d) = refl

variable_seen : (v : declared.Variable) → expression_view (Variable v) ≡ variable (string_bytes v.name) (steps_view v.indexes.items)
variable_seen v = search (rules, the_lemmas)

steps_seen : (xs : List code.Expression) (b : Bool) → (length xs ≡ 0 → b ≡ true) → ((length xs ≡ 0 → ⊥) → b ≡ false) → b ≡ has_no_steps (steps_view xs)
steps_seen [] b without with_some = without refl
steps_seen (x ∷ xs) b without with_some = with_some (λ e. absurd (omega (arith, e)))

-- the code asks whether there are steps
pub name_seen : (x : code.Expression) (v : declared.Variable) (b : Bool) → x ≡ Variable v → (length v.indexes.items ≡ 0 → b ≡ true) → ((length v.indexes.items ≡ 0 → ⊥) → b ≡ false) → b ≡ is_cycle_name (expression_view x)
name_seen x v b is without with_some = steps_seen v.indexes.items b without with_some ∙ sym (ap (λ y. is_cycle_name (expression_view y)) is ∙ ap is_cycle_name (variable_seen v))

-- ---- what is read is a cycle

any_values_take : (name : Expression) (ts : List Token) (xs : List Expression) → IsName name → any_values_of Commas ts ≡ Some xs → IsCycle (Some name) xs (value name ∷ symbol Colon ∷ ts)
any_values_take name [] xs is h = subst (λ (xs : List Expression). IsCycle (Some name) xs (value name ∷ symbol Colon ∷ [])) (from_some h) (name_alone is)
any_values_take name (t ∷ ts) xs is h = with_name is (values_takes Commas xs (t ∷ ts) h)

named_takes : (name : Expression) (ts : List Token) (c : Cycle) → named_of name ts ≡ Some c → IsCycle c.0 c.1 (value name ∷ symbol Colon ∷ ts)
named_takes name ts c h =
    let (named, made) = guard_opt (is_cycle_name name) (option_map (λ xs. (Some name, xs)) (any_values_of Commas ts)) c h in
    let (xs, read, same) = map_some (any_values_of Commas ts) (λ xs. (Some name, xs)) c made in
    subst (λ (c : Cycle). IsCycle c.0 c.1 (value name ∷ symbol Colon ∷ ts)) same (any_values_take name ts xs (name_is name named) read)

first_takes : (x : Expression) (ts : List Token) (o : Option (List Token)) (c : Cycle) → past Colon ts ≡ o → after_first x ts o ≡ Some c → IsCycle c.0 c.1 (value x ∷ ts)
first_takes x ts None c e h =
    let (xs, read, same) = map_some (further_of Commas ts) (λ xs. (None, x ∷ xs)) c h in
    subst (λ (c : Cycle). IsCycle c.0 c.1 (value x ∷ ts)) same (without_name (some_values x (all_further_takes Commas xs ts read)))
first_takes x ts (Some rest) c e h = subst (λ (ts : List Token). IsCycle c.0 c.1 (value x ∷ ts)) (sym (past_is Colon ts rest e)) (named_takes x rest c h)

pub cycle_takes : (ts : List Token) (c : Cycle) → cycle_of ts ≡ Some c → IsCycle c.0 c.1 ts
cycle_takes ts c h =
    let (x, front, more) = bind_some (value_first ts) _ c h in
    subst (λ (ts : List Token). IsCycle c.0 c.1 ts) (sym (first_value ts x.0 x.1 front)) (first_takes x.0 x.1 (past Colon x.1) c refl more)

-- ---- a cycle is read

no_colon : (xs : List Expression) (ts : List Token) → AreRepeated (IsFurther Commas) (IsValuesEnd Commas) xs ts → past Colon ts ≡ None
no_colon xs ts (no_more no_value) = refl
no_colon xs ts (no_more a_last_comma) = refl
no_colon xs ts (one_more (a_further x a_comma) more) = refl

any_values_again : (xs : List Expression) (ts : List Token) → AreValues Commas xs ts → any_values_of Commas ts ≡ Some xs
any_values_again xs ts (some_values x more) = values_again Commas xs ts (some_values x more)

named_again : (name : Expression) (xs : List Expression) (ts : List Token) → IsName name → any_values_of Commas ts ≡ Some xs → named_of name ts ≡ Some (Some name, xs)
named_again name xs ts is h =
    ap (λ (b : Bool). cond b (option_map (λ xs. (Some name, xs)) (any_values_of Commas ts)) None) (name_again name is)
    ∙ ap (λ (o : Option (List Expression)). option_map (λ xs. (Some name, xs)) o) h

pub cycle_again : (name : Option Expression) (xs : List Expression) (ts : List Token) → IsCycle name xs ts → cycle_of ts ≡ Some (name, xs)
cycle_again name xs ts (without_name (some_values {xs = ys} {ts = us} x more)) =
    ap (after_first x us) (no_colon ys us more)
    ∙ ap (λ (o : Option (List Expression)). option_map (λ xs. (None, x ∷ xs)) o) (all_further_again Commas ys us more)
cycle_again name xs ts (with_name {name = n} {ts = us} is more) = named_again n xs us is (any_values_again xs us more)
cycle_again name xs ts (name_alone {name = n} is) = named_again n [] [] is refl

-- ---- what the code reads

unnamed : (x : Expression) (o : Option (List Expression)) (xs : List Expression) → option_map (λ ys. x ∷ ys) o ≡ Some xs → option_map with_group (option_map (λ ys. (None, x ∷ ys)) o) ≡ Some (values_group xs, xs)
unnamed x None xs h = absurd cc
unnamed x (Some ys) xs h = ap (λ (zs : List Expression). Some (values_group zs, zs)) (from_some h)

pub unnamed_read : (ts : List Token) (x : Expression) (rest left : List Token) (xs : List Expression) (group : Text) → Some (x, rest) ≡ value_first ts → past Colon rest ≡ None → left ≡ rest
    → option_map (λ ys. x ∷ ys) (further_of Commas left) ≡ Some xs → group ≡ values_group xs → grouped_of ts ≡ Some (group, xs)
unnamed_read ts x rest left xs group front none same read named =
    ap (λ (o : Option (Expression × List Token)). option_map with_group (option_and_then (λ x. after_first x.0 x.1 (past Colon x.1)) o)) (sym front)
    ∙ ap (λ (o : Option (List Token)). option_map with_group (after_first x rest o)) none
    ∙ unnamed x (further_of Commas rest) xs (ap (λ (ts : List Token). option_map (λ ys. x ∷ ys) (further_of Commas ts)) (sym same) ∙ read)
    ∙ ap (λ (g : Text). Some (g, xs)) (sym named)
