-- The loops over a chain's tokens, a turn at a time.
use Rattle.std.proofs.Common.{◌≡◌, suc, List, [], ◌∷◌, ◌++◌, length, Bool, true, false, nat_eq, cond, Option, Some, None, Result, Ok, Err, refl, sym, ap, ◌∙◌, append_assoc, arith, rules}
use Rattle.std.proofs.lemmas.List.{append-nil}
use Rattle.std.specs.Option.{option_and_then, option_map}
use Rattle.liquid_model.specs.Texts.{Text}
use Rattle.liquid_model.specs.Maps.{listed}
use Rattle.liquid_core.specs.Expression.{Expression, literal, variable, no_steps, step}
use Rattle.liquid_evaluation.specs.Tree.{FilterCall}
use Rattle.liquid_evaluation.specs.ChainView.{chain_filter_view}
use Rattle.liquid_evaluation.specs.declared.chain.ChainFilter.{ChainFilter}
use Rattle.liquid_parser.specs.inside.Called.{TakesFilter}
use Rattle.liquid_lexer.specs.Readers.{Fails, Parses}
use Rattle.liquid_lexer.specs.Tokens.{Token, value, range, symbol, tokens_view, value_first, word_first, is_symbol, past}
use Rattle.liquid_parser.specs.Chains.{Filters}
use Rattle.liquid_parser.specs.ChainReading.{Called, accepted_call, call_with, filters_of, filter_call_after_bar, called_of, arguments_of, further_of, no_arguments, one_argument}
use Rattle.liquid_lexer.specs.declared.item.Item.{Item}
use Rattle.liquid_lexer.specs.declared.symbol.Symbol.TheVariants.{Colon, Comma, Bar}
use Rattle.liquid_lexer.specs.declared.fault.ParseError.{ParseError}
use Rattle.liquid_lexer.specs.declared.fault.ParseError.TheVariants as errors

-- ---- what is left of a list of items

pub left_over : (is : List Item) → nat_eq (length is) 0 ≡ false → length (tokens_view is) ≡ 0 → ⊥
left_over [] h = absurd cc
left_over (i ∷ is) h = λ e. absurd (omega (arith, e))

pub none_left : (is : List Item) → nat_eq (length is) 0 ≡ true → tokens_view is ≡ []
none_left [] h = refl
none_left (i ∷ is) h = let e : nat_eq (suc (length is)) 0 ≡ false = search rules in absurd cc

-- ---- arguments

-- what was read, after the arguments xs
pub with_front : List Expression → Option Called → Option Called
with_front xs o = option_map (λ c. (xs ++ c.0, c.1)) o

pub after_nothing : (o : Option Called) → o ≡ with_front [] o
unfolding with_front
after_nothing None = refl
after_nothing (Some c) = refl

after_last : (xs : List Expression) (x : Expression) (o : Option Called) → with_front xs (one_argument x o) ≡ with_front (xs ++ (x ∷ [])) o
unfolding with_front
after_last xs x None = refl
after_last xs x (Some c) = ap (λ ys. Some (ys, c.1)) (sym (append_assoc xs (x ∷ []) c.0))

after_none : (xs : List Expression) (o : Option (List FilterCall)) → with_front xs (no_arguments o) ≡ option_map (λ calls. (xs, calls)) o
unfolding with_front
after_none xs None = refl
after_none xs (Some calls) = ap (λ ys. Some (ys, calls)) (append-nil xs)

module _ (known : Filters) where
  not_colon_by : (t : Token) (ts : List Token) (b : Bool) → is_symbol Colon t ≡ b → cond b (Some ts) None ≡ None → called_of known (t ∷ ts) ≡ no_arguments (filters_of known (t ∷ ts))
  unfolding filters_of
  not_colon_by t ts true e h = absurd cc
  not_colon_by t ts false e h = ap (λ (b : Bool). cond b (arguments_of known ts) (no_arguments (cond (is_symbol Bar t) (filter_call_after_bar known ts) None))) e

  pub not_colon : (ts : List Token) → past Colon ts ≡ None → called_of known ts ≡ no_arguments (filters_of known ts)
  unfolding filters_of
  not_colon [] h = refl
  not_colon (t ∷ ts) h = not_colon_by t ts (is_symbol Colon t) refl h

  colon_by : (t : Token) (ts rest : List Token) (b : Bool) → is_symbol Colon t ≡ b → cond b (Some ts) None ≡ Some rest → called_of known (t ∷ ts) ≡ arguments_of known rest
  unfolding filters_of
  colon_by t ts rest true e h = let r : ts ≡ rest = cc in ap (λ (b : Bool). cond b (arguments_of known ts) (no_arguments (cond (is_symbol Bar t) (filter_call_after_bar known ts) None))) e ∙ ap (arguments_of known) r
  colon_by t ts rest false e h = absurd cc

  pub colon : (ts rest : List Token) → past Colon ts ≡ Some rest → called_of known ts ≡ arguments_of known rest
  colon [] rest h = absurd cc
  colon (t ∷ ts) rest h = colon_by t ts rest (is_symbol Colon t) refl h

  not_comma_by : (t : Token) (ts : List Token) (b : Bool) → is_symbol Comma t ≡ b → cond b (Some ts) None ≡ None → further_of known (t ∷ ts) ≡ no_arguments (filters_of known (t ∷ ts))
  unfolding filters_of
  not_comma_by t ts true e h = absurd cc
  not_comma_by t ts false e h = ap (λ (b : Bool). cond b (arguments_of known ts) (no_arguments (cond (is_symbol Bar t) (filter_call_after_bar known ts) None))) e

  not_comma : (ts : List Token) → past Comma ts ≡ None → further_of known ts ≡ no_arguments (filters_of known ts)
  unfolding filters_of
  not_comma [] h = refl
  not_comma (t ∷ ts) h = not_comma_by t ts (is_symbol Comma t) refl h

  comma_by : (t : Token) (ts rest : List Token) (b : Bool) → is_symbol Comma t ≡ b → cond b (Some ts) None ≡ Some rest → further_of known (t ∷ ts) ≡ arguments_of known rest
  unfolding filters_of
  comma_by t ts rest true e h = let r : ts ≡ rest = cc in ap (λ (b : Bool). cond b (arguments_of known ts) (no_arguments (cond (is_symbol Bar t) (filter_call_after_bar known ts) None))) e ∙ ap (arguments_of known) r
  comma_by t ts rest false e h = absurd cc

  comma : (ts rest : List Token) → past Comma ts ≡ Some rest → further_of known ts ≡ arguments_of known rest
  comma [] rest h = absurd cc
  comma (t ∷ ts) rest h = comma_by t ts rest (is_symbol Comma t) refl h

  abbrev argument_first : Expression × List Token → Option Called
  argument_first x = one_argument x.0 (further_of known x.1)

  arguments_first : (ts : List Token) → arguments_of known ts ≡ option_and_then argument_first (value_first ts)
  unfolding filters_of
  arguments_first [] = refl
  arguments_first (value x ∷ ts) = refl
  arguments_first (range x y ∷ ts) = refl
  arguments_first (symbol s ∷ ts) = refl

  pub no_value : (xs : List Expression) (ts : List Token) → value_first ts ≡ None → with_front xs (arguments_of known ts) ≡ None
  unfolding with_front
  no_value xs ts h = ap (with_front xs) (arguments_first ts ∙ ap (option_and_then argument_first) h)

  pub one_argument_more : (xs : List Expression) (x : Expression) (all ts rest : List Token) → value_first all ≡ Some (x, ts) → past Comma ts ≡ Some rest → with_front xs (arguments_of known all) ≡ with_front (xs ++ (x ∷ [])) (arguments_of known rest)
  one_argument_more xs x all ts rest e h = ap (with_front xs) (arguments_first all ∙ ap (option_and_then argument_first) e) ∙ after_last xs x (further_of known ts) ∙ ap (with_front (xs ++ (x ∷ []))) (comma ts rest h)

  pub last_argument : (xs : List Expression) (x : Expression) (all ts : List Token) → value_first all ≡ Some (x, ts) → past Comma ts ≡ None → with_front xs (arguments_of known all) ≡ option_map (λ calls. (xs ++ (x ∷ []), calls)) (filters_of known ts)
  last_argument xs x all ts e h =
      ap (with_front xs) (arguments_first all ∙ ap (option_and_then argument_first) e) ∙ after_last xs x (further_of known ts) ∙ ap (with_front (xs ++ (x ∷ []))) (not_comma ts h) ∙ after_none (xs ++ (x ∷ [])) (filters_of known ts)

  -- ---- filters

  -- what was read, after the filters that stood before
  pub filters_after : List FilterCall → Option (List FilterCall) → Option (List FilterCall)
  filters_after before o = option_map (λ calls. before ++ calls) o

  pub filters_nothing : (o : Option (List FilterCall)) → o ≡ filters_after [] o
  unfolding filters_after
  filters_nothing None = refl
  filters_nothing (Some calls) = refl

  pub no_filter : (before : List FilterCall) (ts : List Token) → ts ≡ [] → filters_after before (filters_of known ts) ≡ Some before
  unfolding filters_after filters_of
  no_filter before ts e = ap (λ ts. filters_after before (filters_of known ts)) e ∙ ap Some (append-nil before)

  abbrev pub called_with : Text × List Token → Option (List FilterCall)
  called_with w = option_and_then (call_with known w.0) (called_of known w.1)

  call_first : (ts : List Token) → filter_call_after_bar known ts ≡ option_and_then called_with (word_first ts)
  unfolding filters_of
  call_first [] = refl
  call_first (symbol s ∷ ts) = refl
  call_first (range x y ∷ ts) = refl
  call_first (value (literal d) ∷ ts) = refl
  call_first (value (variable w no_steps) ∷ ts) = refl
  call_first (value (variable w (step x more)) ∷ ts) = refl

  bar_by : (t : Token) (ts : List Token) (b : Bool) (o : Option (List Token)) → is_symbol Bar t ≡ b → cond b (Some ts) None ≡ o → filters_of known (t ∷ ts) ≡ option_and_then (filter_call_after_bar known) o
  unfolding filters_of
  bar_by t ts true o e h = ap (λ (b : Bool). cond b (filter_call_after_bar known ts) None) e ∙ ap (option_and_then (filter_call_after_bar known)) h
  bar_by t ts false o e h = ap (λ (b : Bool). cond b (filter_call_after_bar known ts) None) e ∙ ap (option_and_then (filter_call_after_bar known)) h

  filters_first : (ts : List Token) (o : Option (List Token)) → (length ts ≡ 0 → ⊥) → past Bar ts ≡ o → filters_of known ts ≡ option_and_then (filter_call_after_bar known) o
  filters_first [] o some h = absurd (some refl)
  filters_first (t ∷ ts) o some h = bar_by t ts (is_symbol Bar t) o refl h

  pub no_bar : (before : List FilterCall) (ts : List Token) → (length ts ≡ 0 → ⊥) → past Bar ts ≡ None → filters_after before (filters_of known ts) ≡ None
  unfolding filters_after
  no_bar before ts some h = ap (filters_after before) (filters_first ts None some h)

  module _ (before : List FilterCall) (all ts : List Token) (some : length all ≡ 0 → ⊥) (barred : past Bar all ≡ Some ts) where
    at_bar : filters_of known all ≡ filter_call_after_bar known ts
    at_bar = filters_first all (Some ts) some barred

    pub filter_refused : (e : ParseError) (whole : Option (List FilterCall)) → whole ≡ filters_after before (filters_of known all) → Fails e (filter_call_after_bar known ts) → Fails e whole
    unfolding filters_after
    filter_refused errors.Memory whole g h = tt
    filter_refused (errors.Fault f) whole g h = g ∙ ap (filters_after before) (at_bar ∙ h)

    one_left : (o : Option (List FilterCall)) (c : FilterCall) → filters_after before (option_map (λ calls. c ∷ calls) o) ≡ filters_after (before ++ (c ∷ [])) o
    unfolding filters_after
    one_left None c = refl
    one_left (Some calls) c = ap (λ cs. Some cs) (sym (append_assoc before (c ∷ []) calls))

    pub one_filter : (c : FilterCall) (new : List Token) → filter_call_after_bar known ts ≡ option_map (λ calls. c ∷ calls) (filters_of known new) → filters_after before (filters_of known all) ≡ filters_after (before ++ (c ∷ [])) (filters_of known new)
    one_filter c new h = ap (filters_after before) (at_bar ∙ h) ∙ one_left (filters_of known new) c

  -- ---- a filter after its `|`

  pub no_name : (ts : List Token) → word_first ts ≡ None → filter_call_after_bar known ts ≡ None
  no_name ts h = call_first ts ∙ ap (option_and_then called_with) h

  module _ (ts : List Token) (name : Text) (next : List Token) (named : word_first ts ≡ Some (name, next)) where
    named_call : (o : Option Called) → called_of known next ≡ o → filter_call_after_bar known ts ≡ option_and_then (call_with known name) o
    named_call o h = call_first ts ∙ ap (option_and_then called_with) named ∙ ap (option_and_then (call_with known name)) h

    pub call_refused : (e : ParseError) → Fails e (called_of known next) → Fails e (filter_call_after_bar known ts)
    call_refused errors.Memory h = tt
    call_refused (errors.Fault f) h = named_call None h

    -- after a filter with these arguments
    with_call : (xs : List Expression) (o : Option (List FilterCall)) (call : Option FilterCall) → accepted_call name (listed known name) xs ≡ call → called_of known next ≡ option_map (λ calls. (xs, calls)) o
        → filter_call_after_bar known ts ≡ option_and_then (λ calls. option_map (λ c. c ∷ calls) call) o
    with_call xs None call e h = named_call None h
    with_call xs (Some calls) call e h = named_call (Some (xs, calls)) h ∙ ap (option_map (λ c. c ∷ calls)) e

    nothing_left : (o : Option (List FilterCall)) → option_and_then (λ calls. option_map (λ (c : FilterCall). c ∷ calls) None) o ≡ None
    nothing_left None = refl
    nothing_left (Some calls) = refl

    one_ahead : (c : FilterCall) (o : Option (List FilterCall)) → option_and_then (λ calls. option_map (λ (c : FilterCall). c ∷ calls) (Some c)) o ≡ option_map (λ calls. c ∷ calls) o
    one_ahead c None = refl
    one_ahead c (Some calls) = refl

    pub call_taken : (xs : List Expression) (new : List Token) (r : Result ChainFilter ParseError) → called_of known next ≡ option_map (λ calls. (xs, calls)) (filters_of known new) → Parses chain_filter_view r (accepted_call name (listed known name) xs)
        → TakesFilter known ts new r
    call_taken xs new (Ok c) h p = with_call xs (filters_of known new) (Some (chain_filter_view c)) p h ∙ one_ahead (chain_filter_view c) (filters_of known new)
    call_taken xs new (Err errors.Memory) h p = tt
    call_taken xs new (Err (errors.Fault f)) h p = with_call xs (filters_of known new) None p h ∙ nothing_left (filters_of known new)

-- what is answered where nothing is to be read
pub faulted : {Y : Type 0} (e : ParseError) (read : Option Y) → read ≡ None → Fails e read
faulted errors.Memory read none = tt
faulted (errors.Fault f) read none = none
