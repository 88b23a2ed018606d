-- A chain that is written out is read, and what is read is written so.
use Rattle.std.proofs.Common.{◌≡◌, List, [], ◌∷◌, ◌++◌, length, Bool, true, false, cond, Option, Some, None, refl, sym, ap, subst, ◌∙◌}
use Rattle.std.specs.Option.{option_and_then, option_map}
use Rattle.std.proofs.lemmas.Option.{cond_some}
use Rattle.liquid_core.specs.Expression.{Expression, literal, variable, no_steps, step}
use Rattle.liquid_model.specs.Maps.{listed}
use Rattle.liquid_model.specs.Texts.{Text}
use Rattle.liquid_language.specs.Registered.{registered_counts}
use Rattle.liquid_language.specs.declared.registered_filter.RegisteredFilter.{RegisteredFilter}
use Rattle.liquid_parser.specs.ChainReading.{accepted_call, call_with, filters_of, filter_call_after_bar, called_of, arguments_of, further_of, chain_of}
use Rattle.liquid_parser.specs.Chains.{Filters, further_arguments, arguments, AreFilters, none, filter, IsChain, IsAssign, called_as}
use Rattle.liquid_lexer.specs.Tokens.{Token, value, range, symbol, word, word_of, word_first, past, is_symbol}
use Rattle.liquid_parser.specs.Classification.{assign_of}
use Rattle.liquid_language.specs.Registered.{registered_in}
use Rattle.liquid_evaluation.specs.Tree.{FilterCall, Chain, assign}
use Rattle.liquid_language.specs.declared.registry.Language.{Language}
use Rattle.liquid_lexer.specs.declared.symbol.Symbol.TheVariants.{Equals, NotEquals, LessOrGreater, LessThanEquals, GreaterThanEquals, LessThan, GreaterThan, Assign, Colon, Comma, Bar}
use Rattle.liquid_model.proofs.WordLaws.{bind_some, map_some, from_some}

-- ---- options

module _ (l : Filters) where
  more_again : (vs : List Expression) {fs : List FilterCall} {rest : List Token} → AreFilters l fs rest → filters_of l rest ≡ Some fs → further_of l (further_arguments vs ++ rest) ≡ Some (vs, fs)
  unfolding filters_of
  more_again [] none h = refl
  more_again [] (filter name is counts more) h = ap (λ o. option_map (λ fs. ([], fs)) o) h
  more_again (v ∷ vs) a h = ap (λ o. option_map (λ x. (v ∷ x.0, x.1)) o) (more_again vs a h)

  pub called_again : (vs : List Expression) {fs : List FilterCall} {rest : List Token} → AreFilters l fs rest → filters_of l rest ≡ Some fs → called_of l (arguments vs ++ rest) ≡ Some (vs, fs)
  unfolding filters_of
  called_again [] none h = refl
  called_again [] (filter name is counts more) h = ap (λ o. option_map (λ fs. ([], fs)) o) h
  called_again (v ∷ vs) a h = ap (λ o. option_map (λ x. (v ∷ x.0, x.1)) o) (more_again vs a h)

  call_again : (name : Text) (kind : RegisteredFilter) (xs : List Expression) (fs : List FilterCall) → listed l name ≡ Some kind → registered_counts kind (length xs) ≡ true → call_with l name (xs, fs) ≡ Some (record { filter = called_as name kind; arguments = xs; required = length xs } ∷ fs)
  call_again name kind xs fs known counts =
      ap (λ o. option_map (λ call. call ∷ fs) (accepted_call name o xs)) known ∙ ap (λ (b : Bool). option_map (λ call. call ∷ fs) (cond b (Some (record { filter = called_as name kind; arguments = xs; required = length xs })) None)) counts

  pub filters_again : {fs : List FilterCall} {is : List Token} → AreFilters l fs is → filters_of l is ≡ Some fs
  unfolding filters_of
  filters_again none = refl
  filters_again (filter {filter = kind} {xs = xs} {calls = fs} name known counts more) =
      ap (option_and_then (call_with l name)) (called_again xs more (filters_again more)) ∙ call_again name kind xs fs known counts

  pub chain_again : (c : Chain) (is : List Token) → IsChain l c is → chain_of l is ≡ Some c
  unfolding chain_of
  chain_again c is (rest, spelled, more) = ap (chain_of l) spelled ∙ ap (option_map (λ fs. record { entry = c.entry; filters = fs })) (filters_again more)

-- a symbol is known by its place among all
bar_is : (i : Token) → is_symbol Bar i ≡ true → i ≡ symbol Bar
bar_is (value v) h = absurd cc
bar_is (range v w) h = absurd cc
bar_is (symbol Equals) h = absurd cc
bar_is (symbol NotEquals) h = absurd cc
bar_is (symbol LessOrGreater) h = absurd cc
bar_is (symbol LessThanEquals) h = absurd cc
bar_is (symbol GreaterThanEquals) h = absurd cc
bar_is (symbol LessThan) h = absurd cc
bar_is (symbol GreaterThan) h = absurd cc
bar_is (symbol Assign) h = absurd cc
bar_is (symbol Colon) h = absurd cc
bar_is (symbol Comma) h = absurd cc
bar_is (symbol Bar) h = refl

colon_is : (i : Token) → is_symbol Colon i ≡ true → i ≡ symbol Colon
colon_is (value v) h = absurd cc
colon_is (range v w) h = absurd cc
colon_is (symbol Equals) h = absurd cc
colon_is (symbol NotEquals) h = absurd cc
colon_is (symbol LessOrGreater) h = absurd cc
colon_is (symbol LessThanEquals) h = absurd cc
colon_is (symbol GreaterThanEquals) h = absurd cc
colon_is (symbol LessThan) h = absurd cc
colon_is (symbol GreaterThan) h = absurd cc
colon_is (symbol Assign) h = absurd cc
colon_is (symbol Colon) h = refl
colon_is (symbol Comma) h = absurd cc
colon_is (symbol Bar) h = absurd cc

comma_is : (i : Token) → is_symbol Comma i ≡ true → i ≡ symbol Comma
comma_is (value v) h = absurd cc
comma_is (range v w) h = absurd cc
comma_is (symbol Equals) h = absurd cc
comma_is (symbol NotEquals) h = absurd cc
comma_is (symbol LessOrGreater) h = absurd cc
comma_is (symbol LessThanEquals) h = absurd cc
comma_is (symbol GreaterThanEquals) h = absurd cc
comma_is (symbol LessThan) h = absurd cc
comma_is (symbol GreaterThan) h = absurd cc
comma_is (symbol Assign) h = absurd cc
comma_is (symbol Colon) h = absurd cc
comma_is (symbol Comma) h = refl
comma_is (symbol Bar) h = absurd cc

accepted_takes : (name : Text) (o : Option RegisteredFilter) (xs : List Expression) (call : FilterCall) → accepted_call name o xs ≡ Some call → (kind : RegisteredFilter) × (o ≡ Some kind) × (registered_counts kind (length xs) ≡ true) × (record { filter = called_as name kind; arguments = xs; required = length xs } ≡ call)
accepted_takes name None xs call h = absurd cc
accepted_takes name (Some kind) xs call h =
    let (counts, same) = cond_some (registered_counts kind (length xs)) _ call h in
    (kind, refl, counts, same)

word_is : (i : Token) (w : Text) → word_of i ≡ Some w → i ≡ word w
word_is (value (literal d)) w h = absurd cc
word_is (value (variable u no_steps)) w h = ap (λ (w : Text). word w) (from_some h)
word_is (value (variable u (step v vs))) w h = absurd cc
word_is (range v u) w h = absurd cc
word_is (symbol s) w h = absurd cc

module _ (l : Filters) where
  Called : List Token → List Expression × List FilterCall → Type 0
  Called is x = (rest : List Token) × (is ≡ arguments x.0 ++ rest) × AreFilters l x.1 rest

  More : List Token → List Expression × List FilterCall → Type 0
  More is x = (rest : List Token) × (is ≡ further_arguments x.0 ++ rest) × AreFilters l x.1 rest

  Arguments : List Token → List Expression × List FilterCall → Type 0
  Arguments is x = (v : Expression) × (vs : List Expression) × (rest : List Token) × (x.0 ≡ v ∷ vs) × (is ≡ value v ∷ (further_arguments vs ++ rest)) × AreFilters l x.1 rest

  filters_by : (i : Token) (is : List Token) (fs : List FilterCall) (b : Bool) → is_symbol Bar i ≡ b → cond b (filter_call_after_bar l is) None ≡ Some fs → ((fs : List FilterCall) → filter_call_after_bar l is ≡ Some fs → AreFilters l fs (symbol Bar ∷ is)) → AreFilters l fs (i ∷ is)
  filters_by i is fs true e h go = subst (λ (i : Token). AreFilters l fs (i ∷ is)) (sym (bar_is i e)) (go fs h)
  filters_by i is fs false e h go = absurd cc

  arguments_head : (is : List Token) (x : List Expression × List FilterCall) → Arguments is x → Called (symbol Colon ∷ is) x × More (symbol Comma ∷ is) x
  unfolding Called More Arguments
  arguments_head is x (v, vs, rest, e, f, k) =
      ((rest, ap (λ (is : List Token). symbol Colon ∷ is) f ∙ ap (λ ws. arguments ws ++ rest) (sym e), k), (rest, ap (λ (is : List Token). symbol Comma ∷ is) f ∙ ap (λ ws. further_arguments ws ++ rest) (sym e), k))

  tail_by : (is : List Token) (o : Option (List FilterCall)) (x : List Expression × List FilterCall) → option_map (λ fs. ([], fs)) o ≡ Some x → ((fs : List FilterCall) → o ≡ Some fs → AreFilters l fs is) → Called is x × More is x
  unfolding Called More
  tail_by is o x h go = let m = map_some o _ x h in let f = go m.0 m.1 in subst (λ (x : List Expression × List FilterCall). Called is x × More is x) m.2 ((is, refl, f), (is, refl, f))

  called_by : (i : Token) (is : List Token) (x : List Expression × List FilterCall) (b : Bool) → is_symbol Colon i ≡ b → cond b (arguments_of l is) (option_map (λ fs. ([], fs)) (cond (is_symbol Bar i) (filter_call_after_bar l is) None)) ≡ Some x
      → ((x : List Expression × List FilterCall) → arguments_of l is ≡ Some x → Arguments is x) → ((fs : List FilterCall) → filter_call_after_bar l is ≡ Some fs → AreFilters l fs (symbol Bar ∷ is)) → Called (i ∷ is) x
  called_by i is x true e h args go = subst (λ (i : Token). Called (i ∷ is) x) (sym (colon_is i e)) (arguments_head is x (args x h)).0
  called_by i is x false e h args go = (tail_by (i ∷ is) (cond (is_symbol Bar i) (filter_call_after_bar l is) None) x h (λ fs g. filters_by i is fs (is_symbol Bar i) refl g go)).0

  more_by : (i : Token) (is : List Token) (x : List Expression × List FilterCall) (b : Bool) → is_symbol Comma i ≡ b → cond b (arguments_of l is) (option_map (λ fs. ([], fs)) (cond (is_symbol Bar i) (filter_call_after_bar l is) None)) ≡ Some x
      → ((x : List Expression × List FilterCall) → arguments_of l is ≡ Some x → Arguments is x) → ((fs : List FilterCall) → filter_call_after_bar l is ≡ Some fs → AreFilters l fs (symbol Bar ∷ is)) → More (i ∷ is) x
  more_by i is x true e h args go = subst (λ (i : Token). More (i ∷ is) x) (sym (comma_is i e)) (arguments_head is x (args x h)).1
  more_by i is x false e h args go = (tail_by (i ∷ is) (cond (is_symbol Bar i) (filter_call_after_bar l is) None) x h (λ fs g. filters_by i is fs (is_symbol Bar i) refl g go)).1

  mutual
    unfolding filters_of Called More Arguments

    filters_takes : (is : List Token) (fs : List FilterCall) → filters_of l is ≡ Some fs → AreFilters l fs is
    filters_takes [] fs h = subst (λ fs. AreFilters l fs []) (from_some h) none
    filters_takes (i ∷ is) fs h = filters_by i is fs (is_symbol Bar i) refl h (call_takes is)

    call_takes : (is : List Token) (fs : List FilterCall) → filter_call_after_bar l is ≡ Some fs → AreFilters l fs (symbol Bar ∷ is)
    call_takes [] fs h = absurd cc
    call_takes (i ∷ is) fs h =
        let (w, named, x_is) = bind_some (word_of i) _ fs h in
        let (x, read, made) = bind_some (called_of l is) _ fs x_is in
        let (call, accepted, same) = map_some (accepted_call w (listed l w) x.0) _ fs made in
        let (kind, known, counts, call_is) = accepted_takes w (listed l w) x.0 call accepted in
        let (rest, spelled, more) = called_takes is x read in
        let there : symbol Bar ∷ i ∷ is ≡ symbol Bar ∷ word w ∷ (arguments x.0 ++ rest) = ap (λ (i : Token). symbol Bar ∷ i ∷ is) (word_is i w named) ∙ ap (λ (is : List Token). symbol Bar ∷ word w ∷ is) spelled in
        let is_fs : record { filter = called_as w kind; arguments = x.0; required = length x.0 } ∷ x.1 ≡ fs = ap (λ (c : FilterCall). c ∷ x.1) call_is ∙ same in
        subst (λ fs. AreFilters l fs (symbol Bar ∷ i ∷ is)) is_fs (subst (AreFilters l (record { filter = called_as w kind; arguments = x.0; required = length x.0 } ∷ x.1)) (sym there) (filter w known counts more))

    called_takes : (is : List Token) (x : List Expression × List FilterCall) → called_of l is ≡ Some x → Called is x
    called_takes [] x h = subst (Called []) (from_some h) ([], refl, none)
    called_takes (i ∷ is) x h = called_by i is x (is_symbol Colon i) refl h (arguments_takes is) (call_takes is)

    more_takes : (is : List Token) (x : List Expression × List FilterCall) → further_of l is ≡ Some x → More is x
    more_takes [] x h = subst (More []) (from_some h) ([], refl, none)
    more_takes (i ∷ is) x h = more_by i is x (is_symbol Comma i) refl h (arguments_takes is) (call_takes is)

    arguments_takes : (is : List Token) (x : List Expression × List FilterCall) → arguments_of l is ≡ Some x → Arguments is x
    arguments_takes [] x h = absurd cc
    arguments_takes (symbol s ∷ is) x h = absurd cc
    arguments_takes (range v w ∷ is) x h = absurd cc
    arguments_takes (value v ∷ is) x h =
        let m = map_some (further_of l is) _ x h in
        let (rest, spelled, more) = more_takes is m.0 m.1 in
        subst (Arguments (value v ∷ is)) m.2 (v, m.0.0, rest, refl, ap (λ (is : List Token). value v ∷ is) spelled, more)

  pub chain_takes : (c : Chain) (is : List Token) → chain_of l is ≡ Some c → IsChain l c is
  unfolding chain_of
  chain_takes c [] h = absurd cc
  chain_takes c (symbol s ∷ is) h = absurd cc
  chain_takes c (range v w ∷ is) h = absurd cc
  chain_takes c (value v ∷ is) h =
      let (fs, read, same) = map_some (filters_of l is) _ c h in
      subst (λ (c : Chain). IsChain l c (value v ∷ is)) same (is, refl, filters_takes is fs read)

-- ---- `assign`

assign_is : (i : Token) → is_symbol Assign i ≡ true → i ≡ symbol Assign
assign_is (value v) h = absurd cc
assign_is (range v w) h = absurd cc
assign_is (symbol Equals) h = absurd cc
assign_is (symbol NotEquals) h = absurd cc
assign_is (symbol LessOrGreater) h = absurd cc
assign_is (symbol LessThanEquals) h = absurd cc
assign_is (symbol GreaterThanEquals) h = absurd cc
assign_is (symbol LessThan) h = absurd cc
assign_is (symbol GreaterThan) h = absurd cc
assign_is (symbol Assign) h = refl
assign_is (symbol Colon) h = absurd cc
assign_is (symbol Comma) h = absurd cc
assign_is (symbol Bar) h = absurd cc

pub first_word : (is : List Token) (w : Text) (rest : List Token) → word_first is ≡ Some (w, rest) → is ≡ word w ∷ rest
first_word [] w rest h = absurd cc
first_word (value (literal d) ∷ is) w rest h = absurd cc
first_word (value (variable u no_steps) ∷ is) w rest h = let e : (u, is) ≡ (w, rest) = from_some h in ap (λ (x : Text × List Token). word x.0 ∷ x.1) e
first_word (value (variable u (step v vs)) ∷ is) w rest h = absurd cc
first_word (range v u ∷ is) w rest h = absurd cc
first_word (symbol s ∷ is) w rest h = absurd cc

past_assign : (is : List Token) (rest : List Token) → past Assign is ≡ Some rest → is ≡ symbol Assign ∷ rest
past_assign [] rest h = absurd cc
past_assign (i ∷ is) rest h =
    let (e, same) = cond_some (is_symbol Assign i) is rest h in
    ap (λ (i : Token). i ∷ is) (assign_is i e) ∙ ap (λ (is : List Token). symbol Assign ∷ is) same

module _ (l : Language) where
  pub assign_takes : (w : Text) (c : Chain) (is : List Token) → assign_of l is ≡ Some (assign w c) → IsAssign (registered_in l.filters) w c is
  assign_takes w c is h =
      let (x, named, more) = bind_some (word_first is) _ (assign w c) h in
      let (rest, following, made) = bind_some (past Assign x.1) _ (assign w c) more in
      let (d, read, same) = map_some (chain_of (registered_in l.filters) rest) (assign x.0) (assign w c) made in
      let named_so : x.0 ≡ w = cc in
      let chain_so : d ≡ c = cc in (
        rest,
        first_word is x.0 x.1 named ∙ ap (λ (is : List Token). word x.0 ∷ is) (past_assign x.1 rest following) ∙ ap (λ (w : Text). word w ∷ symbol Assign ∷ rest) named_so,
        chain_takes (registered_in l.filters) c rest (read ∙ ap Some chain_so),
      )

  pub assign_again : (w : Text) (c : Chain) (is : List Token) → IsAssign (registered_in l.filters) w c is → assign_of l is ≡ Some (assign w c)
  assign_again w c is (rest, spelled, chained) = ap (assign_of l) spelled ∙ ap (option_map (assign w)) (chain_again (registered_in l.filters) c rest chained)
