-- Values, loops and pairs are read just where the grammar says so.
use Rattle.std.proofs.Common.{◌≡◌, ◌<◌, suc, nat_eq, rules, List, [], ◌∷◌, ◌++◌, length, Bool, true, false, codes, cond, Option, Some, None, refl, sym, ap, subst, ◌∙◌, arith, append_assoc}
use Rattle.std.specs.Option.{option_and_then, option_map}
use Rattle.std.proofs.lemmas.Option.{cond_some}
use Rattle.liquid_core.specs.Expression.{Expression}
use Rattle.liquid_model.specs.Texts.{Text}
use Rattle.liquid_lexer.specs.Tokens.{Token, value, range, symbol, word, value_first, word_first, past, past_word, is_symbol, is_word}
use Rattle.liquid_lexer.specs.Tokens.{tokens_view}
use Rattle.liquid_lexer.specs.declared.item.Item.{Item}
use Rattle.liquid_lexer.specs.declared.symbol.Symbol.{Symbol}
use Rattle.liquid_lexer.specs.declared.symbol.Symbol.TheVariants.{Colon, Comma}
use Rattle.liquid_model.proofs.WordLaws.{bind_some, map_some, from_some}
use Rattle.liquid_evaluation.specs.Tree.{Bindings, Source, each_of, counted}
use Rattle.liquid_parser.specs.Bound.{ArePairs, IsOneOf, IsPair, IsPairsEnd, a_pair, any_item, after_comma, ends_pairs, is_separated, last_comma, mark_of, no_item, one_first, pair_first, bound_pairs, past_comma, unseparated}
use Rattle.liquid_parser.specs.Loops.{source_token, source_of, source_first, Part, limit_is, offset_is, cols_is, is_reversed, IsLoopPart, a_limit, an_offset, a_reversal, a_width, Parts, no_parts, with_parts, with_part, IsNothing, is_nothing, Head, head_with, IsLoop, a_loop, part_value, read_or_else, own_part, part_first, parts_of, parts_after, loop_of}
use Rattle.liquid_parser.specs.Repeated.{AreRepeated}
use Rattle.liquid_parser.specs.ValueLists.{IsSeparator, a_comma, an_or, IsFurther, a_further, no_separator, IsValuesEnd, no_value, a_last_comma, AreValues, some_values, is_separator, without_separator, past_separator, further_first, ends_values, further_of, values_of}
use Rattle.liquid_parser.specs.declared.loop_items.LoopTag.{LoopTag}
use Rattle.liquid_parser.specs.declared.loop_items.LoopTag.TheVariants.{Each, Rows}
use Rattle.liquid_parser.specs.declared.pair_items.PairStyle.{PairStyle}
use Rattle.liquid_parser.specs.declared.pair_items.PairStyle.TheVariants.{Include, JekyllInclude, Render}
use Rattle.liquid_parser.specs.declared.value_items.Separators.{Separators}
use Rattle.liquid_parser.specs.declared.value_items.Separators.TheVariants.{Commas, CommasOr, OptionalCommas}
use Rattle.liquid_parser.proofs.ConditionLaws.{word_is}
use Rattle.liquid_parser.proofs.Printed.{first_word}
use Rattle.liquid_parser.proofs.Repetition.{after_those, repeated_takes, repeated_again, more_turn, end_turn, stuck_turn}
use Rattle.liquid_parser.proofs.TokenLaws.{symbol_is, past_again, past_is, past_word_is, first_value, cut_shorter}

-- ---- values

comma_is : (s : Separators) (t : Token) → is_symbol Comma t ≡ true → IsSeparator s (t ∷ [])
comma_is s t h = subst (λ (t : Token). IsSeparator s (t ∷ [])) (sym (symbol_is Comma t h)) a_comma

or_is : (t : Token) (b : Bool) → is_symbol Comma t ≡ b → cond b true (is_word (codes "or") t) ≡ true → IsSeparator CommasOr (t ∷ [])
or_is t true e h = comma_is CommasOr t e
or_is t false e h = subst (λ (t : Token). IsSeparator CommasOr (t ∷ [])) (sym (word_is (codes "or") t h)) an_or

separator_is : (s : Separators) (t : Token) → is_separator s t ≡ true → IsSeparator s (t ∷ [])
separator_is Commas t h = comma_is Commas t h
separator_is CommasOr t h = or_is t (is_symbol Comma t) refl h
separator_is OptionalCommas t h = comma_is OptionalCommas t h

no_separator_is : (s : Separators) (ts rest : List Token) → without_separator s ts ≡ Some rest → (us : List Token) × (ts ≡ us ++ rest) × IsSeparator s us
no_separator_is Commas ts rest h = absurd cc
no_separator_is CommasOr ts rest h = absurd cc
no_separator_is OptionalCommas ts rest h = ([], from_some h, no_separator)

separated_by : (s : Separators) (t : Token) (ts rest : List Token) (b : Bool) → is_separator s t ≡ b → cond b (Some ts) (without_separator s (t ∷ ts)) ≡ Some rest → (us : List Token) × (t ∷ ts ≡ us ++ rest) × IsSeparator s us
separated_by s t ts rest true e h = (t ∷ [], ap (λ (ts : List Token). t ∷ ts) (from_some h), separator_is s t e)
separated_by s t ts rest false e h = no_separator_is s (t ∷ ts) rest h

past_separator_is : (s : Separators) (ts rest : List Token) → past_separator s ts ≡ Some rest → (us : List Token) × (ts ≡ us ++ rest) × IsSeparator s us
past_separator_is s [] rest h = no_separator_is s [] rest h
past_separator_is s (t ∷ ts) rest h = separated_by s t ts rest (is_separator s t) refl h

further_takes : (s : Separators) (ts : List Token) (x : Expression) (rest : List Token) → further_first s ts ≡ Some (x, rest) → (us : List Token) × (ts ≡ us ++ rest) × IsFurther s x us
further_takes s ts x rest h =
    let (mid, following, front) = bind_some (past_separator s ts) value_first (x, rest) h in
    let (us, cut, is) = past_separator_is s ts mid following in
    (us ++ value x ∷ [], cut ∙ ap (λ (ts : List Token). us ++ ts) (first_value mid x rest front) ∙ sym (append_assoc us (value x ∷ []) rest), a_further x is)

further_again : (s : Separators) (x : Expression) (ts rest : List Token) → IsFurther s x ts → (further_first s (ts ++ rest) ≡ Some (x, rest)) × (ends_values s (ts ++ rest) ≡ false)
further_again Commas x ts rest (a_further y a_comma) = (refl, refl)
further_again CommasOr x ts rest (a_further y a_comma) = (refl, refl)
further_again CommasOr x ts rest (a_further y an_or) = (refl, refl)
further_again OptionalCommas x ts rest (a_further y a_comma) = (refl, refl)
further_again OptionalCommas x ts [] (a_further y no_separator) = (refl, refl)
further_again OptionalCommas x ts (t ∷ rest) (a_further y no_separator) = (refl, refl)

further_long : (s : Separators) (x : Expression) (ts : List Token) → IsFurther s x ts → 0 < length ts
further_long s x ts (a_further y a_comma) = omega arith
further_long s x ts (a_further y an_or) = omega arith
further_long s x ts (a_further y no_separator) = omega arith

pub further_shorter : (s : Separators) (ts : List Token) (x : Expression × List Token) → further_first s ts ≡ Some x → length x.1 < length ts
further_shorter s ts x h = let (us, cut, is) = further_takes s ts x.0 x.1 h in cut_shorter ts us x.1 cut (further_long s x.0 us is)

values_end_is : (s : Separators) (ts : List Token) → ends_values s ts ≡ true → IsValuesEnd s ts
values_end_is s [] h = no_value
values_end_is Commas (t ∷ []) h = subst (λ (t : Token). IsValuesEnd Commas (t ∷ [])) (sym (symbol_is Comma t h)) a_last_comma
values_end_is CommasOr (t ∷ []) h = absurd cc
values_end_is OptionalCommas (t ∷ []) h = absurd cc
values_end_is s (t ∷ u ∷ ts) h = absurd cc

values_end_again : (s : Separators) (ts : List Token) → IsValuesEnd s ts → ends_values s ts ≡ true
values_end_again s ts no_value = refl
values_end_again s ts a_last_comma = refl

pub all_further_takes : (s : Separators) (xs : List Expression) (ts : List Token) → further_of s ts ≡ Some xs → AreRepeated (IsFurther s) (IsValuesEnd s) xs ts
all_further_takes s xs ts h = repeated_takes (further_first s) (ends_values s) (further_shorter s) (IsFurther s) (IsValuesEnd s) (further_takes s) (further_again s) (values_end_is s) (values_end_again s) ts xs h

pub all_further_again : (s : Separators) (xs : List Expression) (ts : List Token) → AreRepeated (IsFurther s) (IsValuesEnd s) xs ts → further_of s ts ≡ Some xs
all_further_again s xs ts is = repeated_again (further_first s) (ends_values s) (further_shorter s) (IsFurther s) (IsValuesEnd s) (further_takes s) (further_again s) (values_end_is s) (values_end_again s) xs ts is

pub values_takes : (s : Separators) (xs : List Expression) (ts : List Token) → values_of s ts ≡ Some xs → AreValues s xs ts
values_takes s xs ts h =
    let (x, front, more) = bind_some (value_first ts) _ xs h in
    let (ys, read, same) = map_some (further_of s x.1) (λ ys. x.0 ∷ ys) xs more in
    subst (λ (xs : List Expression). AreValues s xs ts) same (subst (λ (ts : List Token). AreValues s (x.0 ∷ ys) ts) (sym (first_value ts x.0 x.1 front)) (some_values x.0 (all_further_takes s ys x.1 read)))

pub values_again : (s : Separators) (xs : List Expression) (ts : List Token) → AreValues s xs ts → values_of s ts ≡ Some xs
values_again s xs ts (some_values {xs = ys} {ts = us} x more) = ap (λ (o : Option (List Expression)). option_map (λ ys. x ∷ ys) o) (all_further_again s ys us more)

-- ---- in the loop that reads values

pub further_begin : (x : Expression) (o : Option (List Expression)) → option_map (λ xs. x ∷ xs) o ≡ after_those (x ∷ []) o
unfolding after_those
further_begin x o = refl

pub values_begin : (s : Separators) (ts : List Token) (x : Expression) (rest : List Token) → value_first ts ≡ Some (x, rest) → values_of s ts ≡ option_map (λ xs. x ∷ xs) (further_of s rest)
values_begin s ts x rest h = ap (option_and_then (λ x. option_map (λ xs. x.0 ∷ xs) (further_of s x.1))) h

-- ---- loops

part_value_is : (make : Expression → Part) (ts : List Token) (p : Part) (rest : List Token) → part_value make ts ≡ Some (p, rest) → (x : Expression) × (ts ≡ symbol Colon ∷ value x ∷ rest) × (make x ≡ p)
part_value_is make ts p rest h =
    let (mid, following, more) = bind_some (past Colon ts) _ (p, rest) h in
    let (x, front, same) = map_some (value_first mid) (λ x. (make x.0, x.1)) (p, rest) more in
    (x.0, past_is Colon ts mid following ∙ ap (λ (ts : List Token). symbol Colon ∷ ts) (first_value mid x.0 x.1 front) ∙ ap (λ (y : Part × List Token). symbol Colon ∷ value x.0 ∷ y.1) same, ap (λ (y : Part × List Token). y.0) same)

valued_takes : (k : LoopTag) (w : Text) (make : Expression → Part) (rule : (x : Expression) → IsLoopPart k (make x) (word w ∷ symbol Colon ∷ value x ∷ [])) (ts mid : List Token) (p : Part) (rest : List Token)
    → past_word w ts ≡ Some mid → part_value make mid ≡ Some (p, rest) → (us : List Token) × (ts ≡ us ++ rest) × IsLoopPart k p us
valued_takes k w make rule ts mid p rest e h =
    let (x, cut, same) = part_value_is make mid p rest h in
    (word w ∷ symbol Colon ∷ value x ∷ [], past_word_is w ts mid e ∙ ap (λ (ts : List Token). word w ∷ ts) cut, subst (λ (p : Part). IsLoopPart k p (word w ∷ symbol Colon ∷ value x ∷ [])) same (rule x))

own_takes : (k : LoopTag) (ts : List Token) (p : Part) (rest : List Token) → own_part k ts ≡ Some (p, rest) → (us : List Token) × (ts ≡ us ++ rest) × IsLoopPart k p us
own_takes Each ts p rest h =
    let (mid, front, same) = map_some (past_word (codes "reversed") ts) (λ rest. (is_reversed, rest)) (p, rest) h in
    let is : is_reversed ≡ p = ap (λ (y : Part × List Token). y.0) same in
    (word (codes "reversed") ∷ [], past_word_is (codes "reversed") ts mid front ∙ ap (λ (y : Part × List Token). word (codes "reversed") ∷ y.1) same, subst (λ (p : Part). IsLoopPart Each p (word (codes "reversed") ∷ [])) is a_reversal)
own_takes Rows ts p rest h =
    let (mid, front, more) = bind_some (past_word (codes "cols") ts) (part_value cols_is) (p, rest) h in
    valued_takes Rows (codes "cols") cols_is (λ x. a_width x) ts mid p rest front more

offset_takes : (k : LoopTag) (ts : List Token) (p : Part) (rest : List Token) (o : Option (List Token)) → past_word (codes "offset") ts ≡ o → read_or_else o (part_value offset_is) (own_part k ts) ≡ Some (p, rest) → (us : List Token) × (ts ≡ us ++ rest) × IsLoopPart k p us
offset_takes k ts p rest None e h = own_takes k ts p rest h
offset_takes k ts p rest (Some mid) e h = valued_takes k (codes "offset") offset_is (λ x. an_offset x) ts mid p rest e h

limit_takes : (k : LoopTag) (ts : List Token) (p : Part) (rest : List Token) (o : Option (List Token)) → past_word (codes "limit") ts ≡ o
    → read_or_else o (part_value limit_is) (read_or_else (past_word (codes "offset") ts) (part_value offset_is) (own_part k ts)) ≡ Some (p, rest) → (us : List Token) × (ts ≡ us ++ rest) × IsLoopPart k p us
limit_takes k ts p rest None e h = offset_takes k ts p rest (past_word (codes "offset") ts) refl h
limit_takes k ts p rest (Some mid) e h = valued_takes k (codes "limit") limit_is (λ x. a_limit x) ts mid p rest e h

part_takes : (k : LoopTag) (ts : List Token) (p : Part) (rest : List Token) → part_first k ts ≡ Some (p, rest) → (us : List Token) × (ts ≡ us ++ rest) × IsLoopPart k p us
part_takes k ts p rest h = limit_takes k ts p rest (past_word (codes "limit") ts) refl h

part_again : (k : LoopTag) (p : Part) (ts rest : List Token) → IsLoopPart k p ts → (part_first k (ts ++ rest) ≡ Some (p, rest)) × (is_nothing (ts ++ rest) ≡ false)
part_again k p ts rest (a_limit x) = (refl, refl)
part_again k p ts rest (an_offset x) = (refl, refl)
part_again k p ts rest a_reversal = (refl, refl)
part_again k p ts rest (a_width x) = (refl, refl)

part_long : (k : LoopTag) (p : Part) (ts : List Token) → IsLoopPart k p ts → 0 < length ts
part_long k p ts (a_limit x) = omega arith
part_long k p ts (an_offset x) = omega arith
part_long k p ts a_reversal = omega arith
part_long k p ts (a_width x) = omega arith

pub part_shorter : (k : LoopTag) (ts : List Token) (x : Part × List Token) → part_first k ts ≡ Some x → length x.1 < length ts
part_shorter k ts x h = let (us, cut, is) = part_takes k ts x.0 x.1 h in cut_shorter ts us x.1 cut (part_long k x.0 us is)

nothing_is : (ts : List Token) → is_nothing ts ≡ true → ts ≡ []
nothing_is [] h = refl
nothing_is (t ∷ ts) h = absurd cc

nothing_again : (ts : List Token) → ts ≡ [] → is_nothing ts ≡ true
nothing_again ts h = ap is_nothing h

source_is : (t : Token) (s : Source) → source_of t ≡ Some s → t ≡ source_token s
source_is (value x) s h = ap source_token (from_some h)
source_is (range x y) s h = ap source_token (from_some h)
source_is (symbol u) s h = absurd cc

pub first_source : (ts : List Token) (s : Source) (rest : List Token) → source_first ts ≡ Some (s, rest) → ts ≡ source_token s ∷ rest
first_source [] s rest h = absurd cc
first_source (t ∷ ts) s rest h =
    let (u, is, same) = map_some (source_of t) (λ s. (s, ts)) (s, rest) h in
    ap (λ (t : Token). t ∷ ts) (source_is t u is) ∙ ap (λ (y : Source × List Token). source_token y.0 ∷ y.1) same

source_again : (s : Source) (ts : List Token) → source_first (source_token s ∷ ts) ≡ Some (s, ts)
source_again (each_of x) ts = refl
source_again (counted x y) ts = refl

pub loop_takes : (k : LoopTag) (h : Head) (ts : List Token) → loop_of k ts ≡ Some h → IsLoop k h ts
loop_takes k head ts h =
    let (w, named, more) = bind_some (word_first ts) _ head h in
    let (rest, following, over) = bind_some (past_word (codes "in") w.1) _ head more in
    let (s, front, parts) = bind_some (source_first rest) _ head over in
    let (ps, parts_read, same) = map_some (parts_after k no_parts s.1) (head_with w.0 s.0) head parts in
    let (qs, read, is) = map_some (parts_of k s.1) (with_parts no_parts) ps parts_read in
    let there : ts ≡ word w.0 ∷ word (codes "in") ∷ source_token s.0 ∷ s.1 =
    first_word ts w.0 w.1 named ∙ ap (λ (ts : List Token). word w.0 ∷ ts) (past_word_is (codes "in") w.1 rest following) ∙ ap (λ (ts : List Token). word w.0 ∷ word (codes "in") ∷ ts) (first_source rest s.0 s.1 front) in
    let all = repeated_takes (part_first k) is_nothing (part_shorter k) (IsLoopPart k) IsNothing (part_takes k) (part_again k) nothing_is nothing_again s.1 qs read in
    subst (λ (head : Head). IsLoop k head ts) (ap (head_with w.0 s.0) is ∙ same) (subst (λ (ts : List Token). IsLoop k (head_with w.0 s.0 (with_parts no_parts qs)) ts) (sym there) (a_loop w.0 s.0 all))

after_source : LoopTag → Text → Source × List Token → Option Head
after_source k w s = option_map (head_with w s.0) (parts_after k no_parts s.1)

pub loop_again : (k : LoopTag) (h : Head) (ts : List Token) → IsLoop k h ts → loop_of k ts ≡ Some h
unfolding after_source
loop_again k head ts (a_loop {ps = ps} {ts = us} w s more) =
    ap (λ (o : Option (Source × List Token)). option_and_then (after_source k w) o) (source_again s us)
    ∙ ap (λ (o : Option (List Part)). option_map (head_with w s) (option_map (with_parts no_parts) o))
    (repeated_again (part_first k) is_nothing (part_shorter k) (IsLoopPart k) IsNothing (part_takes k) (part_again k) nothing_is nothing_again ps us more)

-- ---- in the loop that reads parts

resolve_more : (ps : Parts) (p : Part) (o : Option (List Part)) → option_map (with_parts ps) (option_map (λ ps. p ∷ ps) o) ≡ option_map (with_parts (with_part ps p)) o
resolve_more ps p None = refl
resolve_more ps p (Some qs) = refl

pub one_part_more : (k : LoopTag) (ps : Parts) (ts : List Token) (p : Part) (rest : List Token) → is_nothing ts ≡ false → part_first k ts ≡ Some (p, rest) → parts_after k ps ts ≡ parts_after k (with_part ps p) rest
one_part_more k ps ts p rest e h = ap (option_map (with_parts ps)) (more_turn (part_first k) is_nothing (part_shorter k) ts p rest e h) ∙ resolve_more ps p (parts_of k rest)

pub no_part_more : (k : LoopTag) (ps : Parts) (ts : List Token) → is_nothing ts ≡ true → parts_after k ps ts ≡ Some ps
no_part_more k ps ts e = ap (option_map (with_parts ps)) (end_turn (part_first k) is_nothing (part_shorter k) ts e)

pub no_part_there : (k : LoopTag) (ps : Parts) (ts : List Token) → is_nothing ts ≡ false → part_first k ts ≡ None → parts_after k ps ts ≡ None
no_part_there k ps ts e h = ap (option_map (with_parts ps)) (stuck_turn (part_first k) is_nothing (part_shorter k) ts e h)

-- no item is left just where no token is
pub nothing_seen : (is : List Item) (b : Bool) → nat_eq (length is) 0 ≡ b → is_nothing (tokens_view is) ≡ b
nothing_seen [] b h = let e : nat_eq 0 0 ≡ true = refl in sym e ∙ h
nothing_seen (i ∷ is) b h = let e : nat_eq (suc (length is)) 0 ≡ false = search rules in sym e ∙ h

-- ---- pairs

pub pair_takes : (s : Symbol) (ts : List Token) (p : Text × Expression) (rest : List Token) → pair_first s ts ≡ Some (p, rest) → (us : List Token) × (ts ≡ us ++ rest) × IsPair s p us
pair_takes s ts p rest h =
    let (w, named, more) = bind_some (word_first ts) _ (p, rest) h in
    let (mid, following, last) = bind_some (past s w.1) _ (p, rest) more in
    let (x, front, same) = map_some (value_first mid) _ (p, rest) last in
    let is : (w.0, x.0) ≡ p = ap (λ (y : (Text × Expression) × List Token). y.0) same in (
      word w.0 ∷ symbol s ∷ value x.0 ∷ [],
      first_word ts w.0 w.1 named ∙ ap (λ (ts : List Token). word w.0 ∷ ts) (past_is s w.1 mid following) ∙ ap (λ (ts : List Token). word w.0 ∷ symbol s ∷ ts) (first_value mid x.0 x.1 front) ∙ ap (λ (y : (Text × Expression) × List Token). word w.0 ∷ symbol s ∷ value x.0 ∷ y.1) same,
      subst (λ (p : Text × Expression). IsPair s p (word w.0 ∷ symbol s ∷ value x.0 ∷ [])) is (a_pair w.0 x.0),
    )

after_name : Text → List Token → Option ((Text × Expression) × List Token)
after_name w rest = option_map (λ x. ((w, x.0), x.1)) (value_first rest)

pair_read : (s : Symbol) (p : Text × Expression) (ts rest : List Token) → IsPair s p ts → pair_first s (ts ++ rest) ≡ Some (p, rest)
unfolding after_name
pair_read s p ts rest (a_pair w x) = ap (λ (o : Option (List Token)). option_and_then (after_name w) o) (past_again s (value x ∷ rest))

pair_long : (s : Symbol) (p : Text × Expression) (ts : List Token) → IsPair s p ts → 0 < length ts
pair_long s p ts (a_pair w x) = omega arith

-- one of the pairs
one_by : (k : PairStyle) (ts mid us rest : List Token) (p : Text × Expression) (b : Bool) → is_separated k ≡ b → past_comma b ts ≡ Some mid → mid ≡ us ++ rest → IsPair (mark_of k) p us → (vs : List Token) × (ts ≡ vs ++ rest) × IsOneOf k p vs
one_by k ts mid us rest p true e following cut is = (symbol Comma ∷ us, past_is Comma ts mid following ∙ ap (λ (ts : List Token). symbol Comma ∷ ts) cut, after_comma e is)
one_by k ts mid us rest p false e following cut is = (us, from_some following ∙ cut, unseparated e is)

one_takes : (k : PairStyle) (ts : List Token) (p : Text × Expression) (rest : List Token) → one_first k ts ≡ Some (p, rest) → (us : List Token) × (ts ≡ us ++ rest) × IsOneOf k p us
one_takes k ts p rest h =
    let (mid, following, more) = bind_some (past_comma (is_separated k) ts) (pair_first (mark_of k)) (p, rest) h in
    let (us, cut, is) = pair_takes (mark_of k) mid p rest more in
    one_by k ts mid us rest p (is_separated k) refl following cut is

one_again : (k : PairStyle) (p : Text × Expression) (ts rest : List Token) → IsOneOf k p ts → (one_first k (ts ++ rest) ≡ Some (p, rest)) × (ends_pairs k (ts ++ rest) ≡ false)
one_again k p ts rest (after_comma e (a_pair w x)) =
    let all = word w ∷ symbol (mark_of k) ∷ value x ∷ rest in (
      ap (λ (b : Bool). option_and_then (pair_first (mark_of k)) (past_comma b (symbol Comma ∷ all))) e ∙ pair_read (mark_of k) (w, x) (word w ∷ symbol (mark_of k) ∷ value x ∷ []) rest (a_pair w x),
      refl,
    )
one_again k p ts rest (unseparated e (a_pair w x)) =
    let all = word w ∷ symbol (mark_of k) ∷ value x ∷ rest in (
      ap (λ (b : Bool). option_and_then (pair_first (mark_of k)) (past_comma b all)) e ∙ pair_read (mark_of k) (w, x) (word w ∷ symbol (mark_of k) ∷ value x ∷ []) rest (a_pair w x),
      refl,
    )

one_long : (k : PairStyle) (p : Text × Expression) (ts : List Token) → IsOneOf k p ts → 0 < length ts
one_long k p ts (after_comma e is) = omega arith
one_long k p ts (unseparated e is) = pair_long (mark_of k) p ts is

pub one_shorter : (k : PairStyle) (ts : List Token) (x : (Text × Expression) × List Token) → one_first k ts ≡ Some x → length x.1 < length ts
one_shorter k ts x h = let (us, cut, is) = one_takes k ts x.0 x.1 h in cut_shorter ts us x.1 cut (one_long k x.0 us is)

pairs_end_is : (k : PairStyle) (ts : List Token) → ends_pairs k ts ≡ true → IsPairsEnd k ts
pairs_end_is k [] h = no_item
pairs_end_is Include (t ∷ []) h = any_item t
pairs_end_is JekyllInclude (t ∷ []) h = absurd cc
pairs_end_is Render (t ∷ []) h = subst (λ (t : Token). IsPairsEnd Render (t ∷ [])) (sym (symbol_is Comma t h)) last_comma
pairs_end_is k (t ∷ u ∷ ts) h = absurd cc

pairs_end_again : (k : PairStyle) (ts : List Token) → IsPairsEnd k ts → ends_pairs k ts ≡ true
pairs_end_again k ts no_item = refl
pairs_end_again k ts (any_item t) = refl
pairs_end_again k ts last_comma = refl

pub pairs_takes : (k : PairStyle) (ps : Bindings) (ts : List Token) → bound_pairs k ts ≡ Some ps → ArePairs k ps ts
pairs_takes k ps ts h = repeated_takes (one_first k) (ends_pairs k) (one_shorter k) (IsOneOf k) (IsPairsEnd k) (one_takes k) (one_again k) (pairs_end_is k) (pairs_end_again k) ts ps h

pub pairs_again : (k : PairStyle) (ps : Bindings) (ts : List Token) → ArePairs k ps ts → bound_pairs k ts ≡ Some ps
pairs_again k ps ts h = repeated_again (one_first k) (ends_pairs k) (one_shorter k) (IsOneOf k) (IsPairsEnd k) (one_takes k) (one_again k) (pairs_end_is k) (pairs_end_again k) ps ts h
