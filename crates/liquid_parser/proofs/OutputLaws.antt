-- Outputs are read as just what the written grammar says that they are.
use Rattle.std.proofs.Common.{◌≡◌, ◌↔◌, suc, ◌-◌, ◌<◌, ◌≤◌, List, [], ◌∷◌, ◌++◌, map, take, get_or, length, Bool, true, false, ◌&&◌, cond, Option, Some, None, codes, reverse, refl, sym, ap, subst, ◌∙◌, arith}
use Rattle.std.proofs.lemmas.List.{map-append, reverse-append, reverse-reverse}
use Rattle.std.proofs.lemmas.Option.{cond_some}
use Rattle.std.specs.Option.{option_map}
use Rattle.liquid_evaluation.specs.Escaped.{escaped_node}
use Rattle.liquid_evaluation.specs.Tree.{Chain, Node, output}
use Rattle.liquid_language.specs.Registered.{registered_in}
use Rattle.liquid_language.specs.declared.registry.Language.{Language}
use Rattle.liquid_lexer.specs.PieceView.{item_view}
use Rattle.liquid_lexer.specs.Tokens.{Token, is_symbol, is_word, symbol, token_of, tokens_view, word}
use Rattle.liquid_lexer.specs.declared.item.Item.{Item}
use Rattle.liquid_lexer.specs.declared.symbol.Symbol.TheVariants.{Bar}
use Rattle.liquid_model.proofs.WordLaws.{map_some}
use Rattle.liquid_parser.specs.ChainReading.{chain_of}
use Rattle.liquid_parser.specs.OutputLaw.{IsOfChain}
use Rattle.liquid_parser.specs.Outputs.{IsOutput, is_shown, is_left, after_raw, as_it_is, before_raw, is_raw_end, left_raw, node_or, output_of, raw_end, shown_node}
use Rattle.liquid_parser.proofs.ConditionLaws.{word_is}
use Rattle.liquid_parser.proofs.Printed.{chain_takes, chain_again}
use Rattle.liquid_parser.proofs.TokenLaws.{symbol_is}

-- ---- the grammar

module _ (l : Language) where
  reads_as : (n : Node) (ts : List Token) (o : Option (List Token)) → left_raw l ts ≡ o → node_or l ts o ≡ Some n → IsOutput l n ts
  reads_as n ts None e h =
      let (c, read, same) = map_some (chain_of (registered_in l.filters) ts) (λ c. shown_node l (output c)) n h in
      subst (λ (n : Node). IsOutput l n ts) same (is_shown e (chain_takes (registered_in l.filters) c ts read))
  reads_as n ts (Some front) e h =
      let (c, read, same) = map_some (chain_of (registered_in l.filters) front) output n h in
      subst (λ (n : Node). IsOutput l n ts) same (is_left e (chain_takes (registered_in l.filters) c front read))

  pub output_takes : (n : Node) (ts : List Token) → output_of l ts ≡ Some n → IsOutput l n ts
  output_takes n ts h = reads_as n ts (left_raw l ts) refl h

  pub output_again : (n : Node) (ts : List Token) → IsOutput l n ts → output_of l ts ≡ Some n
  output_again n ts (is_shown {c = c} e h) = ap (node_or l ts) e ∙ ap (λ (o : Option Chain). option_map (λ c. shown_node l (output c)) o) (chain_again (registered_in l.filters) c ts h)
  output_again n ts (is_left {c = c} {front = front} e h) = ap (node_or l ts) e ∙ ap (λ (o : Option Chain). option_map output o) (chain_again (registered_in l.filters) c front h)

-- ---- `| raw` at the end

-- the last two of a list
last_two : {A : Type 0} (xs : List A) (x y : A) → 2 ≤ length xs → x ≡ get_or xs (length xs - 2) x → y ≡ get_or xs (length xs - 1) y → xs ≡ take (length xs - 2) xs ++ x ∷ y ∷ []
last_two [] x y long a b = absurd (omega (arith, long))
last_two (u ∷ []) x y long a b = absurd (omega (arith, long))
last_two (u ∷ v ∷ []) x y long a b = ap (λ w. w ∷ v ∷ []) (sym a) ∙ ap (λ w. x ∷ w ∷ []) (sym b)
last_two {A = A} (u ∷ v ∷ w ∷ xs) x y long a b =
    let n : length (u ∷ v ∷ w ∷ xs) - 2 ≡ suc (length (v ∷ w ∷ xs) - 2) = omega arith in
    let m : length (u ∷ v ∷ w ∷ xs) - 1 ≡ suc (length (v ∷ w ∷ xs) - 1) = omega arith in
    ap (λ (l : List A). u ∷ l) (last_two (v ∷ w ∷ xs) x y (omega arith) (a ∙ ap (λ n. get_or (u ∷ v ∷ w ∷ xs) n x) n) (b ∙ ap (λ n. get_or (u ∷ v ∷ w ∷ xs) n y) m))
    ∙ ap (λ n. take n (u ∷ v ∷ w ∷ xs) ++ x ∷ y ∷ []) (sym n)

pub before_last_two : (ts : List Token) (a b : Token) → before_raw (ts ++ a ∷ b ∷ []) ≡ cond (is_raw_end b a) (Some ts) None
before_last_two ts a b =
    ap after_raw (reverse-append ts (a ∷ b ∷ []))
    ∙ ap (λ (front : List Token). cond (is_raw_end b a) (Some front) None) (reverse-reverse ts)

seen : Item → Token
seen i = token_of (item_view i)

-- the items without the last two, where these are `| raw`
pub raw_cut : (is : List Item) (a b : Item) → 2 ≤ length is → a ≡ get_or is (length is - 2) a → b ≡ get_or is (length is - 1) b → before_raw (tokens_view is) ≡ cond (is_raw_end (token_of (item_view b)) (token_of (item_view a))) (Some (tokens_view (take (length is - 2) is))) None
unfolding seen
raw_cut is a b long at last =
    let front = take (length is - 2) is in
    ap (λ is. before_raw (tokens_view is)) (last_two is a b long at last)
    ∙ ap before_raw (map-append seen front (a ∷ b ∷ []))
    ∙ before_last_two (tokens_view front) (seen a) (seen b)

pub too_short : (is : List Item) → length is < 2 → before_raw (tokens_view is) ≡ None
too_short [] h = refl
too_short (i ∷ []) h = refl
too_short (i ∷ j ∷ is) h = absurd (omega (arith, h))

pub raw_last : (ts : List Token) → before_raw (ts ++ raw_end) ≡ Some ts
raw_last ts = before_last_two ts (symbol Bar) (word (codes "raw"))

raw_test : (last before : Token) → is_raw_end last before ≡ true → (before ≡ symbol Bar) × (last ≡ word (codes "raw"))
raw_test last before h = let (a, b) = both (is_symbol Bar before) (is_word (codes "raw") last) h in (symbol_is Bar before a, word_is (codes "raw") last b)
  where
    both : (a b : Bool) → a && b ≡ true → (a ≡ true) × (b ≡ true)
    both true true h = (refl, refl)
    both true false h = absurd cc
    both false b h = absurd cc

raw_first : (rs front : List Token) → after_raw rs ≡ Some front → reverse rs ≡ front ++ raw_end
raw_first [] front h = absurd cc
raw_first (last ∷ []) front h = absurd cc
raw_first (last ∷ before ∷ rs) front h =
    let (test, same) = cond_some (is_raw_end last before) (reverse rs) front h in
    let (bar, raw) = raw_test last before test in
    reverse-append (last ∷ before ∷ []) rs ∙ ap (λ (f : List Token). f ++ before ∷ last ∷ []) same ∙ ap (λ (t : Token). front ++ t ∷ last ∷ []) bar ∙ ap (λ (t : Token). front ++ symbol Bar ∷ t ∷ []) raw

raw_stood : (ts front : List Token) → before_raw ts ≡ Some front → ts ≡ front ++ raw_end
raw_stood ts front h = sym (reverse-reverse ts) ∙ raw_first (reverse ts) front h

-- ---- which outputs are escaped

module _ (l : Language) where
  pub plain_output : (ts : List Token) → l.escapes_html ≡ false → output_of l ts ≡ option_map (λ c. output c) (chain_of (registered_in l.filters) ts)
  plain_output ts h = ap (λ (b : Bool). output_of (record l { escapes_html = b }) ts) h

  pub raw_output : (ts : List Token) → l.escapes_html ≡ true → output_of l (ts ++ raw_end) ≡ option_map (λ c. output c) (chain_of (registered_in l.filters) ts)
  raw_output ts h = ap (λ (b : Bool). output_of (record l { escapes_html = b }) (ts ++ raw_end)) h ∙ ap (node_or (record l { escapes_html = true }) (ts ++ raw_end)) (raw_last ts)

  pub output_as_it_is : (ts : List Token) → output_of l (as_it_is l ts) ≡ option_map (λ c. output c) (chain_of (registered_in l.filters) ts)
  output_as_it_is ts = on l.escapes_html refl
    where
      on : (b : Bool) → l.escapes_html ≡ b → output_of l (cond b (ts ++ raw_end) ts) ≡ option_map (λ c. output c) (chain_of (registered_in l.filters) ts)
      on true h = raw_output ts h
      on false h = plain_output ts h

  other_output : (ts : List Token) → l.escapes_html ≡ true → ((front : List Token) → ts ≡ front ++ raw_end → ⊥) → output_of l ts ≡ option_map (λ c. escaped_node (output c)) (chain_of (registered_in l.filters) ts)
  other_output ts h other = ap (λ (b : Bool). output_of (record l { escapes_html = b }) ts) h ∙ on (before_raw ts) refl
    where
      on : (o : Option (List Token)) → before_raw ts ≡ o → node_or (record l { escapes_html = true }) ts (before_raw ts) ≡ option_map (λ c. escaped_node (output c)) (chain_of (registered_in l.filters) ts)
      on None e = ap (node_or (record l { escapes_html = true }) ts) e
      on (Some front) e = absurd (other front (raw_stood ts front e))

  -- what is read so is what the grammar gives, and the other way round
  of_chain : (make : Chain → Node) (n : Node) (ts us : List Token) → output_of l ts ≡ option_map make (chain_of (registered_in l.filters) us) → IsOutput l n ts ↔ IsOfChain l make n us
  of_chain make n ts us e = (
    λ h. let (c, read, same) = map_some (chain_of (registered_in l.filters) us) make n (sym e ∙ output_again l n ts h) in (c, sym same, chain_takes (registered_in l.filters) c us read),
    λ (c, same, h). output_takes l n ts (e ∙ ap (λ (o : Option Chain). option_map make o) (chain_again (registered_in l.filters) c us h) ∙ ap Some (sym same)),
  )

  pub plain_is : (n : Node) (ts : List Token) → l.escapes_html ≡ false → IsOutput l n ts ↔ IsOfChain l (λ c. output c) n ts
  plain_is n ts h = of_chain (λ c. output c) n ts ts (plain_output ts h)

  pub raw_is : (n : Node) (ts : List Token) → l.escapes_html ≡ true → IsOutput l n (ts ++ raw_end) ↔ IsOfChain l (λ c. output c) n ts
  raw_is n ts h = of_chain (λ c. output c) n (ts ++ raw_end) ts (raw_output ts h)

  pub other_is : (n : Node) (ts : List Token) → l.escapes_html ≡ true → ((front : List Token) → ts ≡ front ++ raw_end → ⊥) → IsOutput l n ts ↔ IsOfChain l (λ c. escaped_node (output c)) n ts
  other_is n ts h other = of_chain (λ c. escaped_node (output c)) n ts ts (other_output ts h other)
