-- The items of tags that run a partial: how they are written, and how they are read.
use Rattle.std.specs.Prelude.{List, [], ◌∷◌, ◌++◌, Option, Some, None, codes}
use Rattle.std.specs.Option.{option_and_then, option_map}
use Rattle.liquid_core.specs.Expression.{Expression, literal, variable}
use Rattle.liquid_model.specs.Data.{Datum, text}
use Rattle.liquid_model.specs.Texts.{Text}
use Rattle.liquid_lexer.specs.Items as items
use Rattle.liquid_lexer.specs.Tokens.{Token, tokens_of, value, word, value_first, word_first}
use Rattle.liquid_lexer.specs.Tokens.{past_word}
use Rattle.liquid_lexer.specs.declared.symbol.Symbol.TheVariants.{Colon}
use Rattle.liquid_evaluation.specs.Tree.{Bindings, Node, Source, include, jekyll_include, render}
use Rattle.liquid_parser.specs.Bound.{IsPair, ArePairs, pair_first, bound_pairs}
use Rattle.liquid_parser.specs.Loops.{read_or_else, source_first, source_token}
use Rattle.liquid_parser.specs.declared.pair_items.PairStyle.TheVariants.{Include, JekyllInclude}
use Rattle.liquid_parser.specs.declared.pair_items.PairStyle.TheVariants.{Render}

-- ---- the grammar

-- a name, then pairs with `:`; the first of them stands right after the name
pub data IsInclude : Expression → Bindings → List Token → Type 0 where
  name_alone : (x : Expression) → IsInclude x [] (value x ∷ [])
  name_and_pairs : {p : Text × Expression} {ps : Bindings} {ts us : List Token} (x : Expression)
      → IsPair Colon p ts → ArePairs Include ps us → IsInclude x (p ∷ ps) (value x ∷ (ts ++ us))

-- a name, then pairs with `:` after a `,` each. Right after the name may stand `with v as w`,
-- which is the first pair, or `for R as w`, which is what the partial runs for each item of, and by
-- which name it knows an item
pub data IsRender : Expression → Option (Source × Text) → Bindings → List Token → Type 0 where
  without : {ps : Bindings} {ts : List Token} (x : Expression) → ArePairs Render ps ts →
      IsRender x None ps (value x ∷ ts)
  with_one : {ps : Bindings} {ts : List Token} (x y : Expression) (w : Text)
      → ArePairs Render ps ts → IsRender x None ((w, y) ∷ ps) (value x ∷ word (codes "with") ∷
      value y ∷ word (codes "as") ∷ word w ∷ ts)
  for_each_of : {ps : Bindings} {ts : List Token} (x : Expression) (s : Source) (w : Text)
      → ArePairs Render ps ts →
      IsRender x (Some (s, w)) ps (value x ∷ word (codes "for") ∷ source_token s ∷
      word (codes "as") ∷ word w ∷ ts)

-- the name of a jekyll `include`: the text of a text literal, or else the value as it is spelled
abbrev pub jekyll_include_name : Datum → Text → Text
jekyll_include_name (text t) spelling = t
jekyll_include_name _ spelling = spelling

abbrev pub spelled_name : Expression → Text → Text
spelled_name (literal d) spelling = jekyll_include_name d spelling
spelled_name (variable w steps) spelling = spelling

-- that name, then pairs with `=`
pub data IsJekyllInclude : Text → Bindings → List items.Item → Type 0 where
  jekyll_name : {ps : Bindings} {is : List items.Item} (x : Expression) (spelling : Text)
      → ArePairs JekyllInclude ps (tokens_of is) → IsJekyllInclude (spelled_name x spelling) ps
      (items.value x spelling ∷ is)

-- ---- reading

-- no pairs, or a first one and those after it
abbrev pub included_pairs : List Token → Option Bindings
included_pairs [] = Some []
included_pairs (t ∷ ts) = option_and_then (λ p. option_map (λ ps.
    p.0 ∷ ps) (bound_pairs Include p.1))
    (pair_first Colon (t ∷ ts))

abbrev pub include_of : List Token → Option (Expression × Bindings)
include_of ts = option_and_then (λ x. option_map (λ ps. (x.0, ps)) (included_pairs x.1))
    (value_first ts)

-- `v as w`, after `with`
abbrev pub with_first : List Token → Option ((Text × Expression) × List Token)
with_first ts =
    option_and_then
    (λ x. option_and_then (λ rest. option_map (λ w. ((w.0, x.0), w.1)) (word_first rest))
    (past_word (codes "as") x.1)) (value_first ts)

-- `R as w`, after `for`
abbrev pub each_first : List Token → Option ((Source × Text) × List Token)
each_first ts =
    option_and_then
    (λ s. option_and_then (λ rest. option_map (λ w. ((s.0, w.0), w.1)) (word_first rest))
    (past_word (codes "as") s.1)) (source_first ts)

-- what follows the name of a `render`: the source and the variable of `for`, and the pairs
abbrev pub Rendered : Type 0
Rendered = Option (Source × Text) × Bindings

-- the pairs alone
abbrev pub rendered_once : List Token → Option Rendered
rendered_once ts = option_map (λ ps. (None, ps)) (bound_pairs Render ts)

-- after `with`: the first pair, and those after it
abbrev pub rendered_with : List Token → Option Rendered
rendered_with ts = option_and_then (λ p. option_map (λ ps.
    (None, p.0 ∷ ps)) (bound_pairs Render p.1))
    (with_first ts)

-- after `for`: the source and the variable, and the pairs
abbrev pub rendered_each : List Token → Option Rendered
rendered_each ts = option_and_then (λ e. option_map (λ ps. (Some e.0, ps)) (bound_pairs Render e.1))
    (each_first ts)

abbrev pub rendered_of : List Token → Option Rendered
rendered_of ts = read_or_else (past_word (codes "with") ts) rendered_with
    (read_or_else (past_word (codes "for") ts) rendered_each (rendered_once ts))

abbrev pub render_of : List Token → Option (Expression × Rendered)
render_of ts = option_and_then (λ x. option_map (λ r. (x.0, r)) (rendered_of x.1)) (value_first ts)

abbrev pub jekyll_of : List items.Item → Option (Text × Bindings)
jekyll_of [] = None
jekyll_of (items.value x spelling ∷ is) = option_map (λ ps. (spelled_name x spelling, ps))
    (bound_pairs JekyllInclude (tokens_of is))
jekyll_of (items.range x y ∷ is) = None
jekyll_of (items.symbol s ∷ is) = None

-- ---- the nodes

abbrev pub include_node : Expression × Bindings → Node
include_node r = include r.0 r.1

abbrev pub render_node : Expression × Rendered → Node
render_node r = render r.0 r.1.0 r.1.1

abbrev pub jekyll_node : Text × Bindings → Node
jekyll_node r = jekyll_include r.0 r.1
