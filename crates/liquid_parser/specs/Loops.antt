-- The items of `for` and `tablerow`: how they are written, and how they are read.
use Rattle.std.specs.Prelude.{◌≡◌, List, [], ◌∷◌, Bool, true, false, codes, Option, Some, None}
use Rattle.std.specs.Prelude.{string_bytes}
use Rattle.std.specs.Option.{option_and_then, option_map}
use Rattle.liquid_core.specs.Expression.{Expression}
use Rattle.liquid_core.specs.ExpressionView.{expression_view}
use Rattle.liquid_model.specs.Texts.{Text}
use Rattle.liquid_lexer.specs.Tokens.{Token, value, range, symbol, word, value_first, word_first}
use Rattle.liquid_lexer.specs.Tokens.{past, past_word}
use Rattle.liquid_lexer.specs.declared.symbol.Symbol.TheVariants.{Colon}
use Rattle.liquid_evaluation.specs.SourceView.{source_view}
use Rattle.liquid_evaluation.specs.Tree.{Source, each_of, counted, Window, Nodes, Node, for_each}
use Rattle.liquid_evaluation.specs.Tree.{tablerow}
use Rattle.liquid_parser.specs.Repeated.{AreRepeated, repeated_of}
use Rattle.liquid_parser.specs.declared.loop_items.LoopTag.{LoopTag}
use Rattle.liquid_parser.specs.declared.loop_items.LoopTag.TheVariants.{Each, Rows}
use Rattle.liquid_parser.specs.declared.loop_items.LoopPart.{LoopPart}
use Rattle.liquid_parser.specs.declared.loop_items.LoopPart.TheVariants as code
use Rattle.liquid_parser.specs.declared.loop_items.Loop.{Loop}

-- ---- the grammar

-- a value, or a range
abbrev pub source_token : Source → Token
source_token (each_of x) = value x
source_token (counted x y) = range x y

-- what may follow the source
pub data Part : Type 0 where
  limit_is offset_is cols_is : Expression → Part
  is_reversed : Part

abbrev pub valued : Text → Expression → List Token
valued w x = word w ∷ symbol Colon ∷ value x ∷ []

-- `limit: v` and `offset: v`; `reversed` in a `for`, and `cols: v` in a `tablerow`
pub data IsLoopPart : LoopTag → Part → List Token → Type 0 where
  a_limit : {k : LoopTag} (x : Expression) → IsLoopPart k (limit_is x) (valued (codes "limit") x)
  an_offset : {k : LoopTag} (x : Expression) → IsLoopPart k (offset_is x)
      (valued (codes "offset") x)
  a_reversal : IsLoopPart Each is_reversed (word (codes "reversed") ∷ [])
  a_width : (x : Expression) → IsLoopPart Rows (cols_is x) (valued (codes "cols") x)

pub record Parts : Type 0 where
  pub limit : Option Expression
  pub offset : Option Expression
  pub cols : Option Expression
  pub reversed : Bool

abbrev pub no_parts : Parts
no_parts = record { limit = None; offset = None; cols = None; reversed = false }

-- a part takes the place of an earlier one of its kind
abbrev pub with_part : Parts → Part → Parts
with_part ps (limit_is x) = record {
  limit = Some x;
  offset = ps.offset;
  cols = ps.cols;
  reversed = ps.reversed;
}
with_part ps (offset_is x) = record {
  limit = ps.limit;
  offset = Some x;
  cols = ps.cols;
  reversed = ps.reversed;
}
with_part ps (cols_is x) = record {
  limit = ps.limit;
  offset = ps.offset;
  cols = Some x;
  reversed = ps.reversed;
}
with_part ps is_reversed = record {
  limit = ps.limit;
  offset = ps.offset;
  cols = ps.cols;
  reversed = true;
}

abbrev pub with_parts : Parts → List Part → Parts
with_parts ps [] = ps
with_parts ps (q ∷ qs) = with_parts (with_part ps q) qs

abbrev pub IsNothing : List Token → Type 0
IsNothing ts = ts ≡ []

pub record Head : Type 0 where
  pub variable : Text
  pub source : Source
  pub parts : Parts

abbrev pub in_keyword : Token
in_keyword = word (codes "in")

-- `w in R`, and any parts, of which the last of a kind counts
pub data IsLoop (k : LoopTag) : Head → List Token → Type 0 where
  a_loop : {ps : List Part} {ts : List Token} (w : Text) (s : Source) →
      AreRepeated (IsLoopPart k) IsNothing ps ts
      → IsLoop k (record {
        variable = w;
        source = s;
        parts = with_parts no_parts ps;
      }) (word w ∷ in_keyword ∷ source_token s ∷ ts)

-- ---- reading

abbrev pub source_of : Token → Option Source
source_of (value x) = Some (each_of x)
source_of (range x y) = Some (counted x y)
source_of (symbol s) = None

abbrev pub source_first : List Token → Option (Source × List Token)
source_first [] = None
source_first (t ∷ ts) = option_map (λ s. (s, ts)) (source_of t)

-- `: v`
abbrev pub part_value : (Expression → Part) → List Token → Option (Part × List Token)
part_value make ts = option_and_then (λ rest. option_map (λ x. (make x.0, x.1)) (value_first rest))
    (past Colon ts)

abbrev pub read_or_else : {A B : Type 0} → Option A → (A → Option B) → Option B → Option B
read_or_else None f o = o
read_or_else (Some x) f o = f x

abbrev pub own_part : LoopTag → List Token → Option (Part × List Token)
own_part Each ts = option_map (λ rest. (is_reversed, rest)) (past_word (codes "reversed") ts)
own_part Rows ts = option_and_then (part_value cols_is) (past_word (codes "cols") ts)

abbrev pub part_first : LoopTag → List Token → Option (Part × List Token)
part_first k ts =
    read_or_else (past_word (codes "limit") ts) (part_value limit_is)
    (read_or_else (past_word (codes "offset") ts) (part_value offset_is) (own_part k ts))

abbrev pub is_nothing : List Token → Bool
is_nothing [] = true
is_nothing (t ∷ ts) = false

abbrev pub parts_of : LoopTag → List Token → Option (List Part)
parts_of k ts = repeated_of (part_first k) is_nothing ts

abbrev pub parts_after : LoopTag → Parts → List Token → Option Parts
parts_after k ps ts = option_map (with_parts ps) (parts_of k ts)

abbrev pub head_with : Text → Source → Parts → Head
head_with w s ps = record { variable = w; source = s; parts = ps }

abbrev pub loop_of : LoopTag → List Token → Option Head
loop_of k ts =
    option_and_then
    (λ w. option_and_then
    (λ rest. option_and_then (λ s. option_map (head_with w.0 s.0)
    (parts_after k no_parts s.1)) (source_first rest)) (past_word (codes "in") w.1))
    (word_first ts)

-- ---- what the code's values say

abbrev pub part_view : LoopPart → Part
part_view (code.Limit x) = limit_is (expression_view x)
part_view (code.Offset x) = offset_is (expression_view x)
part_view (code.Cols x) = cols_is (expression_view x)
part_view code.Reversed = is_reversed

abbrev pub parts_in : Loop → Parts
parts_in l = record {
  limit = option_map expression_view l.window.limit;
  offset = option_map expression_view l.window.offset;
  cols = option_map expression_view l.cols;
  reversed = l.window.reversed;
}

abbrev pub head_view : Loop → Head
head_view l = record {
  variable = string_bytes l.variable;
  source = source_view l.source;
  parts = parts_in l;
}

abbrev pub window_of : Parts → Window
window_of ps = record { limit = ps.limit; offset = ps.offset; reversed = ps.reversed }

-- the node that a `for` with the items makes of its bodies
abbrev pub for_node : Head → Nodes → Nodes → Node
for_node h f g = for_each h.variable h.source (window_of h.parts) f g

-- the node that a `tablerow` with the items makes of its body
abbrev pub row_node : Head → Nodes → Node
row_node h f = tablerow h.variable h.source (window_of h.parts) h.parts.cols f
