-- What a piece is, where it stands, by the names that a language has and by its items.
use Rattle.std.specs.Prelude.{List, [], ◌∷◌, Bool, true, false, Option, Some, None, option_and_then}
use Rattle.std.specs.Prelude.{option_map}
use Rattle.liquid_model.specs.Texts.{Text}
use Rattle.liquid_lexer.specs.Items.{Item}
use Rattle.liquid_lexer.specs.Pieces as pieces
use Rattle.liquid_lexer.specs.Tokens.{Token, tokens_of, word_first, value_first, past}
use Rattle.liquid_lexer.specs.declared.piece.Body.{Body}
use Rattle.liquid_lexer.specs.declared.piece.Body.TheVariants as bodies
use Rattle.liquid_lexer.specs.declared.symbol.Symbol.TheVariants as symbols
use Rattle.liquid_parser.specs.ChainReading.{chain_of}
use Rattle.liquid_parser.specs.ConditionReading.{condition_of}
use Rattle.liquid_parser.specs.HostTags.{host_block_of, host_tag_of, in_host}
use Rattle.liquid_parser.specs.Loops.{for_node, loop_of, row_node}
use Rattle.liquid_parser.specs.Outputs.{output_of, shown_node}
use Rattle.liquid_parser.specs.PartialItems.{include_node, include_of, jekyll_node, jekyll_of}
use Rattle.liquid_parser.specs.PartialItems.{render_node, render_of}
use Rattle.liquid_language.specs.Registered.{registered_in}
use Rattle.liquid_parser.specs.Nesting.{of_one, of_two, of_many, Statement, leaf, closed, begins}
use Rattle.liquid_parser.specs.Nesting.{elsif, arm, otherwise, ends, refused}
use Rattle.liquid_language.specs.Roles.{role_of, verbatim_body}
use Rattle.liquid_evaluation.specs.Tree.{Condition, Node, Nodes, plain, raw, comment}
use Rattle.liquid_evaluation.specs.Tree.{assign, if_true, unless, capture, case_of, ifchanged}
use Rattle.liquid_evaluation.specs.Tree.{break_loop, continue_loop, increment, decrement}
use Rattle.liquid_core.specs.Expression.{Expression}
use Rattle.liquid_evaluation.specs.Tree.{Whens}
use Rattle.liquid_parser.specs.Cycles.{cycle_node, grouped_of}
use Rattle.liquid_parser.specs.ValueLists.{values_of}
use Rattle.liquid_parser.specs.declared.value_items.Separators.TheVariants.{CommasOr}
use Rattle.liquid_language.specs.declared.block.Block.{Block}
use Rattle.liquid_language.specs.declared.block.Block.TheVariants.{If, Unless, Capture, Case}
use Rattle.liquid_language.specs.declared.block.Block.TheVariants.{IfChanged, For, TableRow, Host}
use Rattle.liquid_language.specs.declared.block.Control.{Control}
use Rattle.liquid_language.specs.declared.block.Control.TheVariants as words
use Rattle.liquid_language.specs.declared.block.BlockContext.{BlockContext}
use Rattle.liquid_language.specs.declared.block.Role.{Role}
use Rattle.liquid_language.specs.declared.block.Role.TheVariants.{End, Control as Word, Tag}
use Rattle.liquid_language.specs.declared.block.Role.TheVariants.{Block as Start, HostTag}
use Rattle.liquid_language.specs.declared.block.Role.TheVariants.{HostBlock}
use Rattle.liquid_language.specs.declared.registry.BlockKind.{BlockKind}
use Rattle.liquid_language.specs.declared.registry.BlockKind.TheVariants as blocks
use Rattle.liquid_language.specs.declared.registry.Language.{Language}
use Rattle.liquid_language.specs.declared.registry.TagKind.{TagKind}
use Rattle.liquid_language.specs.declared.registry.TagKind.TheVariants as tags
use Rattle.liquid_parser.specs.declared.loop_items.LoopTag.TheVariants.{Each, Rows}

abbrev pub leaf_or : Option Node → Statement
leaf_or None = refused
leaf_or (Some n) = leaf n

-- `w = chain`
abbrev pub assign_of : Language → List Token → Option Node
assign_of l ts =
    option_and_then
    (λ w. option_and_then
    (λ rest. option_map (assign w.0) (chain_of (registered_in l.filters) rest))
    (past symbols.Assign w.1)) (word_first ts)

-- an end takes no items, but that of a host's block, whose items are ignored
abbrev pub ends_or : Bool → List Token → Statement
ends_or true ts = ends
ends_or false [] = ends
ends_or false (t ∷ ts) = refused

-- the node that an `if` or an `elsif` with the items makes of its bodies
abbrev pub if_node : Condition → Nodes → Nodes → Node
if_node condition f g = if_true condition f g

abbrev pub if_of : List Token → Option (Nodes → Nodes → Node)
if_of ts = option_map if_node (condition_of ts)

-- the node that an `unless` with the items makes of its bodies
abbrev pub unless_node : Condition → Nodes → Nodes → Node
unless_node condition f g = unless condition f g

abbrev pub unless_of : List Token → Option (Nodes → Nodes → Node)
unless_of ts = option_map unless_node (condition_of ts)

-- the node that a `for` with the items makes of its bodies
abbrev pub for_of : List Token → Option (Nodes → Nodes → Node)
for_of ts = option_map for_node (loop_of Each ts)

-- the node that a `tablerow` with the items makes of its body
abbrev pub rows_of : List Token → Option (Nodes → Node)
rows_of ts = option_map row_node (loop_of Rows ts)

-- one of a kind, and nothing after it
abbrev pub alone : {A : Type 0} → A × List Token → Option A
alone (x, []) = Some x
alone (x, t ∷ ts) = None

abbrev pub word_alone : List Token → Option Text
word_alone ts = option_and_then alone (word_first ts)

abbrev pub value_alone : List Token → Option Expression
value_alone ts = option_and_then alone (value_first ts)

-- a tag without items
abbrev pub bare : Statement → List Token → Statement
bare l [] = l
bare l (t ∷ ts) = refused

abbrev pub one_or : Block → Option (Nodes → Node) → Statement
one_or b None = refused
one_or b (Some make) = begins (of_one b make)

abbrev pub capture_of : List Token → Option (Nodes → Node)
capture_of ts = option_map (λ w f. capture w f) (word_alone ts)

abbrev pub many_or : Block → Option (Whens → Nodes → Node) → Statement
many_or b None = refused
many_or b (Some make) = begins (of_many b make)

abbrev pub case_for : List Token → Option (Whens → Nodes → Node)
case_for ts = option_map (λ x ws o. case_of x ws o) (value_alone ts)

abbrev pub arm_or : Option (List Expression) → Statement
arm_or None = refused
arm_or (Some vs) = arm vs

abbrev pub two_or : Block → Option (Nodes → Nodes → Node) → Statement
two_or b None = refused
two_or b (Some make) = begins (of_two b make)

abbrev pub elsif_or : Option (Nodes → Nodes → Node) → Statement
elsif_or None = refused
elsif_or (Some make) = elsif make

-- The start of a block, by its items. A block whose body isn't read has none, and with its body it
-- is a piece of its own.
abbrev pub block_statement : List Token → BlockKind → Statement
block_statement ts blocks.If = two_or If (if_of ts)
block_statement ts blocks.Unless = two_or Unless (unless_of ts)
block_statement ts blocks.Capture = one_or Capture (capture_of ts)
block_statement ts blocks.Case = many_or Case (case_for ts)
block_statement ts blocks.IfChanged = bare (begins (of_one IfChanged (λ f. ifchanged f))) ts
block_statement ts blocks.For = two_or For (for_of ts)
block_statement ts blocks.TableRow = one_or TableRow (rows_of ts)
block_statement ts blocks.Raw = refused
block_statement ts blocks.Comment = refused

-- A word between the begin and the end of a block, by its items. Those of an `else` are ignored.
abbrev pub control_statement : List Token → Control → Statement
control_statement ts words.Elsif = elsif_or (if_of ts)
control_statement ts words.Else = otherwise
control_statement ts words.BareElse = bare otherwise ts
control_statement ts words.When = arm_or (values_of CommasOr ts)

-- A tag that is a node without bodies, by its items and the tokens that they are. The name of a
-- jekyll `include` is taken as it is spelled.
abbrev pub leaf_statement : Language → List Item → List Token → TagKind → Statement
leaf_statement l is ts tags.Assign = leaf_or (assign_of l ts)
leaf_statement l is ts tags.Break = bare (leaf break_loop) ts
leaf_statement l is ts tags.Continue = bare (leaf continue_loop) ts
leaf_statement l is ts tags.Increment = leaf_or (option_map (λ w. increment w) (word_alone ts))
leaf_statement l is ts tags.Decrement = leaf_or (option_map (λ w. decrement w) (word_alone ts))
leaf_statement l is ts tags.Cycle =
    leaf_or (option_map (λ g. shown_node l (cycle_node g)) (grouped_of ts))
leaf_statement l is ts tags.Include = leaf_or (option_map include_node (include_of ts))
leaf_statement l is ts tags.JekyllInclude = leaf_or (option_map jekyll_node (jekyll_of is))
leaf_statement l is ts tags.Render = leaf_or (option_map render_node (render_of ts))

-- a tag in a context, its items, and the tokens that they are
abbrev pub tag_statement : Language → BlockContext → List Item → List Token → Option Role →
    Statement
tag_statement l x is ts None = refused
tag_statement l x is ts (Some End) = ends_or (in_host x) ts
tag_statement l x is ts (Some (Word word)) = control_statement ts word
tag_statement l x is ts (Some (Tag kind)) = leaf_statement l is ts kind
tag_statement l x is ts (Some (Start kind)) = block_statement ts kind
tag_statement l x is ts (Some (HostTag n)) = leaf_or (host_tag_of l n ts)
tag_statement l x is ts (Some (HostBlock n)) = one_or (Host n) (host_block_of l n ts)

abbrev pub raw_statement : Text → Option Body → Statement
raw_statement t (Some bodies.Raw) = closed (raw t)
raw_statement t (Some bodies.Comment) = refused
raw_statement t None = refused

abbrev pub comment_statement : Option Body → Statement
comment_statement (Some bodies.Comment) = closed comment
comment_statement (Some bodies.Raw) = refused
comment_statement None = refused

abbrev pub reads : Language → BlockContext → pieces.Piece → Statement
reads l x (pieces.text t) = leaf (plain t)
reads l x (pieces.output is) = leaf_or (output_of l (tokens_of is))
reads l x (pieces.tag w is) = tag_statement l x is (tokens_of is) (role_of l x w)
reads l x (pieces.raw w t) = raw_statement t (verbatim_body (role_of l x w))
reads l x (pieces.comment w) = comment_statement (verbatim_body (role_of l x w))

-- ---- where a block begins

abbrev pub is_start : Option Role → Bool
is_start None = false
is_start (Some End) = false
is_start (Some (Word word)) = false
is_start (Some (Tag kind)) = false
is_start (Some (Start kind)) = true
is_start (Some (HostTag n)) = false
is_start (Some (HostBlock n)) = true

-- the piece is the start of a block, whatever its items are
abbrev pub starts_block : Language → BlockContext → pieces.Piece → Bool
starts_block l x (pieces.text t) = false
starts_block l x (pieces.output is) = false
starts_block l x (pieces.tag w is) = is_start (role_of l x w)
starts_block l x (pieces.raw w t) = is_start (role_of l x w)
starts_block l x (pieces.comment w) = is_start (role_of l x w)
