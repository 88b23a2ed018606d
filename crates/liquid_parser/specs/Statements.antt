-- The written grammar of a single piece: what it is, where it stands.
use Rattle.std.specs.Prelude.{◌≡◌, ℕ, true, List, [], ◌∷◌, Option, Some}
use Rattle.liquid_model.specs.Texts.{Text}
use Rattle.liquid_lexer.specs.Items.{Item}
use Rattle.liquid_lexer.specs.Pieces as pieces
use Rattle.liquid_lexer.specs.Tokens.{tokens_of, value, word}
use Rattle.liquid_lexer.specs.declared.piece.Body.TheVariants.{Raw, Comment}
use Rattle.liquid_parser.specs.Chains.{IsAssign}
use Rattle.liquid_parser.specs.Conditions.{IsCondition}
use Rattle.liquid_parser.specs.Cycles.{IsCycle}
use Rattle.liquid_parser.specs.HostTags.{IsHostCall, IsHostChain, in_host, through_call}
use Rattle.liquid_parser.specs.Loops.{Head, IsLoop, for_node, row_node}
use Rattle.liquid_language.specs.HostTags.{BlockCall, TagCall, block_at, call_at}
use Rattle.liquid_language.specs.Registered.{registered_in}
use Rattle.liquid_parser.specs.Nesting.{of_one, of_two, of_many, Statement, leaf, closed, begins}
use Rattle.liquid_parser.specs.Nesting.{elsif, arm, otherwise, ends}
use Rattle.liquid_parser.specs.Outputs.{IsOutput, shown_node}
use Rattle.liquid_parser.specs.PartialItems.{IsInclude, IsJekyllInclude, IsRender}
use Rattle.liquid_language.specs.Roles.{role_of, verbatim_body}
use Rattle.liquid_evaluation.specs.Tree.{Bindings, Chain, Condition, FilterCall, Node, Source}
use Rattle.liquid_evaluation.specs.Tree.{plain, raw, comment, output, assign, if_true, unless}
use Rattle.liquid_evaluation.specs.Tree.{capture, case_of, ifchanged, break_loop, continue_loop}
use Rattle.liquid_evaluation.specs.Tree.{increment, decrement, cycle, include, jekyll_include}
use Rattle.liquid_evaluation.specs.Tree.{render}
use Rattle.liquid_evaluation.specs.Groups.{group_of}
use Rattle.liquid_core.specs.Expression.{Expression}
use Rattle.liquid_parser.specs.ValueLists.{AreValues}
use Rattle.liquid_parser.specs.declared.value_items.Separators.TheVariants.{CommasOr}
use Rattle.liquid_language.specs.declared.block.Block.TheVariants.{If, Unless, Capture, Case}
use Rattle.liquid_language.specs.declared.block.Block.TheVariants.{IfChanged, For, TableRow, Host}
use Rattle.liquid_language.specs.declared.block.Control.TheVariants.{Elsif, Else, BareElse, When}
use Rattle.liquid_language.specs.declared.block.BlockContext.{BlockContext}
use Rattle.liquid_language.specs.declared.block.Role.TheVariants.{End, Control as Word, Tag}
use Rattle.liquid_language.specs.declared.block.Role.TheVariants.{Block as Start, HostTag}
use Rattle.liquid_language.specs.declared.block.Role.TheVariants.{HostBlock}
use Rattle.liquid_language.specs.declared.registry.BlockKind.TheVariants as blocks
use Rattle.liquid_language.specs.declared.registry.Language.{Language}
use Rattle.liquid_language.specs.declared.registry.TagKind.TheVariants as tags
use Rattle.liquid_parser.specs.declared.loop_items.LoopTag.TheVariants.{Each, Rows}

pub data IsStatement (l : Language) (x : BlockContext) : pieces.Piece → Statement → Type 0 where
  is_text : {t : Text} → IsStatement l x (pieces.text t) (leaf (plain t))
  is_output : {n : Node} {is : List Item} → IsOutput l n (tokens_of is) →
      IsStatement l x (pieces.output is) (leaf n)
  -- an end takes no items
  is_end : {w : Text} → role_of l x w ≡ Some End → IsStatement l x (pieces.tag w []) ends
  -- the items of the end of a host's block are ignored
  is_host_end : {w : Text} {is : List Item} → role_of l x w ≡ Some End → in_host x ≡ true →
      IsStatement l x (pieces.tag w is) ends
  is_elsif : {w : Text} {c : Condition} {is : List Item} → role_of l x w ≡ Some (Word Elsif) →
      IsCondition c (tokens_of is) →
      IsStatement l x (pieces.tag w is) (elsif (λ f g. if_true c f g))
  -- the items of an `else` are ignored
  is_else : {w : Text} {is : List Item} → role_of l x w ≡ Some (Word Else) →
      IsStatement l x (pieces.tag w is) otherwise
  is_assign : {w name : Text} {c : Chain} {is : List Item} → role_of l x w ≡
      Some (Tag tags.Assign) → IsAssign (registered_in l.filters) name c (tokens_of is) →
      IsStatement l x (pieces.tag w is) (leaf (assign name c))
  is_if : {w : Text} {c : Condition} {is : List Item} → role_of l x w ≡ Some (Start blocks.If) →
      IsCondition c (tokens_of is) →
      IsStatement l x (pieces.tag w is) (begins (of_two If (λ f g. if_true c f g)))
  is_unless : {w : Text} {c : Condition} {is : List Item} → role_of l x w ≡
      Some (Start blocks.Unless) → IsCondition c (tokens_of is) →
      IsStatement l x (pieces.tag w is) (begins (of_two Unless (λ f g. unless c f g)))
  -- in a `for` and a `case` an `else` has no items
  is_bare_else : {w : Text} → role_of l x w ≡ Some (Word BareElse) →
      IsStatement l x (pieces.tag w []) otherwise
  is_capture : {w name : Text} {is : List Item} → role_of l x w ≡ Some (Start blocks.Capture) →
      tokens_of is ≡ word name ∷ [] →
      IsStatement l x (pieces.tag w is) (begins (of_one Capture (λ f. capture name f)))
  is_case : {w : Text} {t : Expression} {is : List Item} → role_of l x w ≡
      Some (Start blocks.Case) → tokens_of is ≡ value t ∷ [] →
      IsStatement l x (pieces.tag w is) (begins (of_many Case (λ ws o. case_of t ws o)))
  is_when : {w : Text} {vs : List Expression} {is : List Item} → role_of l x w ≡ Some (Word When) →
      AreValues CommasOr vs (tokens_of is) → IsStatement l x (pieces.tag w is) (arm vs)
  is_break : {w : Text} → role_of l x w ≡ Some (Tag tags.Break) →
      IsStatement l x (pieces.tag w []) (leaf break_loop)
  is_continue : {w : Text} → role_of l x w ≡ Some (Tag tags.Continue) →
      IsStatement l x (pieces.tag w []) (leaf continue_loop)
  is_increment : {w name : Text} {is : List Item} → role_of l x w ≡ Some (Tag tags.Increment) →
      tokens_of is ≡ word name ∷ [] → IsStatement l x (pieces.tag w is) (leaf (increment name))
  is_decrement : {w name : Text} {is : List Item} → role_of l x w ≡ Some (Tag tags.Decrement) →
      tokens_of is ≡ word name ∷ [] → IsStatement l x (pieces.tag w is) (leaf (decrement name))
  is_cycle : {w : Text} {name : Option Expression} {vs : List Expression} {is : List Item} →
      role_of l x w ≡ Some (Tag tags.Cycle) → IsCycle name vs (tokens_of is) →
      IsStatement l x (pieces.tag w is) (leaf (shown_node l (cycle (group_of name vs) vs)))
  is_ifchanged : {w : Text} → role_of l x w ≡ Some (Start blocks.IfChanged) →
      IsStatement l x (pieces.tag w []) (begins (of_one IfChanged (λ f. ifchanged f)))
  is_for : {w : Text} {h : Head} {is : List Item} → role_of l x w ≡ Some (Start blocks.For) →
      IsLoop Each h (tokens_of is) →
      IsStatement l x (pieces.tag w is) (begins (of_two For (for_node h)))
  is_tablerow : {w : Text} {h : Head} {is : List Item} → role_of l x w ≡
      Some (Start blocks.TableRow) → IsLoop Rows h (tokens_of is) →
      IsStatement l x (pieces.tag w is) (begins (of_one TableRow (row_node h)))
  is_include : {w : Text} {name : Expression} {ps : Bindings} {is : List Item} → role_of l x w ≡
      Some (Tag tags.Include) → IsInclude name ps (tokens_of is) →
      IsStatement l x (pieces.tag w is) (leaf (include name ps))
  is_jekyll_include : {w name : Text} {ps : Bindings} {is : List Item} → role_of l x w ≡
      Some (Tag tags.JekyllInclude) → IsJekyllInclude name ps is →
      IsStatement l x (pieces.tag w is) (leaf (jekyll_include name ps))
  is_render : {w : Text} {name : Expression} {each : Option (Source × Text)} {ps : Bindings}
      {is : List Item} → role_of l x w ≡ Some (Tag tags.Render) →
      IsRender name each ps (tokens_of is) →
      IsStatement l x (pieces.tag w is) (leaf (render name each ps))
  -- a host's tag is the output of its call
  is_host_tag : {w : Text} {n : ℕ} {called : TagCall} {c : Chain} {is : List Item} →
      role_of l x w ≡ Some (HostTag n) → call_at l n ≡ Some called →
      IsHostChain (registered_in l.filters) called c (tokens_of is) →
      IsStatement l x (pieces.tag w is) (leaf (output c))
  -- the text of a host's block goes through its call
  is_host_block : {w : Text} {n : ℕ} {called : BlockCall} {call : FilterCall} {is : List Item} →
      role_of l x w ≡ Some (HostBlock n) → block_at l n ≡ Some called →
      IsHostCall (registered_in l.filters) called.filter called.given call (tokens_of is) →
      IsStatement l x (pieces.tag w is) (begins (of_one (Host n) (through_call call)))
  -- a block whose body isn't read has no items, and with its body it is a piece of its own
  is_raw : {w t : Text} → verbatim_body (role_of l x w) ≡ Some Raw →
      IsStatement l x (pieces.raw w t) (closed (raw t))
  is_comment : {w : Text} → verbatim_body (role_of l x w) ≡ Some Comment →
      IsStatement l x (pieces.comment w) (closed comment)
