-- A piece is read as just what the written grammar says that it is.
use Rattle.std.proofs.Common.{◌≡◌, ℕ, Bool, true, false, List, [], ◌∷◌, Option, Some, None, option_map, refl, sym, ap, subst, ◌∙◌}
use Rattle.liquid_model.specs.Texts.{Text}
use Rattle.liquid_lexer.specs.Pieces as pieces
use Rattle.liquid_lexer.specs.Pieces.{Piece}
use Rattle.liquid_lexer.specs.Items.{Item}
use Rattle.liquid_lexer.specs.Tokens.{Token, tokens_of, word_first, past}
use Rattle.liquid_lexer.specs.declared.piece.Body.{Body}
use Rattle.liquid_lexer.specs.declared.piece.Body.TheVariants as bodies
use Rattle.liquid_lexer.specs.declared.symbol.Symbol.TheVariants.{Assign}
use Rattle.liquid_model.proofs.WordLaws.{bind_some, map_some}
use Rattle.std.specs.Option.{option_and_then}
use Rattle.liquid_parser.specs.ChainReading.{chain_of}
use Rattle.liquid_parser.specs.ConditionReading.{condition_of}
use Rattle.liquid_parser.specs.Classification.{leaf_or, assign_of, if_node, unless_node, bare, word_alone, value_alone, one_or, many_or, arm_or, capture_of, case_for, two_or, elsif_or, ends_or, tag_statement, raw_statement, comment_statement, reads}
use Rattle.liquid_parser.specs.Statements.{IsStatement, is_text, is_output, is_end, is_host_end, is_elsif, is_else, is_assign, is_if, is_unless, is_bare_else, is_capture, is_case, is_when, is_break, is_continue, is_increment, is_decrement, is_include, is_jekyll_include, is_render, is_cycle, is_ifchanged, is_for, is_tablerow, is_host_tag, is_host_block, is_raw, is_comment}
use Rattle.liquid_parser.specs.HostTags.{host_block_of, host_call_of, host_chain_of, host_tag_of, in_host, through_call}
use Rattle.liquid_parser.specs.Loops.{Head, for_node, loop_of, row_node}
use Rattle.liquid_parser.specs.Outputs.{output_of, shown_node}
use Rattle.liquid_parser.specs.PartialItems.{Rendered, include_node, include_of, jekyll_node, jekyll_of, render_node, render_of}
use Rattle.liquid_language.specs.HostTags.{BlockCall, TagCall, block_at, call_at}
use Rattle.liquid_language.specs.Registered.{registered_in}
use Rattle.liquid_parser.specs.Cycles.{Cycle, cycle_node, cycle_of, with_group}
use Rattle.liquid_parser.specs.Nesting.{of_one, Statement, leaf, closed, begins, elsif, arm, otherwise, ends, refused}
use Rattle.liquid_language.specs.Roles.{role_of, verbatim_body}
use Rattle.liquid_evaluation.specs.Tree.{Bindings, FilterCall, Node, Nodes, Chain, Condition, output, assign, capture, case_of, ifchanged, break_loop, continue_loop, increment, decrement}
use Rattle.liquid_language.specs.declared.block.Block.TheVariants.{If, Unless, Capture, Case, IfChanged, For, TableRow, Host}
use Rattle.liquid_language.specs.declared.block.Control.TheVariants.{Elsif, Else, BareElse, When}
use Rattle.liquid_language.specs.declared.block.BlockContext.{BlockContext}
use Rattle.liquid_language.specs.declared.block.Role.{Role}
use Rattle.liquid_language.specs.declared.block.Role.TheVariants.{End, Control as Word, Tag, Block as Start, HostBlock, HostTag}
use Rattle.liquid_language.specs.declared.registry.BlockKind.TheVariants as blocks
use Rattle.liquid_language.specs.declared.registry.Language.{Language}
use Rattle.liquid_language.specs.declared.registry.TagKind.TheVariants as tags
use Rattle.liquid_parser.proofs.ConditionLaws.{condition_takes, condition_again}
use Rattle.liquid_core.specs.Expression.{Expression}
use Rattle.liquid_parser.specs.ValueLists.{values_of}
use Rattle.liquid_parser.specs.declared.loop_items.LoopTag.TheVariants.{Each, Rows}
use Rattle.liquid_parser.specs.declared.value_items.Separators.TheVariants.{CommasOr}
use Rattle.liquid_parser.proofs.Alone.{one_word, one_value}
use Rattle.liquid_parser.proofs.CycleLaws.{cycle_takes, cycle_again}
use Rattle.liquid_parser.proofs.HostTagLaws.{host_call_takes, host_call_again, host_takes, host_again}
use Rattle.liquid_parser.proofs.ItemLaws.{loop_takes, loop_again, values_takes, values_again}
use Rattle.liquid_parser.proofs.NestingLaws.{Stands}
use Rattle.liquid_parser.proofs.OutputLaws.{output_takes, output_again}
use Rattle.liquid_parser.proofs.PartialLaws.{include_takes, include_again, jekyll_takes, jekyll_again}
use Rattle.liquid_parser.proofs.Printed.{assign_takes, assign_again}
use Rattle.liquid_parser.proofs.RenderLaws.{render_takes, render_again}

no_items : (b : Bool) → ends_or b [] ≡ ends
no_items true = refl
no_items false = refl

pub statement_says : (l : Language) (x : BlockContext) (p : Piece) (statement : Statement) → IsStatement l x p statement → reads l x p ≡ statement
statement_says l x p statement is_text = refl
statement_says l x p statement (is_output {n = n} {is = is} h) = ap leaf_or (output_again l n (tokens_of is) h)
statement_says l x p statement (is_end r) = ap (tag_statement l x [] []) r ∙ no_items (in_host x)
statement_says l x p statement (is_host_end {is = is} r e) = ap (tag_statement l x is (tokens_of is)) r ∙ ap (λ (b : Bool). ends_or b (tokens_of is)) e
statement_says l x p statement (is_elsif {is = is} r h) = ap (tag_statement l x is (tokens_of is)) r ∙ ap (λ (o : Option Condition). elsif_or (option_map if_node o)) (condition_again h)
statement_says l x p statement (is_else {is = is} r) = ap (tag_statement l x is (tokens_of is)) r
statement_says l x p statement (is_assign {name = name} {c = c} {is = is} r h) = ap (tag_statement l x is (tokens_of is)) r ∙ ap leaf_or (assign_again l name c (tokens_of is) h)
statement_says l x p statement (is_if {is = is} r h) = ap (tag_statement l x is (tokens_of is)) r ∙ ap (λ (o : Option Condition). two_or If (option_map if_node o)) (condition_again h)
statement_says l x p statement (is_unless {is = is} r h) = ap (tag_statement l x is (tokens_of is)) r ∙ ap (λ (o : Option Condition). two_or Unless (option_map unless_node o)) (condition_again h)
statement_says l x p statement (is_bare_else r) = ap (tag_statement l x [] []) r
statement_says l x p statement (is_capture {is = is} r g) = ap (tag_statement l x is (tokens_of is)) r ∙ ap (λ (ts : List Token). one_or Capture (capture_of ts)) g
statement_says l x p statement (is_case {is = is} r g) = ap (tag_statement l x is (tokens_of is)) r ∙ ap (λ (ts : List Token). many_or Case (case_for ts)) g
statement_says l x p statement (is_when {vs = vs} {is = is} r g) = ap (tag_statement l x is (tokens_of is)) r ∙ ap arm_or (values_again CommasOr vs (tokens_of is) g)
statement_says l x p statement (is_break r) = ap (tag_statement l x [] []) r
statement_says l x p statement (is_continue r) = ap (tag_statement l x [] []) r
statement_says l x p statement (is_increment {is = is} r g) = ap (tag_statement l x is (tokens_of is)) r ∙ ap (λ (ts : List Token). leaf_or (option_map (λ w. increment w) (word_alone ts))) g
statement_says l x p statement (is_decrement {is = is} r g) = ap (tag_statement l x is (tokens_of is)) r ∙ ap (λ (ts : List Token). leaf_or (option_map (λ w. decrement w) (word_alone ts))) g
statement_says l x p statement (is_cycle {name = name} {vs = vs} {is = is} r g) = ap (tag_statement l x is (tokens_of is)) r ∙ ap (λ (o : Option Cycle). leaf_or (option_map (λ g. shown_node l (cycle_node g)) (option_map with_group o))) (cycle_again name vs (tokens_of is) g)
statement_says l x p statement (is_ifchanged r) = ap (tag_statement l x [] []) r
statement_says l x p statement (is_for {h = h} {is = is} r g) = ap (tag_statement l x is (tokens_of is)) r ∙ ap (λ (o : Option Head). two_or For (option_map for_node o)) (loop_again Each h (tokens_of is) g)
statement_says l x p statement (is_tablerow {h = h} {is = is} r g) = ap (tag_statement l x is (tokens_of is)) r ∙ ap (λ (o : Option Head). one_or TableRow (option_map row_node o)) (loop_again Rows h (tokens_of is) g)
statement_says l x p statement (is_include {name = name} {ps = ps} {is = is} r g) = ap (tag_statement l x is (tokens_of is)) r ∙ ap (λ (o : Option (Expression × Bindings)). leaf_or (option_map include_node o)) (include_again name ps (tokens_of is) g)
statement_says l x p statement (is_jekyll_include {name = name} {ps = ps} {is = is} r g) = ap (tag_statement l x is (tokens_of is)) r ∙ ap (λ (o : Option (Text × Bindings)). leaf_or (option_map jekyll_node o)) (jekyll_again name ps is g)
statement_says l x p statement (is_render {name = name} {each = each} {ps = ps} {is = is} r g) = ap (tag_statement l x is (tokens_of is)) r ∙ ap (λ (o : Option (Expression × Rendered)). leaf_or (option_map render_node o)) (render_again name each ps (tokens_of is) g)
statement_says l x p statement (is_host_tag {called = called} {c = c} {is = is} r at h) =
    ap (tag_statement l x is (tokens_of is)) r
    ∙ ap (λ (o : Option TagCall). leaf_or (option_and_then (λ called. option_map output (host_chain_of (registered_in l.filters) called (tokens_of is))) o)) at
    ∙ ap (λ (o : Option Chain). leaf_or (option_map output o)) (host_again (registered_in l.filters) called c (tokens_of is) h)
statement_says l x p statement (is_host_block {n = n} {called = called} {call = call} {is = is} r at h) =
    ap (tag_statement l x is (tokens_of is)) r
    ∙ ap (λ (o : Option BlockCall). one_or (Host n) (option_and_then (λ called. option_map through_call (host_call_of (registered_in l.filters) called.filter called.given (tokens_of is))) o)) at
    ∙ ap (λ (o : Option FilterCall). one_or (Host n) (option_map through_call o)) (host_call_again (registered_in l.filters) called.filter called.given call (tokens_of is) h)
statement_says l x p statement (is_raw {t = t} h) = ap (raw_statement t) h
statement_says l x p statement (is_comment h) = ap comment_statement h

never : {A : Type 0} (statement : Statement) → refused ≡ statement → Stands statement → A
never statement e s = absurd (subst Stands (sym e) s)

assigned : (l : Language) (ts : List Token) (n : Node) → assign_of l ts ≡ Some n → (w : Text) × (c : Chain) × (n ≡ assign w c)
assigned l ts n h =
    let (x, named, more) = bind_some (word_first ts) _ n h in
    let (rest, following, made) = bind_some (past Assign x.1) _ n more in
    let (d, read, same) = map_some (chain_of (registered_in l.filters) rest) (assign x.0) n made in
    (x.0, d, sym same)

module _ (l : Language) (x : BlockContext) (statement : Statement) (stands : Stands statement) where
  output_stands : (is : List Item) (o : Option Node) → output_of l (tokens_of is) ≡ o → leaf_or o ≡ statement → IsStatement l x (pieces.output is) statement
  output_stands is None e h = never statement h stands
  output_stands is (Some n) e h = subst (IsStatement l x (pieces.output is)) h (is_output (output_takes l n (tokens_of is) e))

  end_stands : (w : Text) (is : List Item) (b : Bool) → role_of l x w ≡ Some End → in_host x ≡ b → ends_or b (tokens_of is) ≡ statement → IsStatement l x (pieces.tag w is) statement
  end_stands w is true r e h = subst (IsStatement l x (pieces.tag w is)) h (is_host_end r e)
  end_stands w [] false r e h = subst (IsStatement l x (pieces.tag w [])) h (is_end r)
  end_stands w (i ∷ is) false r e h = never statement h stands

  elsif_stands : (w : Text) (is : List Item) (o : Option Condition) → role_of l x w ≡ Some (Word Elsif) → condition_of (tokens_of is) ≡ o → elsif_or (option_map if_node o) ≡ statement → IsStatement l x (pieces.tag w is) statement
  elsif_stands w is None r e h = never statement h stands
  elsif_stands w is (Some c) r e h = subst (IsStatement l x (pieces.tag w is)) h (is_elsif r (condition_takes (tokens_of is) c e))

  if_stands : (w : Text) (is : List Item) (o : Option Condition) → role_of l x w ≡ Some (Start blocks.If) → condition_of (tokens_of is) ≡ o → two_or If (option_map if_node o) ≡ statement → IsStatement l x (pieces.tag w is) statement
  if_stands w is None r e h = never statement h stands
  if_stands w is (Some c) r e h = subst (IsStatement l x (pieces.tag w is)) h (is_if r (condition_takes (tokens_of is) c e))

  unless_stands : (w : Text) (is : List Item) (o : Option Condition) → role_of l x w ≡ Some (Start blocks.Unless) → condition_of (tokens_of is) ≡ o → two_or Unless (option_map unless_node o) ≡ statement → IsStatement l x (pieces.tag w is) statement
  unless_stands w is None r e h = never statement h stands
  unless_stands w is (Some c) r e h = subst (IsStatement l x (pieces.tag w is)) h (is_unless r (condition_takes (tokens_of is) c e))

  assign_stands : (w : Text) (is : List Item) (o : Option Node) → role_of l x w ≡ Some (Tag tags.Assign) → assign_of l (tokens_of is) ≡ o → leaf_or o ≡ statement → IsStatement l x (pieces.tag w is) statement
  assign_stands w is None r e h = never statement h stands
  assign_stands w is (Some n) r e h =
      let (name, c, same) = assigned l (tokens_of is) n e in
      subst (IsStatement l x (pieces.tag w is)) (ap leaf (sym same) ∙ h) (is_assign r (assign_takes l name c (tokens_of is) (e ∙ ap Some same)))

  bare_stands : (w : Text) (is : List Item) (n : Statement) → IsStatement l x (pieces.tag w []) n → bare n (tokens_of is) ≡ statement → IsStatement l x (pieces.tag w is) statement
  bare_stands w [] n rule h = subst (IsStatement l x (pieces.tag w [])) h rule
  bare_stands w (i ∷ is) n rule h = never statement h stands

  host_stands : (w : Text) (is : List Item) (n : ℕ) (o : Option Node) → role_of l x w ≡ Some (HostTag n) → host_tag_of l n (tokens_of is) ≡ o → leaf_or o ≡ statement → IsStatement l x (pieces.tag w is) statement
  host_stands w is n None r e h = never statement h stands
  host_stands w is n (Some node) r e h =
      let known = registered_in l.filters in
      let (called, at, more) = bind_some (call_at l n) _ node e in
      let (c, read, same) = map_some (host_chain_of known called (tokens_of is)) output node more in
      subst (IsStatement l x (pieces.tag w is)) (ap leaf same ∙ h) (is_host_tag r at (host_takes known called c (tokens_of is) read))

  host_block_stands : (w : Text) (is : List Item) (n : ℕ) (o : Option (Nodes → Node)) → role_of l x w ≡ Some (HostBlock n) → host_block_of l n (tokens_of is) ≡ o → one_or (Host n) o ≡ statement → IsStatement l x (pieces.tag w is) statement
  host_block_stands w is n None r e h = never statement h stands
  host_block_stands w is n (Some make) r e h =
      let known = registered_in l.filters in
      let (called, at, more) = bind_some (block_at l n) _ make e in
      let (call, read, same) = map_some (host_call_of known called.filter called.given (tokens_of is)) through_call make more in
      subst (IsStatement l x (pieces.tag w is)) (ap (λ make. begins (of_one (Host n) make)) same ∙ h) (is_host_block r at (host_call_takes known called.filter called.given call (tokens_of is) read))

  -- of a tag whose items are one word, one value ..
  part_stands : {A : Type 0} (w : Text) (is : List Item) (o : Option A) (to : Option A → Statement) → to None ≡ refused → to o ≡ statement → ((a : A) → o ≡ Some a → IsStatement l x (pieces.tag w is) (to (Some a))) → IsStatement l x (pieces.tag w is) statement
  part_stands w is None to none h rule = never statement (sym none ∙ h) stands
  part_stands w is (Some a) to none h rule = subst (IsStatement l x (pieces.tag w is)) h (rule a refl)

  tag_stands : (w : Text) (is : List Item) (role : Option Role) → role_of l x w ≡ role → tag_statement l x is (tokens_of is) role ≡ statement → IsStatement l x (pieces.tag w is) statement
  tag_stands w is None r h = never statement h stands
  tag_stands w is (Some End) r h = end_stands w is (in_host x) r refl h
  tag_stands w is (Some (HostTag n)) r h = host_stands w is n (host_tag_of l n (tokens_of is)) r refl h
  tag_stands w is (Some (HostBlock n)) r h = host_block_stands w is n (host_block_of l n (tokens_of is)) r refl h
  tag_stands w is (Some (Word Elsif)) r h = elsif_stands w is (condition_of (tokens_of is)) r refl h
  tag_stands w is (Some (Word Else)) r h = subst (IsStatement l x (pieces.tag w is)) h (is_else r)
  tag_stands w is (Some (Tag tags.Assign)) r h = assign_stands w is (assign_of l (tokens_of is)) r refl h
  tag_stands w is (Some (Start blocks.If)) r h = if_stands w is (condition_of (tokens_of is)) r refl h
  tag_stands w is (Some (Start blocks.Unless)) r h = unless_stands w is (condition_of (tokens_of is)) r refl h
  tag_stands w is (Some (Word BareElse)) r h = bare_stands w is otherwise (is_bare_else r) h
  tag_stands w is (Some (Word When)) r h = part_stands w is (values_of CommasOr (tokens_of is)) arm_or refl h (λ vs e. is_when r (values_takes CommasOr vs (tokens_of is) e))
  tag_stands w is (Some (Tag tags.Break)) r h = bare_stands w is (leaf break_loop) (is_break r) h
  tag_stands w is (Some (Tag tags.Continue)) r h = bare_stands w is (leaf continue_loop) (is_continue r) h
  tag_stands w is (Some (Tag tags.Increment)) r h = part_stands w is (word_alone (tokens_of is)) (λ (o : Option Text). leaf_or (option_map (λ w. increment w) o)) refl h (λ name e. is_increment r (one_word (tokens_of is) name e))
  tag_stands w is (Some (Tag tags.Decrement)) r h = part_stands w is (word_alone (tokens_of is)) (λ (o : Option Text). leaf_or (option_map (λ w. decrement w) o)) refl h (λ name e. is_decrement r (one_word (tokens_of is) name e))
  tag_stands w is (Some (Tag tags.Include)) r h = part_stands w is (include_of (tokens_of is)) (λ (o : Option (Expression × Bindings)). leaf_or (option_map include_node o)) refl h (λ y e. is_include r (include_takes y.0 y.1 (tokens_of is) e))
  tag_stands w is (Some (Tag tags.JekyllInclude)) r h = part_stands w is (jekyll_of is) (λ (o : Option (Text × Bindings)). leaf_or (option_map jekyll_node o)) refl h (λ y e. is_jekyll_include r (jekyll_takes y.0 y.1 is e))
  tag_stands w is (Some (Tag tags.Render)) r h = part_stands w is (render_of (tokens_of is)) (λ (o : Option (Expression × Rendered)). leaf_or (option_map render_node o)) refl h (λ y e. is_render r (render_takes y.0 y.1.0 y.1.1 (tokens_of is) e))
  tag_stands w is (Some (Start blocks.Capture)) r h = part_stands w is (word_alone (tokens_of is)) (λ (o : Option Text). one_or Capture (option_map (λ w f. capture w f) o)) refl h (λ name e. is_capture r (one_word (tokens_of is) name e))
  tag_stands w is (Some (Start blocks.Case)) r h = part_stands w is (value_alone (tokens_of is)) (λ (o : Option Expression). many_or Case (option_map (λ x ws o. case_of x ws o) o)) refl h (λ t e. is_case r (one_value (tokens_of is) t e))
  tag_stands w is (Some (Tag tags.Cycle)) r h = part_stands w is (cycle_of (tokens_of is)) (λ (o : Option Cycle). leaf_or (option_map (λ g. shown_node l (cycle_node g)) (option_map with_group o))) refl h (λ c e. is_cycle r (cycle_takes (tokens_of is) c e))
  tag_stands w is (Some (Start blocks.IfChanged)) r h = bare_stands w is (begins (of_one IfChanged (λ f. ifchanged f))) (is_ifchanged r) h
  tag_stands w is (Some (Start blocks.For)) r h = part_stands w is (loop_of Each (tokens_of is)) (λ (o : Option Head). two_or For (option_map for_node o)) refl h (λ y e. is_for r (loop_takes Each y (tokens_of is) e))
  tag_stands w is (Some (Start blocks.TableRow)) r h = part_stands w is (loop_of Rows (tokens_of is)) (λ (o : Option Head). one_or TableRow (option_map row_node o)) refl h (λ y e. is_tablerow r (loop_takes Rows y (tokens_of is) e))
  tag_stands w is (Some (Start blocks.Raw)) r h = never statement h stands
  tag_stands w is (Some (Start blocks.Comment)) r h = never statement h stands

  raw_stands : (w t : Text) (o : Option Body) → verbatim_body (role_of l x w) ≡ o → raw_statement t o ≡ statement → IsStatement l x (pieces.raw w t) statement
  raw_stands w t None e h = never statement h stands
  raw_stands w t (Some bodies.Raw) e h = subst (IsStatement l x (pieces.raw w t)) h (is_raw e)
  raw_stands w t (Some bodies.Comment) e h = never statement h stands

  comment_stands : (w : Text) (o : Option Body) → verbatim_body (role_of l x w) ≡ o → comment_statement o ≡ statement → IsStatement l x (pieces.comment w) statement
  comment_stands w None e h = never statement h stands
  comment_stands w (Some bodies.Raw) e h = never statement h stands
  comment_stands w (Some bodies.Comment) e h = subst (IsStatement l x (pieces.comment w)) h (is_comment e)

  piece_stands : (p : Piece) → reads l x p ≡ statement → IsStatement l x p statement
  piece_stands (pieces.text t) h = subst (IsStatement l x (pieces.text t)) h is_text
  piece_stands (pieces.output is) h = output_stands is (output_of l (tokens_of is)) refl h
  piece_stands (pieces.tag w is) h = tag_stands w is (role_of l x w) refl h
  piece_stands (pieces.raw w t) h = raw_stands w t (verbatim_body (role_of l x w)) refl h
  piece_stands (pieces.comment w) h = comment_stands w (verbatim_body (role_of l x w)) refl h

pub statement_stands : (l : Language) (x : BlockContext) (p : Piece) (statement : Statement) → Stands statement → reads l x p ≡ statement → IsStatement l x p statement
statement_stands l x p statement s h = piece_stands l x statement s p h

pub stands_of : (statement : Statement) → (statement ≡ refused → ⊥) → Stands statement
stands_of (leaf n) f = tt
stands_of (closed n) f = tt
stands_of (begins o) f = tt
stands_of (elsif next) f = tt
stands_of (arm vs) f = tt
stands_of otherwise f = tt
stands_of ends f = tt
stands_of refused f = f refl
