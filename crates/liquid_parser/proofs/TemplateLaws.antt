-- A source is read as just the tree that the written grammar gives it.
use Rattle.std.proofs.Common.{◌≡◌, List, [], ◌∷◌, length, false, Option, Some, None, refl, sym, ap, ◌∙◌, arith}
use Rattle.std.specs.Option.{option_and_then}
use Rattle.liquid_model.specs.Texts.{Text}
use Rattle.liquid_parser.specs.Classification.{tag_statement, raw_statement, comment_statement, reads}
use Rattle.liquid_language.specs.Roles.{role_of, verbatim_body}
use Rattle.liquid_language.specs.declared.block.Role.{Role}
use Rattle.liquid_language.specs.declared.block.BlockContext.{BlockContext}
use Rattle.liquid_language.specs.declared.block.Role.TheVariants.{End, Control as Word, Tag, Block as Start, HostBlock, HostTag}
use Rattle.liquid_language.specs.declared.registry.BlockKind.TheVariants as blocks
use Rattle.liquid_lexer.specs.declared.piece.Body.{Body}
use Rattle.liquid_lexer.specs.declared.piece.Body.TheVariants as bodies
use Rattle.liquid_parser.specs.OpenBlocks.{Level, State, context_of, statement_step, at_end, go, read_pieces}
use Rattle.liquid_lexer.specs.Pieces.{Piece, text, output, tag, raw, comment}
use Rattle.liquid_lexer.specs.SourceReading.{all_steps, source_at, TakesWanted}
use Rattle.liquid_language.specs.Styles.{style_of}
use Rattle.liquid_parser.specs.Parsing.{IsTemplate, IsWrittenTree, IsOnlyWritten, IsOnlyTree, HasNoTree, kept_nodes}
use Rattle.liquid_parser.specs.inside.TemplateReading.{body_of, piece_step, begun_with, template_at}
use Rattle.liquid_evaluation.specs.Tree.{Nodes, no_nodes}
use Rattle.liquid_language.specs.declared.registry.Language.{Language}
use Rattle.liquid_parser.specs.Statements.{IsStatement}
use Rattle.liquid_parser.proofs.StatementLaws.{statement_says, statement_stands}
use Rattle.liquid_parser.proofs.NestingLaws.{tree_takes, tree_again}
use Rattle.liquid_lexer.proofs.SourceLaws.{source_takes, source_again}
use Rattle.liquid_model.proofs.WordLaws.{bind_some, from_some}

module _ (l : Language) where
  bare_tag : (x : BlockContext) (role : Option Role) (s next : State) → statement_step (tag_statement l x [] [] role) s.0 s.1 ≡ Some next → verbatim_body role ≡ None
  bare_tag x None s next h = refl
  bare_tag x (Some End) s next h = refl
  bare_tag x (Some (Word word)) s next h = refl
  bare_tag x (Some (Tag kind)) s next h = refl
  bare_tag x (Some (HostTag n)) s next h = refl
  bare_tag x (Some (HostBlock n)) s next h = refl
  bare_tag x (Some (Start blocks.If)) s next h = refl
  bare_tag x (Some (Start blocks.Unless)) s next h = refl
  bare_tag x (Some (Start blocks.Capture)) s next h = refl
  bare_tag x (Some (Start blocks.Case)) s next h = refl
  bare_tag x (Some (Start blocks.IfChanged)) s next h = refl
  bare_tag x (Some (Start blocks.For)) s next h = refl
  bare_tag x (Some (Start blocks.TableRow)) s next h = refl
  bare_tag x (Some (Start blocks.Raw)) s next h = absurd cc
  bare_tag x (Some (Start blocks.Comment)) s next h = absurd cc

  raw_wanted : (t : Text) (body : Option Body) (s next : State) → statement_step (raw_statement t body) s.0 s.1 ≡ Some next → body ≡ Some bodies.Raw
  raw_wanted t None s next h = absurd cc
  raw_wanted t (Some bodies.Raw) s next h = refl
  raw_wanted t (Some bodies.Comment) s next h = absurd cc

  comment_wanted : (body : Option Body) (s next : State) → statement_step (comment_statement body) s.0 s.1 ≡ Some next → body ≡ Some bodies.Comment
  comment_wanted None s next h = absurd cc
  comment_wanted (Some bodies.Raw) s next h = absurd cc
  comment_wanted (Some bodies.Comment) s next h = refl

  -- the pieces that the machine takes have bodies only as it wants them
  agrees : TakesWanted (body_of l) (piece_step l)
  agrees s next (text t) h = tt
  agrees s next (output is) h = tt
  agrees s next (tag w []) h = bare_tag (context_of s.0) (role_of l (context_of s.0) w) s next h
  agrees s next (tag w (i ∷ is)) h = tt
  agrees s next (raw w t) h = raw_wanted t (verbatim_body (role_of l (context_of s.0) w)) s next h
  agrees s next (comment w) h = comment_wanted (verbatim_body (role_of l (context_of s.0) w)) s next h

  -- one piece after another, and then the end
  steps_read : (ps : List Piece) (ls : List Level) (cur : Nodes) → option_and_then (λ s. at_end s.0 s.1) (all_steps (piece_step l) ps (ls, cur)) ≡ read_pieces (reads l) ps ls cur
  steps_read [] ls cur = refl
  steps_read (p ∷ ps) ls cur = on (statement_step (reads l (context_of ls) p) ls cur) (λ s. steps_read ps s.0 s.1)
    where
      on : (o : Option State) → ((s : State) → option_and_then (λ s. at_end s.0 s.1) (all_steps (piece_step l) ps s) ≡ read_pieces (reads l) ps s.0 s.1)
          → option_and_then (λ s. at_end s.0 s.1) (option_and_then (all_steps (piece_step l) ps) o) ≡ go (read_pieces (reads l) ps) o
      on None more = refl
      on (Some s) more = more s

  pub written_takes : (t : Nodes) (source : Text) → template_at l source ≡ Some t → IsWrittenTree l t source
  unfolding template_at IsWrittenTree
  written_takes t source h =
      let (s, at_s, ends) = bind_some (source_at (style_of l) (body_of l) (piece_step l) (length source) false begun_with source) (λ s. at_end s.0 s.1) t h in
      let (ps, is, steps) = source_takes (style_of l) (body_of l) (piece_step l) (length source) false begun_with source s at_s in
      (ps, is, tree_takes (IsStatement l) (reads l) (statement_says l) (statement_stands l) t ps (sym (steps_read ps [] no_nodes) ∙ ap (option_and_then (λ s. at_end s.0 s.1)) steps ∙ ends))

  pub written_again : (t : Nodes) (source : Text) → IsWrittenTree l t source → template_at l source ≡ Some t
  unfolding template_at IsWrittenTree
  written_again t source (ps, is, nodes) =
      let (s, steps, ends) = bind_some (all_steps (piece_step l) ps begun_with) (λ s. at_end s.0 s.1) t (steps_read ps [] no_nodes ∙ tree_again (IsStatement l) (reads l) (statement_says l) (statement_stands l) t ps nodes) in
      ap (option_and_then (λ s. at_end s.0 s.1)) (source_again (style_of l) (body_of l) (piece_step l) agrees is (length source) (omega arith) begun_with s steps) ∙ ends

  pub only_written : (t : Nodes) (source : Text) → template_at l source ≡ Some t → IsOnlyWritten l t source
  only_written t source h = λ u. (λ is. from_some (sym (written_again u source is) ∙ h), λ e. written_takes u source (h ∙ ap Some (sym e)))

  pub no_tree : (source : Text) → template_at l source ≡ None → HasNoTree l source
  unfolding IsTemplate
  no_tree source h t (u, is, kept) = let e = sym h ∙ written_again u source is in absurd cc

  -- what the language drops of the only tree that is written leaves the only template
  pub only_kept : (u : Nodes) (source : Text) → IsOnlyWritten l u source → IsOnlyTree l (kept_nodes l u) source
  unfolding IsTemplate
  only_kept u source only = λ t. (λ (v, is, kept). kept ∙ ap (kept_nodes l) ((only v).0 is), λ e. (u, (only u).1 refl, e))
