-- The loop of `parse`, a turn at a time.
use Rattle.std.proofs.Common.{◌≡◌, ℕ, ◌-◌, ◌<◌, ◌≤◌, nat_le, nat_lt, arith, List, [], ◌∷◌, length, Bool, true, false, cond, Option, Some, None, refl, sym, ap, subst, ◌∙◌}
use Rattle.std.proofs.lemmas.Bool.Decides.{nat_tests}
use Rattle.std.specs.Option.{option_and_then}
use Rattle.std.specs.Prelude.{Result, Ok, Err}
use Rattle.liquid_model.specs.Texts.{Text}
use Rattle.liquid_parser.specs.inside.Building.{IsBuilding, Finishes, text_added}
use Rattle.liquid_parser.specs.inside.Classifies.{Classifies}
use Rattle.liquid_parser.specs.Classification.{if_of, unless_of, bare, capture_of, case_for, for_of, rows_of, one_or, many_or, two_or, tag_statement, raw_statement, comment_statement, reads, is_start, starts_block}
use Rattle.liquid_language.specs.Roles.{role_of, verbatim_body}
use Rattle.liquid_lexer.specs.Items.{Item}
use Rattle.liquid_lexer.specs.Tokens.{Token, tokens_of}
use Rattle.liquid_language.specs.declared.block.Block.{Block}
use Rattle.liquid_language.specs.declared.block.Block.TheVariants.{If, Unless, Capture, Case, For, TableRow, Host}
use Rattle.liquid_language.specs.declared.block.BlockContext.{BlockContext}
use Rattle.liquid_language.specs.declared.block.Role.{Role}
use Rattle.liquid_language.specs.declared.block.Role.TheVariants.{End, Control as Word, Tag, Block as Start, HostBlock, HostTag}
use Rattle.liquid_language.specs.declared.registry.BlockKind.TheVariants as blocks
use Rattle.liquid_parser.specs.HostTags.{host_block_of}
use Rattle.liquid_parser.specs.Nesting.{Opening, Statement, leaf, closed, begins, elsif, arm, otherwise, ends, refused}
use Rattle.liquid_parser.specs.OpenBlocks.{Level, level, State, begun, block_depth, context_of, statement_step, at_end, with_node}
use Rattle.liquid_parser.specs.Parsing.{ReadsTo}
use Rattle.liquid_parser.specs.inside.TemplateReading.{begun_with, body_of, piece_step, template_at, whole_at}
use Rattle.liquid_lexer.specs.Pieces as pieces
use Rattle.liquid_lexer.specs.Pieces.{Piece, stripped}
use Rattle.liquid_lexer.specs.Readers.{Fails}
use Rattle.liquid_lexer.specs.SourceReading.{Markup, markup_at, text_step, source_at}
use Rattle.liquid_language.specs.Styles.{style_of}
use Rattle.liquid_syntax.specs.Templates.{tree_of}
use Rattle.liquid_evaluation.specs.Tree.{Node, Nodes, no_nodes, Whens}
use Rattle.liquid_lexer.specs.ValueReading.{text_at}
use Rattle.liquid_model.specs.Front.{past_byte}
use Rattle.liquid_parser.specs.declared.build.Builder.{Builder}
use Rattle.liquid_lexer.specs.declared.fault.ParseError.{ParseError}
use Rattle.liquid_lexer.specs.declared.fault.ParseError.TheVariants as errors
use Rattle.liquid_language.specs.declared.registry.Language.{Language}
use Rattle.liquid_lexer.specs.declared.piece.Body.{Body}
use Rattle.liquid_lexer.specs.declared.piece.Body.TheVariants as bodies
use Rattle.liquid_syntax.specs.declared.template.Template.{Template}
use Rattle.liquid_lexer.proofs.SourceTurns.{last_turn, no_markup, no_body, no_step, next_turn, turn_shorter}
use Rattle.liquid_parser.proofs.TemplateLaws.{only_written, no_tree}

pub fails_by : {X Y : Type 0} (e : ParseError) (o : Option X) (p : Option Y) → (o ≡ None → p ≡ None) → Fails e o → Fails e p
fails_by errors.Memory o p f h = tt
fails_by (errors.Fault g) o p f h = f h

pub after_text : (b : Builder) (ls : List Level) (now : Nodes) → ((s : State) × (Some (ls, now) ≡ Some s) × IsBuilding b s.0 s.1) → IsBuilding b ls now
after_text b ls now (s, e, h) = let same : (ls, now) ≡ s = cc in subst (λ (s : State). IsBuilding b s.0 s.1) (sym same) h

pub statement_refused : (e : ParseError) (l : Statement) (ls : List Level) (cur : Nodes) → Classifies l (Err e) → Fails e (statement_step l ls cur)
statement_refused errors.Memory l ls cur h = tt
statement_refused (errors.Fault f) l ls cur h = ap (λ (l : Statement). statement_step l ls cur) h

refused_all : (l : Language) (e : ParseError) (source : Text) → Fails e (template_at l source) → ReadsTo l source (Err e)
refused_all l errors.Memory source h = tt
refused_all l (errors.Fault f) source h = no_tree l source h

-- the state after all pieces of the source
abbrev pub all_of : Language → Text → Option State
all_of l source = source_at (style_of l) (body_of l) (piece_step l) (length source) false begun_with source

at_once : (l : Language) (source : Text) → template_at l source ≡ option_and_then (λ s. at_end s.0 s.1) (all_of l source)
unfolding template_at
at_once l source = refl

-- a piece is refused, so the source is
pub source_refused : (l : Language) (e : ParseError) (source : Text) → Fails e (all_of l source) → ReadsTo l source (Err e)
source_refused l e source h = refused_all l e source (fails_by e (all_of l source) (template_at l source) (λ g. at_once l source ∙ ap (option_and_then (λ s. at_end s.0 s.1)) g) h)

-- the template that the builder makes of the state after all pieces
pub source_read : (l : Language) (source : Text) (s : State) (r : Result Template ParseError) → all_of l source ≡ Some s → Finishes (at_end s.0 s.1) r → ReadsTo l source r
source_read l source s (Ok t) e f = only_written l (tree_of t) source (at_once l source ∙ ap (option_and_then (λ s. at_end s.0 s.1)) e ∙ f)
source_read l source s (Err errors.Memory) e f = tt
source_read l source s (Err (errors.Fault g)) e f = no_tree l source (at_once l source ∙ ap (option_and_then (λ s. at_end s.0 s.1)) e ∙ f)

-- where a state was to come there is no fault
pub taken_fails : {X : Type 0} (e : ParseError) (s : State) (o : Option X) → Fails e (Some s) → Fails e o
taken_fails errors.Memory s o h = tt
taken_fails (errors.Fault f) s o h = absurd cc

-- where blocks nest as deep as they may, no block begins
full : (n : ℕ) → nat_le 200 n ≡ true → nat_lt n 200 ≡ false
full n h = grind (arith, nat_tests)

start_statement : Statement → Type 0
start_statement (leaf n) = ⊥
start_statement (closed n) = Unit {0}
start_statement (begins o) = Unit {0}
start_statement (elsif next) = ⊥
start_statement (arm vs) = ⊥
start_statement otherwise = ⊥
start_statement ends = ⊥
start_statement refused = Unit {0}

start_refused : (x : Statement) (ls : List Level) (cur : Nodes) → start_statement x → nat_lt (block_depth ls) 200 ≡ false → statement_step x ls cur ≡ None
unfolding start_statement
start_refused (leaf n) ls cur s h = absurd s
start_refused (closed n) ls cur s h = ap (λ (b : Bool). cond b (Some (ls, with_node cur n)) None) h
start_refused (begins o) ls cur s h = ap (λ (b : Bool). cond b (Some (level (begun o) cur false ∷ ls, no_nodes)) None) h
start_refused (elsif next) ls cur s h = absurd s
start_refused (arm vs) ls cur s h = absurd s
start_refused otherwise ls cur s h = absurd s
start_refused ends ls cur s h = absurd s
start_refused refused ls cur s h = refl

two_starts : (b : Block) (o : Option (Nodes → Nodes → Node)) → start_statement (two_or b o)
unfolding start_statement
two_starts b None = tt
two_starts b (Some make) = tt

one_starts : (b : Block) (o : Option (Nodes → Node)) → start_statement (one_or b o)
unfolding start_statement
one_starts b None = tt
one_starts b (Some make) = tt

many_starts : (b : Block) (o : Option (Whens → Nodes → Node)) → start_statement (many_or b o)
unfolding start_statement
many_starts b None = tt
many_starts b (Some make) = tt

bare_starts : (o : Opening) (ts : List Token) → start_statement (bare (begins o) ts)
unfolding start_statement
bare_starts o [] = tt
bare_starts o (t ∷ ts) = tt

tag_starts : (l : Language) (x : BlockContext) (is : List Item) (ts : List Token) (role : Option Role) → is_start role ≡ true → start_statement (tag_statement l x is ts role)
unfolding start_statement
tag_starts l x is ts None h = absurd cc
tag_starts l x is ts (Some End) h = absurd cc
tag_starts l x is ts (Some (Word word)) h = absurd cc
tag_starts l x is ts (Some (Tag kind)) h = absurd cc
tag_starts l x is ts (Some (HostTag n)) h = absurd cc
tag_starts l x is ts (Some (HostBlock n)) h = one_starts (Host n) (host_block_of l n ts)
tag_starts l x is ts (Some (Start blocks.If)) h = two_starts If (if_of ts)
tag_starts l x is ts (Some (Start blocks.Unless)) h = two_starts Unless (unless_of ts)
tag_starts l x is ts (Some (Start blocks.Capture)) h = one_starts Capture (capture_of ts)
tag_starts l x is ts (Some (Start blocks.Case)) h = many_starts Case (case_for ts)
tag_starts l x is ts (Some (Start blocks.IfChanged)) h = bare_starts _ ts
tag_starts l x is ts (Some (Start blocks.For)) h = two_starts For (for_of ts)
tag_starts l x is ts (Some (Start blocks.TableRow)) h = one_starts TableRow (rows_of ts)
tag_starts l x is ts (Some (Start blocks.Raw)) h = tt
tag_starts l x is ts (Some (Start blocks.Comment)) h = tt

raw_starts : (t : Text) (body : Option Body) → start_statement (raw_statement t body)
unfolding start_statement
raw_starts t None = tt
raw_starts t (Some bodies.Raw) = tt
raw_starts t (Some bodies.Comment) = tt

comment_starts : (body : Option Body) → start_statement (comment_statement body)
unfolding start_statement
comment_starts None = tt
comment_starts (Some bodies.Raw) = tt
comment_starts (Some bodies.Comment) = tt

piece_starts : (l : Language) (x : BlockContext) (p : Piece) → starts_block l x p ≡ true → start_statement (reads l x p)
piece_starts l x (pieces.text t) h = absurd cc
piece_starts l x (pieces.output is) h = absurd cc
piece_starts l x (pieces.tag w is) h = tag_starts l x is (tokens_of is) (role_of l x w) h
piece_starts l x (pieces.raw w t) h = raw_starts t (verbatim_body (role_of l x w))
piece_starts l x (pieces.comment w) h = comment_starts (verbatim_body (role_of l x w))

pub no_room : (l : Language) (x : BlockContext) (p : Piece) (ls : List Level) (cur : Nodes) → starts_block l x p ≡ true → nat_le 200 (block_depth ls) ≡ true → statement_step (reads l x p) ls cur ≡ None
no_room l x p ls cur o d = start_refused (reads l x p) ls cur (piece_starts l x p o) (full (block_depth ls) d)

text_taken : (l : Language) (t : Text) (ls : List Level) (cur : Nodes) → text_step (piece_step l) t (ls, cur) ≡ Some (ls, text_added t cur)
text_taken l [] ls cur = refl
text_taken l (b ∷ bs) ls cur = refl

-- ---- a piece, with the body after it

module _ (l : Language) (m : Markup × Text) (ls : List Level) (cur : Nodes) where
  pub no_whole : (e : ParseError) → Fails e (whole_at l (ls, cur) m) → Fails e (option_and_then (λ v. piece_step l (ls, cur) v.0.piece) (whole_at l (ls, cur) m))
  no_whole e h = fails_by e _ _ (λ g. ap (option_and_then (λ v. piece_step l (ls, cur) v.0.piece)) g) h

  pub no_piece : (v : Markup × Text) → whole_at l (ls, cur) m ≡ Some v → (e : ParseError) → Fails e (statement_step (reads l (context_of ls) v.0.piece) ls cur) → Fails e (option_and_then (λ v. piece_step l (ls, cur) v.0.piece) (whole_at l (ls, cur) m))
  no_piece v is e h = fails_by e _ _ (λ g. ap (option_and_then (λ v. piece_step l (ls, cur) v.0.piece)) is ∙ g) h

-- ---- a turn

module _ (l : Language) (all : Option State) (rest t following : Text) (n : ℕ) (front : Bool) (ls : List Level) (cur : Nodes)
    (so_far : all ≡ source_at (style_of l) (body_of l) (piece_step l) n front (ls, cur) rest) (cut : (t, following) ≡ text_at rest) where
  pub last_text : (st : Text) → past_byte 123 following ≡ None → st ≡ stripped front t false → all ≡ Some (ls, text_added st cur)
  last_text st none e =
      so_far ∙ last_turn rest t following cut (style_of l) (body_of l) (piece_step l) n front (ls, cur) none ∙ text_taken l (stripped front t false) ls cur
      ∙ ap (λ st. Some (ls, text_added st cur)) (sym e)

  module _ (inside : List ℕ) (is : Some inside ≡ past_byte 123 following) where
    pub markup_refused : (e : ParseError) → Fails e (markup_at (style_of l) inside) → Fails e all
    markup_refused e h = fails_by e (markup_at (style_of l) inside) all (λ g. so_far ∙ no_markup rest t following cut (style_of l) (body_of l) (piece_step l) n front (ls, cur) inside (sym is) g) h

    module _ (m : Markup × List ℕ) (found : markup_at (style_of l) inside ≡ Some m) (st : Text) (strip : st ≡ stripped front t m.0.before) where
      texted : text_step (piece_step l) (stripped front t m.0.before) (ls, cur) ≡ Some (ls, text_added st cur)
      texted = ap (λ t. text_step (piece_step l) t (ls, cur)) (sym strip) ∙ text_taken l st ls cur

      refused_by : (o : Option (Markup × List ℕ)) → whole_at l (ls, text_added st cur) m ≡ o → option_and_then (λ v. piece_step l (ls, text_added st cur) v.0.piece) o ≡ None → all ≡ None
      refused_by None e h = so_far ∙ no_body rest t following cut (style_of l) (body_of l) (piece_step l) n front (ls, cur) inside (sym is) m found (ls, text_added st cur) texted e
      refused_by (Some v) e h = so_far ∙ no_step rest t following cut (style_of l) (body_of l) (piece_step l) n front (ls, cur) inside (sym is) m found (ls, text_added st cur) texted v e h

      -- a body without its end, or a piece that can't stand there
      pub piece_refused : (e : ParseError) → Fails e (option_and_then (λ v. piece_step l (ls, text_added st cur) v.0.piece) (whole_at l (ls, text_added st cur) m)) → Fails e all
      piece_refused e h = fails_by e _ all (λ g. refused_by (whole_at l (ls, text_added st cur) m) refl g) h

      module _ (v : Markup × List ℕ) (closed : whole_at l (ls, text_added st cur) m ≡ Some v) where
        pub went_on : (s : State) → length rest ≤ n → piece_step l (ls, text_added st cur) v.0.piece ≡ Some s
            → all ≡ source_at (style_of l) (body_of l) (piece_step l) (n - 1) v.0.after s v.1
        went_on s le g = so_far ∙ next_turn rest t following cut (style_of l) (body_of l) (piece_step l) n front (ls, cur) inside (sym is) m found (ls, text_added st cur) texted v closed le s g

        pub went_shorter : length v.1 < length rest
        went_shorter = turn_shorter rest t following cut (style_of l) (body_of l) (piece_step l) n front (ls, cur) inside (sym is) m found (ls, text_added st cur) texted v closed
