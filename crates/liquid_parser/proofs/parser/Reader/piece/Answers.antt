use Rattle.std.proofs.Common.{◌≡◌, ℕ, List, sym, ap, ◌∙◌, refl, subst, nat_le, Option}
use Rattle.std.proofs.lemmas.Result.{err_from_is_err_and}
use Rattle.std.specs.Prelude.{Err}
use Rattle.liquid_lexer.specs.PieceView.{markup_view, piece_view}
use Rattle.liquid_lexer.specs.Readers.{Fails}
use Rattle.liquid_lexer.specs.SourceReading.{Markup, body_at, wanted_body}
use Rattle.liquid_lexer.specs.declared.piece.Body.{Body}
use Rattle.liquid_parser.specs.inside.Building.{statement_view}
use Rattle.liquid_syntax.specs.Flats.{flats}
use Rattle.liquid_parser.specs.inside.Classifies.{Classifies}
use Rattle.liquid_parser.specs.Classification.{starts_block, reads}
use Rattle.liquid_parser.specs.Nesting.{Statement}
use Rattle.liquid_parser.specs.OpenBlocks.{context_of, statement_step}
use Rattle.liquid_language.specs.Roles.{body_after}
use Rattle.liquid_language.specs.declared.block.BlockContext.{BlockContext}
use Rattle.liquid_parser.proofs.ChainCalls.{faulted}
use Rattle.liquid_parser.proofs.Grow.{context_is}
use Rattle.liquid_parser.proofs.ParseTurns.{no_piece, no_room, no_whole, statement_refused}
use Rattle.liquid_parser.proofs.parser.Reader.piece.Goals as goal

pub returns-in_err-markup : goal.returns-in_err-markup
returns-in_err-markup c = λ ls cur b.
    let found : Markup × List ℕ = (markup_view c.args.found.0, c.args.found.1.now) in
    let at = c.context-context.ensures ∙ context_is (flats c.args.self.now.builder.nodes.items) c.args.self.now.builder.blocks.items ls cur b.0 in
    let wanted = c.body_after-body.ensures ∙ ap (λ (x : BlockContext). wanted_body (body_after c.args.language.now x) (piece_view c.args.found.0.piece)) at in
    let p = err_from_is_err_and c.from_residual.result c.from_residual.ensures.1 in
    rw (p.1, p.2) (no_whole c.args.language.now found ls cur c.in_err-markup.field-0.0
    (subst (λ (o : Option Body). Fails c.in_err-markup.field-0.0 (body_at o found.0 found.1)) wanted c.in_err-markup.ensures))

pub returns-then-opens : goal.returns-then-opens
returns-then-opens c = λ ls cur b.
    let found : Markup × List ℕ = (markup_view c.args.found.0, c.args.found.1.now) in
    let at = c.context-context.ensures ∙ context_is (flats c.args.self.now.builder.nodes.items) c.args.self.now.builder.blocks.items ls cur b.0 in
    let wanted = c.body_after-body.ensures ∙ ap (λ (x : BlockContext). wanted_body (body_after c.args.language.now x) (piece_view c.args.found.0.piece)) at in
    let closed = ap (λ (o : Option Body). body_at o found.0 found.1) (sym wanted) ∙ c.in_ok-markup.ensures in
    let full = ap (nat_le 200) (sym b.1) ∙ sym c.is_full.ensures ∙ c.if-is_full.true in
    let begins = ap (λ (x : BlockContext). starts_block c.args.language.now x (piece_view c.in_ok-markup.markup.piece)) (sym at) ∙ sym c.opens.ensures ∙ c.if-opens.true in
    let none = no_room c.args.language.now (context_of ls) (piece_view c.in_ok-markup.markup.piece) ls cur begins full in
    no_piece c.args.language.now found ls cur (markup_view c.in_ok-markup.markup, c.in_ok-markup.after.now) closed c.too_nested.result (faulted c.too_nested.result _ none)

pub returns-in_err-statement : goal.returns-in_err-statement
returns-in_err-statement c = λ ls cur b.
    let found : Markup × List ℕ = (markup_view c.args.found.0, c.args.found.1.now) in
    let at = c.context-context.ensures ∙ context_is (flats c.args.self.now.builder.nodes.items) c.args.self.now.builder.blocks.items ls cur b.0 in
    let wanted = c.body_after-body.ensures ∙ ap (λ (x : BlockContext). wanted_body (body_after c.args.language.now x) (piece_view c.args.found.0.piece)) at in
    let closed = ap (λ (o : Option Body). body_at o found.0 found.1) (sym wanted) ∙ c.in_ok-markup.ensures in
    let p = err_from_is_err_and c.from_residual-in_err-statement.result c.from_residual-in_err-statement.ensures.1 in
    let classified = subst (λ (x : BlockContext). Classifies (reads c.args.language.now x (piece_view c.in_ok-markup.markup.piece)) (Err c.in_err-statement.field-0.0)) at c.in_err-statement.ensures.statement in
    rw (p.1, p.2) (no_piece c.args.language.now found ls cur (markup_view c.in_ok-markup.markup, c.in_ok-markup.after.now) closed c.in_err-statement.field-0.0
    (statement_refused c.in_err-statement.field-0.0 _ ls cur classified))

pub returns-in_err-add : goal.returns-in_err-add
returns-in_err-add c = λ ls cur b.
    let found : Markup × List ℕ = (markup_view c.args.found.0, c.args.found.1.now) in
    let at = c.context-context.ensures ∙ context_is (flats c.args.self.now.builder.nodes.items) c.args.self.now.builder.blocks.items ls cur b.0 in
    let wanted = c.body_after-body.ensures ∙ ap (λ (x : BlockContext). wanted_body (body_after c.args.language.now x) (piece_view c.args.found.0.piece)) at in
    let closed = ap (λ (o : Option Body). body_at o found.0 found.1) (sym wanted) ∙ c.in_ok-markup.ensures in
    let p = err_from_is_err_and c.from_residual-in_err-add.result c.from_residual-in_err-add.ensures.1 in
    let statement : reads c.args.language.now (context_of ls) (piece_view c.in_ok-markup.markup.piece) ≡ statement_view c.in_ok-statement.statement = ap (λ (x : BlockContext). reads c.args.language.now x (piece_view c.in_ok-markup.markup.piece)) (sym at) ∙ c.in_ok-statement.ensures.statement.0 in
    rw (p.1, p.2) (no_piece c.args.language.now found ls cur (markup_view c.in_ok-markup.markup, c.in_ok-markup.after.now) closed c.in_err-add.field-0.0
    (subst (λ (l : Statement). Fails c.in_err-add.field-0.0 (statement_step l ls cur)) (sym statement) (c.in_err-add.ensures.stack ls cur b)))

pub returns : goal.returns
returns c = λ ls cur b.
    let found : Markup × List ℕ = (markup_view c.args.found.0, c.args.found.1.now) in
    let at = c.context-context.ensures ∙ context_is (flats c.args.self.now.builder.nodes.items) c.args.self.now.builder.blocks.items ls cur b.0 in
    let wanted = c.body_after-body.ensures ∙ ap (λ (x : BlockContext). wanted_body (body_after c.args.language.now x) (piece_view c.args.found.0.piece)) at in
    let closed = ap (λ (o : Option Body). body_at o found.0 found.1) (sym wanted) ∙ c.in_ok-markup.ensures in
    let statement : reads c.args.language.now (context_of ls) (piece_view c.in_ok-markup.markup.piece) ≡ statement_view c.in_ok-statement.statement = ap (λ (x : BlockContext). reads c.args.language.now x (piece_view c.in_ok-markup.markup.piece)) (sym at) ∙ c.in_ok-statement.ensures.statement.0 in
    let added = c.in_ok-add.ensures.stack ls cur b in (
      (markup_view c.in_ok-markup.markup, c.in_ok-markup.after.now),
      closed,
      refl,
      refl,
      added.0,
      ap (λ (l : Statement). statement_step l ls cur) statement ∙ added.1,
      added.2,
    )
