use Rattle.std.proofs.Common.{rules, ◌≡◌, length, ◌-◌, ◌<◌, [], sym, ap, ◌∙◌, arith, refl, subst, Option, Bool, List, ℕ}
use Rattle.std.proofs.lemmas.Result.{err_from_is_err_and}
use Rattle.liquid_lexer.specs.PieceView.{markup_view}
use Rattle.liquid_lexer.specs.SourceReading.{source_at}
use Rattle.liquid_language.specs.Styles.{style_of}
use Rattle.liquid_parser.specs.inside.Building.{AdvancesTo, text_added}
use Rattle.liquid_parser.specs.inside.TemplateReading.{body_of, piece_step}
use Rattle.liquid_parser.specs.OpenBlocks.{State}
use Rattle.liquid_evaluation.specs.Tree.{no_nodes}
use Rattle.liquid_parser.proofs.ParseTurns.{all_of, after_text, last_text, markup_refused, piece_refused, taken_fails, went_on, went_shorter}
use Rattle.liquid_parser.proofs.parser.Reader.read.Goals as goal

pub pieces-init : goal.pieces-init
pieces-init c = (length c.args.source.now, [], no_nodes, omega arith, c.requires, refl, search rules)

pub returns-in_default : goal.returns-in_default
returns-in_default c =
    let v = c.pieces.invariant in
    let all = all_of c.args.language.now c.args.source.now in
    let read : all ≡ _ = last_text c.args.language.now all c.pieces.rest.now c.text_before.result.0.now c.text_before.result.1.now v.0 c.pieces.strip_next v.1 v.2 v.5 c.text_before.ensures
    c.stripped.result.now (sym c.in_default.ensures) c.stripped.ensures in
    subst (λ (o : Option State). AdvancesTo o c.text.new.self.builder c.text.result) (sym read) (c.text.ensures v.1 v.2 v.4)

pub returns-in_err-found : goal.returns-in_err-found
returns-in_err-found c =
    let v = c.pieces.invariant in
    let p = err_from_is_err_and c.from_residual.result c.from_residual.ensures.1 in
    rw (p.1, p.2) (markup_refused c.args.language.now (all_of c.args.language.now c.args.source.now) c.pieces.rest.now c.text_before.result.0.now c.text_before.result.1.now v.0 c.pieces.strip_next v.1 v.2 v.5 c.text_before.ensures
    c.in-Some.inside.now c.in-Some.ensures c.in_err-found.field-0.0 c.in_err-found.ensures)

pub returns-in_err-text : goal.returns-in_err-text
returns-in_err-text c =
    let v = c.pieces.invariant in
    let p = err_from_is_err_and c.from_residual-in_err-text.result c.from_residual-in_err-text.ensures.1 in
    rw (p.1, p.2) (taken_fails c.in_err-text.field-0.0 _ (all_of c.args.language.now c.args.source.now) (c.in_err-text.ensures v.1 v.2 v.4))

pub returns-in_err-strips : goal.returns-in_err-strips
returns-in_err-strips c =
    let v = c.pieces.invariant in
    let b = after_text c.text-in-pieces.new.self.builder v.1 _ (c.in_ok-text.ensures v.1 v.2 v.4) in
    let p = err_from_is_err_and c.from_residual-in_err-strips.result c.from_residual-in_err-strips.ensures.1 in
    let now = text_added c.stripped-in-pieces.result.now v.2 in
    rw (p.1, p.2) (piece_refused c.args.language.now (all_of c.args.language.now c.args.source.now) c.pieces.rest.now c.text_before.result.0.now c.text_before.result.1.now v.0 c.pieces.strip_next v.1 v.2 v.5 c.text_before.ensures
    c.in-Some.inside.now c.in-Some.ensures (markup_view c.in_ok-found.found.0, c.in_ok-found.found.1.now) c.in_ok-found.ensures c.stripped-in-pieces.result.now c.stripped-in-pieces.ensures
    c.in_err-strips.field-0.0 (c.in_err-strips.ensures v.1 now b))

pub pieces-smaller : goal.pieces-smaller
pieces-smaller c =
    let v = c.pieces.invariant in
    let b = after_text c.text-in-pieces.new.self.builder v.1 _ (c.in_ok-text.ensures v.1 v.2 v.4) in
    let now = text_added c.stripped-in-pieces.result.now v.2 in
    let w = c.in_ok-strips.ensures v.1 now b in
    let shorter : length w.0.1 < length c.pieces.rest.now =
    went_shorter c.args.language.now (all_of c.args.language.now c.args.source.now) c.pieces.rest.now c.text_before.result.0.now c.text_before.result.1.now v.0 c.pieces.strip_next v.1 v.2 v.5 c.text_before.ensures
    c.in-Some.inside.now c.in-Some.ensures (markup_view c.in_ok-found.found.0, c.in_ok-found.found.1.now) c.in_ok-found.ensures c.stripped-in-pieces.result.now c.stripped-in-pieces.ensures w.0 w.1 in
    let lt : length c.in_ok-strips.after.now < length c.pieces.rest.now = subst (λ (l : List ℕ). length l < length c.pieces.rest.now) (sym w.3) shorter in
    lt

pub pieces-preserved : goal.pieces-preserved
pieces-preserved c =
    let v = c.pieces.invariant in
    let l = c.args.language.now in
    let all = all_of l c.args.source.now in
    let b = after_text c.text-in-pieces.new.self.builder v.1 _ (c.in_ok-text.ensures v.1 v.2 v.4) in
    let now = text_added c.stripped-in-pieces.result.now v.2 in
    let w = c.in_ok-strips.ensures v.1 now b in
    let shorter : length w.0.1 < length c.pieces.rest.now =
    went_shorter l all c.pieces.rest.now c.text_before.result.0.now c.text_before.result.1.now v.0 c.pieces.strip_next v.1 v.2 v.5 c.text_before.ensures
    c.in-Some.inside.now c.in-Some.ensures (markup_view c.in_ok-found.found.0, c.in_ok-found.found.1.now) c.in_ok-found.ensures c.stripped-in-pieces.result.now c.stripped-in-pieces.ensures w.0 w.1 in
    let lt : length c.in_ok-strips.after.now < length c.pieces.rest.now = subst (λ (l : List ℕ). length l < length c.pieces.rest.now) (sym w.3) shorter in
    let went : all ≡ source_at (style_of l) (body_of l) (piece_step l) (v.0 - 1) w.0.0.after w.4 w.0.1 =
    went_on l all c.pieces.rest.now c.text_before.result.0.now c.text_before.result.1.now v.0 c.pieces.strip_next v.1 v.2 v.5 c.text_before.ensures
    c.in-Some.inside.now c.in-Some.ensures (markup_view c.in_ok-found.found.0, c.in_ok-found.found.1.now) c.in_ok-found.ensures c.stripped-in-pieces.result.now c.stripped-in-pieces.ensures w.0 w.1 w.4 v.3 w.5 in (
      v.0 - 1,
      w.4.0,
      w.4.1,
      omega (arith, lt, v.3),
      w.6,
      went
          ∙ ap (λ (k : Bool). source_at (style_of l) (body_of l) (piece_step l) (v.0 - 1) k w.4 w.0.1) (sym w.2)
          ∙ ap (λ (bs : List ℕ). source_at (style_of l) (body_of l) (piece_step l) (v.0 - 1) c.in_ok-strips.strips w.4 bs) (sym w.3),
      search rules,
    )
