use Rattle.std.proofs.Common.{ℕ, List, Option, Bor, sym, ap, subst, ◌∙◌}
use Rattle.liquid_language.specs.Styles.{style_of}
use Rattle.liquid_lexer.specs.PieceView.{markup_view}
use Rattle.liquid_lexer.specs.Readers.{Parses}
use Rattle.liquid_lexer.specs.SourceReading.{Markup, markup_at}
use Rattle.liquid_lexer.specs.declared.piece.Markup as declared
use Rattle.liquid_lexer.specs.declared.style.Style.{Style}
use Rattle.liquid_lexer.proofs.SourceLaws.{markup_styled}
use Rattle.liquid_language.proofs.style.markup_after.Goals as goal

-- the style of the name that stands there is all that matters
pub returns : goal.returns
returns c =
    let text = c.args.text.now in
    let same = ap (λ (s : Style). markup_at (λ w. s) text) c.style_after.ensures ∙ sym (markup_styled (style_of c.args.language.now) text) in
    subst (λ (o : Option (Markup × List ℕ)). Parses {X = declared.Markup × Bor (List ℕ)} (λ x. (markup_view x.0, x.1.now)) c.read_markup.result o) same c.read_markup.ensures
