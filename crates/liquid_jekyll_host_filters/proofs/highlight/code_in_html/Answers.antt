use Rattle.std.proofs.Common.{◌≡◌, ◌∙◌, Ok, rules, ap, string_bytes, sym}
use Rattle.liquid_model.specs.Arguments.{Answer}
use Rattle.liquid_model.specs.Data.{text_of}
use Rattle.liquid_model.specs.View.{view}
use Rattle.liquid_model.proofs.Views.{view-Text}
use Rattle.liquid_jekyll_host_filters.specs.Highlight.{ruby_stripped}
use Rattle.liquid_jekyll_host_filters.proofs.HighlightedCode.{figure_shown}
use Rattle.liquid_jekyll_host_filters.proofs.highlight.code_in_html.Goals as goal

pub returns : goal.returns
returns c =
    let markup : c.as_str.result.now ≡ text_of (view c.args.markup.now) = search rules in
    let code : c.as_str-2.result.now ≡ text_of (view c.args.code.now) = search rules in
    figure_shown (ruby_stripped (text_of (view c.args.markup.now))) (text_of (view c.args.code.now)) c.ruby_stripped-text.result.now c.as_str-2.result.now (string_bytes c.in_ok-code_figure.field-0) (c.ruby_stripped-text.ensures ∙ ap ruby_stripped markup) code (sym c.is_markup.ensures ∙ c.if-not-is_markup.false) c.in_ok-code_figure.ensures
    ∙ ap {B = Answer} Ok (sym (view-Text c.in_ok-code_figure.field-0))
