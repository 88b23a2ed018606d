-- What is written of code, by the markup and the code as they were found.
use Rattle.std.proofs.Common.{◌≡◌, Bool, true, Ok, Err, if◌then◌else◌, ap, sym, ◌∙◌}
use Rattle.liquid_model.specs.Data.{text}
use Rattle.liquid_model.specs.Texts.{Text}
use Rattle.liquid_model.specs.Arguments.{Answer}
use Rattle.liquid_model.specs.declared.error.ErrorKind.TheVariants.{InvalidArgument}
use Rattle.liquid_filters.specs.Escapes.{escaped_bytes}
use Rattle.liquid_jekyll_host_filters.specs.Highlight.{code_figure, code_language, is_markup, ruby_stripped, code_in_html}

pub figure_shown : (m c full own s : Text) → full ≡ m → own ≡ c → is_markup full ≡ true → s ≡ code_figure (code_language full) (escaped_bytes (ruby_stripped own)) → code_in_html m c ≡ Ok (text s)
unfolding code_in_html
figure_shown m c full own s e f ok h =
    ap (λ (l : Text). code_in_html l c) (sym e) ∙ ap (code_in_html full) (sym f)
    ∙ ap {B = Answer} (λ (t : Bool). if t then Ok (text (code_figure (code_language full) (escaped_bytes (ruby_stripped own)))) else Err InvalidArgument) ok
    ∙ ap {B = Answer} (λ (l : Text). Ok (text l)) (sym h)
