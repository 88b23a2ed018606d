use Rattle.std.proofs.Common.{ap, sym, ◌∙◌, take}
use Rattle.liquid_model.specs.Quotes.{is_line}
use Rattle.liquid_model.proofs.Quotes.{line_front}
use Rattle.liquid_model.proofs.line.line_of.Goals as goal

pub returns-clause-line : goal.returns-clause-line
returns-clause-line c =
    let most = c.args.most in
    let end = c.line_end-end.result in
    ap (is_line most) c.truncate.ensures.bytes
    ∙ line_front most c.floor_char_boundary-end.result end _ c.floor_char_boundary-end.ensures.bound
    (ap (λ t. is_line most (take end t)) (sym c.as_str.ensures.value) ∙ c.line_end-end.ensures.line)
