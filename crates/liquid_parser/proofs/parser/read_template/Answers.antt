use Rattle.std.proofs.lemmas.Result.{err_from_is_err_and}
use Rattle.liquid_parser.proofs.ParseTurns.{source_read, source_refused}
use Rattle.liquid_parser.proofs.parser.read_template.Goals as goal

pub returns-in_err-read : goal.returns-in_err-read
returns-in_err-read c =
    let p = err_from_is_err_and c.from_residual.result c.from_residual.ensures.1 in
    rw (p.1, p.2) (source_refused c.args.language.now c.in_err-read.field-0.0 c.args.source.now c.in_err-read.ensures)

pub returns : goal.returns
returns c =
    let s = c.in_ok-read.ensures in
    source_read c.args.language.now c.args.source.now s.0 c.finish.result s.1 (c.finish.ensures s.0.0 s.0.1 s.2)
