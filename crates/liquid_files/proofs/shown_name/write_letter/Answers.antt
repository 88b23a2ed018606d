use Rattle.std.proofs.Common.{subst}
use Rattle.std.specs.Fmt.{HasWritten}
use Rattle.liquid_files.proofs.ShownNames.{other_letter}
use Rattle.liquid_files.proofs.shown_name.write_letter.Goals as goal

pub returns : goal.returns
returns g c plain ok =
    subst (λ t. HasWritten g.W.Write.write_str_gives c.args.f.now t c.write.new.self)
    (other_letter c.encode_utf8.result.now c.args.letter c.encode_utf8.utf8 c.encode_utf8.ensures.value c.if-letter-eq92.false) (c.write.ensures.writes plain ok)
