use Rattle.std.proofs.Common.{arith}
use Rattle.std.proofs.lemmas.List.Elements.{All-from_get_or}
use Rattle.percent_encoding.proofs.PercentLemmas.{IsByte}
use Rattle.liquid_filters.proofs.Urls.{escaped_is}
use Rattle.liquid_filters.proofs.stdlib.filters.url.escaped.Goals as goal

pub returns : goal.returns
returns c =
    let small = All-from_get_or IsByte c.args.text.now 0 (λ i within. omega (arith, c.type_inv.text i)) in
    rw (c.in_ok-append_to.ensures.ok, c.new-out.ensures.bytes, c.percent_encode.ensures.text, c.as_bytes.ensures.value) (escaped_is c.args.text.now small)
