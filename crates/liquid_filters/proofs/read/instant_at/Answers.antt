use Rattle.std.proofs.Common.{ap, sym, ◌∙◌}
use Rattle.jiff.specs.Words.{plain_zoned, fixed_zone}
use Rattle.liquid_filters.proofs.Instants.{in_range, at_fixed, shows_at}
use Rattle.liquid_filters.proofs.read.instant_at.Goals as goal

pub unwrap-timestamp-requires : goal.unwrap-timestamp-requires
unwrap-timestamp-requires c =
    c.to_timestamp.ensures.succeeds.1 (in_range c.args.datetime c.args.offset c.requires.0 c.requires.1)

pub returns-clause-zone : goal.returns-clause-zone
returns-clause-zone c =
    let zone = c.to_zoned.ensures.zone ∙ c.fixed.ensures ∙ ap (λ o. fixed_zone o) c.from_plain-2.ensures in
    (c.args.offset, sym (at_fixed (plain_zoned c.to_zoned.result) c.args.offset zone), zone)

pub returns-clause-value : goal.returns-clause-value
returns-clause-value c =
    shows_at (plain_zoned c.to_zoned.result) c.args.datetime c.args.offset
    (c.to_zoned.ensures.zone ∙ c.fixed.ensures ∙ ap (λ o. fixed_zone o) c.from_plain-2.ensures)
    (ap (λ t. t.nanosecond) (c.to_zoned.ensures.instant ∙ c.from_plain.ensures) ∙ (rw c.unwrap-timestamp.ensures at c.to_timestamp.ensures.value))
