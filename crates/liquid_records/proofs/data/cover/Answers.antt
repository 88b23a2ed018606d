use Rattle.std.proofs.Common.{string_bytes, option_map, ap, ◌∙◌}
use Rattle.liquid_model.specs.View.{view}
use Rattle.liquid_core.specs.Held.{held}
use Rattle.liquid_core.specs.DataChanges.{with_value}
use Rattle.liquid_records.proofs.Over.{one_covered, one_there, put_and_back, stands_there}
use Rattle.liquid_records.proofs.data.cover.Goals as goal

pub put_back-requires : goal.put_back-requires
put_back-requires c =
    stands_there (held c.args.«data».now) (held c.exchange.new.«data») (string_bytes c.in-Err.refused.value.0) (string_bytes c.args.name) (view c.args.value)
    (ap (λ p. string_bytes p.0) c.in-Err.ensures.value_returned ∙ c.in_ok-kept.ensures.ok ∙ c.as_str.ensures.value) c.in_ok-before.ensures.put

pub returns-in-Ok-clause-back : goal.returns-in-Ok-clause-back
returns-in-Ok-clause-back c =
    one_covered (held c.args.«data».now) (held c.exchange.new.«data») c.args.covered.now.items c.push.new.self.items c.in_ok-kept.kept c.in_ok-before.before (string_bytes c.args.name) (view c.args.value)
    (c.in_ok-kept.ensures.ok ∙ c.as_str.ensures.value) c.in_ok-before.ensures.before c.in_ok-before.ensures.put c.in-Ok.ensures.items

pub returns-in-Ok-clause-there : goal.returns-in-Ok-clause-there
returns-in-Ok-clause-there c =
    one_there (held c.args.«data».now) (held c.exchange.new.«data») c.args.covered.now.items c.push.new.self.items c.in_ok-kept.kept c.in_ok-before.before (string_bytes c.args.name) (view c.args.value)
    (c.in_ok-kept.ensures.ok ∙ c.as_str.ensures.value) c.in_ok-before.ensures.before c.in_ok-before.ensures.put c.in-Ok.ensures.items

pub returns-in-Err-clause-untouched : goal.returns-in-Err-clause-untouched
returns-in-Err-clause-untouched c =
    c.put_back.ensures
    ∙ ap (λ p. with_value (held c.exchange.new.«data») (string_bytes p.0) (option_map view p.1)) c.in-Err.ensures.value_returned
    ∙ put_and_back (held c.args.«data».now) (held c.exchange.new.«data») (string_bytes c.in_ok-kept.kept) (string_bytes c.args.name) (option_map view c.in_ok-before.before) (view c.args.value)
    (c.in_ok-kept.ensures.ok ∙ c.as_str.ensures.value) c.in_ok-before.ensures.before c.in_ok-before.ensures.put
