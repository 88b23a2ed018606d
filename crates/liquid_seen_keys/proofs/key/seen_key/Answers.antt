use Rattle.std.proofs.Common.{◌≡◌, rules}
use Rattle.std.specs.Prelude.{string_bytes}
use Rattle.liquid_model.specs.UseViews.{uses_view}
use Rattle.liquid_model.specs.View.{pairs_view}
use Rattle.liquid_model.proofs.Views.{view-Object}
use Rattle.liquid_seen_keys.proofs.Keys.{key_written, whole_key}
use Rattle.liquid_seen_keys.proofs.key.seen_key.Goals as goal

pub returns-then-is_read_back : goal.returns-then-is_read_back
returns-then-is_read_back c =
    let d = c.in_ok-data_for.field-0 in
    record { key = key_written (uses_view c.args.uses.now) c.args.text.now (pairs_view d.entries) _ c.json_of.result c.in_ok-data_for.ensures.alike (view-Object d) (c.is_read_back.ensures.json c.if-is_read_back.true) c.json_of.ensures }

pub returns : goal.returns
returns c =
    let d = c.in_ok-data_for.field-0 in
    let same : string_bytes c.in_ok-from_str.field-0 ≡ c.args.text.now = search rules in
    record { key = whole_key (uses_view c.args.uses.now) c.args.text.now (pairs_view d.entries) c.in_ok-from_str.field-0 c.in_ok-data_for.ensures.alike same }
