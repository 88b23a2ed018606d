use Rattle.std.proofs.Common.{◌≡◌, string_bytes, ap, ◌∙◌, rules}
use Rattle.liquid_model.specs.Data.{put}
use Rattle.liquid_model.specs.View.{view, pairs_view}
use Rattle.liquid_model.proofs.Views.{pairs_view-insert_entry}
use Rattle.liquid_json.proofs.tokens.put_member.Goals as goal

pub returns-clause-put : goal.returns-clause-put
returns-clause-put c =
    let copied : string_bytes c.in_ok-key.key ≡ c.args.name.now = search rules in
    ap pairs_view c.in_ok-insert.ensures.entries ∙ pairs_view-insert_entry c.args.found.now.entries c.in_ok-key.key c.args.member
    ∙ ap (λ name. put name (view c.args.member) (pairs_view c.args.found.now.entries)) copied
