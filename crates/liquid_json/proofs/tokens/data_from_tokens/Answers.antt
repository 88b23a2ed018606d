use Rattle.std.proofs.Common.{◌≡◌, [], Some, ap, ◌∙◌, rules}
use Rattle.json.specs.Json.{value}
use Rattle.json.specs.Lex.{tokens}
use Rattle.liquid_model.specs.Data.{object}
use Rattle.liquid_model.specs.View.{view, pairs_view}
use Rattle.liquid_model.proofs.Views.{view-Object}
use Rattle.liquid_json.proofs.Plain.{whole_plain}
use Rattle.liquid_json.proofs.tokens.data_from_tokens.Goals as goal

pub returns-in-Object : goal.returns-in-Object
returns-in-Object c =
    let none : c.read.new.reader ≡ [] = search rules in
    let seen : view c.in-Ok.value ≡ object (pairs_view c.in-Object.data.entries) = ap view c.in-Object.is ∙ view-Object c.in-Object.data in
    whole_plain (value 127 (tokens c.args.text.now)) (pairs_view c.in-Object.data.entries)
    ((rw (c.in_ok-reader.ensures.ok, none) at c.in-Ok.ensures.ok) ∙ ap (λ d. Some (d, [])) seen)
