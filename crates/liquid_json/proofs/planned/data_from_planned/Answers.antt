use Rattle.std.proofs.Common.{◌≡◌, [], Some, ap, ◌∙◌, rules}
use Rattle.json.specs.Json.{value}
use Rattle.json.specs.Lex.{tokens}
use Rattle.liquid_model.specs.Data.{object}
use Rattle.liquid_model.specs.Uses.{parts, uncounted, Alike}
use Rattle.liquid_model.specs.UseViews.{members_view}
use Rattle.liquid_model.specs.View.{view, pairs_view}
use Rattle.liquid_model.proofs.Views.{view-Object}
use mathlib.Core.Path.{subst}
use Rattle.liquid_json.proofs.Plain.{whole_plain}
use Rattle.liquid_json.specs.Under.{Under}
use Rattle.liquid_json.proofs.PlainCopies.{map_alike}
use Rattle.liquid_json.proofs.Under.{keys_under}
use Rattle.liquid_json.proofs.planned.data_from_planned.Goals as goal

pub returns-in-Object : goal.returns-in-Object
returns-in-Object c =
    let none : c.read_parts.new.reader ≡ [] = search rules in
    let M = members_view c.args.uses.now.entries in
    let ps = pairs_view c.in-Object.data.entries in
    let seen : view c.in-Ok.value ≡ object ps = ap view c.in-Object.is ∙ view-Object c.in-Object.data in
    let found = c.in-Ok.ensures.ok in
    let alike : Alike (parts M uncounted) (Some found.0) (Some (object ps)) = subst (λ d. Alike (parts M uncounted) (Some found.0) (Some d)) seen found.2 in
    let whole = map_alike M uncounted found.0 ps c.requires.plain alike in
    let under = keys_under whole.0 ps (subst (λ d. Under (Some d) (Some (object ps))) whole.1 (subst (λ d. Under (Some found.0) (Some d)) seen found.3)) in
    (whole.0, whole_plain (value 127 (tokens c.args.text.now)) whole.0 ((rw (c.in_ok-reader.ensures.ok, none) at found.1) ∙ ap (λ d. Some (d, [])) whole.1), whole.2, under)
