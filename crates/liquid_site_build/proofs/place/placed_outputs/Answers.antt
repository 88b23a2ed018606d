use Rattle.std.proofs.Common.{◌≡◌, [], ◌++◌, length, map, string_bytes, sym, ap, ◌∙◌, append-nil, rules}
use mathlib.Core.Path.{fun_ext}
use Rattle.std.proofs.lemmas.List.{nil_from_length}
use Rattle.std.specs.Vec.Iter.{into_iter_items}
use Rattle.liquid_language.specs.Entries.{seen}
use Rattle.liquid_model.specs.Maps.{listed}
use Rattle.liquid_site_build.specs.OutcomeViews.{output_view}
use Rattle.liquid_site_build.specs.Written.{owner, placed_by, placed_outputs}
use Rattle.liquid_site_build.proofs.place.placed_outputs.Goals as goal

pub returns : goal.returns
returns c =
    let f = placed_by (listed (seen string_bytes c.in_ok-owners.owners.entries)) in
    let l = c.loop-output in
    let os = map output_view c.in_ok-outputs.outputs.items in
    let none : into_iter_items l.output-iterator ≡ [] = nil_from_length _ (sym l.invariant.counted ∙ (c.in-None.ensures {u = tt}).steps.0) in
    let all : into_iter_items c.into_iter-output-iterator.result ≡ c.in_ok-outputs.outputs.items = search rules in
    sym (append-nil (map output_view l.placed.items)) ∙ ap (λ rest. map output_view l.placed.items ++ map f (map output_view rest)) (sym none) ∙ l.invariant.placed
    ∙ ap (λ xs. map f (map output_view xs)) all
    ∙ ap (λ owners. map (placed_by owners) os) (fun_ext c.in_ok-owners.ensures.owners) ∙ ap placed_outputs c.in_ok-outputs.ensures
