use Rattle.std.specs.Prelude.{T}
use Rattle.std.proofs.Common.{◌≡◌, Bor, Some, option_map, sym, ◌∙◌, subst, rules}
use Rattle.liquid_meaning.specs.FreeNames.{unbound}
use Rattle.liquid_uses.specs.inside.Readings.{found_names, targets_of}
use Rattle.liquid_uses.specs.declared.readings.Reading.{Reading}
use Rattle.liquid_uses.specs.declared.readings.Reading.TheVariants.{Only}
use Rattle.liquid_uses.proofs.scopes.Reader.sees_named.Goals as goal

pub returns-in-Some-Only : goal.returns-in-Some-Only
returns-in-Some-Only c = λ e q h.
    let held : option_map (λ (r : Bor Reading). r.now) c.reading_of.result ≡ Some (Only c.in-Some-Only.names) = search rules in
    c.sees_all.ensures e q (subst (λ o. T (unbound (targets_of c.args.targets) (found_names o) q)) (sym c.reading_of.ensures ∙ held) h)
