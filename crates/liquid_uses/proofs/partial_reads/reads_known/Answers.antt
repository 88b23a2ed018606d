use Rattle.std.specs.Prelude.{T}
use Rattle.std.proofs.Common.{◌≡◌, true, Bor, Some, option_map, IfOk, sym, ◌∙◌, subst, rules}
use Rattle.liquid_meaning.specs.FreeNames.{nodes_reads}
use Rattle.liquid_model.specs.Texts.{Text}
use Rattle.liquid_syntax.specs.Templates.{tree_of}
use Rattle.liquid_uses.specs.inside.Readings.{found_names, reads_in}
use Rattle.liquid_uses.specs.declared.readings.Reading.{Reading}
use Rattle.liquid_uses.specs.declared.readings.Reading.TheVariants.{Only}
use Rattle.liquid_uses.proofs.partial_reads.reads_known.Goals as goal

pub returns-in-Some-Only-clause-known : goal.returns-in-Some-Only-clause-known
returns-in-Some-Only-clause-known c =
    let held : option_map (λ (r : Bor Reading). r.now) c.reading_of.result ≡ Some (Only c.in-Some-Only.names) = search rules in
    subst (λ o. IfOk c.names_known.result (λ b. b ≡ true → (q : Text) → T (nodes_reads (reads_in c.args.readings.now.entries) (tree_of c.args.partial.now) q) → T (found_names o q)))
    (sym held ∙ c.reading_of.ensures) c.names_known.ensures.known
