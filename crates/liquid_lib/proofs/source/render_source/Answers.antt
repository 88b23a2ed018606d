use Rattle.std.proofs.Common.{refl}
use Rattle.std.proofs.lemmas.Result.{err_from_is_err_and}
use Rattle.liquid_syntax.specs.Templates.{tree_of}
use Rattle.liquid_lib.specs.Headline.{ran}
use Rattle.liquid_lib.proofs.SourceRuns.{refused_source}
use Rattle.liquid_lib.proofs.source.render_source.Goals as goal

pub returns-clause-headline : goal.returns-clause-headline
returns-clause-headline g c = ran (tree_of c.in_ok-template.template) c.in_ok-template.ensures.parses (c.render_to.ensures.isolated, c.render_to.ensures.kept)

pub returns-in_err-template-clause-headline : goal.returns-in_err-template-clause-headline
returns-in_err-template-clause-headline g c =
    let p = err_from_is_err_and c.from_residual.result c.from_residual.ensures.1 in
    rw (p.1, p.2) (refused_source c.args.language.now c.args.source.now c.in_err-template.field-0.0 _ _ c.in_err-template.ensures.parses c.in_err-template.ensures.kinds (refl, refl))
