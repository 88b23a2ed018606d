use Rattle.liquid_meaning.proofs.laws.isolation_laws.Goals as goal
use Rattle.liquid_meaning.proofs.Law.{isolation, others_kept}
use Rattle.liquid_meaning.proofs.Changes.{headline, agreeing_runs}
use Rattle.liquid_meaning.proofs.Apart.{render_leaves_all, render_sees_its_values}

pub returns-clause-isolation : goal.returns-clause-isolation
returns-clause-isolation c = isolation

pub returns-clause-agreeing : goal.returns-clause-agreeing
returns-clause-agreeing c = agreeing_runs

pub returns-clause-others : goal.returns-clause-others
returns-clause-others c = others_kept

pub returns-clause-headline : goal.returns-clause-headline
returns-clause-headline c = headline

pub returns-clause-render : goal.returns-clause-render
returns-clause-render c = render_leaves_all

pub returns-clause-render_sees : goal.returns-clause-render_sees
returns-clause-render_sees c = render_sees_its_values
