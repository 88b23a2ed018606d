use Rattle.liquid_engine.proofs.render.text_of_run.Goals as goal

pub returns-clause-performs : goal.returns-clause-performs
returns-clause-performs g c = c.text_beside.ensures.performs
