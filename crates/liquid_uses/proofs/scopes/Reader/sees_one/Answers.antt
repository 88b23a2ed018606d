use Rattle.liquid_uses.proofs.scopes.Reader.sees_one.Goals as goal

pub returns-else-bind : goal.returns-else-bind
returns-else-bind c = λ e free. c.is_visible.ensures e
