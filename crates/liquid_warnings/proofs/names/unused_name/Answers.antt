use Rattle.liquid_warnings.proofs.names.unused_name.Goals as goal

pub returns : goal.returns
returns c = (c.args.name.now, (_, _, c.in_ok-unused_variable.ensures))
