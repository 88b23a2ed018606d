use Rattle.liquid_meaning.proofs.laws.run_laws.Goals as goal
use Rattle.liquid_meaning.proofs.Assigning.{assigned_anywhere}
use Rattle.liquid_meaning.proofs.Escaping.{escaped_outputs, escaped_texts}
use Rattle.liquid_meaning.proofs.Further.{text_is_itself, assigned_stay, assigned_in_loop, forloop_counts}
use Rattle.liquid_meaning.proofs.RunKinds.{kinds_of_runs, kinds_of_own_runs, kinds_with_host}

pub returns-clause-text : goal.returns-clause-text
returns-clause-text c = text_is_itself

pub returns-clause-stays : goal.returns-clause-stays
returns-clause-stays c = assigned_stay

pub returns-clause-in_loop : goal.returns-clause-in_loop
returns-clause-in_loop c = assigned_in_loop

pub returns-clause-forloop : goal.returns-clause-forloop
returns-clause-forloop c = forloop_counts

pub returns-clause-kinds : goal.returns-clause-kinds
returns-clause-kinds c = kinds_of_runs

pub returns-clause-anywhere : goal.returns-clause-anywhere
returns-clause-anywhere c = assigned_anywhere

pub returns-clause-own_kinds : goal.returns-clause-own_kinds
returns-clause-own_kinds c = kinds_of_own_runs

pub returns-clause-host_kinds : goal.returns-clause-host_kinds
returns-clause-host_kinds c = kinds_with_host

pub returns-clause-escaped : goal.returns-clause-escaped
returns-clause-escaped c = escaped_texts

pub returns-clause-escaped_outputs : goal.returns-clause-escaped_outputs
returns-clause-escaped_outputs c = escaped_outputs
