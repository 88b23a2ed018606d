use Rattle.liquid_data.proofs.ListTexts.{lists_are_read, maps_are_objects}
use Rattle.liquid_data.proofs.laws.list_laws.Goals as goal

pub returns-clause-lists : goal.returns-clause-lists
returns-clause-lists c = lists_are_read

pub returns-clause-maps : goal.returns-clause-maps
returns-clause-maps c = maps_are_objects
