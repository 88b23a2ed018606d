use Rattle.liquid_model.proofs.laws.order_laws.Goals as goal
use Rattle.liquid_model.proofs.Lawful.{order_is_total, kinds_are_ranked, scalars_are_ordered, first_unequal_place_decides}
use Rattle.liquid_model.proofs.Lawful.{maps_go_pair_by_pair}

pub returns-clause-order_is_total : goal.returns-clause-order_is_total
returns-clause-order_is_total c = order_is_total

pub returns-clause-kinds_are_ranked : goal.returns-clause-kinds_are_ranked
returns-clause-kinds_are_ranked c = kinds_are_ranked

pub returns-clause-scalars_are_ordered : goal.returns-clause-scalars_are_ordered
returns-clause-scalars_are_ordered c = scalars_are_ordered

pub returns-clause-first_unequal_place_decides : goal.returns-clause-first_unequal_place_decides
returns-clause-first_unequal_place_decides c = first_unequal_place_decides

pub returns-clause-maps_go_pair_by_pair : goal.returns-clause-maps_go_pair_by_pair
returns-clause-maps_go_pair_by_pair c = maps_go_pair_by_pair
