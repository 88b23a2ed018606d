use Rattle.liquid_filters.proofs.laws.lists.list_laws.Goals as goal
use Rattle.liquid_filters.proofs.ListEachLaw.{join_is_one, sort_is_one, sort_natural_is_one, sort_twice_is_once}
use Rattle.liquid_filters.proofs.ListEachLaw.{sort_natural_twice_is_once, compact_is_one, where_is_one, map_is_one, uniq_is_one}
use Rattle.liquid_filters.proofs.ListEachLaw.{reverse_is_one, concat_is_one, first_is_one, last_is_one}

pub returns-clause-join_is_one : goal.returns-clause-join_is_one
returns-clause-join_is_one c = join_is_one

pub returns-clause-sort_is_one : goal.returns-clause-sort_is_one
returns-clause-sort_is_one c = sort_is_one

pub returns-clause-sort_natural_is_one : goal.returns-clause-sort_natural_is_one
returns-clause-sort_natural_is_one c = sort_natural_is_one

pub returns-clause-sort_twice_is_once : goal.returns-clause-sort_twice_is_once
returns-clause-sort_twice_is_once c = sort_twice_is_once

pub returns-clause-sort_natural_twice_is_once : goal.returns-clause-sort_natural_twice_is_once
returns-clause-sort_natural_twice_is_once c = sort_natural_twice_is_once

pub returns-clause-compact_is_one : goal.returns-clause-compact_is_one
returns-clause-compact_is_one c = compact_is_one

pub returns-clause-where_is_one : goal.returns-clause-where_is_one
returns-clause-where_is_one c = where_is_one

pub returns-clause-map_is_one : goal.returns-clause-map_is_one
returns-clause-map_is_one c = map_is_one

pub returns-clause-uniq_is_one : goal.returns-clause-uniq_is_one
returns-clause-uniq_is_one c = uniq_is_one

pub returns-clause-reverse_is_one : goal.returns-clause-reverse_is_one
returns-clause-reverse_is_one c = reverse_is_one

pub returns-clause-concat_is_one : goal.returns-clause-concat_is_one
returns-clause-concat_is_one c = concat_is_one

pub returns-clause-first_is_one : goal.returns-clause-first_is_one
returns-clause-first_is_one c = first_is_one

pub returns-clause-last_is_one : goal.returns-clause-last_is_one
returns-clause-last_is_one c = last_is_one
