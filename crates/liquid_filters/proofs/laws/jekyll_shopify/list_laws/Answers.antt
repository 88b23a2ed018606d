use Rattle.liquid_filters.proofs.laws.jekyll_shopify.list_laws.Goals as goal
use Rattle.liquid_filters.proofs.JekyllEachLaw.{push_is_one, unshift_is_one, pop_is_one, shift_is_one, pop_undoes_push}
use Rattle.liquid_filters.proofs.JekyllEachLaw.{shift_undoes_unshift, sort_is_one, sort_twice_is_once}

pub returns-clause-push_is_one : goal.returns-clause-push_is_one
returns-clause-push_is_one c = push_is_one

pub returns-clause-unshift_is_one : goal.returns-clause-unshift_is_one
returns-clause-unshift_is_one c = unshift_is_one

pub returns-clause-pop_is_one : goal.returns-clause-pop_is_one
returns-clause-pop_is_one c = pop_is_one

pub returns-clause-shift_is_one : goal.returns-clause-shift_is_one
returns-clause-shift_is_one c = shift_is_one

pub returns-clause-pop_undoes_push : goal.returns-clause-pop_undoes_push
returns-clause-pop_undoes_push c = pop_undoes_push

pub returns-clause-shift_undoes_unshift : goal.returns-clause-shift_undoes_unshift
returns-clause-shift_undoes_unshift c = shift_undoes_unshift

pub returns-clause-sort_is_one : goal.returns-clause-sort_is_one
returns-clause-sort_is_one c = sort_is_one

pub returns-clause-sort_twice_is_once : goal.returns-clause-sort_twice_is_once
returns-clause-sort_twice_is_once c = sort_twice_is_once
