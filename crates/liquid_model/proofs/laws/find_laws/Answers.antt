use Rattle.liquid_model.proofs.laws.find_laws.Goals as goal
use Rattle.liquid_model.proofs.Lawful.{find_goes_on, scalars_alone_find, items_by_index, texts_index_too, items_by_name, own_keys_win}
use Rattle.liquid_model.proofs.Lawful.{put_is_found}

pub returns-clause-find_goes_on : goal.returns-clause-find_goes_on
returns-clause-find_goes_on c = find_goes_on

pub returns-clause-scalars_alone_find : goal.returns-clause-scalars_alone_find
returns-clause-scalars_alone_find c = scalars_alone_find

pub returns-clause-items_by_index : goal.returns-clause-items_by_index
returns-clause-items_by_index c = items_by_index

pub returns-clause-texts_index_too : goal.returns-clause-texts_index_too
returns-clause-texts_index_too c = texts_index_too

pub returns-clause-items_by_name : goal.returns-clause-items_by_name
returns-clause-items_by_name c = items_by_name

pub returns-clause-own_keys_win : goal.returns-clause-own_keys_win
returns-clause-own_keys_win c = own_keys_win

pub returns-clause-put_is_found : goal.returns-clause-put_is_found
returns-clause-put_is_found c = put_is_found
