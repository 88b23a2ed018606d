use Rattle.liquid_model.proofs.laws.skipping_laws.Goals as goal
use Rattle.liquid_model.proofs.Skipping.{put_in_both, put_in_one, put_at_same_key, map_with_all_keys, map_with_some_keys, list_with_all_items, list_without_items}

pub returns-clause-both : goal.returns-clause-both
returns-clause-both c = put_in_both

pub returns-clause-one : goal.returns-clause-one
returns-clause-one c = put_in_one

pub returns-clause-same_key : goal.returns-clause-same_key
returns-clause-same_key c = put_at_same_key

pub returns-clause-all_keys : goal.returns-clause-all_keys
returns-clause-all_keys c = map_with_all_keys

pub returns-clause-some_keys : goal.returns-clause-some_keys
returns-clause-some_keys c = map_with_some_keys

pub returns-clause-all_items : goal.returns-clause-all_items
returns-clause-all_items c = list_with_all_items

pub returns-clause-no_items : goal.returns-clause-no_items
returns-clause-no_items c = list_without_items
