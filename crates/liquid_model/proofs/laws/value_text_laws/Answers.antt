use Rattle.liquid_model.proofs.laws.value_text_laws.Goals as goal
use Rattle.liquid_model.proofs.Lawful.{list_text_is_item_texts, number_text_is_whole}

pub returns-clause-list_text_is_item_texts : goal.returns-clause-list_text_is_item_texts
returns-clause-list_text_is_item_texts c = list_text_is_item_texts

pub returns-clause-number_text_is_whole : goal.returns-clause-number_text_is_whole
returns-clause-number_text_is_whole c = number_text_is_whole
