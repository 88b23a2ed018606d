use Rattle.liquid_model.proofs.laws.quotation_laws.Goals as goal
use Rattle.liquid_model.proofs.Quotes.{quotations_are_lines, plain_texts_are_shown_whole}

pub returns-clause-quotations_are_lines : goal.returns-clause-quotations_are_lines
returns-clause-quotations_are_lines c = quotations_are_lines

pub returns-clause-plain_texts_are_shown_whole : goal.returns-clause-plain_texts_are_shown_whole
returns-clause-plain_texts_are_shown_whole c = plain_texts_are_shown_whole
