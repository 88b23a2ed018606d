use Rattle.liquid_filters.proofs.laws.texts.text_laws.Goals as goal
use Rattle.liquid_filters.proofs.TextStanding.{split_law, replace_law, remove_law, downcase_law, upcase_law, capitalize_law, strip_law}
use Rattle.liquid_filters.proofs.TextStanding.{lstrip_law, rstrip_law, strip_newlines_law}
use Rattle.liquid_filters.proofs.TextOnes.{replace_first_law, remove_first_law, slice_law, truncate_law, truncatewords_law}

pub returns-clause-split_is_one : goal.returns-clause-split_is_one
returns-clause-split_is_one c = split_law

pub returns-clause-replace_is_one : goal.returns-clause-replace_is_one
returns-clause-replace_is_one c = replace_law

pub returns-clause-remove_is_one : goal.returns-clause-remove_is_one
returns-clause-remove_is_one c = remove_law

pub returns-clause-replace_first_is_one : goal.returns-clause-replace_first_is_one
returns-clause-replace_first_is_one c = replace_first_law

pub returns-clause-remove_first_is_one : goal.returns-clause-remove_first_is_one
returns-clause-remove_first_is_one c = remove_first_law

pub returns-clause-slice_is_one : goal.returns-clause-slice_is_one
returns-clause-slice_is_one c = slice_law

pub returns-clause-truncate_is_one : goal.returns-clause-truncate_is_one
returns-clause-truncate_is_one c = truncate_law

pub returns-clause-truncatewords_is_one : goal.returns-clause-truncatewords_is_one
returns-clause-truncatewords_is_one c = truncatewords_law

pub returns-clause-downcase_is_one : goal.returns-clause-downcase_is_one
returns-clause-downcase_is_one c = downcase_law

pub returns-clause-upcase_is_one : goal.returns-clause-upcase_is_one
returns-clause-upcase_is_one c = upcase_law

pub returns-clause-capitalize_is_one : goal.returns-clause-capitalize_is_one
returns-clause-capitalize_is_one c = capitalize_law

pub returns-clause-strip_is_one : goal.returns-clause-strip_is_one
returns-clause-strip_is_one c = strip_law

pub returns-clause-lstrip_is_one : goal.returns-clause-lstrip_is_one
returns-clause-lstrip_is_one c = lstrip_law

pub returns-clause-rstrip_is_one : goal.returns-clause-rstrip_is_one
returns-clause-rstrip_is_one c = rstrip_law

pub returns-clause-strip_newlines_is_one : goal.returns-clause-strip_newlines_is_one
returns-clause-strip_newlines_is_one c = strip_newlines_law
