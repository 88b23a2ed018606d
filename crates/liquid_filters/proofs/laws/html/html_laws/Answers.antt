use Rattle.liquid_filters.proofs.laws.html.html_laws.Goals as goal
use Rattle.liquid_filters.proofs.WebStanding.{escape_law, escape_once_law, newline_to_br_law}
use Rattle.liquid_filters.proofs.HtmlLaws.{once_twice, once_keeps, no_tag_left, strip_twice}
use Rattle.liquid_filters.proofs.Pairs.{strip_html_one}

pub returns-clause-escape_is_one : goal.returns-clause-escape_is_one
returns-clause-escape_is_one c = escape_law

pub returns-clause-escape_once_is_one : goal.returns-clause-escape_once_is_one
returns-clause-escape_once_is_one c = escape_once_law

pub returns-clause-newline_to_br_is_one : goal.returns-clause-newline_to_br_is_one
returns-clause-newline_to_br_is_one c = newline_to_br_law

pub returns-clause-escape_once_twice_is_once : goal.returns-clause-escape_once_twice_is_once
returns-clause-escape_once_twice_is_once c = once_twice

pub returns-clause-escape_once_keeps_escapes : goal.returns-clause-escape_once_keeps_escapes
returns-clause-escape_once_keeps_escapes c = once_keeps

pub returns-clause-strip_html_is_one : goal.returns-clause-strip_html_is_one
returns-clause-strip_html_is_one c = strip_html_one

pub returns-clause-strip_html_leaves_no_tag : goal.returns-clause-strip_html_leaves_no_tag
returns-clause-strip_html_leaves_no_tag c = no_tag_left

pub returns-clause-strip_html_twice_is_once : goal.returns-clause-strip_html_twice_is_once
returns-clause-strip_html_twice_is_once c = strip_twice
