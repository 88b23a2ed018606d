use Rattle.liquid_page_texts.proofs.Reading.{parses_again, refuses_again}
use Rattle.liquid_page_texts.proofs.page_from_texts.read_partial.Goals as goal

pub returns-in-Err-clause-parses : goal.returns-in-Err-clause-parses
returns-in-Err-clause-parses c = parses_again c.args.language.now c.args.source.now c.in-Err.error c.in_partial.result c.in_partial.ensures.kind_or_memory c.in-Err.ensures.parses

pub returns-in-Err-clause-kinds : goal.returns-in-Err-clause-kinds
returns-in-Err-clause-kinds c = refuses_again c.in-Err.error c.in_partial.result c.in_partial.ensures.kind_or_memory c.in-Err.ensures.kinds
