use Rattle.std.proofs.Common.{sym, ◌∙◌}
use Rattle.std.proofs.lemmas.Bool.{leb-true, leb-false}
use Rattle.liquid_model.specs.View.{view}
use Rattle.liquid_filter_sets.proofs.ReadBack.{read_back_law, json_law, deeper_law}
use Rattle.liquid_filter_sets.proofs.json_texts.is_read_back.Goals as goal

pub returns-clause-read : goal.returns-clause-read
returns-clause-read c = λ e. read_back_law (view c.args.value.now) c.nests_within.ensures.held (leb-true _ 127 (sym c.nests_within.ensures.within ∙ e))

pub returns-clause-json : goal.returns-clause-json
returns-clause-json c = λ e. json_law (view c.args.value.now) c.nests_within.ensures.held (leb-true _ 127 (sym c.nests_within.ensures.within ∙ e))

pub returns-clause-refused : goal.returns-clause-refused
returns-clause-refused c = λ e. deeper_law (view c.args.value.now) c.nests_within.ensures.held (leb-false _ 127 (sym c.nests_within.ensures.within ∙ e))
