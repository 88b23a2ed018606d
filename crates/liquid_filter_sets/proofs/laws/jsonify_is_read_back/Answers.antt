use Rattle.liquid_filter_sets.proofs.ReadBack.{read_back_law, data_law, deeper_law}
use Rattle.liquid_filter_sets.proofs.laws.jsonify_is_read_back.Goals as goal

pub returns-clause-value : goal.returns-clause-value
returns-clause-value c = read_back_law

pub returns-clause-data : goal.returns-clause-data
returns-clause-data c = data_law

pub returns-clause-deeper : goal.returns-clause-deeper
returns-clause-deeper c = deeper_law
