use Rattle.liquid_model.specs.UseViews.{uses_view}
use Rattle.liquid_model.specs.View.{pairs_view}
use Rattle.liquid_json.specs.Json.{data_of}
use Rattle.liquid_json.proofs.PlainCopies.{whole_answers}
use Rattle.liquid_json.proofs.Under.{read_under, whole_under}
use Rattle.liquid_json.proofs.data.data_for.Goals as goal

pub returns-clause-alike : goal.returns-clause-alike
returns-clause-alike c = whole_answers (λ m. pairs_view m.entries) (uses_view c.args.uses.now) c.data_from_json.result (data_of c.args.text.now) c.data_from_json.ensures

pub returns-clause-under : goal.returns-clause-under
returns-clause-under c = whole_under (λ m. pairs_view m.entries) c.data_from_json.result (data_of c.args.text.now) c.data_from_json.ensures
