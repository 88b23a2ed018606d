use Rattle.liquid_model.specs.UseViews.{uses_view}
use Rattle.liquid_json.proofs.Readers.{all_alike, plain_alike}
use Rattle.liquid_json.proofs.data_reader.DataReader.new.Goals as goal

pub returns-then-any_by_place-clause-more : goal.returns-then-any_by_place-clause-more
returns-then-any_by_place-clause-more c = all_alike (uses_view c.args.uses.now)

pub returns-clause-more : goal.returns-clause-more
returns-clause-more c = plain_alike c.args.uses.now c.in_ok-plain.plain c.in_ok-plain.ensures.more
