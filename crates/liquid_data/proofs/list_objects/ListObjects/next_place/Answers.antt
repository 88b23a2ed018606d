use Rattle.std.proofs.Common.{ap, sym}
use Rattle.liquid_data.proofs.RowObjects.{goes_on}
use Rattle.liquid_data.specs.Lists.{front_of_list, next_item, list_step_at}
use Rattle.liquid_data.proofs.list_objects.ListObjects.next_place.Goals as goal

pub returns-in_ok-head-in-Front : goal.returns-in_ok-head-in-Front
returns-in_ok-head-in-Front g c =
    goes_on g.R.Read.remaining c.args.self.now.place _ _ _ c.in_ok-head-in-Front.head front_of_list c.after.result (λ t. ap (λ p. list_step_at p t) (sym c.in-Front.is)) c.in_ok-head-in-Front.ensures c.after.ensures

pub returns-in_ok-head-in-Within : goal.returns-in_ok-head-in-Within
returns-in_ok-head-in-Within g c =
    goes_on g.R.Read.remaining c.args.self.now.place _ _ _ c.in_ok-head-in-Within.head next_item c.after-in-Within.result (λ t. ap (λ p. list_step_at p t) (sym c.in-Within.is)) c.in_ok-head-in-Within.ensures c.after-in-Within.ensures
