use Rattle.std.proofs.Common.{Option, Some, None}
use Rattle.std.specs.Prelude.{IfSome}
use Rattle.liquid_model.specs.Uses.{parts, uncounted}
use Rattle.liquid_model.specs.UseViews.{members_view}
use Rattle.liquid_model.specs.View.{pairs_view}
use Rattle.liquid_json.specs.Json.{data_of}
use Rattle.liquid_json.specs.MapsAsked.{IsAlikeMap}
use Rattle.liquid_json.proofs.MapsAlike.{members_map}
use Rattle.liquid_json.proofs.named.members_if_plain.Goals as goal

over_some : {A : Type 0} (P Q : A → Type 0) (o : Option A) → IfSome o P → ((x : A) → P x → Q x) → IfSome o Q
over_some P Q (Some x) h k = k x h
over_some P Q None h k = h

pub returns-clause-alike : goal.returns-clause-alike
returns-clause-alike c =
    over_some _ (λ m. IsAlikeMap (parts (members_view c.args.members.now.entries) uncounted) (data_of c.args.text.now) (pairs_view m.entries)) c.in_ok-data.data c.in_ok-data.ensures
    (λ m found. members_map (members_view c.in_ok-plain.plain.entries) (members_view c.args.members.now.entries) (data_of c.args.text.now) (pairs_view m.entries) c.in_ok-plain.ensures.plain c.in_ok-plain.ensures.more (found.0, found.1, found.2))
