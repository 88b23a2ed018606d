use Rattle.std.proofs.Common.{Option, Some, None}
use Rattle.std.specs.Prelude.{IfSome}
use Rattle.liquid_model.specs.UseViews.{uses_view}
use Rattle.liquid_model.specs.View.{pairs_view}
use Rattle.liquid_json.specs.inside.Planned.{IsReadData}
use Rattle.liquid_json.specs.Json.{data_of}
use Rattle.liquid_json.proofs.Under.{read_more}
use Rattle.liquid_json.proofs.data.data_if_plain.Goals as goal

over_some : {A : Type 0} (P Q : A → Type 0) (o : Option A) → IfSome o P → ((x : A) → P x → Q x) → IfSome o Q
over_some P Q (Some x) h k = k x h
over_some P Q None h k = h

pub returns-clause-alike : goal.returns-clause-alike
returns-clause-alike c =
    over_some _ (λ m. IsReadData (uses_view c.args.uses.now) (data_of c.args.text.now) (pairs_view m.entries)) c.in_ok-data.data c.in_ok-data.ensures
    (λ m found. read_more c.in_ok-plain.plain c.args.uses.now _ (pairs_view m.entries) c.in_ok-plain.ensures.more found)
