-- The page of a lenient run beside that of the strict one.
use Rattle.std.proofs.Common.{◌≡◌, inl, inr, Some, Result, Ok, Err, sym, ap}
use Rattle.liquid_model.specs.declared.error.ErrorKind.{ErrorKind}
use Rattle.liquid_core.specs.declared.missing_value.Missing.TheVariants.{IsFault, IsNil}
use Rattle.liquid_meaning.specs.Lenient.{EndsForgiven, Extends}
use Rattle.liquid_meaning.specs.Meaning.{meaning}
use Rattle.liquid_meaning.specs.Runs.{Nothing, Outcome}
use Rattle.liquid_meaning.proofs.Lenient.{lenient_extends, none_unknown}
use Rattle.liquid_engine.specs.HostedPages.{hosted_page, setting_with}
use Rattle.liquid_engine.specs.LenientPages.{ExtendsPage, IsForgiven, LenientHostedPages, LenientPages, NoneUnknownIn}
use Rattle.liquid_engine.specs.Pages.{fault_of, page_in, run_environment, setting_over, shown}

forgiven : (end : Result Nothing ErrorKind) → EndsForgiven end → IsForgiven (fault_of end)
forgiven end (inl h) = inl (ap fault_of h)
forgiven end (inr (inl h)) = inr (inl (ap fault_of h))
forgiven end (inr (inr h)) = inr (inr (ap fault_of h))

extends : (o p : Outcome Nothing) → Extends o p → ExtendsPage (shown o) (shown p)
extends o p (inl h) = inl (ap shown h)
extends o p (inr h) = inr (forgiven o.end h.0, (h.1.0, sym h.1.1))

pub lenient_pages : LenientPages
unfolding page_in
lenient_pages depth partials «data» nodes =
    let run = meaning (setting_over partials) depth nodes in
    extends (run (run_environment IsFault «data»)) (run (run_environment IsNil «data»)) (lenient_extends (setting_over partials) depth nodes (run_environment IsFault «data»))

pub lenient_hosted_pages : LenientHostedPages
unfolding hosted_page
lenient_hosted_pages named depth partials «data» nodes =
    let run = meaning (setting_with named partials) depth nodes in
    extends (run (run_environment IsFault «data»)) (run (run_environment IsNil «data»)) (lenient_extends (setting_with named partials) depth nodes (run_environment IsFault «data»))

ended : (end : Result Nothing ErrorKind) (kind : ErrorKind) → fault_of end ≡ Some kind → end ≡ Err kind
ended (Ok done) kind h = absurd cc
ended (Err other) kind h = cc

pub none_unknown_in : NoneUnknownIn
unfolding hosted_page
none_unknown_in named depth partials «data» nodes know h =
    none_unknown (setting_with named partials) depth nodes (run_environment IsFault «data») know (ended _ _ h)
