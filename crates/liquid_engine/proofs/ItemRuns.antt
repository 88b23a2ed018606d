-- A run for each item, on its way: what is left of it does from here what the whole did from the start.
use Rattle.std.proofs.Common.{◌≡◌, ℕ, ◌+◌, ◌<◌, ◌≤◌, true, false, cond, List, length, get_or, Option, Ok, Err, sym, ap, subst, ◌∙◌, arith}
use Rattle.std.specs.Prelude.{drop}
use Rattle.std.proofs.lemmas.List.{drop_all, drop_more}
use Rattle.liquid_model.specs.Data.{Datum, nil}
use Rattle.liquid_model.specs.declared.error.Error.{Error}
use Rattle.liquid_core.specs.declared.interrupt.Interrupt.{Interrupt}
use Rattle.liquid_meaning.specs.Effects.{is_break}
use Rattle.liquid_meaning.specs.Loops.{until_break}
use Rattle.liquid_meaning.specs.Runs.{Nothing, Run, done, ◌>>=◌}
use Rattle.liquid_meaning.proofs.Rules.{until_none, until_more}
use Rattle.liquid_engine.specs.Performs.{Configuration, Meets, Performs, unit}
use Rattle.liquid_engine.proofs.Joined.{by_rule, bind_met, bind_faulted, done_met}
use Rattle.liquid_engine.proofs.Turning.{Leads}

abbrev left_as : Option Interrupt → Option Interrupt
left_as i = i

module _ (one : ℕ → Datum → Run (Option Interrupt)) where
  -- the items from place k on
  abbrev pub items_left : List Datum → ℕ → Run Nothing
  items_left ds k = until_break one k (drop k ds)

  left_rule : (ds : List Datum) (k : ℕ) → k < length ds → items_left ds k ≡ (one k (get_or ds k nil) >>= (λ left. cond (is_break left) (done tt) (items_left ds (k + 1))))
  left_rule ds k lt =
      ap (until_break one k) (drop_more ds k nil lt) ∙ until_more one k (get_or ds k nil) (drop (k + 1) ds)
      ∙ ap (λ j. one k (get_or ds k nil) >>= (λ left. cond (is_break left) (done tt) (until_break one j (drop (k + 1) ds)))) (omega arith)

  -- one item on
  pub item_on : (ds : List Datum) (k : ℕ) (left : Option Interrupt) (start here there : Configuration) → k < length ds → is_break left ≡ false
      → Meets left_as (Ok left) (one k (get_or ds k nil)) here there → Leads (items_left ds 0) (items_left ds k) start here → Leads (items_left ds 0) (items_left ds (k + 1)) start there
  item_on ds k left start here there lt goes ran leads r after h =
      leads r after (by_rule (left_rule ds k lt) (bind_met left_as unit left r (one k (get_or ds k nil)) (λ left. cond (is_break left) (done tt) (items_left ds (k + 1))) here there after ran
      (subst (λ b. Performs r (cond b (done tt) (items_left ds (k + 1))) there after) (sym goes) h)))

  -- an item leaves a break
  pub item_breaks : (ds : List Datum) (k : ℕ) (left : Option Interrupt) (value : Unit {0}) (start here there : Configuration) → k < length ds → is_break left ≡ true
      → Meets left_as (Ok left) (one k (get_or ds k nil)) here there → Leads (items_left ds 0) (items_left ds k) start here → Performs (Ok value) (items_left ds 0) start there
  item_breaks ds k left value start here there lt breaks ran leads =
      leads (Ok value) there (by_rule (left_rule ds k lt) (bind_met left_as unit left (Ok value) (one k (get_or ds k nil)) (λ left. cond (is_break left) (done tt) (items_left ds (k + 1))) here there there ran
      (subst (λ b. Performs (Ok value) (cond b (done tt) (items_left ds (k + 1))) there there) (sym breaks) (done_met value there))))

  -- an item ends by an error
  pub item_faulted : (ds : List Datum) (k : ℕ) (e : Error) (start here there : Configuration) → k < length ds
      → Meets left_as (Err e) (one k (get_or ds k nil)) here there → Leads (items_left ds 0) (items_left ds k) start here → Performs (Err e) (items_left ds 0) start there
  item_faulted ds k e start here there lt ran leads =
      leads (Err e) there (by_rule (left_rule ds k lt) (bind_faulted left_as unit e (one k (get_or ds k nil)) (λ left. cond (is_break left) (done tt) (items_left ds (k + 1))) here there ran))

  -- no item is left
  pub items_end : (ds : List Datum) (k : ℕ) (value : Unit {0}) (start here : Configuration) → length ds ≤ k → Leads (items_left ds 0) (items_left ds k) start here → Performs (Ok value) (items_left ds 0) start here
  items_end ds k value start here le leads =
      leads (Ok value) here (by_rule (ap (until_break one k) (drop_all k ds le) ∙ until_none one k) (done_met value here))
