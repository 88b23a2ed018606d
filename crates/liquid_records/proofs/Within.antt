-- A record whose page a limit may have ended.
use Rattle.std.specs.Prelude.{◌≡◌, ◌⊎◌, ℕ, Bool, true, Option, Some, None, Result, Ok, Err, IfOk, IfSome}
use Rattle.std.proofs.Common.{inl, inr}
use mathlib.Core.Path.{sym, subst}
use Rattle.liquid_files.specs.Files.{Files}
use Rattle.liquid_records.specs.Records.{Job, Made, Reason, RecordComesTo, limited}
use Rattle.liquid_records.specs.Steps.{EarlierNames, Fate, IsRecordStep, IsStepWithin, Leaves, no_page}

module _ (job : Job) (wanted got : Result Made Reason) (n : ℕ) (names : EarlierNames) where
  step_is : (fate : Fate) (after : EarlierNames) → RecordComesTo job wanted got → IsRecordStep n got names fate after → IsStepWithin job.has_limit n wanted names fate after
  step_is fate after (inl e) s = inl (subst (λ r. IsRecordStep n r names fate after) e s)
  step_is fate after (inr e) s = inr (e.0, subst (λ r. IsRecordStep n r names fate after) e.1 s)

  -- a step of what it comes to is one of what is wanted, within limits
  pub step_within : {F E : Type 0} (view : F → Fate) (result : Result F E) (after : EarlierNames) → RecordComesTo job wanted got
      → IfOk result (λ f. IsRecordStep n got names (view f) after) → IfOk result (λ f. IsStepWithin job.has_limit n wanted names (view f) after)
  step_within view (Ok f) after e s = step_is (view f) after e s
  step_within view (Err why) after e s = tt

  left_alone : (w : Result Made Reason) (old : Files) (new : Option Files) → Leaves (Err limited) (Err (no_page limited)) old new → Leaves w (Err (no_page limited)) old new
  left_alone (Ok made) old new h = h
  left_alone (Err why) old new h = h

  leaves_is : (fate : Fate) (after : EarlierNames) (old : Files) (new : Option Files) → RecordComesTo job wanted got → IsRecordStep n got names fate after → Leaves got fate old new → Leaves wanted fate old new
  leaves_is fate after old new (inl e) s h = subst (λ r. Leaves r fate old new) e h
  leaves_is fate after old new (inr e) s h =
      let is = (subst (λ r. IsRecordStep n r names fate after) e.1 s).0 in
      subst (λ f. Leaves wanted f old new) (sym is) (left_alone wanted old new (subst (λ f. Leaves (Err limited) f old new) is (subst (λ r. Leaves r fate old new) e.1 h)))

  -- no file changes where a limit ended the page
  pub leaves_within : {F E : Type 0} (view : F → Fate) (result : Result F E) (after : EarlierNames) (old : Option Files) (new : Option Files) → RecordComesTo job wanted got
      → IfOk result (λ f. IsRecordStep n got names (view f) after) → IfSome old (λ g. IfOk result (λ f. Leaves got (view f) g new)) → IfSome old (λ g. IfOk result (λ f. Leaves wanted (view f) g new))
  leaves_within view (Ok f) after (Some g) new e s h = leaves_is (view f) after g new e s h
  leaves_within view (Ok f) after None new e s h = tt
  leaves_within view (Err why) after (Some g) new e s h = tt
  leaves_within view (Err why) after None new e s h = tt
