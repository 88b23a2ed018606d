-- A page that a run wrote into a buffer within limits.
use Rattle.std.proofs.lemmas.Bool.{true≢false}
use Rattle.std.proofs.Common.{◌≡◌, ℕ, ◌+◌, ◌≤◌, [], ◌++◌, ◌||◌, Bool, cond, eqb, true, false, length, Option, Some, None, is_some, Result, Ok, Err, ◌⊎◌, inl, inr, refl, sym, ap, subst, ◌∙◌}
use Rattle.std.proofs.Common.{arith}
use Rattle.std.proofs.lemmas.Bool.Decides.{nat_tests}
use Rattle.std.specs.Prelude.{IfErr, IfOk, IfSome, IsSome, nat_eq}
use Rattle.liquid_model.specs.ErrorKinds.{is_memory}
use Rattle.liquid_model.specs.Texts.{Text}
use Rattle.liquid_model.specs.declared.error.Error.{Error}
use Rattle.liquid_model.specs.declared.error.ErrorKind.TheVariants.{Memory, Write}
use Rattle.liquid_core.specs.Environment.{Environment}
use Rattle.liquid_meaning.specs.Runs.{Nothing, Run}
use Rattle.liquid_engine.specs.Failures.{OneFailed, AtMostOneFailed}
use Rattle.liquid_engine.specs.LimitedPages.{IsPrefixOf, KeepsLimits, PageWithin}
use Rattle.liquid_engine.specs.Limits.{is_limited_by, is_within_limit, unlimited}
use Rattle.liquid_engine.specs.LimitedParts.{both}
use Rattle.liquid_engine.specs.Pages.{ended_page, fault_of, page_view, shown, Shown}
use Rattle.liquid_engine.specs.Performs.{Configuration, Performs}
use Rattle.liquid_engine.specs.inside.Reserves.{are_limited, reserve_of}
use Rattle.liquid_engine.specs.declared.limits.Limits.{Limits}
use Rattle.liquid_engine.specs.declared.limits.LimitReached.{LimitReached}
use Rattle.liquid_engine.specs.declared.limits.LimitReached.TheVariants.{Bytes, Turns}
use Rattle.liquid_engine.specs.declared.rendered_page.Page.{Page}
use Rattle.liquid_engine.specs.declared.rendered_page.LimitedPage.{LimitedPage}
use Rattle.liquid_engine.proofs.Taken.{none_refused, one_refused}

-- into a buffer, beside a writer that a limit has refused so often
abbrev pub within_limits : Text → ℕ → Environment → Configuration
within_limits text refused environment = record { sink = record { buffer = Some text; contents = None; failures = both 0 refused }; environment = environment }

-- what a text in a buffer took of a limit on bytes leaves it within that limit
fits : (text : Text) (was left : Option ℕ) → is_some left ≡ is_some was → reserve_of (Some text) left ≤ reserve_of (Some []) was → is_within_limit (length text) was ≡ true
fits text None left same less = refl
fits text (Some most) None same less = absurd (true≢false (sym same))
fits text (Some most) (Some more) same less =
    let enough : length text ≤ most = omega (arith, less) in
    grind (arith, nat_tests)

-- a limit that is among those left was among those that were given
given_before : (last : LimitReached) (was left : Limits) → are_limited left ≡ are_limited was → is_limited_by last left ≡ true → is_limited_by last was ≡ true
given_before Bytes was left same is = sym (ap (λ p. p.0) same) ∙ is
given_before Turns was left same is = sym (ap (λ p. p.1) same) ∙ is

-- what a writer within limits says after a run into a buffer
pub record Ran (limits left : Limits) (refused : ℕ) (last : LimitReached) (text : Text) : Type 0 where
  pub bounded : reserve_of (Some text) left.bytes ≤ reserve_of (Some []) limits.bytes
  pub limited : are_limited left ≡ are_limited limits
  pub given : (nat_eq refused 0 || is_limited_by last left) ≡ true

-- it began with these limits
pub ran_within : (was limits left : Limits) (refused : ℕ) (last : LimitReached) (text : Text) → was ≡ limits → reserve_of (Some text) left.bytes ≤ reserve_of (Some []) was.bytes
    → are_limited left ≡ are_limited was → (nat_eq refused 0 || is_limited_by last left) ≡ true → Ran limits left refused last text
ran_within was limits left refused last text same bounded limited given =
    subst (λ l. Ran l left refused last text) same (record { bounded = bounded; limited = limited; given = given })

module _ (text : Text) (refused : ℕ) (last : LimitReached) (m : Run Nothing) (e g : Environment) (page : Page) where
  abbrev pub limit : Option LimitReached
  limit = cond (eqb refused 0) None (Some last)

  abbrev Is : Shown → Type 0
  Is seen = ((limit ≡ None) × (seen ≡ shown (m e))) ⊎ (IsSome limit × (seen.fault ≡ Some Write) × IsPrefixOf seen.text (m e).text)

  seen : (answer : Result (Unit {0}) Error) → Performs answer m (within_limits [] 0 e) (within_limits text refused g) → IfErr answer (λ x. is_memory x.kind ≡ false) → Is (ended_page text answer)
  seen answer (inl x) ran =
      let is : text ≡ (m e).text = x.adds.added in
      inl (ap (λ b. cond b None (Some last)) (none_refused refused x.none_failed), λ i. record { text = is i; fault = fault_of (x.end i) })
  seen (Ok value) (inr x) ran = absurd x.cause
  seen (Err x) (inr y) ran = on y.cause
    where
      some : OneFailed 0 (both 0 refused) → IsSome limit
      some is = subst (λ b. IsSome (cond b None (Some last))) (sym (one_refused refused is)) refl

      on : (((x.kind ≡ Memory) × AtMostOneFailed 0 (both 0 refused)) ⊎ ((x.kind ≡ Write) × OneFailed 0 (both 0 refused))) → Is (ended_page text (Err x))
      on (inl refused_memory) = absurd (true≢false (sym (ap is_memory refused_memory.0) ∙ ran))
      on (inr failed) =
          let front : text ≡ y.adds.front = y.adds.adds.added in
          inr (some failed.1, ap Some failed.0, (y.adds.rest, ap (λ l. l ++ y.adds.rest) front ∙ y.adds.whole))

  -- the page of what a run wrote within limits
  pub page_within : (start : ℕ) (reached_limit : Option LimitReached) (answer : Result (Unit {0}) Error) → start ≡ 0 → reached_limit ≡ limit
      → Performs answer m (within_limits [] start e) (within_limits text refused g) → page_view page ≡ ended_page text answer → IfErr answer (λ x. is_memory x.kind ≡ false)
      → PageWithin (shown (m e)) (record { page = page; limit = reached_limit })
  page_within start reached_limit answer none same_limit performs is ran =
      let there = subst (λ n. Performs answer m (within_limits [] n e) (within_limits text refused g)) none performs in
      subst (λ l. PageWithin (shown (m e)) (record { page = page; limit = l })) (sym same_limit) (subst Is (sym is) (seen answer there ran))

-- ---- the limits

module _ (limits left : Limits) (text : Text) (refused : ℕ) (last : LimitReached) (page : Page) where
  -- a page within limits keeps them
  pub keeps_limits : (reached_limit : Option LimitReached) (answer : Result (Unit {0}) Error) → Ran limits left refused last text → reached_limit ≡ cond (eqb refused 0) None (Some last)
      → page_view page ≡ ended_page text answer → KeepsLimits limits (record { page = page; limit = reached_limit })
  keeps_limits reached_limit answer within same_limit is = (bounded, subst (λ l. IfSome l (λ x. is_limited_by x limits ≡ true)) (sym same_limit) (named (eqb refused 0) within.given))
    where
      bounded : is_within_limit (length (page_view page).text) limits.bytes ≡ true
      bounded = subst (λ (t : Text). is_within_limit (length t) limits.bytes ≡ true) (sym (ap (λ (s : Shown). s.text) is)) (fits text limits.bytes left.bytes (ap (λ p. p.0) within.limited) within.bounded)

      named : (b : Bool) → (b || is_limited_by last left) ≡ true → IfSome (cond b None (Some last)) (λ x. is_limited_by x limits ≡ true)
      named true h = tt
      named false h = given_before last limits left within.limited h

-- a page that no limit may end, where there are none
pub unlimited_keeps : (limits : Limits) (page : Page) → limits ≡ unlimited → KeepsLimits limits (record { page = page; limit = None })
unlimited_keeps limits page none = subst (λ l. KeepsLimits l (record { page = page; limit = None })) (sym none) (refl, tt)

pub keeps_none : (limits : Limits) (result : Result LimitedPage Error) → limits ≡ unlimited → IfOk result (KeepsLimits unlimited) → IfOk result (KeepsLimits limits)
keeps_none limits result none h = subst (λ l. IfOk result (KeepsLimits l)) (sym none) h
