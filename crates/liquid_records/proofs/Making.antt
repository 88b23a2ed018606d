-- What a page, or the page of a pattern, makes of a record.
use Rattle.std.specs.Prelude.{◌≡◌, ◌||◌, Bool, true, false, Option, Some, None, IsSome, IfSome, is_some, Result, Ok, Err}
use Rattle.std.proofs.Common.{inl, inr, refl, sym}
use mathlib.Core.Path.{ap, subst, ◌∙◌}
use Rattle.liquid_model.specs.Data.{Datum, Pairs}
use Rattle.liquid_model.specs.Maps.{Map, merged}
use Rattle.liquid_model.specs.Texts.{Text}
use Rattle.liquid_core.specs.Held.{map_of}
use Rattle.liquid_evaluation.specs.Tree.{Nodes}
use Rattle.liquid_engine.specs.LimitedPages.{KeepsLimits, PageWithin}
use Rattle.liquid_engine.specs.Limits.{is_limited_by}
use Rattle.liquid_engine.specs.Pages.{Shown, page_view}
use Rattle.liquid_engine.specs.declared.limits.Limits.{Limits}
use Rattle.liquid_engine.specs.declared.limits.LimitReached.{LimitReached}
use Rattle.liquid_engine.specs.declared.limits.LimitReached.TheVariants.{Bytes, Turns}
use Rattle.liquid_engine.specs.declared.rendered_page.LimitedPage.{LimitedPage}
use Rattle.liquid_records.specs.Records.{Job, Made, Reason, RecordComesTo, ◌then◌, pattern_page, record_page, page_name, record_file_name, made_page, made_by, made_unless, limited, with_record}
use Rattle.liquid_records.specs.Views.{KeepsBytes, has_page_limit}
use Rattle.liquid_model.specs.declared.error.ErrorKind.{ErrorKind}

pub name_is : (job : Job) (pattern : Nodes) (page : Shown) (r : Result Text Reason) → page ≡ pattern_page job pattern → r ≡ page_name page → r ≡ record_file_name job (Some pattern)
name_is job pattern page r is named = named ∙ ap page_name is

-- a page that no limit ended
pub page_is : (job : Job) (name : Text) (page : Shown) (r : Result Made Reason) → page ≡ record_page job → r ≡ made_page name page
    → RecordComesTo job (made_page name (record_page job)) r
page_is job name page r is made = inl (made ∙ ap (made_page name) is)

-- no limit ended it: it is whole
pub page_whole : (whole : Shown) (p : LimitedPage) → PageWithin whole p → p.limit ≡ None → page_view p.page ≡ whole
page_whole whole p (inl e) none = e.1
page_whole whole p (inr e) none = absurd (some p.limit e.0 none)
  where
    some : {X : Type 0} (o : Option X) → IsSome o → o ≡ None → ⊥
    some (Some x) is none = cc
    some None is none = absurd cc

-- a name is there, and so is the page
pub made_is : (job : Job) (pattern : Option Nodes) (name : Text) (r : Result Made Reason) → Ok name ≡ record_file_name job pattern
    → RecordComesTo job (made_page name (record_page job)) r → RecordComesTo job (made_by job pattern) r
made_is job pattern name r named made = subst (λ n. RecordComesTo job (n then λ x. made_page x (record_page job)) r) named made

-- no name is there
pub unnamed_is : (job : Job) (pattern : Option Nodes) (why : Reason) → Err why ≡ record_file_name job pattern → RecordComesTo job (made_by job pattern) (Err why)
unnamed_is job pattern why named = inl (ap (λ n. n then λ x. made_page x (record_page job)) named)

-- what is made over the data with a record's over it is what the record comes to
pub made_with : (job : Job) («data» : Pairs) (over : Map Datum) (pattern : Option Nodes) (P : Result Made Reason → Type 0) → over ≡ merged (map_of «data») job.shared
    → P (made_by (record job { shared = over }) pattern) → P (made_by (with_record «data» job) pattern)
made_with job «data» over pattern P e h = subst (λ m. P (made_by (record job { shared = m }) pattern)) e h

-- the shared data is there again
pub same_job : (job : Job) (over : Map Datum) → over ≡ job.shared → record job { shared = over } ≡ job
same_job job over e = λ i. record job { shared = e i }

-- the page of a record that no limit ended, as what it comes to
pub whole_is : (job : Job) (name : Text) (p : LimitedPage) (r : Result Made Reason) → PageWithin (record_page job) p → p.limit ≡ None → r ≡ made_page name (page_view p.page)
    → RecordComesTo job (made_page name (record_page job)) r
whole_is job name p r within none made = page_is job name (page_view p.page) r (page_whole (record_page job) p within none) made

-- ---- limits

limit_counts : (reached : LimitReached) (limits : Limits) → is_limited_by reached limits ≡ true → has_page_limit limits ≡ true
limit_counts Bytes limits is = ap (λ b. b || is_some limits.turns) is
limit_counts Turns limits is = or_right (is_some limits.bytes) (is_some limits.turns) is
  where
    or_right : (a b : Bool) → b ≡ true → (a || b) ≡ true
    or_right true b h = refl
    or_right false b h = h

-- a page that a limit of the job ended
pub ended_is : (limits : Limits) (job : Job) (wanted r : Result Made Reason) (p : LimitedPage) (reached : LimitReached) → KeepsLimits limits p → p.limit ≡ Some reached → job.has_limit ≡ has_page_limit limits
    → r ≡ Err limited → RecordComesTo job wanted r
ended_is limits job wanted r p reached keeps is counts made =
    let given : is_limited_by reached limits ≡ true = subst (λ o. IfSome o (λ l. is_limited_by l limits ≡ true)) is keeps.1 in
    inr (counts ∙ limit_counts reached limits given, made)

-- a page within limits, under its name
pub made_keeps : (limits : Limits) (p : LimitedPage) (name : Text) (r : Result Made Reason) → KeepsLimits limits p → r ≡ made_page name (page_view p.page) → KeepsBytes limits r
made_keeps limits p name r keeps made = subst (λ x. KeepsBytes limits x) (sym made) (on (page_view p.page).fault)
  where
    on : (fault : Option ErrorKind) → KeepsBytes limits (made_unless name (page_view p.page).text fault)
    on None = keeps.0
    on (Some kind) = tt
