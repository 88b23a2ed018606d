-- What a change of a site is, and what an accepted and a refused one do.
use Rattle.std.specs.Prelude.{◌≡◌, ⊤, MatchBool, string_bytes, Result, Ok, Err}
use Rattle.liquid_model.specs.ErrorKinds.{is_memory}
use Rattle.liquid_model.specs.View.{view}
use Rattle.liquid_model.specs.declared.error.Error.{Error}
use Rattle.liquid_model.specs.declared.error.ErrorKind.{ErrorKind}
use Rattle.liquid_core.specs.Held.{held}
use Rattle.liquid_evaluation.specs.Tree.{Nodes}
use Rattle.liquid_parser.specs.Parsing.{IsOnlyTree, HasNoTree, IsOfSource}
use Rattle.liquid_language.specs.declared.registry.Language.{Language}
use Rattle.liquid_site.specs.PartViews.{SiteView}
use Rattle.liquid_site.specs.SiteViews.{site_view}
use Rattle.liquid_site.specs.Steps.{Step, set_page, remove_page, set_partial, remove_partial}
use Rattle.liquid_site.specs.Steps.{set_value, remove_value, set_data, stepped, rendered_by}
use Rattle.liquid_site.specs.Steps.{saturated_sum}
use Rattle.liquid_site.specs.declared.change.Change.{Change}
use Rattle.liquid_site.specs.declared.change.Change.TheVariants.{SetPage, RemovePage, SetPartial}
use Rattle.liquid_site.specs.declared.change.Change.TheVariants.{RemovePartial, SetValue}
use Rattle.liquid_site.specs.declared.change.Change.TheVariants.{RemoveValue, SetData}
use Rattle.liquid_site.specs.declared.site.Site.{Site}

-- the step that a change is, its source being the only tree that it is
abbrev pub IsStep : Language → Change → Step → Type 0
IsStep l (SetPage name source) s = (t : Nodes) × IsOnlyTree l t (string_bytes source) ×
    (s ≡ set_page (string_bytes name) t)
IsStep l (RemovePage name) s = s ≡ remove_page (string_bytes name)
IsStep l (SetPartial name source) s = (t : Nodes) × IsOnlyTree l t (string_bytes source) ×
    (s ≡ set_partial (string_bytes name) t)
IsStep l (RemovePartial name) s = s ≡ remove_partial (string_bytes name)
IsStep l (SetValue name value) s = s ≡ set_value (string_bytes name) (view value)
IsStep l (RemoveValue name) s = s ≡ remove_value (string_bytes name)
IsStep l (SetData new) s = s ≡ set_data (held new)

-- a change whose source is no template
abbrev pub HasBadSource : Language → Change → Type 0
HasBadSource l (SetPage name source) = HasNoTree l (string_bytes source)
HasBadSource l (SetPartial name source) = HasNoTree l (string_bytes source)
HasBadSource l _ = ⊥

-- the step of the change was taken, and the pages that it renders again are counted
pub record AcceptedStep (change : Change) (old new : SiteView) : Type 0 where
  pub step : Step
  pub is_step : IsStep old.language change step
  pub contents : new.contents ≡ stepped step old.contents
  pub rendered : new.rendered ≡ saturated_sum old.rendered (rendered_by step old.contents)

-- nothing changed. Memory ran out, or the source is no template
pub record RefusedChange (change : Change) (kind : ErrorKind) (old new : SiteView) : Type 0 where
  pub contents : new.contents ≡ old.contents
  pub rendered : new.rendered ≡ old.rendered
  pub why : MatchBool (is_memory kind) ⊤ (HasBadSource old.language change × IsOfSource kind)

abbrev pub AppliesTo : Change → Result (Unit {0}) Error → SiteView → SiteView → Type 0
AppliesTo change (Ok u) old new = AcceptedStep change old new
AppliesTo change (Err e) old new = RefusedChange change e.kind old new

-- of a site
abbrev pub Accepted : Change → Site → Site → Type 0
Accepted change old new = AcceptedStep change (site_view old) (site_view new)

abbrev pub IsChangeRefused : Change → ErrorKind → Site → Site → Type 0
IsChangeRefused change kind old new = RefusedChange change kind (site_view old) (site_view new)

abbrev pub Applies : Change → Result (Unit {0}) Error → Site → Site → Type 0
Applies change r old new = AppliesTo change r (site_view old) (site_view new)
