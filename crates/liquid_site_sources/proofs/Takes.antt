-- What the sources of a site take of a file.
use Rattle.std.proofs.Common.{◌≡◌, MatchBool, Bool, true, false, Option, Some, None, Result, Ok, Err, refl, sym, ap, ◌∙◌, subst}
use Rattle.std.specs.Bool.{⊤}
use Rattle.liquid_model.specs.Answer.{Faulted}
use Rattle.liquid_model.specs.Data.{Pairs}
use Rattle.liquid_model.specs.ErrorKinds.{is_memory, is_refusal}
use Rattle.liquid_model.specs.Texts.{Text}
use Rattle.liquid_model.specs.declared.error.ErrorKind.{ErrorKind}
use Rattle.liquid_evaluation.specs.Tree.{Nodes}
use Rattle.liquid_language.specs.declared.registry.Language.{Language}
use Rattle.liquid_parser.specs.Parsing.{HasNoTree, IsOnlyTree}
use Rattle.liquid_yaml.specs.Reading.{Front}
use Rattle.liquid_site_build.specs.SiteFiles.{AddsBytes, AddsData, AddsFile, AddsFront, AddsLayout, AddsPublished, AddsSitePart, AddsTemplate, SiteForm, SitePart, SourceRefusal, is_published, no_data, no_front, no_template, part_at, text_with}
use Rattle.liquid_model.specs.Data.{no_pairs}
use Rattle.liquid_site_build.specs.Sources.{SiteSources, put_layout}

-- a fault that isn't of memory
fault_of : {A : Type 0} (k : ErrorKind) (r : Result A ErrorKind) → is_memory k ≡ false → Faulted k r → r ≡ Err k
fault_of k r e h = at (is_memory k) e h
  where
    at : (b : Bool) → b ≡ false → MatchBool b ⊤ ((r ≡ Err k) × (is_refusal k ≡ false)) → r ≡ Err k
    at true e h = absurd cc
    at false e h = h.0

module _ (old new : SiteSources) where
  pub data_added : {A : Type 0} (r : Result A ErrorKind) (d : A) (add : A → SiteSources) → r ≡ Ok d → new ≡ add d → AddsData r add old new None
  data_added r d add e n = subst (λ r. AddsData r add old new None) (sym e) (n, refl)

  pub data_refused : {A : Type 0} (r : Result A ErrorKind) (k j : ErrorKind) (add : A → SiteSources) → is_memory k ≡ false → Faulted k r → j ≡ k → new ≡ old → AddsData r add old new (Some (no_data j))
  data_refused r k j add m f s n = subst (λ r. AddsData r add old new (Some (no_data j))) (sym (fault_of k r m f)) (n, ap (λ k. Some (no_data k)) s)

  pub template_added : (l : Language) (source : Text) (add : Nodes → SiteSources) (t : Nodes) → IsOnlyTree l t source → new ≡ add t → AddsTemplate l source add old new None
  template_added l source add t only n = (t, only, n)

  pub template_refused : (l : Language) (source : Text) (add : Nodes → SiteSources) → HasNoTree l source → new ≡ old → AddsTemplate l source add old new (Some no_template)
  template_refused l source add none n = (none, n, refl)

  pub front_read : (l : Language) (r : Result (Option Front) ErrorKind) (f : Front) (add : Pairs → Nodes → SiteSources) (plain : SiteSources) (why : Option SourceRefusal) → r ≡ Ok (Some f)
      → AddsPublished (is_published f.members) (AddsTemplate l f.body (add f.members) old new why) old new why → AddsFront l r add plain old new why
  front_read l r f add plain why e h = subst (λ r. AddsFront l r add plain old new why) (sym e) h

  pub front_none : (l : Language) (r : Result (Option Front) ErrorKind) (add : Pairs → Nodes → SiteSources) (plain : SiteSources) (why : Option SourceRefusal) → r ≡ Ok None
      → (new ≡ plain) × (why ≡ None) → AddsFront l r add plain old new why
  front_none l r add plain why e h = subst (λ r. AddsFront l r add plain old new why) (sym e) h

  pub front_refused : (l : Language) (r : Result (Option Front) ErrorKind) (k j : ErrorKind) (add : Pairs → Nodes → SiteSources) (plain : SiteSources) → is_memory k ≡ false → Faulted k r → j ≡ k → new ≡ old
      → AddsFront l r add plain old new (Some (no_front j))
  front_refused l r k j add plain m f s n = subst (λ r. AddsFront l r add plain old new (Some (no_front j))) (sym (fault_of k r m f)) (n, ap (λ k. Some (no_front k)) s)

  pub layout_read : (l : Language) (name source : Text) (r : Result (Option Front) ErrorKind) (f : Front) (why : Option SourceRefusal) → r ≡ Ok (Some f)
      → AddsTemplate l f.body (λ t. put_layout name (text_with f.members t) old) old new why → AddsLayout l name source r old new why
  layout_read l name source r f why e h = subst (λ r. AddsLayout l name source r old new why) (sym e) h

  pub layout_none : (l : Language) (name source : Text) (r : Result (Option Front) ErrorKind) (why : Option SourceRefusal) → r ≡ Ok None
      → AddsTemplate l source (λ t. put_layout name (text_with no_pairs t) old) old new why → AddsLayout l name source r old new why
  layout_none l name source r why e h = subst (λ r. AddsLayout l name source r old new why) (sym e) h

  pub layout_refused : (l : Language) (name source : Text) (r : Result (Option Front) ErrorKind) (k j : ErrorKind) → is_memory k ≡ false → Faulted k r → j ≡ k → new ≡ old
      → AddsLayout l name source r old new (Some (no_front j))
  layout_refused l name source r k j m f s n = subst (λ r. AddsLayout l name source r old new (Some (no_front j))) (sym (fault_of k r m f)) (n, ap (λ k. Some (no_front k)) s)

  pub published : (b : Bool) (Adds : Type 0) (why : Option SourceRefusal) → b ≡ true → Adds → AddsPublished b Adds old new why
  published b Adds why e h = subst (λ b. AddsPublished b Adds old new why) (sym e) h

  pub unpublished : (b : Bool) (Adds : Type 0) → b ≡ false → new ≡ old → AddsPublished b Adds old new None
  unpublished b Adds e n = subst (λ b. AddsPublished b Adds old new None) (sym e) (n, refl)

  pub text_taken : (form : SiteForm) (l : Language) (path source : Text) (part : SitePart) (why : Option SourceRefusal) → part ≡ part_at form path → AddsSitePart form l path source part old new why
      → AddsFile form l path (Some source) old new why
  text_taken form l path source part why e h = subst (λ p. AddsSitePart form l path source p old new why) e h

  pub bytes_taken : (form : SiteForm) (l : Language) (path : Text) (part : SitePart) (why : Option SourceRefusal) → part ≡ part_at form path → AddsBytes path part old new why
      → AddsFile form l path None old new why
  bytes_taken form l path part why e h = subst (λ p. AddsBytes path p old new why) e h
