-- Files are read in one way.
use Rattle.std.proofs.Common.{◌≡◌, Bool, true, false, List, [], ◌∷◌, ◌++◌, Option, Some, None, Result, Ok, Err, refl, sym, ap, ◌∙◌, subst}
use Rattle.liquid_model.specs.Data.{Pairs, no_pairs}
use Rattle.liquid_model.specs.Texts.{Text}
use Rattle.liquid_model.specs.declared.error.ErrorKind.{ErrorKind}
use Rattle.liquid_evaluation.specs.Tree.{Nodes}
use Rattle.liquid_yaml.specs.Reading.{Front, front_matter_of}
use Rattle.liquid_language.specs.declared.registry.Language.{Language}
use Rattle.liquid_parser.specs.Parsing.{IsTemplate, IsOnlyTree, HasNoTree}
use Rattle.liquid_site_build.specs.SiteFiles.{SiteForm, SitePart, config_file, data_file, layout_file, partial_file, document_file_of, page_file, left_out, part_at, SourceRefusal, AddsTemplate, AddsBytes, AddsFile, AddsPublished, is_published, AddsFront, AddsLayout, AddsData, AddsSitePart, AddsFiles, AreRead, OneReading, refused_by, empty_site, text_with}
use Rattle.liquid_site_build.specs.Sources.{SiteSources, put_layout}

abbrev Same : SiteSources → SiteSources → Option SourceRefusal → Option SourceRefusal → Type 0
Same s t p q = (s ≡ t) × (p ≡ q)

both : {s t x : SiteSources} {p q y : Option SourceRefusal} → (s ≡ x) × (p ≡ y) → (t ≡ x) × (q ≡ y) → Same s t p q
both a b = (a.0 ∙ sym b.0, a.1 ∙ sym b.1)

one_tree : (l : Language) (source : Text) (t u : Nodes) → IsOnlyTree l t source → IsOnlyTree l u source → t ≡ u
one_tree l source t u a b = sym ((a u).0 ((b u).1 refl))

template_once : (l : Language) (source : Text) (add : Nodes → SiteSources) (old s t : SiteSources) (p q : Option SourceRefusal)
    → AddsTemplate l source add old s p → AddsTemplate l source add old t q → Same s t p q
template_once l source add old s t None None a b = (a.2 ∙ ap add (one_tree l source a.0 b.0 a.1 b.1) ∙ sym b.2, refl)
template_once l source add old s t None (Some why) a b = absurd (b.0 a.0 ((a.1 a.0).1 refl))
template_once l source add old s t (Some why) None a b = absurd (a.0 b.0 ((b.1 b.0).1 refl))
template_once l source add old s t (Some why) (Some other) a b = (a.1 ∙ sym b.1, ap Some (a.2 ∙ sym b.2))

published_once : (b : Bool) (A B : Type 0) (old s t : SiteSources) (p q : Option SourceRefusal) → (A → B → Same s t p q) → AddsPublished b A old s p → AddsPublished b B old t q → Same s t p q
published_once true A B old s t p q once a b = once a b
published_once false A B old s t p q once a b = both a b

front_once : (l : Language) (r : Result (Option Front) ErrorKind) (add : Pairs → Nodes → SiteSources) (plain old s t : SiteSources) (p q : Option SourceRefusal)
    → AddsFront l r add plain old s p → AddsFront l r add plain old t q → Same s t p q
front_once l (Ok (Some f)) add plain old s t p q a b = published_once (is_published f.members) _ _ old s t p q (template_once l f.body (add f.members) old s t p q) a b
front_once l (Ok None) add plain old s t p q a b = both a b
front_once l (Err kind) add plain old s t p q a b = both a b

layout_once : (l : Language) (name source : Text) (r : Result (Option Front) ErrorKind) (old s t : SiteSources) (p q : Option SourceRefusal)
    → AddsLayout l name source r old s p → AddsLayout l name source r old t q → Same s t p q
layout_once l name source (Ok (Some f)) old s t p q a b = template_once l f.body (λ t. put_layout name (text_with f.members t) old) old s t p q a b
layout_once l name source (Ok None) old s t p q a b = template_once l source (λ t. put_layout name (text_with no_pairs t) old) old s t p q a b
layout_once l name source (Err kind) old s t p q a b = both a b

data_once : {A : Type 0} (r : Result A ErrorKind) (add : A → SiteSources) (old s t : SiteSources) (p q : Option SourceRefusal) → AddsData r add old s p → AddsData r add old t q → Same s t p q
data_once (Ok d) add old s t p q a b = both a b
data_once (Err kind) add old s t p q a b = both a b

part_once : (form : SiteForm) (l : Language) (path source : Text) (part : SitePart) (old s t : SiteSources) (p q : Option SourceRefusal)
    → AddsSitePart form l path source part old s p → AddsSitePart form l path source part old t q → Same s t p q
part_once form l path source config_file old s t p q a b = data_once (form.config_read source) _ old s t p q a b
part_once form l path source (data_file name) old s t p q a b = data_once (form.data_read name source) _ old s t p q a b
part_once form l path source (layout_file name) old s t p q a b = layout_once l name source (front_matter_of source) old s t p q a b
part_once form l path source (partial_file name) old s t p q a b = template_once l source _ old s t p q a b
part_once form l path source (document_file_of name) old s t p q a b = front_once l (front_matter_of source) _ _ old s t p q a b
part_once form l path source page_file old s t p q a b = front_once l (front_matter_of source) _ _ old s t p q a b
part_once form l path source left_out old s t p q a b = both a b

bytes_once : (path : Text) (part : SitePart) (old s t : SiteSources) (p q : Option SourceRefusal) → AddsBytes path part old s p → AddsBytes path part old t q → Same s t p q
bytes_once path config_file old s t p q a b = both a b
bytes_once path (data_file name) old s t p q a b = both a b
bytes_once path (layout_file name) old s t p q a b = both a b
bytes_once path (partial_file name) old s t p q a b = both a b
bytes_once path (document_file_of name) old s t p q a b = both a b
bytes_once path page_file old s t p q a b = both a b
bytes_once path left_out old s t p q a b = both a b

file_once : (form : SiteForm) (l : Language) (path : Text) (source : Option Text) (old s t : SiteSources) (p q : Option SourceRefusal)
    → AddsFile form l path source old s p → AddsFile form l path source old t q → Same s t p q
file_once form l path (Some source) old s t p q a b = part_once form l path source (part_at form path) old s t p q a b
file_once form l path None old s t p q a b = bytes_once path (part_at form path) old s t p q a b

files_once : (form : SiteForm) (l : Language) (files : List (Text × Option Text)) (old s t : SiteSources) (p q : List (Text × SourceRefusal))
    → AddsFiles form l files old s p → AddsFiles form l files old t q → (s ≡ t) × (p ≡ q)
files_once form l [] old s t p q a b = (a.0 ∙ sym b.0, a.1 ∙ sym b.1)
files_once form l (f ∷ fs) old s t p q a b =
    let same = file_once form l f.0 f.1 old a.0 b.0 a.1 b.1 a.3 b.3 in
    let rest = files_once form l fs b.0 s t a.2 b.2 (subst (λ m. AddsFiles form l fs m s a.2) same.0 a.4) b.4 in
    (rest.0, a.5 ∙ (λ i. refused_by f.0 (same.1 i) ++ rest.1 i) ∙ sym b.5)

pub one_reading : OneReading
one_reading setting form l files s t p q a b = files_once form l files (empty_site setting form) s t p q a b
