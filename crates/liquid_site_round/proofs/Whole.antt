-- A site that is written over what was there, and one that isn't.
use Rattle.std.specs.Prelude.{◌≡◌, ◌⊎◌, ◌++◌, List, [], ◌∷◌, Option, Some, None, IfSome, OnErr, OnOk, IsErr, Result, Ok, Err, ⊤}
use Rattle.std.proofs.Common.{inl, inr}
use mathlib.Core.Path.{refl, sym, ap, subst, ◌∙◌}
use Rattle.liquid_model.specs.Texts.{Text}
use Rattle.std.specs.Prelude.{String, string_bytes}
use Rattle.std.specs.declared.alloc.Global.{Global}
use Rattle.liquid_files.specs.Files.{File, Files, IsFound, gone, holds}
use Rattle.liquid_files.specs.declared.disk.DiskFault.{DiskFault}
use Rattle.liquid_site_round.specs.Settings.{FileSetting, AreSet}
use Rattle.liquid_site_round.specs.SiteWriting.{BuiltFiles, SiteIsBegun, SiteIsWritten, list_name, names_before, names_of_list, names_or_line, site_settings}
use Rattle.liquid_site_round.specs.WrittenNames.{names_listed}
use Rattle.liquid_site_round.specs.inside.Settled.{list_file, held_text}

of_held : (held : Option (String Global)) (names : List Text) → Ok names ≡ names_listed (held_text held) → names_of_list (list_file held) ≡ Ok names
of_held None names h = (let e : Ok [] ≡ names_listed [] = refl in ap names_or_line e ∙ ap names_or_line (sym h))
of_held (Some text) names h = ap names_or_line (sym h)

before_is : (f : Files) (out given : Text) (held : Option (String Global)) (names : List Text) → f (out ++ list_name) ≡ list_file held → given ≡ held_text held → Ok names ≡ names_listed given → names_before out f ≡ Ok names
before_is f out given held names at is h = ap names_of_list at ∙ of_held held names (h ∙ ap names_listed is)

pub as_written : {E : Type 0} (o v : Option Files) (source out given : Text) (fs : BuiltFiles) (held : Option (String Global)) (names : List Text) (r : Result (Unit {0}) E) → IfSome o (λ f. f (out ++ list_name) ≡ list_file held) → given ≡ held_text held → Ok names ≡ names_listed given
    → IfSome o (λ f. AreSet (site_settings source out fs names f) f r v) → IfSome o (λ f. OnOk r (SiteIsWritten source out fs f v))
as_written None v source out given fs held names r at is h set = tt
as_written (Some f) v source out given fs held names (Ok u) at is h set = (names, before_is f out given held names at is h, set)
as_written (Some f) v source out given fs held names (Err e) at is h set = tt

pub as_begun : {E : Type 0} (o v : Option Files) (source out given : Text) (fs : BuiltFiles) (held : Option (String Global)) (names : List Text) (r : Result (Unit {0}) E) → IfSome o (λ f. f (out ++ list_name) ≡ list_file held) → given ≡ held_text held → Ok names ≡ names_listed given
    → IfSome o (λ f. AreSet (site_settings source out fs names f) f r v) → IfSome o (λ f. OnErr r (SiteIsBegun source out fs f v))
as_begun None v source out given fs held names r at is h set = tt
as_begun (Some f) v source out given fs held names (Ok u) at is h set = tt
as_begun (Some f) v source out given fs held names (Err e) at is h set = inr (names, before_is f out given held names at is h, set)

-- where an error comes before anything is set
pub none_written : {E : Type 0} (o : Option Files) (source out : Text) (fs : BuiltFiles) (r : Result (Unit {0}) E) → IsErr r → IfSome o (λ f. OnOk r (SiteIsWritten source out fs f o))
none_written None source out fs r bad = tt
none_written (Some f) source out fs (Ok u) bad = absurd cc
none_written (Some f) source out fs (Err e) bad = tt

pub err_written : {E : Type 0} (o : Option Files) (source out : Text) (fs : BuiltFiles) (r : Result (Unit {0}) E) (e : E) → r ≡ Err e → IfSome o (λ f. OnOk r (SiteIsWritten source out fs f o))
err_written None source out fs r e is = tt
err_written (Some f) source out fs r e is = subst (λ x. OnOk x (SiteIsWritten source out fs f (Some f))) (sym is) tt

pub none_begun : {E : Type 0} (o : Option Files) (source out : Text) (fs : BuiltFiles) (r : Result (Unit {0}) E) → IfSome o (λ f. OnErr r (SiteIsBegun source out fs f o))
none_begun None source out fs r = tt
none_begun (Some f) source out fs (Ok u) = tt
none_begun (Some f) source out fs (Err e) = inl refl

pub nothing_set : (o : Option Files) (source out : Text) (fs : BuiltFiles) → IfSome o (λ f. SiteIsBegun source out fs f o)
nothing_set None source out fs = tt
nothing_set (Some f) source out fs = inl refl

pub nothing : (o : Option Files) → IfSome o (λ f. ⊤)
nothing None = tt
nothing (Some f) = tt

-- ---- the list that was read

pub found_list : (o : Option Files) (path given : Text) (r : Result (Option (String Global)) DiskFault) (held : Option (String Global)) → r ≡ Ok held → given ≡ path → IfSome o (λ f. IsFound (f given) r) → IfSome o (λ f. f path ≡ list_file held)
found_list None path given r held is same found = tt
found_list (Some f) path given r None is same found = subst (λ p. IsFound (f p) (Ok None)) same (subst (λ x. IsFound (f given) x) is found)
found_list (Some f) path given r (Some text) is same found = subst (λ p. IsFound (f p) (Ok (Some text))) same (subst (λ x. IsFound (f given) x) is found)
