-- The source that has a file.
use Rattle.std.proofs.Common.{◌≡◌, Bool, true, false, cond, ◌&&◌, List, Option, Some, None, Result, Ok, Err, bytes_eq, refl, sym, ap, ◌∙◌}
use Rattle.std.specs.Prelude.{OnOk}
use Rattle.std.proofs.lemmas.Slice.Eq.{bytes_eq-Decides}
use Rattle.liquid_model.specs.Maps.{Map, insert}
use Rattle.liquid_model.specs.Texts.{Text}
use Rattle.liquid_site_build.specs.Written.{SiteOutput, is_first, with_owner}

pub on_ok : {T E P Q : Type 0} (r : Result T E) → (P → Q) → OnOk r P → OnOk r Q
on_ok (Ok x) f h = f h
on_ok (Err e) f h = tt

pub owner_taken : (m : Map Text) (o : SiteOutput) (file : Text) → is_first o.source (m o.file) ≡ true → insert m o.file o.source file ≡ with_owner o file (m file)
unfolding insert
owner_taken m o file h = on (bytes_eq o.file file) refl
  where
    on : (b : Bool) → bytes_eq o.file file ≡ b → cond b (Some o.source) (m file) ≡ cond (b && is_first o.source (m file)) (Some o.source) (m file)
    on true e = ap (λ c. cond c (Some o.source) (m file)) (sym (ap (λ f. is_first o.source (m f)) (sym ((bytes_eq-Decides o.file file).0 e)) ∙ h))
    on false e = refl

pub owner_kept : (m : Map Text) (o : SiteOutput) (file : Text) → is_first o.source (m o.file) ≡ false → m file ≡ with_owner o file (m file)
owner_kept m o file h = on (bytes_eq o.file file) refl
  where
    on : (b : Bool) → bytes_eq o.file file ≡ b → m file ≡ cond (b && is_first o.source (m file)) (Some o.source) (m file)
    on true e = ap (λ c. cond c (Some o.source) (m file)) (sym (ap (λ f. is_first o.source (m f)) (sym ((bytes_eq-Decides o.file file).0 e)) ∙ h))
    on false e = refl
