-- Two proofs that pages are within limits are equal.
use Rattle.std.specs.Prelude.{◌≡◌, ◌++◌, Bool, true, false, T, List, [], ◌∷◌}
use Rattle.std.specs.Prelude.{Option, None, Some, IfSome, IsSome, is_some, length, refl}
use Rattle.std.specs.Coded.{Coded, Coded-set, code_by, coded_bool, coded_option, ×_prop, Unit-prop}
use Rattle.std.proofs.lemmas.List.{append_cancel_left}
use mathlib.Core.HLevel.{×₃_prop, Σ_prop_path}
use mathlib.Core.Logic.{inl, inr}
use mathlib.Core.Path.{sym, ap, subst, ◌∙◌}
use Rattle.liquid_model.specs.Texts.{Text}
use Rattle.liquid_model.specs.declared.error.ErrorKind.TheVariants.{Write}
use Rattle.liquid_engine.specs.LimitedPages.{IsPrefixOf, PageWithin, ShownWithin}
use Rattle.liquid_engine.specs.Pages.{Shown, page_view}
use Rattle.liquid_engine.specs.Limits.{is_limited_by, is_within_limit}
use Rattle.liquid_engine.specs.declared.limits.Limits.{Limits}
use Rattle.liquid_engine.specs.declared.limits.LimitReached.{LimitReached}
use Rattle.liquid_engine.specs.declared.limits.LimitReached.TheVariants.{Bytes, Turns}
use Rattle.liquid_engine.specs.declared.rendered_page.LimitedPage.{LimitedPage}
use Rattle.liquid_site.specs.Contents.{Pages}
use Rattle.liquid_site.specs.Faults.{kind_code, text_code, shown_code}
use Rattle.liquid_site.specs.ShownPages.{AreWithin}

abbrev by_turns : LimitReached → Bool
by_turns Bytes = false
by_turns Turns = true

abbrev limit_of : Bool → LimitReached
limit_of false = Bytes
limit_of true = Turns

pub limit_back : (limit : LimitReached) → limit_of (by_turns limit) ≡ limit
limit_back Bytes = refl
limit_back Turns = refl

abbrev pub limit_code : Coded LimitReached
limit_code = code_by Bool coded_bool by_turns limit_of limit_back

pub Begins-prop : (front whole : Text) → IsProp (IsPrefixOf front whole)
Begins-prop front whole a b =
    Σ_prop_path (λ (rest : Text). Coded-set text_code (front ++ rest) whole)
    (append_cancel_left front a.0 b.0 (a.1 ∙ sym b.1))

none_is : {X : Type 0} (o : Option X) → o ≡ None → IsSome o → ⊥
none_is o h k = subst T (sym (sym (ap is_some h) ∙ k)) tt

pub PageWithin-prop : (whole : Shown) (p : LimitedPage) → IsProp (PageWithin whole p)
PageWithin-prop whole p (inl a) (inl b) = ap inl (×_prop
    (Coded-set (coded_option limit_code) p.limit None)
    (Coded-set shown_code (page_view p.page) whole) a b)
PageWithin-prop whole p (inr a) (inr b) = ap inr (×₃_prop
    (Coded-set coded_bool (is_some p.limit) true)
    (Coded-set (coded_option kind_code) (page_view p.page).fault (Some Write))
    (Begins-prop (page_view p.page).text whole.text) a b)
PageWithin-prop whole p (inl a) (inr b) = absurd (none_is p.limit a.0 b.0)
PageWithin-prop whole p (inr a) (inl b) = absurd (none_is p.limit b.0 a.0)

is_given-prop : (limits : Limits) (o : Option LimitReached)
    → IsProp (IfSome o (λ reached. is_limited_by reached limits ≡ true))
is_given-prop limits None = Unit-prop
is_given-prop limits (Some reached) = Coded-set coded_bool (is_limited_by reached limits) true

pub ShownWithin-prop : (limits : Limits) (whole : Shown) (p : LimitedPage)
    → IsProp (ShownWithin limits whole p)
ShownWithin-prop limits whole p = ×_prop (PageWithin-prop whole p) (×_prop
    (Coded-set coded_bool (is_within_limit (length (page_view p.page).text) limits.bytes) true)
    (is_given-prop limits p.limit))

pub AreWithin-prop : (limits : Limits) (ws : Pages) (ps : List (Text × LimitedPage))
    → IsProp (AreWithin limits ws ps)
AreWithin-prop limits [] [] = Unit-prop
AreWithin-prop limits (w ∷ ws) (p ∷ ps) = ×₃_prop (Coded-set text_code w.0 p.0)
    (ShownWithin-prop limits w.1 p.1) (AreWithin-prop limits ws ps)
AreWithin-prop limits [] (p ∷ ps) = λ a b. absurd a
AreWithin-prop limits (w ∷ ws) [] = λ a b. absurd a
