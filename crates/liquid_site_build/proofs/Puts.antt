-- A part of a site in the place of what was there, in the code's maps and in their lists.
use Rattle.std.proofs.Common.{◌≡◌, Bool, true, false, cond, List, [], ◌∷◌, map, Option, Some, None, IsSome, unwrap_or, Result, Ok, Err, Ordering, Less, Equal, Greater, String, Global, string_bytes, string_cmp, refl, sym, ap, ◌∙◌, subst}
use Rattle.std.specs.Prelude.{OnErr}
use Rattle.std.specs.BTreeSet.{insert_key}
use Rattle.std.specs.Ordering.{match_ordering}
use Rattle.liquid_model.specs.Maps.{listed}
use Rattle.liquid_model.specs.Texts.{Text, same_text}
use Rattle.liquid_language.specs.Entries.{put_entry, placed}
use Rattle.liquid_syntax.proofs.Held.{Ascend, placed_put}
use Rattle.liquid_site_build.specs.Sources.{SiteText, SiteTexts, documents_in, put_name}

-- what stands at a name, put there again
pub placed_same : {Y : Type 0} (name : Text) (y : Y) (es : List (Text × Y)) → listed es name ≡ Some y → placed name y es ≡ es
unfolding listed
placed_same name y [] h = refl
placed_same name y (e ∷ es) h = on (same_text e.0 name) h (placed_same name y es)
  where
    on : (b : Bool) → cond b (Some e.1) (listed es name) ≡ Some y → (listed es name ≡ Some y → placed name y es ≡ es) → cond b ((e.0, y) ∷ es) (e ∷ placed name y es) ≡ e ∷ es
    on true k rest = ap (λ x. (e.0, x) ∷ es) (sym (ap (λ o. unwrap_or o y) k))
    on false k rest = ap (λ l. e ∷ l) (rest k)

-- a document of a collection that is there
pub put_in_collection : (name path : Text) (t : SiteText) (es : List (Text × SiteTexts)) (old new : SiteTexts) → Ascend es → listed es name ≡ Some old → new ≡ put_entry path t old
    → placed name new es ≡ put_entry name (put_entry path t (documents_in name es)) es
put_in_collection name path t es old new up found put =
    placed_put name new es up (subst (λ o. IsSome o) (sym found) refl)
    ∙ ap (λ ts. put_entry name ts es) (put ∙ ap (put_entry path t) (sym (ap (λ o. unwrap_or o []) found)))

-- and of one that isn't
pub put_in_none : (name path : Text) (t : SiteText) (es : List (Text × SiteTexts)) → listed es name ≡ None
    → put_entry name (put_entry path t []) es ≡ put_entry name (put_entry path t (documents_in name es)) es
put_in_none name path t es none = ap (λ ts. put_entry name (put_entry path t ts) es) (sym (ap (λ o. unwrap_or o []) none))

by_order : (o : Ordering) (a b c : List (String Global)) → map string_bytes (match_ordering o a b c) ≡ match_ordering o (map string_bytes a) (map string_bytes b) (map string_bytes c)
by_order Less a b c = refl
by_order Equal a b c = refl
by_order Greater a b c = refl

pub names_inserted : (ks : List (String Global)) (k : String Global) → map string_bytes (insert_key string_cmp ks k) ≡ put_name (string_bytes k) (map string_bytes ks)
names_inserted [] k = refl
names_inserted (x ∷ xs) k = by_order (string_cmp k x) _ _ _ ∙ rw (names_inserted xs k)

pub on_err : {T E P : Type 0} (r : Result T E) → P → OnErr r P
on_err (Ok x) h = tt
on_err (Err e) h = h
