-- Settings are the same where data are alike in what they are made of.
use Rattle.std.proofs.Common.{◌≡◌, ℕ, Bool, true, false, cond, List, [], ◌∷◌, Option, Some, None, bytes_eq, codes, length, refl, sym, ap, ◌∙◌}
use mathlib.Core.Path.{subst}
use Rattle.std.specs.Cmp.Lexicographic.{bytes_decides}
use Rattle.liquid_model.specs.Data.{Datum, nil, truth, number, text, array, object, Items, no_items, item, text_of}
use Rattle.liquid_model.specs.Find.{value_at, or_size, item_step, counted}
use Rattle.liquid_model.specs.Lists.{list_of}
use Rattle.liquid_model.specs.Texts.{Text, same_text}
use Rattle.liquid_model.specs.Uses.{Use, parts, no_fields, every, there, shape_of, member, loop_items_of, Pairwise, Alike, use_at}
use Rattle.liquid_model.specs.Whole.{whole}
use Rattle.liquid_model.proofs.Alike.{alike_at}
use Rattle.liquid_filter_sets.specs.Settings.{setting_text, found_setting_text, text_in_found, with_text, texts_of, texts_found}
use Rattle.liquid_filter_sets.specs.SettingUses.{SeesText}

-- ---- a text of a map

-- what is no member is no text
no_text_of_size : (o : Option Datum) (name : Text) (n : ℕ) → found_setting_text (or_size o name n) ≡ found_setting_text o
no_text_of_size (Some d) name n = refl
no_text_of_size None name n = at (bytes_eq name (codes "size"))
  where
    at : (b : Bool) → found_setting_text (cond b (Some (counted n)) None) ≡ None
    at true = refl
    at false = refl

-- no item of a list is found by this name
abbrev pub FindsNoItem : Text → Type 0
FindsNoItem name = (ds : Items) → item_step (whole (text name)) name ds ≡ None

by_member : (name : Text) → FindsNoItem name → (o : Option Datum) → text_in_found name o ≡ found_setting_text (member name o)
by_member name none None = refl
by_member name none (Some nil) = refl
by_member name none (Some (truth b)) = sym (no_text_of_size None name (length (text_of (truth b))))
by_member name none (Some (number z)) = sym (no_text_of_size None name (length (text_of (number z))))
by_member name none (Some (text s)) = sym (no_text_of_size None name (length s))
by_member name none (Some (array ds)) = sym (ap found_setting_text (none ds))
by_member name none (Some (object ps)) = sym (no_text_of_size (value_at name ps) name _)

of_shape : (o : Option Datum) → found_setting_text o ≡ found_setting_text (shape_of o)
of_shape None = refl
of_shape (Some nil) = refl
of_shape (Some (truth b)) = refl
of_shape (Some (number z)) = refl
of_shape (Some (text s)) = refl
of_shape (Some (array ds)) = refl
of_shape (Some (object ps)) = refl

same_shape : (o p : Option Datum) → shape_of o ≡ shape_of p → found_setting_text o ≡ found_setting_text p
same_shape o p e = of_shape o ∙ ap found_setting_text e ∙ sym (of_shape p)

pub sees_text : (U : Text → Use) (map name : Text) → FindsNoItem name → use_at name (U map) ≡ there → SeesText U map name
sees_text U map name none asked ps qs a =
    let o = value_at map ps in
    let p = value_at map qs in
    let found : Alike there (member name o) (member name p) = subst (λ u. Alike u (member name o) (member name p)) asked (alike_at name (U map) o p (a map)) in
    by_member name none o ∙ same_shape (member name o) (member name p) found.0 ∙ sym (by_member name none p)

-- ---- the texts of a list

abbrev texts_among : List Datum → List Text
texts_among [] = []
texts_among (d ∷ ds) = with_text (setting_text d) (texts_among ds)

texts_listed : (ds : Items) → texts_of ds ≡ texts_among (list_of ds)
texts_listed no_items = refl
texts_listed (item d ds) = ap (with_text (setting_text d)) (texts_listed ds)

-- of a value of this shape with these items
abbrev texts_by : Option Datum → List Datum → List Text
texts_by (Some (array none)) ds = texts_among ds
texts_by _ ds = []

by_items : (o : Option Datum) → texts_found o ≡ texts_by (shape_of o) (loop_items_of o)
by_items None = refl
by_items (Some nil) = refl
by_items (Some (truth b)) = refl
by_items (Some (number z)) = refl
by_items (Some (text s)) = refl
by_items (Some (array ds)) = texts_listed ds
by_items (Some (object ps)) = refl

same_among : (ds es : List Datum) → Pairwise (λ d e. Alike there (Some d) (Some e)) ds es → texts_among ds ≡ texts_among es
same_among [] [] h = refl
same_among [] (e ∷ es) h = absurd h
same_among (d ∷ ds) [] h = absurd h
same_among (d ∷ ds) (e ∷ es) h = (λ i. with_text (same_shape (Some d) (Some e) h.0.0 i) (same_among ds es h.1 i))

same_by : (o : Option Datum) (ds es : List Datum) → texts_among ds ≡ texts_among es → texts_by o ds ≡ texts_by o es
same_by None ds es e = refl
same_by (Some nil) ds es e = refl
same_by (Some (truth b)) ds es e = refl
same_by (Some (number z)) ds es e = refl
same_by (Some (text s)) ds es e = refl
same_by (Some (array none)) ds es e = e
same_by (Some (object ps)) ds es e = refl

pub same_texts : (o p : Option Datum) → Alike (parts no_fields (every there)) o p → texts_found o ≡ texts_found p
same_texts o p a =
    by_items o ∙ ap (λ s. texts_by s (loop_items_of o)) a.0 ∙ same_by (shape_of p) (loop_items_of o) (loop_items_of p) (same_among (loop_items_of o) (loop_items_of p) a.1.1) ∙ sym (by_items p)

-- ---- two names, one after the other

itself : (q : Text) → same_text q q ≡ true
itself q = (bytes_decides q q).1 refl

pub asked_last : (q : Text) (u before : Use) → u ≡ there → cond (same_text q q) u before ≡ there
asked_last q u before e = ap (λ b. cond b u before) (itself q) ∙ e

pub asked_first : (b : Bool) (q : Text) (u v before : Use) → u ≡ there → v ≡ there → {held : Use} → held ≡ cond (same_text q q) v before → cond b u held ≡ there
asked_first true q u v before e f h = e
asked_first false q u v before e f h = h ∙ asked_last q v before f
