-- The code's maps, as they are seen.
use Rattle.std.specs.Prelude.{◌≡◌, Bool, true, false, cond, ◌||◌, List, [], ◌∷◌, Some, None, is_some, String, string_bytes}
use Rattle.std.specs.List.{list_any}
use Rattle.std.specs.Map.{lookup, set_value, remove_entry}
use Rattle.std.specs.BTreeMap.{insert_entry}
use Rattle.std.specs.String.{string_cmp}
use Rattle.std.specs.Ordering.{match_ordering}
use Rattle.std.specs.declared.cmp.Ordering.{Ordering}
use Rattle.std.specs.declared.cmp.Ordering.TheVariants.{Less, Equal, Greater}
use Rattle.std.specs.declared.alloc.Global.{Global}
use Rattle.std.proofs.lemmas.Map.Text.{is_eq-slice_cmp}
use Rattle.std.specs.Ordering.{is_eq}
use mathlib.Core.Path.{refl, sym, ap, ◌∙◌}
use Rattle.liquid_model.specs.Texts.{Text, same_text}
use Rattle.liquid_model.specs.Maps.{listed}
use Rattle.liquid_model.proofs.Maps.{same_key}
use Rattle.liquid_language.specs.Entries.{seen, put_entry, placed, without}
use Rattle.liquid_syntax.proofs.Held.{apart, order, names, same_turned, seen_found, seen_placed}
use Rattle.liquid_language.proofs.Inserted.{named, seen_inserted}

some : {Y : Type 0} (y : Y) → Some y ≡ None → ⊥
some y k = cc

-- ---- a write where nothing stands

set_absent : {X : Type 0} (test : String Global → Bool) (es : List (String Global × X)) (w : X) → lookup test es ≡ None → set_value test es w ≡ es
set_absent test [] w h = refl
set_absent test (e ∷ es) w h = on (test e.0) h (set_absent test es w)
  where
    on : (b : Bool) → cond b (Some e.1) (lookup test es) ≡ None → (lookup test es ≡ None → set_value test es w ≡ es) → cond b ((e.0, w) ∷ es) (e ∷ set_value test es w) ≡ e ∷ es
    on true k rest = absurd (some e.1 k)
    on false k rest = ap (λ l. e ∷ l) (rest k)

pub placed_nowhere : {X Y : Type 0} (f : X → Y) (name : Text) (w : X) (es : List (String Global × X)) → None ≡ lookup (named name) es → seen f es ≡ placed name (f w) (seen f es)
placed_nowhere f name w es h = ap (seen f) (sym (set_absent (named name) es w (sym h))) ∙ seen_placed f name w es

-- ---- what is removed

removed_seen : {X Y : Type 0} (f : X → Y) (b c : Bool) (e : String Global × X) (es rest : List (String Global × X)) (later : List (Text × Y)) → b ≡ c → seen f rest ≡ later
    → seen f (cond b es (e ∷ rest)) ≡ cond c (seen f es) ((string_bytes e.0, f e.1) ∷ later)
removed_seen f true true e es rest later h k = refl
removed_seen f false false e es rest later h k = ap (λ l. (string_bytes e.0, f e.1) ∷ l) k
removed_seen f true false e es rest later h k = absurd (apart h)
removed_seen f false true e es rest later h k = absurd (apart (sym h))

pub seen_removed : {X Y : Type 0} (f : X → Y) (name : Text) (es : List (String Global × X)) → seen f (remove_entry (named name) es) ≡ without name (seen f es)
seen_removed f name [] = refl
seen_removed f name (e ∷ es) = removed_seen f (named name e.0) (same_text (string_bytes e.0) name) e es (remove_entry (named name) es) _ (is_eq-slice_cmp name (string_bytes e.0) ∙ same_turned name (string_bytes e.0)) (seen_removed f name es)

-- ---- a new name is put in and taken out again

put_taken : {Y : Type 0} (name : Text) (y : Y) (es : List (Text × Y)) → is_some (listed es name) ≡ false → without name (put_entry name y es) ≡ es
unfolding listed
put_taken name y [] h = ap (λ b. cond b [] ((name, y) ∷ [])) (same_key name)
put_taken name y (e ∷ es) h = on (order name e.0) refl (same_text e.0 name) refl h (put_taken name y es)
  where
    on : (o : Ordering) → order name e.0 ≡ o → (b : Bool) → same_text e.0 name ≡ b → is_some (cond b (Some e.1) (listed es name)) ≡ false → (is_some (listed es name) ≡ false → without name (put_entry name y es) ≡ es)
        → without name (match_ordering (order name e.0) ((name, y) ∷ e ∷ es) ((e.0, y) ∷ es) (e ∷ put_entry name y es)) ≡ e ∷ es
    on o k true s l rest = absurd (apart l)
    on Less k false s l rest =
        ap (λ x. without name (match_ordering x ((name, y) ∷ e ∷ es) ((e.0, y) ∷ es) (e ∷ put_entry name y es))) k ∙ ap (λ b. cond b (e ∷ es) ((name, y) ∷ without name (e ∷ es))) (same_key name)
    on Equal k false s l rest = absurd (apart (sym (same_turned e.0 name ∙ sym (is_eq-slice_cmp name e.0) ∙ ap is_eq k) ∙ s))
    on Greater k false s l rest =
        ap (λ x. without name (match_ordering x ((name, y) ∷ e ∷ es) ((e.0, y) ∷ es) (e ∷ put_entry name y es))) k ∙ ap (λ b. cond b (put_entry name y es) (e ∷ without name (put_entry name y es))) s ∙ ap (λ l. e ∷ l) (rest l)

is_listed : {Y : Type 0} (name : Text) (es : List (Text × Y)) → is_some (listed es name) ≡ list_any (λ k. same_text k name) (names es)
unfolding listed
is_listed name [] = refl
is_listed name (e ∷ es) = on (same_text e.0 name) (is_listed name es)
  where
    on : (b : Bool) → is_some (listed es name) ≡ list_any (λ k. same_text k name) (names es) → is_some (cond b (Some e.1) (listed es name)) ≡ (b || list_any (λ k. same_text k name) (names es))
    on true rest = refl
    on false rest = rest

-- a name is put in beside its page, which is refused: the name is new, and taken out again
pub taken_back : {X Y Z V : Type 0} (f : X → Y) (g : Z → V) (name : String Global) (own : Text) (x : X) (es new out : List (String Global × X)) (ps : List (String Global × Z)) → names (seen f es) ≡ names (seen g ps) → own ≡ string_bytes name
    → lookup (named own) ps ≡ None → new ≡ insert_entry string_cmp es name x → out ≡ remove_entry (named own) new → seen f out ≡ seen f es
taken_back f g name own x es new out ps same is absent put_in taken =
    let n = string_bytes name in
    let gone : is_some (listed (seen g ps) n) ≡ false = ap is_some (ap (listed (seen g ps)) (sym is) ∙ seen_found g own ps None (sym absent)) in
    ap (seen f) taken ∙ seen_removed f own new ∙ (λ i. without (is i) (seen f (put_in i))) ∙ ap (without n) (seen_inserted f es name x)
    ∙ put_taken n (f x) (seen f es) (is_listed n (seen f es) ∙ ap (list_any (λ k. same_text k n)) same ∙ sym (is_listed n (seen g ps)) ∙ gone)
