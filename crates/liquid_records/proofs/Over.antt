-- Data over other data.
use Rattle.std.specs.Prelude.{◌≡◌, Bool, true, false, cond, List, [], ◌∷◌, ◌++◌, Option, Some, None, IsSome, option_map, bytes_eq, String, string_bytes}
use Rattle.std.proofs.lemmas.List.{map-append}
use Rattle.std.proofs.lemmas.Slice.Eq.{bytes_eq-Decides}
use Rattle.std.specs.declared.alloc.Global.{Global}
use mathlib.Core.Path.{refl, sym, ap, subst, fun_ext, ◌∙◌}
use Rattle.liquid_model.specs.Data.{Datum, Pairs, put}
use Rattle.liquid_model.specs.Maps.{Map, merged}
use Rattle.liquid_model.specs.Texts.{Text}
use Rattle.liquid_model.specs.View.{view, pairs_view}
use Rattle.liquid_model.specs.declared.value.Value.{Value}
use Rattle.liquid_model.proofs.Views.{Entry}
use Rattle.liquid_core.specs.Held.{map_of}
use Rattle.liquid_core.specs.DataChanges.{with_value}
use Rattle.liquid_core.proofs.DataChanges.{one_set}
use Rattle.liquid_records.specs.inside.Covered.{AreThere, Covered, covered_view, uncovered}

-- what stands at a name, put back there after another value
pub back_again : (m : Map Datum) (name : Text) (d : Option Datum) → with_value (with_value m name d) name (m name) ≡ m
unfolding with_value
back_again m name d = fun_ext (λ q. at q (bytes_eq name q) refl)
  where
    at : (q : Text) (b : Bool) → bytes_eq name q ≡ b → cond b (m name) (cond b d (m q)) ≡ m q
    at q true e = ap m ((bytes_eq-Decides name q).0 e)
    at q false e = refl

-- the last of what was covered is put back first
pub uncovered_last : (cs : Covered) (name : Text) (d : Option Datum) (m : Map Datum) → uncovered (cs ++ (name, d) ∷ []) m ≡ uncovered cs (with_value m name d)
uncovered_last [] name d m = refl
uncovered_last (c ∷ cs) name d m = ap (λ x. with_value x c.0 c.1) (uncovered_last cs name d m)

-- something stands at each name that was covered, and at one more
pub there_more : (cs : Covered) (name : Text) (d : Option Datum) (m : Map Datum) → IsSome (m name) → AreThere cs (with_value m name d) → AreThere (cs ++ (name, d) ∷ []) m
there_more [] name d m s t = (tt, s)
there_more (c ∷ cs) name d m s t = (there_more cs name d m s t.0, subst (λ x. IsSome (x c.0)) (sym (uncovered_last cs name d m)) t.1)

-- and at the last of them first
pub there_last : (cs : Covered) (name : Text) (d : Option Datum) (m : Map Datum) → AreThere (cs ++ (name, d) ∷ []) m → IsSome (m name) × AreThere cs (with_value m name d)
there_last [] name d m t = (t.1, tt)
there_last (c ∷ cs) name d m t = let r = there_last cs name d m t.0 in (r.0, (r.1, subst (λ x. IsSome (x c.0)) (uncovered_last cs name d m) t.1))

-- what was put at a name stands there
stands : (m : Map Datum) (name : Text) (d : Datum) → with_value m name (Some d) name ≡ Some d
unfolding with_value
stands m name d = ap (λ b. cond b (Some d) (m name)) ((bytes_eq-Decides name name).1 refl)

pub stands_there : (now new : Map Datum) (t name : Text) (d : Datum) → t ≡ name → new ≡ with_value now name (Some d) → IsSome (new t)
stands_there now new t name d same set = subst (λ o. IsSome o) (sym (ap new same ∙ ap (λ m. m name) set ∙ stands now name d)) refl

-- a value put at a name, and then what stood there
pub put_and_back : (now new : Map Datum) (t name : Text) (o : Option Datum) (d : Datum) → t ≡ name → o ≡ now name → new ≡ with_value now name (Some d) → with_value new t o ≡ now
put_and_back now new t name o d same was set = (λ i. with_value (set i) (same i) (was i)) ∙ back_again now name (Some d)

-- one more value over the data, in front of what is left
pub one_over : (before now new : Map Datum) (done : List Entry) (e : Entry) → put (string_bytes e.0) (view e.1) (pairs_view done) ≡ pairs_view (done ++ e ∷ []) → now ≡ merged (map_of (pairs_view done)) before
    → new ≡ with_value now (string_bytes e.0) (Some (view e.1)) → new ≡ merged (map_of (pairs_view (done ++ e ∷ []))) before
one_over before now new done e last is set =
    set ∙ ap (λ m. with_value m (string_bytes e.0) (Some (view e.1))) is ∙ one_set (pairs_view done) before (string_bytes e.0) (view e.1)
    ∙ ap (λ ps. merged (map_of ps) before) last

-- what one more value covers
pub one_covered : (now new : Map Datum) (cs ds : List (String Global × Option Value)) (kept : String Global) (o : Option Value) (name : Text) (d : Datum)
    → string_bytes kept ≡ name → option_map view o ≡ now name → new ≡ with_value now name (Some d) → ds ≡ cs ++ (kept, o) ∷ [] → uncovered (covered_view ds) new ≡ uncovered (covered_view cs) now
one_covered now new cs ds kept o name d same was set all =
    ap (λ l. uncovered (covered_view l) new) all
    ∙ ap (λ l. uncovered l new) (map-append (λ c. (string_bytes c.0, option_map view c.1)) cs ((kept, o) ∷ []))
    ∙ uncovered_last (covered_view cs) (string_bytes kept) (option_map view o) new
    ∙ ap (uncovered (covered_view cs)) (put_and_back now new (string_bytes kept) name (option_map view o) d same was set)

pub one_there : (now new : Map Datum) (cs ds : List (String Global × Option Value)) (kept : String Global) (o : Option Value) (name : Text) (d : Datum)
    → string_bytes kept ≡ name → option_map view o ≡ now name → new ≡ with_value now name (Some d) → ds ≡ cs ++ (kept, o) ∷ [] → AreThere (covered_view cs) now → AreThere (covered_view ds) new
one_there now new cs ds kept o name d same was set all t =
    subst (λ l. AreThere (covered_view l) new) (sym all)
    (subst (λ l. AreThere l new) (sym (map-append (λ c. (string_bytes c.0, option_map view c.1)) cs ((kept, o) ∷ [])))
    (there_more (covered_view cs) (string_bytes kept) (option_map view o) new (stands_there now new (string_bytes kept) name d same set)
    (subst (AreThere (covered_view cs)) (sym (put_and_back now new (string_bytes kept) name (option_map view o) d same was set)) t)))

-- nothing was covered, and the data stayed
pub same_there : (now new : Map Datum) (cs ds : List (String Global × Option Value)) → ds ≡ cs → new ≡ now → AreThere (covered_view cs) now → AreThere (covered_view ds) new
same_there now new cs ds all stays t = subst (λ l. AreThere (covered_view l) new) (sym all) (subst (AreThere (covered_view cs)) (sym stays) t)

pub same_back : (now new : Map Datum) (cs ds : List (String Global × Option Value)) → ds ≡ cs → new ≡ now → uncovered (covered_view ds) new ≡ uncovered (covered_view cs) now
same_back now new cs ds all stays = λ i. uncovered (covered_view (all i)) (stays i)

-- the last of what was covered stands in its place again
pub one_back : (all : Map Datum) (now new : Map Datum) (cs left : List (String Global × Option Value)) (name : String Global) (o : Option Value)
    → cs ≡ left ++ (name, o) ∷ [] → uncovered (covered_view cs) now ≡ all → new ≡ with_value now (string_bytes name) (option_map view o)
    → uncovered (covered_view left) new ≡ all
one_back all now new cs left name o whole is put =
    ap (uncovered (covered_view left)) put
    ∙ sym (uncovered_last (covered_view left) (string_bytes name) (option_map view o) now)
    ∙ sym (ap (λ l. uncovered l now) (map-append (λ c. (string_bytes c.0, option_map view c.1)) left ((name, o) ∷ [])))
    ∙ sym (ap (λ l. uncovered (covered_view l) now) whole)
    ∙ is

last_there : (now : Map Datum) (cs left : List (String Global × Option Value)) (name : String Global) (o : Option Value)
    → cs ≡ left ++ (name, o) ∷ [] → AreThere (covered_view cs) now → IsSome (now (string_bytes name)) × AreThere (covered_view left) (with_value now (string_bytes name) (option_map view o))
last_there now cs left name o whole t =
    there_last (covered_view left) (string_bytes name) (option_map view o) now
    (subst (λ l. AreThere l now) (map-append (λ c. (string_bytes c.0, option_map view c.1)) left ((name, o) ∷ []))
    (subst (λ l. AreThere (covered_view l) now) whole t))

-- something stands where the last of them is to stand
pub last_stands : (now : Map Datum) (cs left : List (String Global × Option Value)) (name : String Global) (o : Option Value)
    → cs ≡ left ++ (name, o) ∷ [] → AreThere (covered_view cs) now → IsSome (now (string_bytes name))
last_stands now cs left name o whole t = (last_there now cs left name o whole t).0

pub left_there : (now new : Map Datum) (cs left : List (String Global × Option Value)) (name : String Global) (o : Option Value)
    → cs ≡ left ++ (name, o) ∷ [] → AreThere (covered_view cs) now → new ≡ with_value now (string_bytes name) (option_map view o) → AreThere (covered_view left) new
left_there now new cs left name o whole t put = subst (AreThere (covered_view left)) (sym put) (last_there now cs left name o whole t).1
