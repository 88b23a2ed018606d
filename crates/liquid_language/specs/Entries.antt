-- Maps from names as lists of entries, in the order of the names.
use Rattle.std.specs.Prelude.{List, [], ◌∷◌, map, String, string_bytes}
use Rattle.std.specs.Cmp.Lexicographic.{slice_cmp}
use Rattle.std.specs.Map.{set_value, remove_entry}
use Rattle.std.specs.Ordering.{match_ordering, nat_cmp}
use Rattle.std.specs.declared.alloc.Global.{Global}
use Rattle.liquid_model.specs.Texts.{Text, same_text}

-- each entry of the code's map, its value seen by f
abbrev pub seen : {X Y : Type 0} → (X → Y) → List (String Global × X) → List (Text × Y)
seen f es = map (λ e. (string_bytes e.0, f e.1)) es

-- the entries with y at a name; what stood there before is gone
abbrev pub put_entry : {Y : Type 0} → Text → Y → List (Text × Y) → List (Text × Y)
put_entry name y [] = (name, y) ∷ []
put_entry name y (e ∷ es) = match_ordering (slice_cmp nat_cmp name e.0) ((name, y) ∷ e ∷ es)
    ((e.0, y) ∷ es) (e ∷ put_entry name y es)

-- the entries with y at a name that is there
abbrev pub placed : {Y : Type 0} → Text → Y → List (Text × Y) → List (Text × Y)
placed name y es = set_value (λ k. same_text k name) es y

-- the entries without the one of a name
abbrev pub without : {Y : Type 0} → Text → List (Text × Y) → List (Text × Y)
without name es = remove_entry (λ k. same_text k name) es
