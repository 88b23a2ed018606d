-- Sets of names, and what the visitors do that look for names or gather all names.
use Rattle.std.specs.Prelude.{◌≡◌, Bool, ◌||◌, List, String}
use Rattle.std.specs.Bool.{OnFalse}
use Rattle.std.specs.BTreeSet.{BTreeSet, contains_text}
use Rattle.std.specs.List.{list_any}
use Rattle.std.specs.declared.alloc.Global.{Global}
use Rattle.liquid_core.specs.Environment.{Names}
use Rattle.liquid_model.specs.Texts.{Text}
use Rattle.liquid_evaluation.specs.Names.{mentioned}

-- whether a set has a name
unfoldable pub mentioned_in_set : BTreeSet (String Global) → Names
mentioned_in_set names name = contains_text names name

-- the names before, and these besides
unfoldable pub added : List Text → Names → Names
added names before name = before name || mentioned names name

-- the visitor stays the same, and ends the visit where one of its wanted names is among those
-- that it gets
abbrev pub Looks : {V : Type 0} → (V → Names) → V → List Text → Bool → V → Type 0
Looks wanted u names found v = (v ≡ u) × (found ≡ list_any (wanted u) names)

-- unless it ended the visit, the visitor has the names that it had, and those that it got
-- besides
abbrev pub Gathers : {V : Type 0} → (V → Names) → V → List Text → Bool → V → Type 0
Gathers has u names refused v = OnFalse refused (has v ≡ added names (has u))
