-- The partials that a template leads to, while they are read.
--     asked_for w      the names that are asked for: all, where a place looks up a name that only
--                      its run knows
use Rattle.std.specs.Prelude.{◌≡◌, Bool, true, ◌||◌, ◌&&◌, T, List, map, string_bytes, String}
use Rattle.std.specs.Prelude.{codes, ◌++◌, is_some}
use Rattle.std.specs.List.{list_all}
use Rattle.std.specs.declared.alloc.Global.{Global}
use Rattle.liquid_core.specs.Environment.{Names}
use Rattle.liquid_model.specs.Maps.{listed}
use Rattle.liquid_model.specs.Texts.{Text}
use Rattle.liquid_evaluation.specs.Names.{mentioned}
use Rattle.liquid_evaluation.specs.PartialCalls.{PartialCall, of_any_name, of_name}
use Rattle.liquid_evaluation.specs.PartialCalls.{of_name_or_liquid, nodes_calls}
use Rattle.liquid_evaluation.specs.Tree.{Nodes}
use Rattle.liquid_syntax.specs.NameSets.{mentioned_in_set}
use Rattle.liquid_syntax.specs.declared.wanted.Asked.{Asked}
use Rattle.liquid_syntax.specs.declared.wanted.Wanted.{Wanted}

-- the names that some partial has
abbrev pub had : List (Text × Nodes) → Names
had partials name = is_some (listed partials name)

abbrev pub known_in : Asked → Names
known_in a name = mentioned_in_set a.known name

-- of a name: a partial has it, or it is asked for with `.liquid`
abbrev pub found_or_asked : Asked → Names → Names
found_or_asked a found name = found name || known_in a (name ++ codes ".liquid")

abbrev pub AllFoundOrAsked : Asked → Names → List (String Global) → Type 0
AllFoundOrAsked a found names = list_all (λ k. found_or_asked a found (string_bytes k)) names ≡ true

abbrev pub asked_for : Wanted → Names
asked_for w name = w.any || known_in w.asked name

-- names of which each waits to be asked for with `.liquid`
abbrev pub waits_in : Wanted → Names
waits_in w name = mentioned (map string_bytes w.fallbacks.items) name

-- whether what a place can look up is asked for, or waits to be
abbrev pub is_settled : Wanted → Names → PartialCall → Bool
is_settled w found of_any_name = w.any
is_settled w found (of_name n) = known_in w.asked n
is_settled w found (of_name_or_liquid n) =
    known_in w.asked n && (waits_in w n || found_or_asked w.asked found n)

abbrev pub are_settled : Wanted → Names → List PartialCall → Bool
are_settled w found calls = list_all (is_settled w found) calls

-- of each partial
abbrev pub partials_settled : Wanted → Names → List (Text × Nodes) → Bool
partials_settled w found partials = list_all (λ p. are_settled w found (nodes_calls p.1)) partials

-- whatever was asked for still is
abbrev pub StaysAsked : Asked → Asked → Type 0
StaysAsked a b = (name : Text) → T (known_in a name) → T (known_in b name)

-- whatever was settled still is
pub record Widens (w : Wanted) (v : Wanted) : Type 0 where
  pub any : T w.any → T v.any
  pub known : StaysAsked w.asked v.asked
  pub waiting : (name : Text) → T (waits_in w name) → T (waits_in v name)

-- the same, where more partials may be there
pub record Spreads (w : Wanted) (found : Names) (v : Wanted) (more : Names) : Type 0 where
  pub any : T w.any → T v.any
  pub known : StaysAsked w.asked v.asked
  pub waiting : (name : Text) → T (waits_in w name)
      → T (waits_in v name || found_or_asked v.asked more name)
  pub had : (name : Text) → T (found name) → T (more name)
