-- The names of partials that stand in a template.
--     names_called calls      the test for a name that stands there, or stands there without its
--                             `.liquid`
--     AreCalled calls names      these names, or none where a place looks up a name that only its
--                                run knows
use Rattle.std.specs.Prelude.{◌≡◌, Bool, true, false, ◌||◌, ◌++◌, List, Option, Some, None, String}
use Rattle.std.specs.Prelude.{codes}
use Rattle.std.specs.List.{list_any}
use Rattle.std.specs.BTreeSet.{BTreeSet}
use Rattle.std.specs.declared.alloc.Global.{Global}
use Rattle.liquid_core.specs.Environment.{Names}
use Rattle.liquid_model.specs.Texts.{Text, same_text}
use Rattle.liquid_evaluation.specs.PartialCalls.{PartialCall, of_any_name, of_name}
use Rattle.liquid_evaluation.specs.PartialCalls.{of_name_or_liquid}
use Rattle.liquid_syntax.specs.NameSets.{mentioned_in_set}
use Rattle.liquid_syntax.specs.declared.called.Called.{Called}

abbrev pub is_of_any_name : PartialCall → Bool
is_of_any_name of_any_name = true
is_of_any_name (of_name n) = false
is_of_any_name (of_name_or_liquid n) = false

abbrev pub may_look_up : Text → PartialCall → Bool
may_look_up name of_any_name = false
may_look_up name (of_name n) = same_text name n
may_look_up name (of_name_or_liquid n) = same_text name n || same_text name (n ++ codes ".liquid")

abbrev pub has_any_name : List PartialCall → Bool
has_any_name calls = list_any is_of_any_name calls

abbrev pub names_called : List PartialCall → Names
names_called calls name = list_any (may_look_up name) calls

abbrev pub AreCalled : List PartialCall → Option (BTreeSet (String Global)) → Type 0
AreCalled calls None = has_any_name calls ≡ true
AreCalled calls (Some names) =
    (has_any_name calls ≡ false) × (mentioned_in_set names ≡ names_called calls)

-- what was gathered, and these calls besides
pub record Gathered (a : Called) (calls : List PartialCall) (b : Called) : Type 0 where
  pub any : b.any ≡ (a.any || has_any_name calls)
  pub names : (name : Text) → mentioned_in_set b.names name ≡
      (mentioned_in_set a.names name || names_called calls name)
