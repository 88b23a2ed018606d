-- What a template asks of its data.
use Rattle.std.specs.Prelude.{◌≡◌, List, Option, Some, None, Result, Ok, Err, String, map}
use Rattle.std.specs.Prelude.{string_bytes}
use Rattle.std.specs.Arc.{arc_value}
use Rattle.std.specs.BTreeSet.{BTreeSet, keys}
use Rattle.std.specs.declared.alloc.Global.{Global}
use Rattle.liquid_model.specs.Data.{array, text}
use Rattle.liquid_model.specs.Texts.{Text}
use Rattle.liquid_model.specs.UseViews.{members_view}
use Rattle.liquid_model.specs.View.{items_of}
use Rattle.liquid_model.specs.declared.error.ErrorKind.TheVariants.{Memory}
use Rattle.liquid_evaluation.specs.Names.{mentioned}
use Rattle.liquid_evaluation.specs.Tree.{Nodes}
use Rattle.liquid_json.specs.JsonTexts.{json_text}
use Rattle.liquid_syntax.specs.NameSets.{mentioned_in_set as held_names}
use Rattle.liquid_syntax.specs.Templates.{tree_of}
use Rattle.liquid_uses.specs.Paths.{paths_in}
use Rattle.liquid_c.specs.Calls.{partials_of_handle}
use Rattle.liquid_c.specs.Served.{Covers, UsesByName}
use Rattle.liquid_c.specs.declared.content.Content.{Content}
use Rattle.liquid_c.specs.declared.content.Content.TheVariants as content
use Rattle.liquid_c.specs.declared.refusal.Refusal.{Refusal}
use Rattle.liquid_c.specs.declared.refusal.Refusal.TheVariants.{OtherHandle}

-- the text is a list of the paths of the uses, in their order, and of no others
pub record ArePaths (uses : UsesByName) (it : Text) : Type 0 where
  pub paths : BTreeSet (String Global)
  pub exact : held_names paths ≡ mentioned (paths_in (members_view uses.entries))
  pub text : it ≡ json_text (array (items_of (map (λ p. text (string_bytes p)) (keys paths))))

-- such uses, with their paths;  or memory ran out
abbrev pub TellsPaths : List (Text × Nodes) → Nodes → Result Content Refusal → Type 0
TellsPaths partials nodes (Ok (content.Paths uses it)) =
    Covers partials nodes (arc_value uses) × ArePaths (arc_value uses) (string_bytes it)
TellsPaths partials nodes (Ok (content.Fault e)) = e.kind ≡ Memory
TellsPaths partials nodes _ = ⊥

abbrev pub PathsOver : Option (List (Text × Nodes)) → Nodes → Result Content Refusal → Type 0
PathsOver (Some partials) nodes answer = TellsPaths partials nodes answer
PathsOver None nodes answer = answer ≡ Err OtherHandle

abbrev pub IsAsking : Option Content → Option Content → Result Content Refusal → Type 0
IsAsking (Some (content.Template t levels)) partials answer =
    PathsOver (partials_of_handle partials) (tree_of t) answer
IsAsking _ partials answer = answer ≡ Err OtherHandle
