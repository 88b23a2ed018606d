-- The names that a template mentions, as a text of JSON.
use Rattle.std.specs.Prelude.{◌≡◌, List, Option, Some, None, Result, Ok, Err, map, String}
use Rattle.std.specs.Prelude.{string_bytes}
use Rattle.std.specs.BTreeSet.{BTreeSet, keys}
use Rattle.std.specs.declared.alloc.Global.{Global}
use Rattle.liquid_model.specs.Data.{array, text}
use Rattle.liquid_model.specs.Texts.{Text}
use Rattle.liquid_model.specs.View.{items_of}
use Rattle.liquid_model.specs.declared.error.ErrorKind.TheVariants.{Memory}
use Rattle.liquid_json.specs.JsonTexts.{json_text}
use Rattle.liquid_evaluation.specs.Names.{mentioned, run_names}
use Rattle.liquid_evaluation.specs.Tree.{Nodes}
use Rattle.liquid_syntax.specs.NameSets.{mentioned_in_set as held_names}
use Rattle.liquid_syntax.specs.Templates.{tree_of}
use Rattle.liquid_c.specs.Calls.{partials_of_handle}
use Rattle.liquid_c.specs.declared.content.Content.{Content}
use Rattle.liquid_c.specs.declared.content.Content.TheVariants as content
use Rattle.liquid_c.specs.declared.refusal.Refusal.{Refusal}
use Rattle.liquid_c.specs.declared.refusal.Refusal.TheVariants.{OtherHandle}

-- the text is a list of the names of a set, in their order, which has these and no others
pub record AreNames (partials : List (Text × Nodes)) (nodes : Nodes) (it : Text) : Type 0 where
  pub names : BTreeSet (String Global)
  pub exact : held_names names ≡ mentioned (run_names partials nodes)
  pub text : it ≡ json_text (array (items_of (map (λ n. text (string_bytes n)) (keys names))))

-- these names, or memory ran out
abbrev pub TellsNames : List (Text × Nodes) → Nodes → Result Content Refusal → Type 0
TellsNames partials nodes (Ok (content.Names it)) = AreNames partials nodes (string_bytes it)
TellsNames partials nodes (Ok (content.Fault e)) = e.kind ≡ Memory
TellsNames partials nodes _ = ⊥

abbrev pub OfPartials : Option (List (Text × Nodes)) → Nodes → Result Content Refusal → Type 0
OfPartials (Some partials) nodes answer = TellsNames partials nodes answer
OfPartials None nodes answer = answer ≡ Err OtherHandle

abbrev pub IsNames : Option Content → Option Content → Result Content Refusal → Type 0
IsNames (Some (content.Template t levels)) partials answer =
    OfPartials (partials_of_handle partials) (tree_of t) answer
IsNames _ partials answer = answer ≡ Err OtherHandle
