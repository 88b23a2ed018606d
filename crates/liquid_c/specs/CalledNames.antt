-- The names of partials that stand in a template, as a text of JSON.
use Rattle.std.specs.Prelude.{◌≡◌, Option, Some, None, Result, Ok, Err, map, String, codes}
use Rattle.std.specs.Prelude.{string_bytes}
use Rattle.std.specs.BTreeSet.{BTreeSet, keys}
use Rattle.std.specs.declared.alloc.Global.{Global}
use Rattle.liquid_model.specs.Data.{array, text}
use Rattle.liquid_model.specs.Texts.{Text}
use Rattle.liquid_model.specs.View.{items_of}
use Rattle.liquid_model.specs.declared.error.ErrorKind.TheVariants.{Memory}
use Rattle.liquid_json.specs.JsonTexts.{json_text}
use Rattle.liquid_evaluation.specs.PartialCalls.{nodes_calls}
use Rattle.liquid_evaluation.specs.Tree.{Nodes}
use Rattle.liquid_syntax.specs.Called.{AreCalled}
use Rattle.liquid_syntax.specs.Templates.{tree_of}
use Rattle.liquid_c.specs.declared.content.Content.{Content}
use Rattle.liquid_c.specs.declared.content.Content.TheVariants as content
use Rattle.liquid_c.specs.declared.refusal.Refusal.{Refusal}
use Rattle.liquid_c.specs.declared.refusal.Refusal.TheVariants.{OtherHandle}

-- a list of names in their order, or `null` where there is none
abbrev pub calls_json : Option (BTreeSet (String Global)) → Text
calls_json None = codes "null"
calls_json (Some names) =
    json_text (array (items_of (map (λ n. text (string_bytes n)) (keys names))))

-- the text is of the names that the template itself can look up, and of no others
pub record IsCallsText (nodes : Nodes) (it : Text) : Type 0 where
  pub names : Option (BTreeSet (String Global))
  pub exact : AreCalled (nodes_calls nodes) names
  pub text : it ≡ calls_json names

-- such a text, or memory ran out
abbrev pub TellsCalls : Nodes → Result Content Refusal → Type 0
TellsCalls nodes (Ok (content.Names it)) = IsCallsText nodes (string_bytes it)
TellsCalls nodes (Ok (content.Fault e)) = e.kind ≡ Memory
TellsCalls nodes _ = ⊥

abbrev pub IsMadeOfCalls : Option Content → Result Content Refusal → Type 0
IsMadeOfCalls (Some (content.Template t levels)) answer = TellsCalls (tree_of t) answer
IsMadeOfCalls _ answer = answer ≡ Err OtherHandle
