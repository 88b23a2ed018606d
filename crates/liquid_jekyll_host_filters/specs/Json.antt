-- Values as JSON.
use Rattle.std.specs.Prelude.{List, Ok}
use Rattle.liquid_model.specs.Data.{Datum, text}
use Rattle.liquid_model.specs.Arguments.{Answer}
use Rattle.liquid_json.specs.ScriptTexts.{script_json}

-- `jsonify`
abbrev pub jsonify_answer : Datum → List Datum → Answer
jsonify_answer d args = Ok (text (script_json d))
