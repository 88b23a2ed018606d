use Rattle.std.proofs.Common.{◌∙◌, sym}
use Rattle.liquid_model.specs.View.{view}
use Rattle.liquid_json.specs.JsonTexts.{json_text}
use Rattle.liquid_json.proofs.ScriptMarks.{made_without, marks_are_none, stays}
use Rattle.liquid_json.proofs.script_text.json_for_scripts.Goals as goal

pub returns-then-is_none-clause-text : goal.returns-then-is_none-clause-text
returns-then-is_none-clause-text c =
    sym c.as_str.ensures.value ∙ stays c.split_at_mark.result c.is_none.result c.as_str.result.now _ c.is_none.ensures c.if-is_none.true c.split_at_mark.ensures.none (c.as_str.ensures.value ∙ c.in_ok-text.ensures)

pub returns-then-is_none-clause-marks : goal.returns-then-is_none-clause-marks
returns-then-is_none-clause-marks c =
    marks_are_none _ (json_text (view c.args.value.now)) (sym c.as_str.ensures.value ∙ stays c.split_at_mark.result c.is_none.result c.as_str.result.now _ c.is_none.ensures c.if-is_none.true c.split_at_mark.ensures.none (c.as_str.ensures.value ∙ c.in_ok-text.ensures))

pub returns-clause-marks : goal.returns-clause-marks
returns-clause-marks c = made_without c.escaped.result c.as_str-2.result.now c.escaped.ensures
