use Rattle.std.proofs.Common.{◌≡◌, Some, None, map, string_bytes, sym, ◌∙◌}
use Rattle.liquid_site_build.specs.SiteFiles.{is_hidden_by}
use Rattle.liquid_yaml.proofs.Turns.{less_left}
use Rattle.liquid_site_sources.proofs.Texts.{any_found, any_none, any_turn}
use Rattle.liquid_site_sources.proofs.folders.is_hidden.Goals as goal

pub loop-left-preserved : goal.loop-left-preserved
loop-left-preserved c =
    let e : c.loop-left.left ≡ Some c.in-Some.text = (let h = c.in-Some.is in cc) in
    any_turn (is_hidden_by (map string_bytes c.args.included.now)) c.loop-left.left c.in-Some.text c.first_name.result _ e c.first_name.ensures (sym c.is_hidden_by.ensures ∙ c.if-is_hidden_by.false) c.loop-left.invariant

pub loop-left-smaller : goal.loop-left-smaller
loop-left-smaller c =
    let e : c.loop-left.left ≡ Some c.in-Some.text = (let h = c.in-Some.is in cc) in
    less_left 47 c.loop-left.left c.in-Some.text c.first_name.result e c.first_name.ensures

pub returns-then-is_hidden_by : goal.returns-then-is_hidden_by
returns-then-is_hidden_by c =
    let e : c.loop-left.left ≡ Some c.in-Some.text = (let h = c.in-Some.is in cc) in
    any_found (is_hidden_by (map string_bytes c.args.included.now)) c.loop-left.left c.in-Some.text c.first_name.result _ e c.first_name.ensures (sym c.is_hidden_by.ensures ∙ c.if-is_hidden_by.true) c.loop-left.invariant

pub returns : goal.returns
returns c =
    let none : c.loop-left.left ≡ None = (let h = c.in_default.is in cc) in
    any_none (is_hidden_by (map string_bytes c.args.included.now)) c.loop-left.left _ none c.loop-left.invariant
