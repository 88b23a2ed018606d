use Rattle.std.proofs.Common.{◌≡◌, [], ◌∷◌, true, false, string_bytes, sym, ap, ◌∙◌}
use Rattle.std.specs.Map.{keys_of}
use Rattle.liquid_core.specs.Held.{held}
use Rattle.liquid_syntax.specs.NameSets.{added, mentioned_in_set as held_names}
use Rattle.liquid_site.specs.Steps.{differs}
use Rattle.liquid_site.specs.inside.Differing.{name_texts, differing}
use Rattle.liquid_site.proofs.Differences.{one_added, one_passed, none_added}
use Rattle.liquid_site.proofs.differing.add_differing.Goals as goal

pub loop-name-preserved-in-Continue-1 : goal.loop-name-preserved-in-Continue-1
loop-name-preserved-in-Continue-1 c =
    let test = differs (held c.args.«data».old.now) (held c.args.«data».new.now) in
    let name = string_bytes c.in-Some.name.now in
    let before = held_names c.loop-name.names in
    let hit : test name ≡ true = sym (ap test c.as_str.ensures.value) ∙ sym c.differ.ensures ∙ c.if-differ.true in
    one_added test name (name_texts (keys_of c.next.new.self)) before (held_names c.add_name.new.names) _ hit
    (c.in_ok-add_name.ensures ∙ ap (λ n. added (n ∷ []) before) c.as_str-then-differ.ensures.value)
    (ap (λ es. added (differing (held c.args.«data».old.now) (held c.args.«data».new.now) (keys_of es)) before) (sym c.in-Some.ensures.steps) ∙ c.loop-name.invariant)

pub loop-name-preserved : goal.loop-name-preserved
loop-name-preserved c =
    let test = differs (held c.args.«data».old.now) (held c.args.«data».new.now) in
    let name = string_bytes c.in-Some.name.now in
    let before = held_names c.loop-name.names in
    let miss : test name ≡ false = sym (ap test c.as_str.ensures.value) ∙ sym c.differ.ensures ∙ c.if-differ.false in
    one_passed test name (name_texts (keys_of c.next.new.self)) before _ miss
    (ap (λ es. added (differing (held c.args.«data».old.now) (held c.args.«data».new.now) (keys_of es)) before) (sym c.in-Some.ensures.steps) ∙ c.loop-name.invariant)

pub returns : goal.returns
returns c =
    let left = held_names c.loop-name.names in
    none_added left ∙ ap (λ es. added (differing (held c.args.«data».old.now) (held c.args.«data».new.now) (keys_of es)) left) (sym c.in-None.ensures.steps.0) ∙ c.loop-name.invariant
