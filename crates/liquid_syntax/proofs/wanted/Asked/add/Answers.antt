use Rattle.std.proofs.Common.{◌≡◌, true, false, sym, ◌∙◌}
use Rattle.liquid_syntax.specs.NameSets.{mentioned_in_set}
use Rattle.liquid_syntax.proofs.SetNames.{name_put}
use Rattle.liquid_syntax.proofs.Wanting.{given, held, stays}
use Rattle.liquid_model.proofs.Maps.{same_key}
use Rattle.liquid_syntax.proofs.wanted.Asked.add.Goals as goal

pub returns-then-contains-clause-known : goal.returns-then-contains-clause-known
unfolding mentioned_in_set
returns-then-contains-clause-known c = sym c.contains.ensures ∙ c.if-contains.true

pub returns-then-contains-clause-waits : goal.returns-then-contains-clause-waits
unfolding mentioned_in_set
returns-then-contains-clause-waits c h = absurd (clash (sym (sym c.contains.ensures ∙ c.if-contains.true) ∙ h))
  where
    clash : true ≡ false → ⊥
    clash e = cc

pub returns-clause-keeps : goal.returns-clause-keeps
returns-clause-keeps c =
    let is = name_put c.args.name.now c.in_ok-from_str-2.field-0 c.args.self.now.known c.insert.new.self c.in_ok-insert.ensures.updates c.in_ok-from_str-2.ensures.ok in
    stays c.args.self.now.known c.insert.new.self c.args.name.now is

pub returns-clause-known : goal.returns-clause-known
returns-clause-known c =
    let is = name_put c.args.name.now c.in_ok-from_str-2.field-0 c.args.self.now.known c.insert.new.self c.in_ok-insert.ensures.updates c.in_ok-from_str-2.ensures.ok in
    given c.args.self.now.known c.insert.new.self c.args.name.now is (held _ (same_key c.args.name.now))
