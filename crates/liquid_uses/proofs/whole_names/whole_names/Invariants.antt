use Rattle.std.proofs.Common.{◌≡◌}
use Rattle.liquid_model.specs.Texts.{Text}
use Rattle.liquid_uses.proofs.WholeNames.{with_left}
use Rattle.liquid_uses.proofs.whole_names.whole_names.Given as goal

-- the names that are left and those that were put are all names
abbrev pub invariant-loop-name : goal.invariant-loop-name
invariant-loop-name l = (q : Text) → with_left q l.name-iterator l.uses.entries ≡ with_left q l.initial.name-iterator l.initial.uses.entries
