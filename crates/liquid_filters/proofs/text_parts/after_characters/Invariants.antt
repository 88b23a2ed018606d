use Rattle.std.proofs.Common.{◌≡◌, ◌-◌, drop}
use Rattle.std.specs.Str.{chars, IsUtf8}
use Rattle.liquid_filters.proofs.text_parts.after_characters.Given as goal

abbrev pub invariant-loop-i : goal.invariant-loop-i
invariant-loop-i l = IsUtf8 l.rest.rest.now × (drop l.count (chars l.text) ≡ drop (l.count - l._i) (chars l.rest.rest.now))
