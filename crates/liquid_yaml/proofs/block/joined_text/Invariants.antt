use Rattle.std.proofs.Common.{◌≡◌, None, option_map, map, drop, string_bytes, ◌++◌}
use Rattle.liquid_yaml.specs.Blocks.{joined_text}
use Rattle.liquid_yaml.proofs.block.joined_text.Given as goal

-- what is done, before the lines that are left, makes the whole
abbrev pub invariant-loop-line : goal.invariant-loop-line
invariant-loop-line l =
    string_bytes l.text ++ joined_text l.folds (option_map (λ b. b.now) l.before) (map (λ b. b.now) (drop l.line-index l.lines))
    ≡ joined_text l.folds None (map (λ b. b.now) l.lines)
