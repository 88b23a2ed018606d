use Rattle.std.proofs.Common.{◌≡◌, false}
use Rattle.liquid_folder.proofs.rounds.Rounds.one_round.Given as goal

-- no file was named since the round began, and whether each name was read stays as it was
abbrev pub invariant-loop-refusal : goal.invariant-loop-refusal
invariant-loop-refusal l = (l.self.is_named ≡ false) × (l.self.is_whole ≡ l.fn.self.is_whole)
