use Rattle.std.proofs.Common.{length, ◌+◌, ◌≡◌, ◌≤◌, ℕ}
use denote.Shadow.{shadow}
use denote.Text.{Utf8}
use Rattle.liquid_lexer.specs.SourceReading.{comment_at}
use Rattle.liquid_lexer.proofs.mark.read_comment.Given as goal

abbrev pub invariant-marks : goal.invariant-marks
invariant-marks l =
    (n : ℕ) × (length l.rest ≤ n) × (l.inner + length l.rest ≤ length l.initial.rest)
    × (comment_at (length l.initial.rest) 0 l.initial.rest ≡ comment_at n l.inner l.rest) × shadow (Utf8 l.rest)

abbrev pub decreases-marks : goal.decreases-marks
decreases-marks l = length l.rest
