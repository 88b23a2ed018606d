use denote.Text.{Utf8}
use denote.Shadow.{shadow}
use Rattle.liquid_filters.proofs.Words.{PastWords}
use Rattle.liquid_filters.proofs.stdlib.filters.string.truncate.first_words.Given as goal

abbrev pub invariant-loop-i : goal.invariant-loop-i
invariant-loop-i l = shadow (Utf8 l.rest) × PastWords l.text l.rest l.end l._i
