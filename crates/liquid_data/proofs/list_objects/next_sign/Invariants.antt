use Rattle.std.proofs.Common.{◌≡◌, length}
use Rattle.std.specs.Io.Buffered.{reader_remaining}
use Rattle.liquid_data.proofs.ListSigns.{IsPastSpace}
use Rattle.liquid_data.proofs.list_objects.next_sign.Given as goal

-- what was read so far is white space
abbrev pub invariant-loop : goal.invariant-loop
invariant-loop g l = record {
  past : IsPastSpace (reader_remaining g.R.Read.remaining l.initial.reader) (reader_remaining g.R.Read.remaining l.reader);
  one : length l.byte ≡ 1;
}
