use Rattle.std.specs.Io.Buffered.{reader_remaining}
use Rattle.liquid_data.proofs.WholeObjects.{IsWithin}
use Rattle.liquid_data.proofs.list_objects.read_object.Given as goal

-- the braces of the object are open after what was read so far
abbrev pub invariant-loop : goal.invariant-loop
invariant-loop g l = IsWithin (reader_remaining g.R.Read.remaining l.initial.reader) (reader_remaining g.R.Read.remaining l.reader) l.object.items l.braces
