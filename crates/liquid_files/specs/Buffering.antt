-- A writer after a buffer.
use Rattle.std.specs.Prelude.{ℕ, List, ◌++◌, Option, option_map}
use Rattle.liquid_files.specs.declared.buffered.Buffered.{Buffered}

-- what the writer holds, and what is held back from it
abbrev pub buffered_contents : {W : Type 0} → (W → Option (List ℕ)) → Buffered W → Option (List ℕ)
buffered_contents contents b = option_map (λ bytes. bytes ++ b.held.items) (contents b.writer)
