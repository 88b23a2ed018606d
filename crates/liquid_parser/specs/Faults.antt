-- What a fault of a piece says: where it stands, and of which kind it is. Want of memory is no
-- fault of a piece.
use Rattle.std.specs.Prelude.{◌≡◌, ℕ, Result, Ok, Err}
use Rattle.liquid_model.specs.Texts.{Text}
use Rattle.liquid_language.specs.HostTags.{end_in}
use Rattle.liquid_language.specs.declared.registry.Language.{Language}
use Rattle.liquid_lexer.specs.Readers.{end_of}
use Rattle.liquid_lexer.specs.declared.expectation.Expectation.{Expectation}
use Rattle.liquid_lexer.specs.declared.expectation.Expectation.TheVariants.{HostEnd}
use Rattle.liquid_lexer.specs.declared.fault.FaultKind.{FaultKind}
use Rattle.liquid_lexer.specs.declared.fault.ParseError.{ParseError}
use Rattle.liquid_lexer.specs.declared.fault.ParseError.TheVariants as errors

-- a fault stands at the place `remaining` bytes before the end of the source
abbrev pub FaultsAt : {X : Type 0} → ℕ → Result X ParseError → Type 0
FaultsAt remaining (Ok x) = Unit {0}
FaultsAt remaining (Err errors.Memory) = Unit {0}
FaultsAt remaining (Err (errors.Fault f)) = f.remaining ≡ remaining

-- a fault is of this kind, and of no other
abbrev pub FaultsAs : {X : Type 0} → FaultKind → Result X ParseError → Type 0
FaultsAs kind (Ok x) = Unit {0}
FaultsAs kind (Err errors.Memory) = Unit {0}
FaultsAs kind (Err (errors.Fault f)) = f.kind ≡ kind

-- the name of the tag that is wanted as the end of a block, where one is
abbrev pub wanted_end : Language → Expectation → Text
wanted_end l (HostEnd n) = end_in l.host_tags n
wanted_end l e = end_of e
