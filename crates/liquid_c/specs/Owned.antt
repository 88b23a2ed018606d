-- What a handle owns.
use Rattle.std.specs.Prelude.{Bool, true, false, Option, Some, None}
use base.Fml.{Fml, ftrue, ffalse}
use Rattle.std.specs.Box.Ownership.{box_owns}
use Rattle.std.specs.declared.alloc.Global.{Global}
use Rattle.std.specs.contracts.impls.GlobalAllocator.TheImpl.{ghosts}
use Rattle.liquid_c.specs.declared.handle_content.HandleContent.{HandleContent}
use Rattle.liquid_c.specs.contracts.handle_content.HandleContent.{the_row}
use denote.RawPtr.{Ptr}
use Rattle.std.specs.Coded.{Coded}

-- by which a proof tells what is held apart
abbrev pub held_code : Coded HandleContent
held_code = the_row.coded

-- the block that the pointer leads to, where something is there; and nothing where nothing is
abbrev pub owned : Global → Bool → Ptr → Option HandleContent → Fml
owned alloc true p (Some x) = box_owns (ghosts.dealloc_token alloc) the_row p x
owned alloc false p None = ftrue
owned alloc true p None = ffalse
owned alloc false p (Some x) = ffalse
