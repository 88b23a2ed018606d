-- Lines of a text.
--     is_line_open text      whether its last line has no end
use Rattle.std.specs.Prelude.{Bool, not, ◌&&◌, ◌-◌, ◌==◌, length, nat_lt, slice_index}
use Rattle.liquid_model.specs.Texts.{Text}

-- it has a last byte, which is no line end
abbrev pub is_line_open : Text → Bool
is_line_open s = nat_lt 0 (length s) && not (slice_index s (length s - 1) == 0x0A)
