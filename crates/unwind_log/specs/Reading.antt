-- What the blocks that a seat reads were made with, which no call changes.
use base.Fml.{GName}
use Rattle.unwind_log.specs.declared.blocks.SeatBlocks.{SeatBlocks}
use Rattle.unwind_log.specs.declared.cells.Unwinding.{Unwinding}

-- the unwinding, and which seat is lent
abbrev pub reader_of : SeatBlocks → Unwinding × GName
reader_of b = (b.unwinding.now, b.seat.ghost_name)
