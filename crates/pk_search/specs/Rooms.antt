-- How much memory is kept from one find to the next.
use Rattle.std.specs.Prelude.{◌≤◌, vec_capacity}
use Rattle.pk_search.specs.declared.planned.Room.{Room}
use Rattle.pk_search.specs.declared.planned.TheConstants.{MOST_KEPT}

-- each buffer of a room has place for so many numbers at most
pub record IsSmall (room : Room) : Type 0 where
  pub hits : vec_capacity room.buffers.hits ≤ MOST_KEPT
  pub spare : vec_capacity room.buffers.spare ≤ MOST_KEPT
  pub list : vec_capacity room.list ≤ MOST_KEPT
