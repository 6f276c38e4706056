-- What a seat takes room for, as a heap at rest is opened.
use Rattle.std.specs.Prelude.{◌≡◌, false, [], replicate}
use Rattle.heap_model.specs.Geometry.{image_words}
use Rattle.seat_index.specs.declared.owned_opening.Room.{Room}
use Rattle.seat_index.specs.Owned.{OwnedParts, HasOwned}

-- it tells the own words of these parts, and there are no stores and no marks
pub record IsOpenedRoom (room : Room) (p : OwnedParts) : Type 0 where
  pub owned : HasOwned room.owned p
  pub stores : room.recent ≡ []
  pub marks : room.pending ≡ replicate (image_words p.capacity) false
