-- A loop of reads into memory, over a reader that may tell the bytes that it has left.
use Rattle.std.specs.Prelude.{◌≡◌, ◌≤◌, ℕ, List, ◌++◌, length, Option}
use Rattle.std.specs.Io.KnownBytes.{Consumes}

-- at most `room` bytes went from the front of what the reader had left to the end of the image
pub record ReadsPiece (room : ℕ) (left_old left_new : Option (List ℕ)) (image_old image_new : List ℕ)
    : Type 0 where
  pub bytes : List ℕ
  pub few : length bytes ≤ room
  pub consumed : Consumes left_old left_new bytes
  pub appended : image_new ≡ image_old ++ bytes
