-- Images of the dictionary that show by their own anchors what their roots reach.
use Rattle.std.specs.Prelude.{ℕ, Some}
use Rattle.heap_model.specs.Header.{IsWellFormed}
use Rattle.heap_model.specs.Image.{Image}
use Rattle.heap_at_rest.specs.Orderly.{IsOrderly, IsHeldByAnchors}
use Rattle.dict_model.specs.Links.{kind_count}
use Rattle.run_model.specs.Opened.{IsDictionary}

-- A closed image of this version, of so many bytes, that tells by its own anchors what it holds. Nothing in it is
-- outside, each of its shards is a map, and exactly the blocks that its anchors hold are reached.
pub record IsOrderlyDictionary (bytes : ℕ) (image : Image) : Type 0 where
  pub formed : IsWellFormed bytes image
  pub orderly : IsOrderly (Some kind_count) bytes image
  pub dictionary : IsDictionary image (IsHeldByAnchors image)
