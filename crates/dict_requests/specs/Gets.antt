-- What a get answers, and how a value is read from its node.
use Rattle.std.specs.Prelude.{◌≡◌, ℕ, ◌+◌, ◌*◌, ◌<◌, ◌≤◌, ◌⊎◌, List, [], ◌∷◌, ◌++◌, length, take, drop, slice_index, Option, None, Some, refl}
use Rattle.heap_model.specs.declared.block.Block.{Block}
use Rattle.heap_model.specs.Image.{Image, bytes_of_words}
use Rattle.heap_seat.specs.View.{View}
use Rattle.heap_seat.specs.Tickets.{Runs}
use Rattle.dict_model.specs.Layout.{value_index}
use Rattle.dict_model.specs.Nodes.{shard_of, value_words, value_in}
use Rattle.dict_model.specs.Shards.{Map}
use Rattle.dict_requests.specs.Maps.{GivesMap}
use Rattle.dict_requests.specs.Answers.{MakesFew}
use Rattle.dict_requests.specs.Quiet.{IsQuiet}
use Rattle.dict_requests.specs.Trails.{Completes}

-- the answer for what the map has of the key: nothing, and the output stays; or the value's length, and the output begins with the value, as
-- far as that fits
abbrev pub IsAnswer : Option (List ℕ) → Option ℕ → List ℕ → List ℕ → Type 0
IsAnswer None answer old new = (answer ≡ None) × (new ≡ old)
IsAnswer (Some value) answer old new = (answer ≡ Some (length value)) × (new ≡ take (length old) value ++ drop (length value) old)

-- a value that is shorter than the output, and one that is longer
a_short_value : IsAnswer (Some (97 ∷ 98 ∷ [])) (Some 2) (1 ∷ 2 ∷ 3 ∷ []) (97 ∷ 98 ∷ 3 ∷ [])
a_short_value = (refl, refl)

a_long_value : IsAnswer (Some (97 ∷ 98 ∷ 99 ∷ [])) (Some 3) (1 ∷ 2 ∷ []) (97 ∷ 98 ∷ [])
a_long_value = (refl, refl)

-- a get was done, and answered what the map has
pub record Gets (key : ℕ) (answer : Option ℕ) (old new : List ℕ) (v w : View) : Type 0 where
  pub runs : Runs v w
  pub tells : (map : Map) → GivesMap v (shard_of key) map → IsAnswer (map key) answer old new

-- the words of what the map has of the key
abbrev pub words_of : Option (List ℕ) → ℕ
words_of None = 0
words_of (Some value) = value_words (length value)

-- calls that are few for what the map has of the key, and take no superblock
abbrev pub ReadsFew : ℕ → View → View → Type 0
ReadsFew key v w = (map : Map) → GivesMap v (shard_of key) map → MakesFew (words_of (map key)) 0 (shard_of key) v w

-- the first words of a node's value were read, so many, and their bytes stand in the output
pub record HasRead (b : Block) (count : ℕ) (old new : List ℕ) (w : View) : Type 0 where
  pub words : List ℕ
  pub count_is : length words ≡ count
  pub seen : (i : ℕ) → i < count → w.volatile (b.first_word + (value_index + i)) ≡ Some (slice_index words i)
  pub bytes : new ≡ take (length old) (bytes_of_words words) ++ drop (8 * count) old

-- how far a value has been read since the call began
pub record IsReading (b : Block) (count : ℕ) (old new : List ℕ) (v w : View) : Type 0 where
  pub done : (w ≡ v) ⊎ Runs v w
  pub quiet : IsQuiet count v w
  pub same : length new ≡ length old
  pub read : HasRead b count old new w

-- as many words were read as the output has room for
pub record ReadsWords (b : Block) (old new : List ℕ) (v w : View) : Type 0 where
  pub done : (w ≡ v) ⊎ Runs v w
  pub read : HasRead b (value_words (length old)) old new w

-- the value of the node was read
pub record ReadsValue (b : Block) (answer : ℕ) (old new : List ℕ) (v w : View) : Type 0 where
  pub runs : Runs v w
  pub is : (image : Image) → Completes w image → IsAnswer (Some (value_in image b)) (Some answer) old new

-- quiet calls, one for each word of the node's value and one more
pub record IsQuietRead (b : Block) (v w : View) : Type 0 where
  pub small : ℕ
  pub quiet : IsQuiet small v w
  pub few : (image : Image) → Completes w image → small ≤ 1 + value_words (length (value_in image b))
