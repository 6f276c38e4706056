-- Keys, and the nodes that hold them: the words next, key and length, and then the value's bytes.
use Rattle.std.specs.Prelude.{◌≡◌, ℕ, ◌+◌, ◌*◌, ◌^◌, ◌/◌, ◌%◌, ◌≤◌, List, [], ◌∷◌, Option, None, Some, cond, nat_eq, take, refl}
use Rattle.heap_model.specs.declared.block.Block.{Block}
use Rattle.heap_model.specs.Image.{Image, words_from, bytes_of_words}
use Rattle.dict_model.specs.Layout.{key_index, length_index, value_index}
use Rattle.dict_model.specs.Links.{shards}

-- how many buckets a table has: one for each of its words
abbrev pub buckets : ℕ
buckets = 128

-- the bytes of the longest value
abbrev pub largest_value : ℕ
largest_value = 2 ^ 17

-- the shard of a key
abbrev pub shard_of : ℕ → ℕ
shard_of key = key % shards

-- the bucket, among those of its shard
abbrev pub bucket_of : ℕ → ℕ
bucket_of key = key / shards % buckets

-- the words that hold so many bytes of a value
abbrev pub value_words : ℕ → ℕ
value_words length = (length + 7) / 8

-- how many bytes are asked for a node whose value has so many
abbrev pub node_bytes : ℕ → ℕ
node_bytes length = 8 * value_index + 8 * value_words length

-- the bytes that are asked for a table
abbrev pub table_bytes : ℕ
table_bytes = 8 * buckets

-- what stands in a node: its key
abbrev pub key_in : Image → Block → ℕ
key_in image b = image (b.first_word + key_index)

-- how many bytes its value has
abbrev pub length_in : Image → Block → ℕ
length_in image b = image (b.first_word + length_index)

-- and the value, as bytes
abbrev pub value_in : Image → Block → List ℕ
value_in image b = take (length_in image b) (bytes_of_words (words_from image (b.first_word + value_index) (value_words (length_in image b))))

-- a block can be a node of the bucket: its key belongs there, and its value has its room
pub record IsNode (image : Image) (shard bucket : ℕ) (b : Block) : Type 0 where
  pub in_shard : shard_of (key_in image b) ≡ shard
  pub in_bucket : bucket_of (key_in image b) ≡ bucket
  pub short : length_in image b ≤ largest_value
  pub fits : value_index + value_words (length_in image b) ≤ b.words

-- the value of the key in the first of the nodes that has it
abbrev pub find : Image → ℕ → List Block → Option (List ℕ)
find image key [] = None
find image key (b ∷ bs) = cond (nat_eq (key_in image b) key) (Some (value_in image b)) (find image key bs)

-- the greatest key lies in the last bucket of the last shard
greatest_key : shard_of 18446744073709551615 ∷ bucket_of 18446744073709551615 ∷ [] ≡ 7 ∷ 127 ∷ []
greatest_key = refl

-- key 8 is the first shard's, in its second bucket
second_bucket : shard_of 8 ∷ bucket_of 8 ∷ [] ≡ 0 ∷ 1 ∷ []
second_bucket = refl

-- an empty value takes no words; nine bytes take two
node_sizes : node_bytes 0 ∷ node_bytes 9 ∷ node_bytes 65513 ∷ [] ≡ 24 ∷ 40 ∷ 65544 ∷ []
node_sizes = refl
