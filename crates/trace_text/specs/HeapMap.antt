-- The map of a heap, as bytes: what each superblock that has been taken is used for.
use Rattle.std.specs.Prelude.{ℕ, ◌+◌, ◌-◌, ◌/◌, ◌&&◌, ◌==◌, ◌≤◌, AllPairs, if◌then◌else◌, nat_lt, nat_le, Bool, List, ◌++◌, codes, decimal, length, map, filter, find}
use Rattle.std.specs.List.{flat_map, range_with_len, list_any}
use Rattle.std.specs.Option.{option_map_or}
use Rattle.heap_model.specs.declared.block.Block.{Block}
use Rattle.heap_model.specs.Geometry.{info_word, start_word, superblock_of}
use Rattle.heap_model.specs.Header.{capacity_of, used_of}
use Rattle.heap_model.specs.Image.{Image}
use Rattle.heap_model.specs.Sizes.{last_class, words_of_class}
use Rattle.heap_model.specs.Words.{large_count, is_large_info}
use Rattle.trace_text.specs.Report.{line_feed}
use Rattle.trace_text.specs.Ranges.{ranges_of}

-- each block ends before those after it begin
abbrev pub AreInOrder : List Block → Type 0
AreInOrder held = AllPairs (λ (a b : Block). a.first_word + a.words ≤ b.first_word) held

-- whether the block begins in superblock d
abbrev pub begins_in : ℕ → ℕ → Block → Bool
begins_in capacity d b = nat_le (start_word capacity d) b.first_word && nat_lt b.first_word (start_word capacity (d + 1))

-- whether the block begins before superblock d and goes on into it
abbrev pub reaches_into : ℕ → ℕ → Block → Bool
reaches_into capacity d b = nat_lt b.first_word (start_word capacity d) && nat_lt (start_word capacity d) (b.first_word + b.words)

-- which of the blocks of superblock d this is, when that is cut for the class
abbrev pub index_of : ℕ → ℕ → ℕ → Block → ℕ
index_of capacity class d b = (b.first_word - start_word capacity d) / words_of_class class

-- the indexes of the held blocks of superblock d, which is cut for the class
abbrev pub held_indexes : ℕ → ℕ → ℕ → List Block → List ℕ
held_indexes capacity class d held = map (index_of capacity class d) (filter (begins_in capacity d) held)

-- the superblock in which a block begins
abbrev pub begun_in : ℕ → Block → ℕ
begun_in capacity b = superblock_of capacity b.first_word

-- the first superblock of the held large block that goes on into superblock d
abbrev pub first_of : ℕ → ℕ → List Block → ℕ
first_of capacity d held = option_map_or (begun_in capacity) (find (reaches_into capacity d) held) 0

-- whether the info word is a class
abbrev pub is_class : ℕ → Bool
is_class info = nat_le 1 info && nat_le info last_class

-- what a superblock that is cut for the class is used for, in words
abbrev pub class_use : ℕ → ℕ → List Block → ℕ → List ℕ
class_use capacity class held d = codes "class " ++ decimal class ++ codes " held" ++ ranges_of (held_indexes capacity class d held)

-- the same of the first of a large block of so many superblocks
abbrev pub large_use : ℕ → List ℕ
large_use superblocks = codes "large " ++ decimal superblocks

-- and of one behind the first
abbrev pub inside_use : ℕ → List ℕ
inside_use first = codes "inside " ++ decimal first

-- what superblock d is used for, in words, by whether it is free
abbrev pub use_if : Bool → Image → List Block → ℕ → List ℕ
use_if is_free image held d =
    if is_free then codes "free"
    else if is_class (image (info_word d)) then class_use (capacity_of image) (image (info_word d)) held d
    else if is_large_info (image (info_word d)) then large_use (large_count (image (info_word d)))
    else inside_use (first_of (capacity_of image) d held)

-- the same where these are the free ones
abbrev pub use_of : Image → List Block → List ℕ → ℕ → List ℕ
use_of image held free d = use_if (list_any (λ f. f == d) free) image held d

-- the line of a superblock
abbrev pub line_of : ℕ → List ℕ → List ℕ
line_of d words = codes "sb " ++ decimal d ++ codes " " ++ words ++ line_feed

-- the same, with what superblock d is used for
abbrev pub superblock_line : Image → List Block → List ℕ → ℕ → List ℕ
superblock_line image held free d = line_of d (use_of image held free d)

-- the map's first line: how many superblocks have been taken, how many of those are free, and how many have not been taken
abbrev pub used_line : Image → List ℕ → List ℕ
used_line image free =
    codes "used " ++ decimal (used_of image) ++ codes " free " ++ decimal (length free)
    ++ codes " fresh " ++ decimal (capacity_of image - used_of image) ++ line_feed

-- the map: its first line, and a line for each superblock that has been taken
abbrev pub map_of : Image → List Block → List ℕ → List ℕ
map_of image held free = used_line image free ++ flat_map (superblock_line image held free) (range_with_len 0 (used_of image))
