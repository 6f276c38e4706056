-- The report on a heap that was read, as bytes.
use Rattle.std.specs.Prelude.{ℕ, ◌*◌, ◌==◌, if◌then◌else◌, Bool, true, false, List, [], ◌∷◌, ◌++◌, codes, decimal, count_by}
use Rattle.std.specs.List.{flat_map, range_with_len}
use Rattle.heap_model.specs.declared.block.Block.{Block}
use Rattle.heap_model.specs.Geometry.{superblock_words}
use Rattle.heap_model.specs.Sizes.{last_class, size_of, words_of_class}

-- how a line ends
abbrev pub line_feed : List ℕ
line_feed = 10 ∷ []

-- whether the image was closed, in a word
abbrev pub state_name : Bool → List ℕ
state_name true = codes "clean"
state_name false = codes "dirty"

-- the report's first line
abbrev pub heap_line_of : ℕ → Bool → List ℕ
heap_line_of capacity is_clean =
    codes "heap " ++ decimal capacity ++ codes " " ++ state_name is_clean ++ line_feed

-- how many of the blocks have so many words
abbrev pub count_of : ℕ → List Block → ℕ
count_of words held = count_by (λ b. b.words == words) held

-- a line that counts, or none at 0
abbrev pub count_line : List ℕ → ℕ → ℕ → List ℕ
count_line what number count = if count == 0 then [] else what ++ decimal number ++ codes " " ++ decimal count ++ line_feed

-- the size classes
unfoldable pub classes : List ℕ
classes = range_with_len 1 last_class

-- how many blocks of the class are held, under their size in bytes
abbrev pub class_line : List Block → ℕ → List ℕ
class_line held class = count_line (codes "held ") (size_of class) (count_of (words_of_class class) held)

-- how many large blocks of so many superblocks are held
abbrev pub large_line : List Block → ℕ → List ℕ
large_line held superblocks = count_line (codes "held large ") superblocks (count_of (superblock_words * superblocks) held)

-- the lines of the classes, and then those of the large blocks, which take 1 superblock or more, up to all
abbrev pub held_lines : ℕ → List Block → List ℕ
held_lines capacity held = flat_map (class_line held) classes ++ flat_map (large_line held) (range_with_len 1 capacity)

-- the report: its first line, what is told of the keys, and how many blocks of each size are held
abbrev pub report_of : ℕ → Bool → List ℕ → List Block → List ℕ
report_of capacity is_clean keys held = heap_line_of capacity is_clean ++ keys ++ held_lines capacity held
