-- Worked examples of the texts.
use Rattle.std.specs.Prelude.{◌≡◌, ℕ, List, [], ◌∷◌, ◌++◌, codes, true, false, refl}
use Rattle.std.specs.Fmt.{digits}
use Rattle.heap_model.specs.declared.block.Block.{Block}
use Rattle.heap_model.specs.Examples.{formatted}
use Rattle.heap_model.specs.Sizes.{class_sizes, size_of, words_of_class}
use Rattle.trace_text.specs.HeapMap.{map_of}
use Rattle.trace_text.specs.Ranges.{ranges_of}
use Rattle.hex.specs.Hex.{encode_with}
use Rattle.trace_text.specs.Keys.{keys_text}
use Rattle.trace_text.specs.Report.{line_feed, classes, heap_line_of, report_of}

-- the first line
most_dirty : heap_line_of 4096 false ≡ codes "heap 4096 dirty" ++ line_feed
unfolding digits
most_dirty = refl

-- runs of one number, of three and of none
two_apart : ranges_of (0 ∷ 2 ∷ []) ≡ codes " 0 2"
unfolding digits
two_apart = refl

three_and_one : ranges_of (3 ∷ 4 ∷ 5 ∷ 9 ∷ []) ≡ codes " 3-5 9"
unfolding digits
three_and_one = refl

no_number : ranges_of [] ≡ []
no_number = refl

-- a heap of four superblocks: a block of class 12 in the first, a large block in the next two, and one superblock never taken
held_two : List Block
held_two = record { first_word = 1096; words = 128 } ∷ record { first_word = 9288; words = 16384 } ∷ []

two_reported : report_of 4 true [] held_two
    ≡ codes "heap 4 clean" ++ line_feed ++ codes "held 1024 1" ++ line_feed ++ codes "held large 2 1" ++ line_feed
unfolding held_two digits classes class_sizes size_of words_of_class
two_reported = refl

two_mapped : map_of (formatted 4 ((8, 3) ∷ (1064, 12) ∷ (1072, 767) ∷ [])) held_two []
    ≡ codes "used 3 free 0 fresh 1" ++ line_feed ++ codes "sb 0 class 12 held 0" ++ line_feed
    ++ codes "sb 1 large 2" ++ line_feed ++ codes "sb 2 inside 1" ++ line_feed
unfolding held_two digits class_sizes words_of_class
two_mapped = refl

-- the same heap without the large block
one_freed : map_of (formatted 4 ((8, 3) ∷ (1064, 12) ∷ [])) (record { first_word = 1480; words = 128 } ∷ []) (1 ∷ 2 ∷ [])
    ≡ codes "used 3 free 2 fresh 1" ++ line_feed ++ codes "sb 0 class 12 held 3" ++ line_feed
    ++ codes "sb 1 free" ++ line_feed ++ codes "sb 2 free" ++ line_feed
unfolding digits class_sizes words_of_class
one_freed = refl

-- the lines of two keys, and their sum
two_keys : List (ℕ × List ℕ)
two_keys = (5, 97 ∷ 255 ∷ []) ∷ (18446744073709551615, []) ∷ []

keys_told : keys_text false two_keys ≡ codes "key 5 61ff" ++ line_feed ++ codes "key 18446744073709551615 -" ++ line_feed
unfolding two_keys digits encode_with
keys_told = refl

keys_summed : keys_text true two_keys ≡ codes "keys 2 bytes 2" ++ line_feed
unfolding two_keys digits
keys_summed = refl

no_keys_summed : keys_text true [] ≡ codes "keys 0 bytes 0" ++ line_feed
unfolding digits
no_keys_summed = refl

-- what is told of keys stands behind the first line
keys_reported : report_of 1 false (keys_text false ((7, 0 ∷ []) ∷ [])) []
    ≡ codes "heap 1 dirty" ++ line_feed ++ codes "key 7 00" ++ line_feed
unfolding digits encode_with classes class_sizes size_of words_of_class
keys_reported = refl
