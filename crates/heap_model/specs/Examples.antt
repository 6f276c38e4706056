-- Worked examples: hand-made images, header causes, sizes, packed words, chains, lists, durability and counts.
use Rattle.std.specs.Prelude.{◌≡◌, ℕ, List, [], ◌∷◌, take, refl, Some, None}
use Rattle.std.proofs.Common.{arith, inl, inr}
use Rattle.heap_model.specs.declared.header.BadHeader.TheVariants.{Short, Magic, Version, Capacity, Length, State, Used, Kind}
use Rattle.heap_model.specs.Geometry.{magic, version, old_version, largest_capacity, clean, dirty, image_words, superblock_of, IsReserved, in_header, in_descriptor}
use Rattle.heap_model.specs.Counting.{put, times, total, without, below}
use Rattle.heap_model.specs.Image.{Image, image_of_bytes, bytes_of_words}
use Rattle.heap_model.specs.Header.{header_fault, has_fault, kinds_of, first_kinds}
use Rattle.heap_model.specs.Sizes.{class_sizes, size_of, blocks_of, span_of}
use Rattle.heap_model.specs.Words.{anchor_of, anchor_state, anchor_first, anchor_count, partial_state, head_of, head_first, head_pops}
use Rattle.heap_model.specs.Chains.{Follows, Walks, after}
use Rattle.heap_model.specs.Durability.{Mixes, IsTransient, is_head, is_anchor}

-- the image with these words, and 0 elsewhere
abbrev pub image_with : List (ℕ × ℕ) → Image
image_with [] = λ _. 0
image_with (w ∷ ws) = put (image_with ws) w.0 w.1

-- an empty image whose roots all have kind 0, with these words changed
abbrev pub formatted : ℕ → List (ℕ × ℕ) → Image
formatted capacity words = put (put (put (put (image_with words) 3 clean) 2 capacity) 1 version) 0 magic

-- the magic number reads as text in the file
magic_text : bytes_of_words (magic ∷ []) ≡ 0x31 ∷ 0x30 ∷ 0x43 ∷ 0x4f ∷ 0x4c ∷ 0x4c ∷ 0x41 ∷ 0x52 ∷ []
magic_text = refl

magic_number : image_of_bytes (0x31 ∷ 0x30 ∷ 0x43 ∷ 0x4f ∷ 0x4c ∷ 0x4c ∷ 0x41 ∷ 0x52 ∷ []) 0 ≡ magic
magic_number = refl

-- an image is good at its exact length alone, 82,304 bytes for one superblock
good_length : header_fault None 82304 (formatted 1 []) ≡ None
unfolding header_fault has_fault largest_capacity
good_length = refl

one_byte_less : header_fault None 82303 (formatted 1 []) ≡ Some Length
unfolding header_fault has_fault largest_capacity
one_byte_less = refl

one_word_more : header_fault None 82312 (formatted 1 []) ≡ Some Length
unfolding header_fault has_fault largest_capacity
one_word_more = refl

-- a heap of the most superblocks, and one that was not closed
good_most : header_fault None 268714304 (formatted 4096 []) ≡ None
unfolding header_fault has_fault largest_capacity
good_most = refl

good_dirty : header_fault None 82304 (put (formatted 1 []) 3 dirty) ≡ None
unfolding header_fault has_fault largest_capacity
good_dirty = refl

-- each superblock may be taken, and no more
all_taken : header_fault None 82304 (formatted 1 ((8, 1) ∷ [])) ≡ None
unfolding header_fault has_fault largest_capacity
all_taken = refl

one_more_taken : header_fault None 82304 (formatted 1 ((8, 2) ∷ [])) ≡ Some Used
unfolding header_fault has_fault largest_capacity
one_more_taken = refl

-- one of the old version has no kinds, and is shorter by 1,024 words
abbrev pub of_old_version : ℕ → List (ℕ × ℕ) → Image
of_old_version capacity words = put (formatted capacity words) 1 old_version

good_old_length : header_fault (Some 3) 74112 (of_old_version 1 []) ≡ None
unfolding header_fault has_fault largest_capacity
good_old_length = refl

no_kind_of_old : header_fault (Some 0) 74112 (of_old_version 1 []) ≡ None
unfolding header_fault has_fault largest_capacity
no_kind_of_old = refl

good_most_of_old : header_fault None 16802112 (of_old_version 256 []) ≡ None
unfolding header_fault has_fault largest_capacity
good_most_of_old = refl

with_kinds : header_fault None 82304 (of_old_version 1 []) ≡ Some Length
unfolding header_fault has_fault largest_capacity
with_kinds = refl

-- the words of the longest image
most_words : image_words largest_capacity ≡ 33589288
unfolding largest_capacity
most_words = refl

-- in a heap of two superblocks these start at words 1,080 and 9,272
first_and_last_words : superblock_of 2 1080 ∷ superblock_of 2 9271 ∷ superblock_of 2 9272 ∷ [] ≡ 0 ∷ 0 ∷ 1 ∷ []
first_and_last_words = refl

-- 257 superblocks are too many for the old version alone, and 4,097 for both
too_many_of_old : header_fault None 16875904 (of_old_version 257 []) ≡ Some Capacity
unfolding header_fault has_fault largest_capacity
too_many_of_old = refl

many : header_fault None 16875904 (formatted 257 []) ≡ None
unfolding header_fault has_fault largest_capacity
many = refl

too_many : header_fault None 268779904 (formatted 4097 []) ≡ Some Capacity
unfolding header_fault has_fault largest_capacity
too_many = refl

no_version : header_fault None 82304 (put (formatted 1 []) 1 3) ≡ Some Version
unfolding header_fault has_fault largest_capacity
no_version = refl

-- a kind at the limit is bad where there is a limit, and the last one counts as the first
kind_at_limit : header_fault (Some 3) 82304 (formatted 1 ((9264, 3) ∷ [])) ≡ Some Kind
unfolding header_fault has_fault largest_capacity
kind_at_limit = refl

last_kind_at_limit : header_fault (Some 3) 82304 (formatted 1 ((10287, 3) ∷ [])) ≡ Some Kind
unfolding header_fault has_fault largest_capacity
last_kind_at_limit = refl

kind_below_limit : header_fault (Some 4) 82304 (formatted 1 ((9264, 3) ∷ [])) ≡ None
unfolding header_fault has_fault largest_capacity
kind_below_limit = refl

any_kind : header_fault None 82304 (formatted 1 ((9264, 3) ∷ [])) ≡ None
unfolding header_fault has_fault largest_capacity
any_kind = refl

-- without all of header and roots it is too short, whatever it holds
no_roots : header_fault None 8511 (formatted 1 []) ≡ Some Short
unfolding header_fault has_fault largest_capacity
no_roots = refl

-- of two causes the first in their order is told
short_before_magic : header_fault None 8511 (image_with []) ≡ Some Short
unfolding header_fault has_fault largest_capacity
short_before_magic = refl

magic_before_version : header_fault None 82304 (put (put (formatted 1 []) 1 3) 0 7) ≡ Some Magic
unfolding header_fault has_fault largest_capacity
magic_before_version = refl

version_before_capacity : header_fault None 82304 (put (put (formatted 1 []) 2 0) 1 3) ≡ Some Version
unfolding header_fault has_fault largest_capacity
version_before_capacity = refl

no_superblocks : header_fault None 82304 (formatted 0 []) ≡ Some Capacity
unfolding header_fault has_fault largest_capacity
no_superblocks = refl

length_before_state : header_fault None 82312 (put (formatted 1 []) 3 0) ≡ Some Length
unfolding header_fault has_fault largest_capacity
length_before_state = refl

state_before_used : header_fault None 82304 (put (formatted 1 ((8, 2) ∷ [])) 3 0) ≡ Some State
unfolding header_fault has_fault largest_capacity
state_before_used = refl

used_before_kind : header_fault (Some 3) 82304 (formatted 1 ((8, 2) ∷ (9264, 3) ∷ [])) ≡ Some Used
unfolding header_fault has_fault largest_capacity
used_before_kind = refl

-- the kind of root 9 in an image of one superblock, and the kinds of an empty image
kind_of_nine : kinds_of (formatted 1 ((9273, 2) ∷ [])) 9 ≡ 2
kind_of_nine = refl

first_ten_kinds : take 10 first_kinds ≡ 1 ∷ 1 ∷ 1 ∷ 1 ∷ 1 ∷ 1 ∷ 1 ∷ 1 ∷ 0 ∷ 0 ∷ []
unfolding first_kinds
first_ten_kinds = refl

-- the largest class has four blocks of 14,336 bytes; one byte more than a superblock takes two
last_class : size_of 20 ≡ 14336
unfolding size_of class_sizes
last_class = refl

last_class_blocks : blocks_of 20 ≡ 4
unfolding blocks_of class_sizes
last_class_blocks = refl

spans : span_of 0 ∷ span_of 14337 ∷ span_of 65536 ∷ span_of 65537 ∷ [] ≡ 1 ∷ 1 ∷ 1 ∷ 2 ∷ []
spans = refl

-- a partial anchor with 5 free blocks, the first of index 3, and its parts
packed_anchor : anchor_of partial_state 3 5 ≡ 42949672973
packed_anchor = refl

anchor_parts : anchor_state 42949672973 ∷ anchor_first 42949672973 ∷ anchor_count 42949672973 ∷ [] ≡ 1 ∷ 3 ∷ 5 ∷ []
anchor_parts = refl

-- a list of two descriptors, 0 and then 1, in a heap of two superblocks
two_descriptors : Follows (image_with ((0, 2) ∷ [])) 2 1 (0 ∷ 1 ∷ [])
two_descriptors = (refl, omega arith, (refl, omega arith, refl))

-- A chain of the free blocks 1, 2, 3 of a superblock of class 4 (8 words a block) in a heap of two superblocks: each
-- begins with the word index of the next.
three_free_blocks : Walks (image_with ((1088, 1096) ∷ (1096, 1104) ∷ [])) 1088 (1088 ∷ 1096 ∷ 1104 ∷ [])
three_free_blocks = (refl, (refl, (refl, tt)))

after_three : after (image_with ((1088, 1096) ∷ (1096, 1104) ∷ (1104, 7) ∷ [])) 1088 (1088 ∷ 1096 ∷ 1104 ∷ []) ≡ 7
after_three = refl

-- the head of a list that was popped twice and begins with descriptor 0
popped_twice : head_first 33554433 ∷ head_pops 33554433 ∷ head_of 1 2 ∷ [] ≡ 1 ∷ 2 ∷ 33554433 ∷ []
popped_twice = refl

-- an anchor, a list head and a link are transient in a heap of one superblock; word 11 of the header and word 1067 have no meaning
transient_anchor : IsTransient 1 1065
transient_anchor = is_anchor 0 1065 (omega arith) refl

transient_last_head : IsTransient 1 36
transient_last_head = is_head 20 36 (omega arith) refl

reserved_header : IsReserved 1 11
reserved_header = in_header 11 (omega arith) (omega arith) (λ same. omega arith) (inl (omega arith))

reserved_descriptor : IsReserved 1 1067
reserved_descriptor = in_descriptor 0 3 1067 (omega arith) (omega arith) (omega arith) refl

-- a word stored but not fenced may be mixed either way
old_or_new : Mixes (put (λ _. 0) 5 9) (λ _. 0) (λ _. 0)
old_or_new = record { each = λ word. inr refl }

-- counts
counted : times 3 (3 ∷ 1 ∷ 3 ∷ []) ∷ total (λ x. x) (3 ∷ 1 ∷ 3 ∷ []) ∷ below 2 3 ∷ below 3 3 ∷ [] ≡ 2 ∷ 7 ∷ 1 ∷ 0 ∷ []
counted = refl

without_first : without 3 (3 ∷ 1 ∷ 3 ∷ []) ≡ 1 ∷ 3 ∷ []
without_first = refl
