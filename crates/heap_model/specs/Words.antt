-- What the packed words of an image stand for: the info word, the anchor and the list head.
use Rattle.std.specs.Prelude.{ℕ, ◌+◌, ◌*◌, ◌/◌, ◌%◌, Bool, ◌&&◌, ◌==◌, nat_le}

-- the info word of the first superblock of a large block that takes `count` superblocks
abbrev pub large_info : ℕ → ℕ
large_info count = 255 + 256 * count

-- how many superblocks that block takes
abbrev pub large_count : ℕ → ℕ
large_count info = info / 256

-- whether an info word is one of those
abbrev pub is_large_info : ℕ → Bool
is_large_info info = nat_le (large_info 1) info && (info % 256 == large_info 0)

-- the states of an anchor: all blocks of the superblock are free
abbrev pub empty_state : ℕ
empty_state = 0

-- some blocks of the superblock are free
abbrev pub partial_state : ℕ
partial_state = 1

-- no block of the superblock is free
abbrev pub full_state : ℕ
full_state = 2

-- the anchor of a superblock: bits 0 and 1 its state, bits 2 to 32 the index of the first free block, bits 33 to 63 how many are free
abbrev pub anchor_of : ℕ → ℕ → ℕ → ℕ
anchor_of state first count = state + 4 * first + 8589934592 * count

-- the state in an anchor
abbrev pub anchor_state : ℕ → ℕ
anchor_state word = word % 4

-- the index of the first free block in an anchor
abbrev pub anchor_first : ℕ → ℕ
anchor_first word = word / 4 % 2147483648

-- how many free blocks an anchor counts
abbrev pub anchor_count : ℕ → ℕ
anchor_count word = word / 8589934592

-- the anchor of a superblock with no free block
abbrev pub full_anchor : ℕ
full_anchor = 2

-- a list head: bits 0 to 23 the first descriptor's index plus 1, or 0 for an empty list; bits 24 to 63 how often it was
-- popped (a counted head, so that a stale compare-exchange fails)
abbrev pub head_of : ℕ → ℕ → ℕ
head_of first pops = first + 16777216 * pops

-- the first descriptor of a list in its head: its index plus 1, or 0
abbrev pub head_first : ℕ → ℕ
head_first word = word % 16777216

-- how often a list was popped, from its head
abbrev pub head_pops : ℕ → ℕ
head_pops word = word / 16777216
