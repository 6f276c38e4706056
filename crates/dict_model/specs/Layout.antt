-- The words of a node by their index in its block: the link to the next node, the key, the length of the value, and then the value's bytes.
use Rattle.std.specs.Prelude.{ℕ}

-- the pointer to the next node of the chain, or null
abbrev pub next_index : ℕ
next_index = 0

-- the key
abbrev pub key_index : ℕ
key_index = 1

-- how many bytes the value has
abbrev pub length_index : ℕ
length_index = 2

-- the first word of the value's bytes; so many words stand in front of them
abbrev pub value_index : ℕ
value_index = 3
