-- Where the blocks of the dictionary hold pointers, and what a root has for its kind.
use Rattle.std.specs.Prelude.{◌≡◌, ℕ, ◌+◌, ◌<◌, List, [], ◌∷◌, cond, nat_eq, nat_lt, refl}
use Rattle.heap_model.specs.Reach.{Links}
use Rattle.dict_model.specs.Layout.{next_index}

-- the roots 0 to 7 lead to the tables of the eight shards
abbrev pub shards : ℕ
shards = 8

-- the kinds of blocks: one without links
abbrev pub other_kind : ℕ
other_kind = 0

-- a table, each word of which leads to a node
abbrev pub table_kind : ℕ
table_kind = 1

-- a node, whose first word leads to the next
abbrev pub node_kind : ℕ
node_kind = 2

-- how many kinds there are
abbrev pub kind_count : ℕ
kind_count = 3

-- the kind of what root i leads to in an image that `format` makes, and in one of the old version, which stores no kinds
abbrev pub root_kind : ℕ → ℕ
root_kind i = cond (nat_lt i shards) table_kind other_kind

-- each word of a block from the position on, as a link to a node
abbrev pub all_to_nodes : ℕ → List ℕ → List (ℕ × ℕ)
all_to_nodes position [] = []
all_to_nodes position (w ∷ words) = (position, node_kind) ∷ all_to_nodes (position + 1) words

-- the first word of a block, where a node has its link, as a link to a node
abbrev pub first_to_node : List ℕ → List (ℕ × ℕ)
first_to_node [] = []
first_to_node (w ∷ words) = (next_index, node_kind) ∷ []

-- a table links each of its words to a node, a node its first word to the next node; a block of another kind has no links
abbrev pub dict_links : Links
dict_links kind words =
    cond (nat_eq kind table_kind) (all_to_nodes 0 words) (cond (nat_eq kind node_kind) (first_to_node words) [])

-- the position of a link in a block of the kind with so many words, and the kind of what it leads to: `dict_links`, which looks at no word
pub data IsLink : ℕ → ℕ → ℕ → ℕ → Type 0 where
  in_table : (words position : ℕ) → position < words → IsLink table_kind words position node_kind
  in_node : (words : ℕ) → 0 < words → IsLink node_kind words next_index node_kind

-- a table of three words, a node of three words, and a block of another kind
three_buckets : dict_links 1 (0 ∷ 5 ∷ 0 ∷ []) ≡ (0, 2) ∷ (1, 2) ∷ (2, 2) ∷ []
three_buckets = refl

next_node : dict_links 2 (0 ∷ 7 ∷ 0 ∷ []) ≡ (0, 2) ∷ []
next_node = refl

no_links : dict_links 0 (0 ∷ 5 ∷ []) ≡ []
no_links = refl

last_table : root_kind 7 ∷ root_kind 8 ∷ [] ≡ 1 ∷ 0 ∷ []
last_table = refl
