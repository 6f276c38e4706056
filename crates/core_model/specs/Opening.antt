-- A heap at rest as it is opened for some seats: each held block and each root belongs to one seat, nothing is cached,
-- batched or claimed, and all words are durable.
use Rattle.std.specs.Prelude.{◌≡◌, ℕ, zero, suc, ◌+◌, ◌/◌, ◌<◌, Bool, cond, ◌&&◌, nat_eq, nat_lt, List, [], ◌∷◌, ◌++◌, length, map, replicate, slice_index, Contains, None, Some, get_or}
use Rattle.heap_model.specs.declared.block.Block.{Block}
use Rattle.heap_model.specs.Geometry.{roots, lists, info_word, head_word, capacity_word, used_word, superblock_words, superblock_of}
use Rattle.core_model.specs.View.{Setup, Span, LastLook, View, no_batch}
use Rattle.core_model.specs.Effects.{steps, trimmed}
use Rattle.core_model.specs.Steps.{TableState}

-- the members that belong to the seat
abbrev pub picked : {A : Type 0} → ℕ → List A → List ℕ → List A
picked seat [] owners = []
picked seat (x ∷ xs) [] = []
picked seat (x ∷ xs) (owner ∷ owners) = cond (nat_eq owner seat) (x ∷ picked seat xs owners) (picked seat xs owners)

-- the values at n numbers from one on
abbrev pub tabulate : {A : Type 0} → (ℕ → A) → ℕ → ℕ → List A
tabulate f from zero = []
tabulate f from (suc n) = f from ∷ tabulate f (from + 1) n

-- whether a block is small: less than a superblock
abbrev pub is_small : Block → Bool
is_small b = nat_lt b.words superblock_words

-- the first words of the small blocks in superblocks of a class
abbrev pub small_blocks : ℕ → (ℕ → ℕ) → ℕ → List Block → List ℕ
small_blocks capacity info class [] = []
small_blocks capacity info class (b ∷ bs) = cond (is_small b && nat_eq (info (superblock_of capacity b.first_word)) class)
    (b.first_word ∷ small_blocks capacity info class bs) (small_blocks capacity info class bs)

-- the large blocks, by the superblocks that they take
abbrev pub large_blocks : ℕ → List Block → List Span
large_blocks capacity [] = []
large_blocks capacity (b ∷ bs) = cond (is_small b) (large_blocks capacity bs) (record {
  first = superblock_of capacity b.first_word;
  count = b.words / superblock_words;
} ∷ large_blocks capacity bs)

-- who owns each held block, and each root: all below the number of seats
pub record AreOwners (held : List Block) (seats : ℕ) (block_owners root_owners : List ℕ) : Type 0 where
  pub blocks : length block_owners ≡ length held
  pub roots_all : length root_owners ≡ roots
  pub block_seats : (owner : ℕ) → Contains block_owners owner → owner < seats
  pub root_seats : (owner : ℕ) → Contains root_owners owner → owner < seats

-- the setup of a heap that is opened with these words
abbrev pub setup_of : List ℕ → ℕ → ℕ → Setup
setup_of words budget seats = record {
  capacity = slice_index words capacity_word;
  budget = budget;
  seats = seats;
  used = slice_index words used_word;
  opened = words;
}

-- nothing was looked at yet
abbrev pub unlooked : ℕ → LastLook
unlooked word = record { word = word; ticket = None; wins = 0; taken = 0 }

-- the view of a seat that opened the heap with these blocks and roots, before it forgets what is not its own
abbrev pub plain_view : Setup → List Block → List ℕ → View
plain_view k held owned_roots = record {
  setup = k;
  small = tabulate (λ class. small_blocks k.capacity (λ d. slice_index k.opened (info_word d)) class held) 0 lists;
  large = large_blocks k.capacity held;
  roots = owned_roots;
  caches = replicate lists [];
  batch = no_batch;
  raw = [];
  split = [];
  cutting = [];
  classed = [];
  seen_used = None;
  seen_head = None;
  seen_link = None;
  seen_anchor = None;
  used_look = unlooked k.used;
  head_looks = tabulate (λ list. unlooked (slice_index k.opened (head_word list))) 0 lists;
  volatile = map (λ word. Some word) k.opened;
  durable = map (λ word. Some word) k.opened;
  floor = k.used;
  ticket = None;
  last_ticket = None;
  stopped = None;
  lost_to = 0;
  taken = 0;
  draws = 0;
  cuts = 0;
  wins = 0;
  losses = 0;
  gives = 0;
  moves = 0;
  carries = 0;
  offers = 0;
  accepts = 0;
}

-- the seat knows its own words, which are as in the opened image
abbrev pub opened_view : Setup → List Block → List ℕ → List ℕ → ℕ → View
opened_view k held block_owners root_owners seat = trimmed (plain_view k (picked seat held block_owners) (picked seat
    (steps 0 1 roots) root_owners))

-- the shared words and the views of an opened heap
abbrev pub opened_state : Setup → List Block → List ℕ → List ℕ → ℕ → TableState
opened_state k held block_owners root_owners seats = record {
  words = k.opened ++ (k.opened ++ (0 ∷ []));
  views = tabulate (opened_view k held block_owners root_owners) 0 seats;
}

-- the seat has drawn, looked at and counted nothing yet, and has nothing but what it holds; it knows the opened mark to be durable
pub record HasDoneNothing (k : Setup) (v : View) : Type 0 where
  pub floor : v.floor ≡ k.used
  pub tickets : (v.ticket ≡ None) × (v.last_ticket ≡ None) × (v.stopped ≡ None)
  pub counts : (v.draws ≡ 0) × (v.wins ≡ 0) × (v.losses ≡ 0) × (v.taken ≡ 0) × (v.cuts ≡ 0) × (v.gives ≡ 0) × (v.moves ≡ 0)
  pub free : (v.caches ≡ replicate lists []) × (v.batch ≡ no_batch)
  pub claims : (v.raw ≡ []) × (v.split ≡ []) × (v.cutting ≡ []) × (v.classed ≡ [])
  pub seen : (v.seen_used ≡ None) × (v.seen_head ≡ None) × (v.seen_link ≡ None) × (v.seen_anchor ≡ None)
  pub looks : v.used_look ≡ unlooked k.used

-- the block stands in the list where the seat is the owner
pub record IsOwnerOf (held : List Block) (block_owners : List ℕ) (seat : ℕ) (b : Block) : Type 0 where
  pub at : ℕ
  pub inside : at < length held
  pub is : get_or held at b ≡ b
  pub owner : get_or block_owners at (seat + 1) ≡ seat
