-- What each step does: the word that it works on, what it leaves there, and what it makes of the parts of a view.
use Rattle.std.specs.Prelude.{ℕ, zero, suc, ◌+◌, ◌-◌, ◌*◌, ◌/◌, false, cond, ◌&&◌, nat_eq, nat_le, nat_lt, max, List, [], ◌∷◌, ◌++◌, set, Option, None, Some, length}
use Rattle.heap_model.specs.Geometry.{start_word}
use Rattle.heap_model.specs.Sizes.{words_of_class, blocks_of}
use Rattle.heap_model.specs.Words.{head_of, head_first, head_pops, anchor_of, anchor_first, anchor_count, empty_state, partial_state, full_anchor}
use Rattle.heap_model.specs.Counting.{times, without}
use Rattle.core_model.specs.declared.event.Event.{Event}
use Rattle.core_model.specs.declared.event.Event.TheVariants.{Tick, Load, Store, Settle, LookUsed, TakeFresh, KeepUsed, LookHead, LookLink, Pop, Push, LookAnchor, TakeAll, Give}
use Rattle.core_model.specs.Cells.{Cell, used_cell, head_cell, info_cell, anchor_cell, link_cell, data_cell, cell_at, index_of}
use Rattle.core_model.specs.Memory.{Memory, next, StepPlace, volatile_at, durable_at, tickets}
use Rattle.core_model.specs.View.{View, Claim, Span, Snapshot, LastLook, no_batch, times_own}

-- n numbers from one on, a step apart
abbrev pub steps : ℕ → ℕ → ℕ → List ℕ
steps from apart zero = []
steps from apart (suc n) = from ∷ steps (from + apart) apart n

-- the blocks of superblock d when it is cut for the class
abbrev pub class_blocks : ℕ → ℕ → ℕ → List ℕ
class_blocks capacity class d = steps (start_word capacity d) (words_of_class class) (blocks_of class)

-- so many blocks as the first words lead along
abbrev pub chain : (ℕ → ℕ) → ℕ → ℕ → List ℕ
chain next from zero = []
chain next from (suc n) = from ∷ chain next (next from) n

-- the first of some blocks; 0 of none
abbrev pub first_of : List ℕ → ℕ
first_of [] = 0
first_of (b ∷ bs) = b

-- the last of some blocks; 0 of none
abbrev pub last_of : List ℕ → ℕ
last_of [] = 0
last_of (b ∷ []) = b
last_of (b ∷ c ∷ bs) = last_of (c ∷ bs)

-- the blocks behind the first
abbrev pub rest_of : List ℕ → List ℕ
rest_of [] = []
rest_of (b ∷ bs) = bs

-- the number before; 0 of 0
abbrev pub before : ℕ → ℕ
before zero = 0
before (suc d) = d

-- the list without the numbers of a range
abbrev pub without_range : ℕ → ℕ → List ℕ → List ℕ
without_range from n [] = []
without_range from n (x ∷ xs) = cond (nat_le from x && nat_lt x (from + n)) (without_range from n xs) (x ∷ without_range from n xs)

-- what was seen; 0 of nothing
abbrev pub seen : Option ℕ → ℕ
seen None = 0
seen (Some word) = word

-- the word in a snapshot; 0 of none
abbrev pub seen_word : Option Snapshot → ℕ
seen_word None = 0
seen_word (Some s) = s.word

-- what a snapshot is of, a list or a descriptor; 0 of none
abbrev pub seen_of : Option Snapshot → ℕ
seen_of None = 0
seen_of (Some s) = s.of

-- the snapshot, unless it is of a descriptor of the range
abbrev pub cleared : ℕ → ℕ → Option Snapshot → Option Snapshot
cleared from n None = None
cleared from n (Some s) = cond (nat_le from s.of && nat_lt s.of (from + n)) None (Some s)

-- the class of a claimed descriptor
abbrev pub claim_class : ℕ → List Claim → ℕ
claim_class d [] = 0
claim_class d (claim ∷ claims) = cond (nat_eq claim.descriptor d) claim.class (claim_class d claims)

-- the claims without that of the descriptor
abbrev pub without_claim : ℕ → List Claim → List Claim
without_claim d [] = []
without_claim d (claim ∷ claims) = cond (nat_eq claim.descriptor d) claims (claim ∷ without_claim d claims)

-- how many superblocks the large block that begins in d takes; 0 of none
abbrev pub span_count : ℕ → List Span → ℕ
span_count d [] = 0
span_count d (span ∷ spans) = cond (nat_eq span.first d) span.count (span_count d spans)

-- the large blocks without the one that begins in d
abbrev pub without_span : ℕ → List Span → List Span
without_span d [] = []
without_span d (span ∷ spans) = cond (nat_eq span.first d) spans (span ∷ without_span d spans)

-- what is known of a word from now on
abbrev pub learn : List (Option ℕ) → ℕ → ℕ → List (Option ℕ)
learn values word value = set values word (Some value)

-- of the words from an index on, what is known of own words alone
abbrev pub only_own : View → ℕ → List (Option ℕ) → List (Option ℕ)
only_own v index [] = []
only_own v index (value ∷ values) = cond (nat_lt 0 (times_own v (cell_at v.setup.capacity index))) value None ∷ only_own v
    (index + 1) values

-- the view, which knows nothing more of words that are not its own
abbrev pub trimmed : View → View
trimmed v = record v { volatile = only_own v 0 v.volatile; durable = only_own v 0 v.durable }

-- the ticket in hand is used up
abbrev pub used_up : View → View
used_up v = record v { ticket = None }

-- an exchange was won; the ticket is used up
abbrev pub won : View → View
won v = record v { ticket = None; wins = v.wins + 1 }

-- an exchange was lost to the word that it found; the ticket is used up
abbrev pub lost : View → ℕ → View
lost v found = record v { ticket = None; lost_to = found; losses = v.losses + 1 }

-- what was seen of a shared word just now
abbrev pub look : View → ℕ → LastLook
look v word = record { word = word; ticket = v.ticket; wins = v.wins; taken = v.taken }

-- 0 becomes known of the info, the anchor and the link of n descriptors from u on
abbrev pub learn_fresh : List (Option ℕ) → ℕ → ℕ → List (Option ℕ)
learn_fresh values u zero = values
learn_fresh values u (suc n) = learn_fresh (learn (learn (learn values (index_of (info_cell u)) 0) (index_of (anchor_cell u)) 0)
    (index_of (link_cell u)) 0) (u + 1) n

-- the view after n fresh superblocks were taken
abbrev pub taken_fresh : View → ℕ → View
taken_fresh v n = record (won v) {
  raw = v.raw ++ steps (seen v.seen_used) 1 n;
  taken = v.taken + n;
  seen_used = Some (seen v.seen_used + n);
  seen_anchor = cleared (seen v.seen_used) n v.seen_anchor;
  volatile = learn_fresh v.volatile (seen v.seen_used) n;
  durable = learn_fresh v.durable (seen v.seen_used) n;
}

-- a descriptor comes from the list of the free ones, or from that of a class
abbrev pub claimed : View → ℕ → ℕ → View
claimed v d zero = record v { raw = d ∷ v.raw; floor = max v.floor (d + 1) }
claimed v d (suc class) = record v { classed = record { descriptor = d; class = suc class } ∷ v.classed; floor = max v.floor (d + 1) }

-- after descriptor d was popped from a list
abbrev pub popped : View → ℕ → View
popped v d = claimed (record (won v) {
  seen_head = None;
  seen_link = None;
  seen_anchor = cleared d 1 v.seen_anchor;
}) d (seen_of v.seen_head)

-- after descriptor d, claimed without a class, was pushed to a list
abbrev pub pushed_raw : View → ℕ → View
pushed_raw v d = trimmed (record (won v) {
  raw = without d v.raw;
  split = without d v.split;
  seen_head = None;
  seen_anchor = cleared d 1 v.seen_anchor;
})

-- a descriptor of a class that goes to the list of the free ones counts as moved there
abbrev pub pushed_classed : View → ℕ → View
pushed_classed v d = trimmed (record (won v) {
  classed = without_claim d v.classed;
  seen_head = None;
  seen_anchor = cleared d 1 v.seen_anchor;
  moves = cond (nat_eq (seen_of v.seen_head) 0) (v.moves + 1) v.moves;
})

-- after descriptor d was pushed to a list, with a class or without one
abbrev pub pushed : View → ℕ → View
pushed v d = cond (nat_lt 0 (times d v.raw + times d v.split)) (pushed_raw v d) (pushed_classed v d)

-- the blocks that an anchor leads to
abbrev pub anchored_blocks : Memory → ℕ → ℕ → ℕ → ℕ → List ℕ
anchored_blocks m capacity class d word = chain (next m) (start_word capacity d + anchor_first word * words_of_class class)
    (anchor_count word)

-- after all free blocks of superblock d went to the cache
abbrev pub taken_all : Memory → View → ℕ → View
taken_all m v d = trimmed (record (won v) {
  caches = set v.caches (claim_class d v.classed) (anchored_blocks m v.setup.capacity (claim_class d v.classed) d
      (seen_word v.seen_anchor));
  classed = without_claim d v.classed;
  seen_anchor = None;
})

-- where the anchor was full, its descriptor is claimed
abbrev pub given : View → ℕ → View
given v d = trimmed (cond (nat_eq (seen_word v.seen_anchor) full_anchor)
    (claimed (record (won v) { batch = no_batch; seen_anchor = None; gives = v.gives + 1 }) d v.batch.class)
    (record (won v) { batch = no_batch; seen_anchor = None; gives = v.gives + 1 }))

-- the head after a pop
abbrev pub popped_head : View → ℕ
popped_head v = head_of (head_first (seen v.seen_link)) (head_pops (seen_word v.seen_head) + 1)

-- the head after a push of d
abbrev pub pushed_head : View → ℕ → ℕ
pushed_head v d = head_of (d + 1) (head_pops (seen_word v.seen_head))

-- the anchor of a superblock of `all` blocks after n more are free, of which block `first` comes first
abbrev pub given_anchor : ℕ → ℕ → ℕ → ℕ → ℕ
given_anchor word first n all = anchor_of (cond (nat_eq (n + anchor_count word) all) empty_state partial_state) first
    (n + anchor_count word)

-- the anchor of superblock d after the batch was given back to it
abbrev pub batch_anchor : View → ℕ → ℕ
batch_anchor v d = given_anchor (seen_word v.seen_anchor) ((first_of v.batch.blocks - start_word v.setup.capacity d) / words_of_class
    v.batch.class)
    (length v.batch.blocks) (blocks_of v.batch.class)

-- a store to an anchor begins or ends the making of blocks
abbrev pub stored_anchor : View → ℕ → ℕ → View
stored_anchor v d zero = record v { raw = d ∷ without d v.raw; split = without d v.split; cutting = without d v.cutting }
stored_anchor v d (suc n) = record v { raw = without d v.raw; split = without d v.split; cutting = d ∷ without d v.cutting }

-- a store to a block's word ends the link of the batch's last block where it is that link
abbrev pub stored : View → Cell → ℕ → View
stored v (anchor_cell d) value = stored_anchor v d value
stored v (data_cell word) value = record v {
  batch = record v.batch {
    linked =
        cond (nat_eq word (last_of v.batch.blocks)) false v.batch.linked;
  };
}
stored v cell value = v

-- a ticket below the budget is in hand
abbrev pub drew : View → ℕ → View
drew v ticket = record v { draws = v.draws + 1; ticket = Some ticket; last_ticket = Some ticket }

-- at any other ticket the seat stops
abbrev pub stopped : View → ℕ → View
stopped v ticket = record v { draws = v.draws + 1; last_ticket = Some ticket; ticket = None; stopped = Some ticket }

-- the word that the step works on
abbrev pub place_of : View → Event → StepPlace
place_of v (Tick shift) = tickets
place_of v (Load word) = volatile_at (cell_at v.setup.capacity word)
place_of v (Store word value) = volatile_at (cell_at v.setup.capacity word)
place_of v (Settle word) = durable_at (cell_at v.setup.capacity word)
place_of v LookUsed = volatile_at used_cell
place_of v (TakeFresh n) = volatile_at used_cell
place_of v KeepUsed = durable_at used_cell
place_of v (LookHead list) = volatile_at (head_cell list)
place_of v LookLink = volatile_at (link_cell (before (head_first (seen_word v.seen_head))))
place_of v Pop = volatile_at (head_cell (seen_of v.seen_head))
place_of v (Push d) = volatile_at (head_cell (seen_of v.seen_head))
place_of v (LookAnchor d) = volatile_at (anchor_cell d)
place_of v (TakeAll d) = volatile_at (anchor_cell d)
place_of v (Give d) = volatile_at (anchor_cell d)

-- what it leaves there, of what it found
abbrev pub left_there : Memory → View → Event → ℕ → ℕ
left_there m v (Tick shift) found = found + 1
left_there m v (Load word) found = found
left_there m v (Store word value) found = value
left_there m v (Settle word) found = m.volatile (cell_at v.setup.capacity word)
left_there m v LookUsed found = found
left_there m v (TakeFresh n) found = cond (nat_eq found (seen v.seen_used)) (found + n) found
left_there m v KeepUsed found = max found (seen v.seen_used)
left_there m v (LookHead list) found = found
left_there m v LookLink found = found
left_there m v Pop found = cond (nat_eq found (seen_word v.seen_head)) (popped_head v) found
left_there m v (Push d) found = cond (nat_eq found (seen_word v.seen_head)) (pushed_head v d) found
left_there m v (LookAnchor d) found = found
left_there m v (TakeAll d) found = cond (nat_eq found (seen_word v.seen_anchor)) full_anchor found
left_there m v (Give d) found = cond (nat_eq found (seen_word v.seen_anchor)) (batch_anchor v d) found
