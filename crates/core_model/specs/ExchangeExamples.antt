-- Worked examples of pops, pushes and gives, of splits, and of words that a seat knows.
use Rattle.std.specs.Prelude.{◌≡◌, ℕ, ◌+◌, true, [], ◌∷◌, replicate, None, Some, refl, get_or}
use Rattle.heap_model.specs.Sizes.{class_sizes, words_of_class, blocks_of}
use Rattle.core_model.specs.declared.event.Event.TheVariants.{Tick, Load, Store, Settle, LookHead, LookLink, Pop, Push, LookAnchor, TakeAll, Give}
use Rattle.core_model.specs.declared.event.Shift.TheVariants.{Large, Split}
use Rattle.core_model.specs.Cells.{link_cell, cell_at}
use Rattle.core_model.specs.View.{View, times_own, of_class}
use Rattle.core_model.specs.Effects.{left_there, chain, steps}
use Rattle.core_model.specs.ViewAfter.{view_after}
use Rattle.core_model.specs.Splitting.{Choice, given_off}
use Rattle.core_model.specs.Steps.{seat_after}
use Rattle.core_model.specs.Examples.{idle, memory}

-- a pop counts, and the descriptor is claimed; with an old head it is lost
abbrev pub saw_head : ℕ → View
saw_head word = record idle { seen_head = Some (record { of = 0; word = word }); seen_link = Some 0 }

pub pops : left_there memory (saw_head 16777217) Pop 16777217 ≡ 33554432
pops = refl

pub has_popped : (seat_after memory (saw_head 16777217) Pop).raw ≡ 0 ∷ []
has_popped = refl

pub knows_popped : (seat_after memory (record (saw_head 16777217) { floor = 0 }) Pop).floor ≡ 1
knows_popped = refl

pub forgets_link : (seat_after memory (saw_head 16777217) Pop).seen_link ≡ None
forgets_link = refl

pub forgets_lost_head : (seat_after memory (saw_head 1) Pop).seen_head ≡ None
forgets_lost_head = refl

pub looks_at_new_head : (seat_after memory (saw_head 1) (LookHead 0)).seen_link ≡ None
looks_at_new_head = refl

pub loses_pop : (seat_after memory (saw_head 1) Pop).raw ≡ []
loses_pop = refl

pub pushes : left_there memory (record (saw_head 33554432) { raw = 0 ∷ [] }) (Push 0) 33554432 ≡ 33554433
pushes = refl

pub has_pushed : (view_after memory (record (saw_head 33554432) { raw = 0 ∷ [] }) (Push 0) 33554432).raw ≡ []
has_pushed = refl

-- a pop and a push that are lost are counted, with the word that was found
pub counts_lost_pop : (seat_after memory (saw_head 1) Pop).losses ≡ 1
counts_lost_pop = refl

pub pop_lost_to : (seat_after memory (saw_head 1) Pop).lost_to ≡ 16777217
pop_lost_to = refl

pub counts_lost_push : (seat_after memory (record (saw_head 1) { raw = 0 ∷ [] }) (Push 0)).losses ≡ 1
counts_lost_push = refl

pub push_lost_to : (seat_after memory (record (saw_head 1) { raw = 0 ∷ [] }) (Push 0)).lost_to ≡ 16777217
push_lost_to = refl

-- behind a push own words are known as before, and no others
abbrev pub knowing : View
knowing = record (saw_head 16777217) {
  raw = 0 ∷ [];
  roots = 1 ∷ [];
  volatile = replicate 50 (Some 5);
  durable = replicate 50 (Some 6);
}

pub still_known : get_or (seat_after memory knowing (Push 0)).volatile 41 None ≡ Some 5
still_known = refl

pub still_durable : get_or (seat_after memory knowing (Push 0)).durable 41 None ≡ Some 6
still_durable = refl

pub known_no_more : get_or (seat_after memory knowing (Push 0)).volatile 42 None ≡ None
known_no_more = refl

-- a descriptor of a class counts as moved where it goes to the list of the free ones; not in its class's list, nor one without a class
abbrev pub claims_20 : ℕ → View
claims_20 list = record idle {
  classed = record { descriptor = 0; class = 20 } ∷ [];
  seen_head = Some (record { of = list; word = 33554432 });
}

pub moves : (view_after memory (claims_20 0) (Push 0) 33554432).moves ≡ 1
moves = refl

pub moves_to_its_class : (view_after memory (claims_20 20) (Push 0) 33554432).moves ≡ 0
moves_to_its_class = refl

pub moves_raw : (view_after memory (record (saw_head 33554432) { raw = 0 ∷ [] }) (Push 0) 33554432).moves ≡ 0
moves_raw = refl

-- its link, info and anchor, and its words, are own words of a claimed superblock without a class
pub owns_link : times_own (record idle { raw = 1 ∷ [] }) (link_cell 1) ≡ 1
owns_link = refl

pub owns_words : times_own (record idle { raw = 1 ∷ [] }) (cell_at 2 9272) ≡ 1
owns_words = refl

pub owns_no_other : times_own (record idle { raw = 1 ∷ [] }) (cell_at 2 1080) ≡ 0
owns_no_other = refl

-- full in the anchor begins the making of blocks, 0 ends it
pub begins_cut : (view_after memory (record idle { raw = 0 ∷ [] }) (Store 1065 2) 0).cutting ≡ 0 ∷ []
begins_cut = refl

pub ends_cut : (view_after memory (record idle { cutting = 0 ∷ [] }) (Store 1065 0) 2).raw ≡ 0 ∷ []
ends_cut = refl

-- the batch of two blocks of class 20 goes back to a full superblock, which is then claimed
abbrev pub batched : View
batched = record idle {
  batch = record { descriptor = 0; class = 20; blocks = 2872 ∷ 1080 ∷ []; linked = true };
  seen_anchor = Some (record { of = 0; word = 2 });
}

pub gives : left_there memory batched (Give 0) 2 ≡ 17179869189
unfolding words_of_class class_sizes blocks_of
gives = refl

pub has_given : (view_after memory batched (Give 0) 2).classed ≡ record { descriptor = 0; class = 20 } ∷ []
has_given = refl

pub counts_give : (view_after memory batched (Give 0) 2).gives ≡ 1
counts_give = refl

pub knows_given : (view_after memory (record batched { floor = 0 }) (Give 0) 2).floor ≡ 1
knows_given = refl

pub counts_give_behind : (view_after memory (record batched { seen_anchor = Some (record { of = 0; word = 17179869185 }) })
    (Give 0) 17179869185).gives ≡ 1
counts_give_behind = refl

pub counts_lost_give : (view_after memory batched (Give 0) 5).losses ≡ 1
counts_lost_give = refl

pub give_lost_to : (view_after memory batched (Give 0) 5).lost_to ≡ 5
give_lost_to = refl

-- four words apart, and so many along the links
pub three_steps : steps 8 4 3 ≡ 8 ∷ 12 ∷ 16 ∷ []
three_steps = refl

pub two_along : chain (λ word. word + word) 5 2 ≡ 5 ∷ 10 ∷ []
two_along = refl

-- a large block of one superblock, and its split
pub holds_large : (view_after memory (record idle { raw = 0 ∷ 1 ∷ [] }) (Tick (Some (Large 1 1))) 4).large ≡ record {
  first = 1;
  count = 1;
} ∷ []
holds_large = refl

pub splits : (view_after memory (record idle { large = record { first = 1; count = 1 } ∷ [] }) (Tick (Some (Split 9272))) 4).split ≡ 1 ∷ []
splits = refl

pub knows_split : (view_after memory (record idle { large = record { first = 1; count = 1 } ∷ [] }) (Tick (Some (Split 9272))) 4).floor ≡ 2
knows_split = refl

pub split_forgets : (view_after memory (record idle { large = record { first = 1; count = 1 } ∷ []; seen_anchor = Some (record { of = 1; word = 2 }) })
    (Tick (Some (Split 9272))) 4).seen_anchor ≡ None
split_forgets = refl

-- a seat that is split off knows the same durable mark
abbrev pub everything : Choice
everything = record { blocks = λ b. true; spans = λ d. true; roots = λ i. true; carries = 0 }

pub new_seat_knows : (given_off everything idle).floor ≡ 1
new_seat_knows = refl

-- what a load, a store and a settling tell of a root
abbrev pub with_root : View
with_root = record idle { roots = 1 ∷ []; volatile = replicate 50 None; durable = replicate 50 None }

pub loads : get_or (seat_after memory with_root (Load 41)).volatile 41 None ≡ Some 0
loads = refl

pub stores : get_or (seat_after memory with_root (Store 41 7)).volatile 41 None ≡ Some 7
stores = refl

pub settles : get_or (seat_after memory with_root (Settle 41)).durable 41 None ≡ Some 0
settles = refl

pub used_up_at_load : (seat_after memory with_root (Load 41)).ticket ≡ None
used_up_at_load = refl

pub used_up_at_store : (seat_after memory with_root (Store 41 7)).ticket ≡ None
used_up_at_store = refl

pub settles_without : (seat_after memory with_root (Settle 41)).ticket ≡ Some 3
settles_without = refl

pub owns_root : times_own with_root (cell_at 2 41) ≡ 1
owns_root = refl

-- looks at a link and at an anchor
pub looks_at_link : (seat_after memory (saw_head 16777217) LookLink).seen_link ≡ Some 0
looks_at_link = refl

pub used_up_at_link : (seat_after memory (saw_head 16777217) LookLink).ticket ≡ None
used_up_at_link = refl

pub used_up_at_anchor : (seat_after memory (record idle { raw = 0 ∷ [] }) (LookAnchor 0)).ticket ≡ None
used_up_at_anchor = refl

pub looks_at_anchor : (seat_after memory (record idle { raw = 0 ∷ [] }) (LookAnchor 0)).seen_anchor ≡ Some (record { of = 0; word = 0 })
looks_at_anchor = refl

-- two blocks of a partial superblock go to the cache of its class; the second one's link was never written
abbrev pub partial : View
partial = record idle { classed = record { descriptor = 0; class = 20 } ∷ []; seen_anchor = Some (record { of = 0; word = 17179869185 }) }

pub takes_all : left_there memory partial (TakeAll 0) 17179869185 ≡ 2
takes_all = refl

pub has_all : of_class (view_after memory partial (TakeAll 0) 17179869185).caches 20 ≡ 1080 ∷ 0 ∷ []
unfolding words_of_class class_sizes
has_all = refl

pub is_done_with : (view_after memory partial (TakeAll 0) 17179869185).classed ≡ []
is_done_with = refl

pub loses_all : (view_after memory partial (TakeAll 0) 2).losses ≡ 1
loses_all = refl

pub take_all_lost_to : (view_after memory partial (TakeAll 0) 2).lost_to ≡ 2
take_all_lost_to = refl
