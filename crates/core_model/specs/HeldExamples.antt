-- Worked examples of blocks: allocated, freed, lifted and cut, given to another seat, held and opened.
use Rattle.std.specs.Prelude.{◌≡◌, Bool, true, false, [], ◌∷◌, ◌++◌, replicate, None, Some, refl, get_or, set}
use Rattle.heap_model.specs.Geometry.{image_words}
use Rattle.heap_model.specs.Sizes.{class_sizes, words_of_class, blocks_of}
use Rattle.core_model.specs.declared.event.Event.TheVariants.{Tick, Store}
use Rattle.core_model.specs.declared.event.Shift.TheVariants.{Cut, Alloc, Free, Lift}
use Rattle.core_model.specs.Cells.{info_cell, root_cell, data_cell, cell_at}
use Rattle.core_model.specs.Memory.{Memory, write, volatile_at}
use Rattle.core_model.specs.View.{View, times_own, times_held, times_free, of_class}
use Rattle.core_model.specs.ViewAfter.{view_after}
use Rattle.core_model.specs.Splitting.{Choice, remaining, given_off}
use Rattle.core_model.specs.Opening.{setup_of, opened_view}
use Rattle.core_model.specs.Held.{volatile_image, durable_image}
use Rattle.core_model.specs.Examples.{idle, memory, setup, unread}
use Rattle.core_model.specs.ExchangeExamples.{everything, with_root, knowing, batched}

-- a block is held, freed, and put behind the batch
abbrev pub cached : View
cached = record idle { caches = set (replicate 21 []) 20 (1080 ∷ 2872 ∷ []) }

pub allocates : of_class (view_after memory cached (Tick (Some (Alloc 20))) 4).small 20 ≡ 1080 ∷ []
allocates = refl

pub leaves_one : of_class (view_after memory cached (Tick (Some (Alloc 20))) 4).caches 20 ≡ 2872 ∷ []
leaves_one = refl

pub lifts : (view_after memory cached (Tick (Some (Lift 20))) 4).batch.blocks ≡ 1080 ∷ []
lifts = refl

pub lifts_from : (view_after memory cached (Tick (Some (Lift 20))) 4).batch.descriptor ≡ 0
lifts_from = refl

pub lifts_linked : (view_after memory cached (Tick (Some (Lift 20))) 4).batch.linked ≡ true
lifts_linked = refl

-- a store to the first word of the batch's last block ends its link, and one to another block's does not
abbrev pub behind : Bool → View
behind linked = record cached {
  batch = record { descriptor = 0; class = 20; blocks = 4664 ∷ 6456 ∷ []; linked = linked };
  volatile = replicate 18488 None;
}

-- the last block's first word leads to the first cached block
abbrev pub leading : Memory
leading = write memory (volatile_at (data_cell 6456)) 1080

pub stores_to_last : (view_after memory (behind true) (Store 6456 7) 0).batch.linked ≡ false
stores_to_last = refl

pub stores_before_last : (view_after memory (behind true) (Store 4664 7) 0).batch.linked ≡ true
stores_before_last = refl

-- superblock 1 is of class 20
abbrev pub of_20 : Memory
of_20 = write memory (volatile_at (info_cell 1)) 20

-- it holds block 0 of superblock 1
abbrev pub holding : View
holding = record idle { small = set (replicate 21 []) 20 (9272 ∷ []) }

pub frees : of_class (view_after of_20 holding (Tick (Some (Free 9272))) 4).caches 20 ≡ 9272 ∷ []
frees = refl

pub cuts : of_class (view_after of_20 (record idle { cutting = 1 ∷ [] }) (Tick (Some (Cut 1))) 4).caches 20
    ≡ 9272 ∷ 11064 ∷ 12856 ∷ 14648 ∷ []
unfolding words_of_class class_sizes blocks_of
cuts = refl

pub counts_cut : (view_after of_20 (record idle { cutting = 1 ∷ [] }) (Tick (Some (Cut 1))) 4).cuts ≡ 1
counts_cut = refl

-- a seat that is split off has the roots that go, and knows its own words; the others stay
abbrev nothing : Choice
nothing = record { blocks = λ b. false; spans = λ d. false; roots = λ i. false; carries = 0 }

pub new_seat_has : (given_off everything with_root).roots ≡ 1 ∷ []
new_seat_has = refl

pub new_seat_has_none : (given_off nothing with_root).roots ≡ []
new_seat_has_none = refl

pub gone : (remaining everything with_root).roots ≡ []
gone = refl

pub stays : (remaining nothing with_root).roots ≡ 1 ∷ []
stays = refl

pub new_seat_knows_words : get_or (given_off everything knowing).volatile 41 None ≡ Some 5
new_seat_knows_words = refl

-- the words of held blocks, of cached ones and of the batch are own words, and those of large blocks
abbrev pub large : View
large = record idle { large = record { first = 1; count = 1 } ∷ [] }

pub owns_held : times_own holding (cell_at 2 9272) ≡ 1
unfolding words_of_class class_sizes
owns_held = refl

pub owns_cached : times_own cached (cell_at 2 1080) ≡ 1
unfolding words_of_class class_sizes
owns_cached = refl

pub owns_batched : times_own batched (cell_at 2 1080) ≡ 1
unfolding words_of_class class_sizes
owns_batched = refl

pub owns_large : times_own large (cell_at 2 9272) ≡ 1
unfolding words_of_class class_sizes
owns_large = refl

-- of these only the held ones' are held, and only the others are free
pub held_small : times_held holding (data_cell 9272) ≡ 1
unfolding words_of_class class_sizes
held_small = refl

pub held_large : times_held large (data_cell 9272) ≡ 1
unfolding words_of_class class_sizes
held_large = refl

pub held_root : times_held with_root (root_cell 1) ≡ 1
held_root = refl

pub cached_not_held : times_held cached (data_cell 1080) ≡ 0
unfolding words_of_class class_sizes
cached_not_held = refl

pub free_cached : times_free cached 1080 ≡ 1
unfolding words_of_class class_sizes
free_cached = refl

pub free_batched : times_free batched 1080 ≡ 1
unfolding words_of_class class_sizes
free_batched = refl

pub held_not_free : times_free holding 9272 ≡ 0
unfolding words_of_class class_sizes
held_not_free = refl

-- a heap is opened with the budget and for the seats that are asked for; a seat then knows its own words, and has looked at each head
abbrev pub opened : View
opened = opened_view (record setup { opened = replicate 50 5 }) [] [] (1 ∷ 0 ∷ []) 0

pub opened_budget : (setup_of [] 7 3).budget ≡ 7
opened_budget = refl

pub opened_seats : (setup_of [] 7 3).seats ≡ 3
opened_seats = refl

pub opened_known : get_or opened.volatile 41 None ≡ Some 5
opened_known = refl

pub opened_durable : get_or opened.durable 41 None ≡ Some 5
opened_durable = refl

pub opened_unknown : get_or opened.volatile 40 None ≡ None
opened_unknown = refl

pub opened_look : get_or opened.head_looks 20 unread ≡ record { word = 5; ticket = None; wins = 0; taken = 0 }
opened_look = refl

-- the volatile words come first in the table, and then the durable ones
pub reads_volatile : volatile_image 0 (replicate (image_words 0) 6 ++ replicate 9 7) 8 ≡ 6
reads_volatile = refl

pub reads_durable : durable_image 0 (replicate (image_words 0) 6 ++ replicate 9 7) 8 ≡ 7
reads_durable = refl
