-- What a change of what is the seat's makes of its notes, and which change fits a shift; what a lost exchange leaves noted.
use Rattle.std.specs.Prelude.{◌≡◌, ℕ, ◌+◌, ◌-◌, ◌<◌, ◌≤◌, ⊤, true, cond, nat_eq, List, get_or, set, length, Option, None}
use Rattle.heap_model.specs.Geometry.{lists, start_word, superblock_of}
use Rattle.heap_model.specs.Sizes.{blocks_of}
use Rattle.core_model.specs.declared.event.Event.{Event}
use Rattle.core_model.specs.declared.event.Event.TheVariants.{TakeFresh, Pop, Push, TakeAll, Give}
use Rattle.core_model.specs.declared.event.Shift.{Shift}
use Rattle.core_model.specs.Memory.{memory_of}
use Rattle.core_model.specs.View.{View}
use Rattle.core_model.specs.Effects.{cleared, drew}
use Rattle.core_model.specs.ViewAfter.{shifted}
use Rattle.seat_state.specs.declared.notes.Cache.{Cache}
use Rattle.seat_state.specs.declared.notes.SeatNotes.{SeatNotes}
use Rattle.seat_state.specs.Notes.{snapshot}
use Rattle.seat_index.specs.declared.owned.Change.{Change}
use Rattle.seat_index.specs.declared.owned.Owned.{Owned}
use Rattle.seat_index.specs.Owned.{HasOwned, parts_of}
use Rattle.heap_rule.specs.Seated.{IsKeptOf, FitsShift}
use Rattle.heap_table.specs.Plays.{HasSoundState}
use Rattle.seat_index.specs.Changed.{CanChange, IsChanged}
use Rattle.seat_index.specs.declared.owned.Change.TheVariants as change

-- what a lost exchange leaves noted: nothing of the word that it was to change
abbrev pub forgotten : Event → SeatNotes → SeatNotes
forgotten Pop t = record t { seen_head = None }
forgotten (Push d) t = record t { seen_head = None }
forgotten (TakeAll d) t = record t { seen_anchor = None }
forgotten (Give d) t = record t { seen_anchor = None }
forgotten (TakeFresh n) t = record t { seen_used = None }
forgotten event t = t

-- what is noted of the cache of a class; of no class, an empty one
abbrev pub cache_of : List Cache → ℕ → Cache
cache_of caches class = get_or caches class (record { first = 0; count = 0 })

-- the class has a cache, and a block in it
pub record CanUncache (n : SeatNotes) (class : ℕ) : Type 0 where
  pub below : class < length n.caches
  pub few : length n.caches ≤ lists
  pub some : 1 ≤ (cache_of n.caches class).count

-- the class has a cache, with room for one more in its count
pub record CanCache (n : SeatNotes) (class : ℕ) : Type 0 where
  pub below : class < length n.caches
  pub few : length n.caches ≤ lists
  pub fits : (cache_of n.caches class).count + 1 < 18446744073709551616

-- the cache has a block, the batch counts one more, and the block lies in a superblock
pub record CanNoteLift (n : SeatNotes) (capacity class block : ℕ) : Type 0 where
  pub cached : CanUncache n class
  pub fits : n.batch.count + 1 < 18446744073709551616
  pub above : start_word capacity 0 ≤ block

-- the class has a cache, and the superblock is one of the image
pub record CanNoteCut (n : SeatNotes) (capacity d class : ℕ) : Type 0 where
  pub cache : class < length n.caches
  pub below : d < capacity

-- when a change may be noted
abbrev pub CanNote : Change → ℕ → SeatNotes → Type 0
CanNote (change.Allocated class first) capacity n = CanUncache n class
CanNote (change.Freed class block) capacity n = CanCache n class
CanNote (change.Lifted class block first) capacity n = CanNoteLift n capacity class block
CanNote (change.Cut d class) capacity n = CanNoteCut n capacity d class.number
CanNote (change.Large d count) capacity n = ⊤
CanNote (change.Split d count) capacity n = ⊤

-- the caches once the first block of one is gone, and another comes first there
abbrev pub uncached : List Cache → ℕ → ℕ → List Cache
uncached caches class first = set caches class (record { first = first; count = (cache_of caches class).count - 1 })

-- the first block of the cache is gone, and all else stays
abbrev pub IsUncached : SeatNotes → SeatNotes → ℕ → ℕ → Type 0
IsUncached n n' class first = n' ≡ record n { caches = uncached n.caches class first }

-- the caches stand so, and the look at an anchor goes, where it is of one of so many superblocks
pub record IsCleared (n n' : SeatNotes) (caches : List Cache) (d count : ℕ) : Type 0 where
  pub others : n' ≡ record n { caches = caches; seen_anchor = n'.seen_anchor }
  pub look : snapshot n'.seen_anchor ≡ cleared d count (snapshot n.seen_anchor)

-- what a change leaves noted
abbrev pub IsNoted : Change → ℕ → SeatNotes → SeatNotes → Type 0
IsNoted (change.Allocated class first) capacity n n' = IsUncached n n' class first
IsNoted (change.Freed class block) capacity n n' = n' ≡ record n {
  caches =
      set n.caches class (record { first = block; count = (cache_of n.caches class).count + 1 });
}
IsNoted (change.Lifted class block first) capacity n n' = n' ≡ record n {
  caches = uncached n.caches class first;
  batch = record {
    descriptor = superblock_of capacity block;
    class = class;
    first = cond (nat_eq n.batch.count 0) block n.batch.first;
    last = block;
    count = n.batch.count + 1;
    linked = true;
  };
}
IsNoted (change.Cut d class) capacity n n' = IsCleared n n' (set n.caches class.number
    (record { first = start_word capacity d; count = blocks_of class.number })) d 1
IsNoted (change.Large d count) capacity n n' = IsCleared n n' n.caches d count
IsNoted (change.Split d count) capacity n n' = IsCleared n n' n.caches d count

-- in each state that has the view, the change may be done, and then what is kept is that of the view after a draw with the shift
abbrev pub FitsChange : Change → View → Option Shift → Type 0
FitsChange c v shift = (s : HasSoundState v) (o : Owned) → HasOwned o (parts_of v)
    → CanChange c v.setup.capacity o × ((found : ℕ) (o' : Owned)
    → IsChanged c v.setup.capacity o o' → HasOwned o' (parts_of (shifted (memory_of v.setup.capacity s.words) (drew v found) shift)))

-- the change may be noted, and then the notes are those of the view after a draw with the shift
abbrev pub FitsNotes : Change → View → Option Shift → Type 0
FitsNotes c v shift = (n : SeatNotes) → IsKeptOf n v → CanNote c v.setup.capacity n
    × ((n' : SeatNotes) → IsNoted c v.setup.capacity n n' → FitsShift n' v shift)
