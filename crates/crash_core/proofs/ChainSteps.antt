-- Chains of blocks as the core reads them, and what it keeps once the blocks of a chain are in a cache.
use Rattle.std.proofs.Common.{◌≡◌, ◌≢◌, ℕ, ◌+◌, ◌<◌, ◌≤◌, List, [], ◌∷◌, get_or, set, length, refl, ap, sym, le-leb, lt-ltb, arith}
use Rattle.heap_model.specs.Chains.{Walks}
use Rattle.heap_model.specs.Geometry.{lists, start_word, superblocks_end}
use Rattle.heap_model.specs.Sizes.{IsClass}
use Rattle.heap_model.specs.Counting.{times, total}
use Rattle.crash_core.specs.declared.owners.BlockPlace.TheVariants as place
use Rattle.crash_core.specs.declared.owners.BlockOwner.{BlockOwner}
use Rattle.seat_state.specs.declared.notes.SeatNotes.{SeatNotes}
use Rattle.crash_core.specs.declared.state.CoreState.{CoreState}
use Rattle.core_model.specs.Cells.{data_cell}
use Rattle.core_model.specs.Memory.{volatile_at, next}
use Rattle.core_model.specs.View.{Setup, View, of_class, times_block}
use Rattle.core_model.specs.Effects.{chain, first_of}
use Rattle.core_model.specs.Sound.{IsCutBlock}
use Rattle.crash_core.specs.Standing.{IsAmong, IsSeatAt, place_for, no_block, IsPlace, HasBlocksOf, HasNewOwner, IsKept, KeepsViews}
use Rattle.seat_state.specs.Notes.{HasCaches}
use Rattle.core_model.proofs.TotalLemmas.{total_at}
use Rattle.core_model.proofs.PlaceLemmas.{and_is}
use Rattle.core_model.proofs.BlockLemmas.{walks_chain, total_lists}
use Rattle.crash_core.proofs.StandingLemmas.{among_most, memory_in}
use Rattle.seat_state.proofs.CacheLemmas.{cache_set}
use Rattle.crash_core.proofs.BlockPlaces.{no_place}
use Rattle.crash_core.proofs.GivenLemmas.{given_mine, given_theirs, walks_other}
use Rattle.seat_state.proofs.WordLemmas.{read_is}
use Rattle.seat_state.proofs.BlockRanges.{cut_range}

pub none_of : {A : Type 0} (xs : List A) → length xs ≡ 0 → xs ≡ []
none_of [] none = refl
none_of (x ∷ xs) none = absurd (omega arith)

pub walk_first : (f : ℕ → ℕ) (from : ℕ) (xs : List ℕ) → length xs ≢ 0 → Walks f from xs → first_of xs ≡ from
walk_first f from [] some walks = absurd (some refl)
walk_first f from (x ∷ xs) some walks = sym walks.0

module _ (c : CoreState) (k : Setup) (views : List View) (keeps : KeepsViews c k views) where
  -- the first word of a block, as it stands in the table
  pub raw_next : (b : ℕ) → start_word k.capacity 0 ≤ b → b < superblocks_end k.capacity → next (memory_in c k) b ≡ get_or c.words.items b 0
  raw_next b from until = read_is k.capacity c.words.items (volatile_at (data_cell b))
      (and_is _ _ (le-leb (start_word k.capacity 0) b from) (lt-ltb b (superblocks_end k.capacity) until))

  -- blocks of a cut superblock that are linked are the chain that the table leads along
  pub chain_is : (class d from : ℕ) (bs : List ℕ) → IsClass class → d < k.capacity
      → ((b : ℕ) → 0 < times b bs → IsCutBlock k.capacity class d b) → Walks (next (memory_in c k)) from bs
      → chain (λ n. get_or c.words.items n 0) from (length bs) ≡ bs
  chain_is class d from bs is less cut walks = walks_chain (λ n. get_or c.words.items n 0) from bs
      (walks_other (next (memory_in c k)) (λ n. get_or c.words.items n 0) from bs
      (λ b some. let r = cut_range k.capacity class d b is less (cut b some) in raw_next b r.0 r.1) walks)

  pub block_fits : (class d b : ℕ) → IsClass class → d < k.capacity → IsCutBlock k.capacity class d b → (b < length c.blocks.items)
      × (b < length c.words.items)
  block_fits class d b is less cut = let r = (cut_range k.capacity class d b is less cut).1 in let n = keeps.blocks in
      let l = keeps.sound.long in (omega arith, omega arith)

-- blocks that were nobody's come into an empty cache
module _ (c : CoreState) (k : Setup) (views : List View) (i : ℕ) (v : View) (t : SeatNotes) (keeps : KeepsViews c k views)
    (below : i < length views) (at : get_or views i v ≡ v)
    (at_t : IsSeatAt c i t) (class : ℕ) (less : class < lists) (bs : List ℕ) (empty : of_class v.caches class ≡ [])
    (free : (b : ℕ) → 0 < times b bs → (times b bs ≡ 1) × (total (times_block b) views ≡ 0)) where
  kept : IsKept c i t v
  kept = keeps.each i t v below at_t at

  long_caches : class < length v.caches
  long_caches = let s = (keeps.sound.good.set_up i v below at).caches in let l = less in omega arith

  pub caches_given : (first count : ℕ) → first_of bs ≡ first → length bs ≡ count
      → HasCaches (set t.caches class (record { first = first; count = count })) (set v.caches class bs)
  caches_given first count first_is count_is = cache_set t.caches v.caches class bs
      (record { first = first; count = count }) kept.caches less long_caches (λ some. first_is) count_is

  cached_more : (b : ℕ) → total (times b) (set v.caches class bs) ≡ total (times b) v.caches + times b bs
  cached_more b = let l = total_lists b v.caches class bs long_caches in let none = ap (times b) empty in omega arith

  pub blocks_given : (owners : List BlockOwner) → HasNewOwner c.blocks.items owners bs (record { seat = i; place = place.Cached })
      → HasBlocksOf owners i v.small (set v.caches class bs) v.batch.blocks
  blocks_given owners given = given_mine c.blocks.items owners i bs place.Cached
      (λ b p. IsPlace b p v.small (set v.caches class bs) v.batch.blocks) given
      (λ b some. let f = free b some in let one = f.0 in let nobody = f.1 in let mine = total_at (times_block b) views i v below at in
      let more = cached_more b in record { held = omega arith; cached = omega arith; batched = omega arith })
      (λ b none. let o = kept.blocks b in let more = cached_more b in
      record { held = o.held; cached = (let h = o.cached in omega arith); batched = o.batched })

  pub blocks_theirs : (owners : List BlockOwner) → HasNewOwner c.blocks.items owners bs (record { seat = i; place = place.Cached })
      → (j : ℕ) (s : SeatNotes) (u : View) → j ≢ i → IsAmong views j u → IsKept c j s u → HasBlocksOf owners j u.small u.caches u.batch.blocks
  blocks_theirs owners given j s u other most h = given_theirs c.blocks.items owners i j bs place.Cached
      (λ b p. IsPlace b p u.small u.caches u.batch.blocks) other given
      (λ b some. no_place b (place_for j (get_or c.blocks.items b no_block)) u.small u.caches u.batch.blocks (h.blocks b)
      (let nobody = (free b some).1 in let theirs = among_most (times_block b) views j u most (λ none. none.blocks b) in omega arith))
      h.blocks
