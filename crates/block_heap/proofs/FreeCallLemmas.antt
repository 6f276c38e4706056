-- What a free leaves of a heap for one thread.
use Rattle.std.proofs.Common.{◌≡◌, ℕ, Option, None, Some, Result, Ok, Err, OnOk, IfErr, refl, ap, sym, subst, ◌∙◌}
use Rattle.heap_model.specs.declared.block.Block.{Block}
use Rattle.heap_model.specs.Blocks.{IsIn}
use Rattle.heap_shape.specs.Moves.{TakesFrom}
use Rattle.line_memory.specs.declared.memory.Stopped.{Stopped}
use Rattle.block_heap.specs.Accounts.{AreAccounted}
use Rattle.heap_seat.specs.Free.{MayHaveFreed, Frees}
use Rattle.block_heap.specs.Medium.{RunsWithin, StopsWithin}
use Rattle.block_heap.specs.Parts.{Parts, held_in}
use Rattle.block_heap.specs.Running.{IsRunning, CachesAreShort, LeavesHeld}
use Rattle.block_heap.specs.AllocatorWords.{IsAllocatorWord, IsStable, IsLasting}
use Rattle.block_heap.specs.SeqState.{SeqState, IsSeqHeap, all_roots, seat_of}
use Rattle.heap_seat.specs.Words.{IsOwn, in_block, in_root}
use Rattle.block_heap.proofs.RequestLemmas.{large_lasts, large_view, word_kept, pending_kept}
use Rattle.block_heap.proofs.StableLemmas.{not_own, stable_kept, stable_fewer}
use Rattle.block_heap.specs.Draws.{most_free_draws}

-- held blocks are stable after a free
pub free_stable : (p q : Parts) (b : Block) → IsStable p.capacity p.words (held_in p) → TakesFrom b (held_in p) (held_in q) → LeavesHeld (held_in q) p q
    → IsStable q.capacity q.words (held_in q)
free_stable p q b stable takes leaves_held =
    subst (λ n. IsStable n q.words (held_in q)) (sym leaves_held.capacity)
    (stable_kept p.capacity (held_in q) p.words q.words (stable_fewer p.capacity (held_in p) (held_in q) p.words takes.only stable)
    leaves_held.as_allocator)

-- what lasts over a free
pub free_lasts : (r : Result Unit Stopped) (p q : Parts) (b : Block) (old o : Option ℕ) → IsLasting p.capacity p.words (held_in p) old
    → TakesFrom b (held_in p) (held_in q) → LeavesHeld (held_in q) p q
    → OnOk r (o ≡ None) → IfErr r (λ e. o ≡ Some e.step) → IfErr r (λ e. StopsWithin e.step most_free_draws p.words q.words)
    → IsLasting q.capacity q.words (held_in q) o
free_lasts r p q b old o lasts takes leaves_held none stops stops_within =
    large_lasts r p q (held_in q) most_free_draws old o lasts leaves_held (free_stable p q b lasts.stable takes leaves_held) none stops stops_within

-- the parts after a free that was done
pub free_runs : (r : Result Unit Stopped) (p q : Parts) → AreAccounted p → OnOk r (IsRunning q) → OnOk r (CachesAreShort q 0)
    → OnOk r (AreAccounted p → AreAccounted q) → OnOk r (IsRunning q × CachesAreShort q 0 × AreAccounted q)
free_runs (Ok t) p q before run short accounted = (run, short, accounted before)
free_runs (Err e) p q before run short accounted = tt

module _ (s : SeqState) (q : Parts) (o : Option ℕ) (b : Block) (heap : IsSeqHeap s)
    (takes : TakesFrom b (held_in s.parts) (held_in q)) (leaves_held : LeavesHeld (held_in q) s.parts q) where
  -- an own word outside the block is own after it
  still_own : (word : ℕ) → (IsIn b word → ⊥) → IsOwn (held_in s.parts) all_roots word → IsOwn (held_in q) all_roots word
  still_own _ out (in_block a word holds in_a) = in_block a word (takes.keeps a holds (λ e. out (subst (λ x. IsIn x word) e in_a))) in_a
  still_own _ out (in_root i word p same) = in_root i word p same

  -- so it isn't stored to
  not_stored : (word : ℕ) → IsOwn (held_in s.parts) all_roots word → (IsIn b word → ⊥) → IsAllocatorWord s.parts.capacity (held_in q) word → ⊥
  not_stored word own out may =
      not_own s.parts.capacity (held_in q) s.parts.words word heap.lasts.small
      (stable_fewer s.parts.capacity (held_in s.parts) (held_in q) s.parts.words takes.only heap.lasts.stable) may (still_own word out own)

  -- what a free leaves at each exit
  pub may_free : (seen : SeqState) → s ≡ seen → MayHaveFreed b (seat_of seen) (large_view s q o)
  may_free seen same = subst (λ t. MayHaveFreed b (seat_of t) (large_view s q o)) same (record {
    only = takes.only;
    keeps = takes.keeps;
    roots = refl;
    words = λ word own out. word_kept s q o (IsAllocatorWord s.parts.capacity (held_in q)) word leaves_held.as_allocator.stores
        (not_stored word own out);
    refusals = record { count = refl; bytes = refl; looks = refl };
  })

  -- and where it was done
  pub frees : (r : Result Unit Stopped) (seen : SeqState) (most : ℕ) → s ≡ seen → seen.stopped ≡ None → OnOk r (o ≡ None)
      → OnOk r (RunsWithin most s.parts.words q.words) → OnOk r (Frees b (seat_of seen) (large_view s q o))
  frees (Ok t) seen most same ran runs runs_within = subst (λ t. Frees b (seat_of t) (large_view s q o)) same (record {
    runs = record { ran = ap (λ (t : SeqState). t.stopped) same ∙ ran; running = runs; drew = runs_within.drew; below = runs_within.below };
    gone = takes.gone;
    pending = λ word own out. pending_kept s q o (IsAllocatorWord s.parts.capacity (held_in q)) word leaves_held.as_allocator.stores
        (not_stored word own out);
  })
  frees (Err e) seen most same ran runs runs_within = tt
