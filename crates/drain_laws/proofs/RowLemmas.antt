-- What a seat that allocates by caches answers makes a row of requests of a class.
use Rattle.std.proofs.Common.{◌≡◌, ℕ, ◌<◌, inl, inr, List, ◌∷◌, refl, ap, sym, subst, arith}
use Rattle.heap_model.specs.declared.block.Block.{Block}
use Rattle.heap_model.specs.Sizes.{IsClass, IsLeastClassFor, largest_small, size_of}
use Rattle.heap_model.proofs.SizeLemmas.{few_words, size_of-words}
use Rattle.size_table.proofs.ClassLemmas.{least_of_size, no_later}
use Rattle.heap_seat.specs.Alloc.{Adds}
use Rattle.heap_seat.specs.declared.fault.Looks.{Looks}
use Rattle.core_model.specs.View.{Parts, View}
use Rattle.thread_cache.specs.Requests.{IsGranted, by_class, by_span}
use Rattle.thread_cache.specs.Small.{HasAllocated}
use Rattle.seat_model.specs.CacheState.{CacheState, heap_view}
use Rattle.seat_model.specs.Changes.{HoldsBlock}
use Rattle.seat_model.proofs.ChangedBlocks.{holds_law}
use Rattle.thread_cache.specs.Serving.{IsServed, IsTurnedAway}
use Rattle.drain_laws.specs.Drains.{GrantsAll, IsDrainRow, one_more}

-- the least class for the bytes of a class is that class
least_is : (class other : ℕ) → IsClass class → IsLeastClassFor (size_of class) other → other ≡ class
least_is class other is least = sym (least_of_size (size_of class) other class least is refl)

least_class : (class : ℕ) → IsClass class → IsLeastClassFor (size_of class) class
least_class class is = record { is_class = is; holds = omega arith; least = λ other other_is more. no_later class other is other_is more }

-- the bytes of a class are not those of a large block
not_large : (class : ℕ) → IsClass class → largest_small < size_of class → ⊥
not_large class is large = let same = size_of-words class is in let few = few_words class is in omega arith

pub row_granted : (class : ℕ) (v : View) (firsts : List ℕ) (s t : CacheState) (b : Block) → IsClass class → GrantsAll class v firsts s.view
    → Adds b (heap_view s) (heap_view t) → IsServed (size_of class) s.view t.view
    → GrantsAll class v (b.first_word ∷ firsts) t.view
row_granted class v firsts s t b is before adds served = one_more firsts s.view t.view b before (record {
  allocated = by_grant served.block served.granted;
  gives = served.gives;
  costs = served.costs;
  uncut = served.uncut;
}) where
  holds : (x : Block) → HasAllocated class x s.view t.view → HoldsBlock class x s.view t.view
  holds x allocated = record {
    is_class = is;
    words = allocated.size;
    setup = ap (λ (p : Parts). p.setup) allocated.parts_are;
    roots = ap (λ (p : Parts). p.roots) allocated.parts_are;
    small = ap (λ (p : Parts). p.small) allocated.parts_are;
    large = ap (λ (p : Parts). p.large) allocated.parts_are;
  }

  by_grant : (x : Block) → IsGranted (size_of class) x s.view t.view → HasAllocated class b s.view t.view
  by_grant x (by_class other least allocated) =
      let mine = subst (λ c. HasAllocated c x s.view t.view) (least_is class other is least) allocated in
      let comes = holds_law class x s t (holds x mine) in
      elim (adds.only x comes.has) as (λ _. HasAllocated class b s.view t.view) [
        | inl same ↦ subst (λ y. HasAllocated class y s.view t.view) same mine
        | inr old ↦ absurd (comes.new old)
      ]
  by_grant x (by_span large allocated) = absurd (not_large class is large)

pub row_refused : (class : ℕ) (v u w : View) (firsts : List ℕ) (looks : Looks) → IsClass class → GrantsAll class v firsts u
    → IsTurnedAway (size_of class) looks u w → IsDrainRow class v firsts w
row_refused class v u w firsts looks is before refused =
    let full = refused.for_class class (least_class class is) in
    record { between = u; grants = before; looks = looks; refused = full.0; cache = full.1; gives = refused.gives; costs = refused.costs }
