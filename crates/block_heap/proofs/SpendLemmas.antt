-- How many superblocks are left that a class may be filled from.
use Rattle.std.proofs.Common.{◌≡◌, ℕ, ◌+◌, ◌-◌, ◌*◌, ◌<◌, ◌≤◌, inl, inr, Bool, true, List, length, get_or, ap, sym, subst, arith}
use Rattle.heap_model.specs.Counting.{one_if}
use Rattle.heap_model.specs.Geometry.{lists, head_word, link_word, used_word, largest_capacity}
use Rattle.heap_model.specs.Sizes.{IsClass}
use Rattle.heap_model.specs.Words.{head_first}
use Rattle.heap_model.specs.Chains.{Follows}
use Rattle.heap_shape.proofs.CountLemmas.{few_listed}
use Rattle.heap_at_rest.proofs.ListLemmas.{one_following}
use Rattle.block_heap.specs.Parts.{Parts, image_of, held_in}
use Rattle.block_heap.specs.Refill.{Stocks}
use Rattle.block_heap.specs.Running.{IsRunning}
use Rattle.block_heap.specs.Serving.{Costs}
use Rattle.block_heap.specs.Lists.{head_at, LeadsAlong}
use Rattle.block_heap.specs.Steps.{HasAtMost, Spends}
use Rattle.block_heap.specs.Draws.{most_refill_draws}

-- a list is as long as any that its head leads along
long_as : (p : Parts) (list : ℕ) (cs ds : List ℕ) → LeadsAlong p list cs → LeadsAlong p list ds → length cs ≡ length ds
long_as p list cs ds is_cs is_ds = ap length (one_following (λ d. image_of p (link_word d)) p.capacity (head_first (head_at p list)) cs ds is_cs is_ds)

-- a list of a running heap is no longer than the heap
no_longer : (p : Parts) (list : ℕ) (ds : List ℕ) → IsRunning p → list < lists → LeadsAlong p list ds → length ds ≤ p.capacity
no_longer p list ds run below leads =
    let same = long_as p list (run.shape.listed list) ds (run.is.follows list below) leads in
    let few = few_listed p.capacity (image_of p) (held_in p) run.shape run.is list below in
    omega arith

-- so few are left
pub has_most : (class : ℕ) (p : Parts) → IsClass class → IsRunning p → HasAtMost class p (3 * largest_capacity)
has_most class p is run cs fs is_cs is_fs =
    let of_class = no_longer p class cs run (let last = is.last in omega arith) is_cs in
    let free = no_longer p 0 fs run (omega arith) is_fs in
    let small = run.is.small in
    omega arith

-- as many are left where loads see the same words
pub spends_none : (class : ℕ) (p q : Parts) → q.capacity ≡ p.capacity → q.words.volatile ≡ p.words.volatile → Spends 0 class p q
spends_none class p q capacity same n most = (
  n,
  omega arith,
  subst (λ k. (cs fs : List ℕ) → Follows (λ d. image_of q (link_word d)) k (head_first (head_at q class)) cs
      → Follows (λ d. image_of q (link_word d)) k (head_first (head_at q 0)) fs → length cs + length fs + k ≤ n + image_of q used_word) (sym capacity)
      (subst (λ (xs : List ℕ). (cs fs : List ℕ) → Follows (λ d. get_or xs (link_word d) 0) p.capacity (head_first (get_or xs (head_word class) 0)) cs
      → Follows (λ d. get_or xs (link_word d) 0) p.capacity (head_first (get_or xs (head_word 0) 0)) fs
      → length cs + length fs + p.capacity ≤ n + get_or xs used_word 0) (sym same) most),
)

-- two rows of steps
pub spends_then : (count first second class : ℕ) (p u q : Parts) → count ≤ first + second → Spends first class p u → Spends second class u q
    → Spends count class p q
spends_then count first second class p u q few a b n most =
    let middle = a n most in
    let end = b middle.0 middle.2 in
    (end.0, omega (arith, middle.1, end.1), end.2)

-- steps that leave both lists so much shorter, or so many more superblocks taken
pub spends_by : (count class : ℕ) (p q : Parts) (run : IsRunning p) (cs fs : List ℕ) → IsClass class → IsRunning q → q.capacity ≡ p.capacity
    → LeadsAlong q class cs → LeadsAlong q 0 fs
    → count + length cs + length fs + image_of p used_word ≤ length (run.shape.listed class) + length (run.shape.listed 0) + image_of q used_word
    → Spends count class p q
spends_by count class p q run cs fs is now capacity leads_class leads_free fewer n most =
    let before = most (run.shape.listed class) (run.shape.listed 0) (run.is.follows class (let last = is.last in omega arith))
    (run.is.follows 0 (omega arith)) in
    let used = now.is.used in (
      n - count,
      omega arith,
      λ ds es is_ds is_es.
          let of_class = long_as q class cs ds leads_class is_ds in
          let free = long_as q 0 fs es leads_free is_es in
          omega arith,
    )

-- what a block cost that was handed out after that
pub costs_of : (class : ℕ) (some : Bool) (p q r : Parts) → some ≡ true → Stocks class some p q → q.words.drawn ≤ p.words.drawn + most_refill_draws
    → r.capacity ≡ q.capacity → r.words.volatile ≡ q.words.volatile → r.words.drawn ≤ q.words.drawn + 1 → Costs class p r
costs_of class some p q r is stocks few capacity same one = elim stocks as (λ _. Costs class p r) [
  | inl cached ↦ inl (spends_then 0 0 0 class p q r (omega arith) cached.0 (spends_none class q r capacity same), omega (arith, cached.1))
  | inr filled ↦ inr (
    spends_then 1 1 0 class p q r (omega arith) (subst (λ b. Spends (one_if b) class p q) is filled)
        (spends_none class q r capacity same),
    omega arith,
  )
]
