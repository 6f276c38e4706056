-- How many tickets a drain draws.
use Rattle.std.proofs.Common.{◌≡◌, ℕ, ◌+◌, ◌*◌, ◌/◌, ◌%◌, ◌<◌, ◌≤◌, ◌^◌, inl, inr, Option, None, Some, List, [], ◌∷◌, ◌++◌, length, length-append, Contains, refl, ap, sym, subst, ◌∙◌, arith}
use Rattle.std.proofs.lemmas.Bool.{cases_eq}
use Rattle.std.proofs.lemmas.Nat.{div-mul-add, mod-mul-add}
use Rattle.std.proofs.Math.Nat.{mul-le-mul_left}
use Rattle.std.proofs.lemmas.List.Elements.{Contains-append_cases}
use Rattle.heap_model.specs.declared.block.Block.{Block}
use Rattle.heap_model.specs.Geometry.{start_word, used_word, largest_capacity, largest_capacity_fits}
use Rattle.heap_model.specs.Sizes.{IsClass, size_of, words_of_class, blocks_of}
use Rattle.heap_model.specs.Blocks.{Begins, of_class, as_large, IsBlock}
use Rattle.heap_model.specs.Counting.{times}
use Rattle.heap_model.proofs.MemberLemmas.{in_none, head_or_rest}
use Rattle.heap_model.proofs.CountingLemmas.{times_none}
use Rattle.heap_model.proofs.BlockLemmas.{block_step}
use Rattle.heap_model.proofs.SizeLemmas.{size_of-words, few_words, few_blocks}
use Rattle.heap_shape.specs.Standing.{first_of}
use Rattle.heap_at_rest.specs.Draining.{layout_at}
use Rattle.heap_shape.proofs.BasicLemmas.{times_here, times_past}
use Rattle.heap_model.proofs.ListLemmas.{times_append}
use Rattle.heap_shape.proofs.CountLemmas.{few_members}
use Rattle.line_memory.specs.declared.memory.Stopped.{Stopped}
use Rattle.block_heap.specs.declared.seq_heap.DrainFault.{DrainFault}
use Rattle.block_heap.specs.declared.seq_heap.DrainFault.TheVariants.{Stopped as StoppedFault, Memory as MemoryFault}
use Rattle.heap_seat.specs.Calls.{IsLargeCall}
use Rattle.block_heap.specs.Laws.{seat_law}
use Rattle.heap_seat.specs.Alloc.{IsSizeFor, of_class as of_class_size, of_superblocks}
use Rattle.block_heap.specs.Parts.{Parts, image_of, held_in}
use Rattle.block_heap.specs.Running.{IsRunning}
use Rattle.size_table.proofs.ClassLemmas.{no_later, least_of_size}
use Rattle.block_heap.specs.Requests.{IsDrainableFor}
use Rattle.block_heap.specs.SeqState.{SeqState, IsSeqHeap, seat_of}
use Rattle.block_heap.specs.Serving.{GetsBlock, Answers, DrainsTo, Costs, DrainsAs}
use Rattle.block_heap.specs.Steps.{HasAtMost}
use Rattle.heap_seat.specs.Tickets.{Runs, Stops}
use Rattle.block_heap.proofs.DrainLemmas.{HasDrained, drains_first, drains_more}
use Rattle.block_heap.proofs.SpendLemmas.{has_most}
use Rattle.block_heap.specs.Draws.{most_blocks, most_small_draws}

-- the offsets are those of blocks that are held now, each once; so there are few, and each superblock that may still be used up is paid for
pub record HasDrawn (class : ℕ) (s t : SeqState) (offsets : List ℕ) : Type 0 where
  pub held : (x : ℕ) → Contains offsets x → (b : Block) × (x ≡ 8 * b.first_word) × Contains (held_in t.parts) b × (b.words ≡ words_of_class class)
  pub once : (x : ℕ) → times x offsets ≤ 1
  pub capacity : t.parts.capacity ≡ s.parts.capacity
  pub short : length offsets ≤ t.parts.capacity * blocks_of class
  pub small : length offsets ≤ largest_capacity * most_blocks
  pub few : t.parts.words.drawn ≤ s.parts.words.drawn + 3 * most_small_draws * largest_capacity + length offsets
  pub left : t.stopped ≡ None → (n : ℕ) × HasAtMost class t.parts n
      × (t.parts.words.drawn + most_small_draws * n ≤ s.parts.words.drawn + 3 * most_small_draws * largest_capacity + length offsets)
  pub runs : s.stopped ≡ None → t.stopped ≡ None
  pub budget : t.parts.words.budget ≡ s.parts.words.budget

-- at first there is none
drawn_first : (class : ℕ) (s : SeqState) (offsets : List ℕ) → offsets ≡ [] → IsClass class → IsSeqHeap s → HasDrawn class s s offsets
drawn_first class s offsets empty is heap = subst (λ xs. HasDrawn class s s xs) (sym empty) (record {
  held = λ x p. absurd (in_none x p);
  once = λ x. omega arith;
  capacity = refl;
  short = omega arith;
  small = omega arith;
  few = omega arith;
  left = λ running. (3 * largest_capacity, has_most class s.parts is (heap.running running).0, omega arith);
  runs = λ running. running;
  budget = refl;
})

-- a held block of the class is one of those of its superblock
record IsPlacedAt (capacity class word : ℕ) : Type 0 where
  pub d : ℕ
  pub index : ℕ
  pub within : d < capacity
  pub below : index < blocks_of class
  pub at : word ≡ first_of capacity class d index

placed_at : (p : Parts) (class : ℕ) (a : Block) → IsClass class → IsRunning p → Contains (held_in p) a → a.words ≡ words_of_class class
    → IsPlacedAt p.capacity class a.first_word
placed_at p class a is run holds size = by_begins named.superblock named.words named.count named.index named.is_of.begins named.is_of.taken
    named.is_of.below
    named.is_of.at named.is_of.size where
      named : IsBlock (layout_at p.capacity (image_of p)) a
      named = run.is.named a holds

      by_begins : (d w n i : ℕ) → Begins (layout_at p.capacity (image_of p)) d w n → d < image_of p used_word → i < n
          → a.first_word ≡ start_word p.capacity d + i * w
          → a.words ≡ w → IsPlacedAt p.capacity class a.first_word
      by_begins d w n i (of_class c info is_c) taken below at words =
          let same : words_of_class c ≡ words_of_class class = sym words ∙ size in
          let c_size = size_of-words c is_c in
          let class_size = size_of-words class is in
          let up = no_later c class is_c is (omega arith) in
          let down = no_later class c is is_c (omega arith) in
          let one : c ≡ class = omega arith in
          let used = run.is.used in
          record {
            d = d;
            index = i;
            within = omega arith;
            below = subst (λ k. i < blocks_of k) one below;
            at = at ∙ ap (λ k. start_word p.capacity d + i * words_of_class k) one;
          }
      by_begins d w n i (as_large k some info end zeros) taken below at words = absurd (let few = few_words class is in omega arith)

-- a block that a request of a class's size gets is of the class
pub class_of : (class bytes size : ℕ) → IsClass class → bytes ≡ size_of class → IsSizeFor bytes size → size ≡ 8 * words_of_class class
class_of class bytes _ is at (of_class_size c least) = ap size_of (sym (least_of_size bytes c class least is at)) ∙ size_of-words class is
class_of class bytes _ is at (of_superblocks large) =
    let few = few_words class is in
    let words = size_of-words class is in
    absurd (omega arith)

-- a request of the class gave a block
module _ (class bytes most : ℕ) (s t u : SeqState) (offsets : List ℕ) (b : Block) (is : IsClass class) (at : bytes ≡ size_of class)
    (has : HasDrawn class s t offsets) (gets : GetsBlock bytes b t.parts u.parts) where
  abbrev more : List ℕ
  more = offsets ++ 8 * b.first_word ∷ []

  longer : length more ≡ length offsets + 1
  longer = length-append offsets (8 * b.first_word ∷ [])

  -- it is held now, as the others are
  all_held : (x : ℕ) → Contains more x → (a : Block) × (x ≡ 8 * a.first_word) × Contains (held_in u.parts) a × (a.words ≡ words_of_class class)
  all_held x p = elim (Contains-append_cases offsets (8 * b.first_word ∷ []) x p)
      as (λ _. (a : Block) × (x ≡ 8 * a.first_word) × Contains (held_in u.parts) a × (a.words ≡ words_of_class class)) [
        | inl old ↦ let found = has.held x old in (found.0, found.1, gets.adds.keeps found.0 found.2, found.3)
        | inr new ↦ elim (head_or_rest (8 * b.first_word) x [] new)
            as (λ _. (a : Block) × (x ≡ 8 * a.first_word) × Contains (held_in u.parts) a × (a.words ≡ words_of_class class)) [
              | inl same ↦ (b, sym same, gets.adds.has, let size = class_of class bytes (8 * b.words) is at gets.size in omega arith)
              | inr none ↦ absurd (in_none x none)
            ]
      ]

  -- it was not held, so its offset is another
  new_offset : Contains offsets (8 * b.first_word) → ⊥
  new_offset p =
      let found = has.held (8 * b.first_word) p in
      let same : 8 * b.first_word ≡ 8 * found.0.first_word = found.1 in
      let some = ((seat_law u).placed b gets.adds.has).some in
      let some_found = ((seat_law u).placed found.0 (gets.adds.keeps found.0 found.2)).some in
      elim ((seat_law u).apart found.0 b (gets.adds.keeps found.0 found.2) gets.adds.has) as (λ _. ⊥) [
        | inl one ↦ gets.new (subst (λ (a : Block). Contains (held_in t.parts) a) one found.2)
        | inr apart ↦ elim apart as (λ _. ⊥) [ inl before ↦ omega arith | inr behind ↦ omega arith ]
      ]

  all_once : (x : ℕ) → times x more ≤ 1
  all_once x =
      let both = times_append x offsets (8 * b.first_word ∷ []) in
      let before = has.once x in
      elim (cases_eq (8 * b.first_word) x) as (λ _. times x more ≤ 1) [
        | inl same ↦
            let here : times x (8 * b.first_word ∷ []) ≡ 1 + times x [] =
            subst (λ y. times y (8 * b.first_word ∷ []) ≡ 1 + times y []) same (times_here (8 * b.first_word) []) in
            let none : times x offsets ≡ 0 = times_none x offsets (λ p. new_offset (subst (λ y. Contains offsets y) (sym same) p)) in
            omega arith
        | inr other ↦ let past = times_past (8 * b.first_word) x [] other in omega arith
      ]

  -- each is another block of the class, of those of all superblocks
  abbrev offset_of : ℕ → ℕ
  offset_of n = 8 * first_of u.parts.capacity class (n / blocks_of class) (n % blocks_of class)

  all_short : length more ≤ u.parts.capacity * blocks_of class
  all_short = few_members offset_of (u.parts.capacity * blocks_of class) more each (λ i below. all_once (offset_of i)) where
    each : (x : ℕ) → Contains more x → (n : ℕ) × (n < u.parts.capacity * blocks_of class) × (x ≡ offset_of n)
    each x p =
        let found = all_held x p in
        let placed = placed_at u.parts class found.0 is gets.running found.2 found.3 in
        let below = placed.below in
        let step = block_step placed.d u.parts.capacity (blocks_of class) placed.within in (
          placed.d * blocks_of class + placed.index,
          omega arith,
          found.1 ∙ ap (λ w. 8 * w) placed.at
              ∙ ap (λ k. 8 * first_of u.parts.capacity class k placed.index) (sym (div-mul-add placed.d (blocks_of class) placed.index below))
              ∙ ap (λ k. 8 * first_of u.parts.capacity class ((placed.d * blocks_of class + placed.index) / blocks_of class) k)
              (sym (mod-mul-add placed.d (blocks_of class) placed.index below)),
        )

  all_small : length more ≤ largest_capacity * most_blocks
  all_small =
      let short = all_short in
      let by_blocks : u.parts.capacity * blocks_of class ≤ u.parts.capacity * most_blocks = mul-le-mul_left u.parts.capacity (few_blocks class is) in
      let small = gets.running.is.small in
      omega arith

  module _ (costs : Costs class t.parts u.parts) (runs : Runs (seat_of t) (seat_of u)) (counted : IsLargeCall most (seat_of t) (seat_of u)) where
    all_left : (n : ℕ) × HasAtMost class u.parts n × (u.parts.words.drawn + most_small_draws * n ≤ s.parts.words.drawn + 3 * most_small_draws *
        largest_capacity + length more)
    all_left =
        let before = has.left runs.ran in
        let long = longer in
        elim costs as (λ _. (n : ℕ) × HasAtMost class u.parts n × (u.parts.words.drawn + most_small_draws * n ≤ s.parts.words.drawn + 3 *
        most_small_draws * largest_capacity + length more)) [
          | inl cached ↦ let now = cached.0 before.0 before.1 in (now.0, now.2, omega (arith, before.2, now.1, cached.1))
          | inr filled ↦ let now = filled.0 before.0 before.1 in (now.0, now.2, omega (arith, before.2, now.1, filled.1))
        ]

    drawn_more : HasDrawn class s u more
    drawn_more = record {
      held = all_held;
      once = all_once;
      capacity = counted.goes_on.capacity ∙ has.capacity;
      short = all_short;
      small = all_small;
      few = let left = all_left in omega (arith, left.2);
      left = λ running. all_left;
      runs = λ running. runs.running;
      budget = counted.goes_on.budget ∙ has.budget;
    }

-- what the loop of a drain keeps: at any time how many tickets were drawn, and of a drainable heap what was given
abbrev pub Draining : ℕ → SeqState → SeqState → List ℕ → Type 0
Draining class s t offsets = (IsDrainableFor class s → HasDrained class s t offsets) × HasDrawn class s t offsets

pub draining_first : (class : ℕ) (s seen : SeqState) (offsets : List ℕ) → offsets ≡ [] → IsClass class → s ≡ seen → IsSeqHeap s
    → Draining class seen seen offsets
draining_first class s seen offsets empty is same heap =
    ((λ drainable. drains_first class seen offsets empty drainable), drawn_first class seen offsets empty is (subst IsSeqHeap same heap))

pub draining_more : (class bytes most : ℕ) (s t u : SeqState) (offsets now : List ℕ) (answer : Option Block) (b : Block)
    → now ≡ offsets ++ 8 * b.first_word ∷ []
    → Draining class s t offsets → answer ≡ Some b → Answers bytes answer t.parts u.parts → DrainsAs class answer t.parts u.parts
    → IsClass class → bytes ≡ size_of class → Runs (seat_of t) (seat_of u) → IsLargeCall most (seat_of t) (seat_of u) → Draining class s u now
draining_more class bytes most s t u offsets now answer b pushed draining is answers drains is_class at runs counted =
    let gets : GetsBlock bytes b t.parts u.parts = subst (λ (o : Option Block). Answers bytes o t.parts u.parts) is answers in
    let gives : DrainsTo class b t.parts u.parts × Costs class t.parts u.parts =
    subst (λ (o : Option Block). DrainsAs class o t.parts u.parts) is drains in
    subst (λ xs. Draining class s u xs) (sym pushed) (
      (λ drainable. drains_more class s t u offsets b (draining.0 drainable) counted.goes_on.capacity gives.0),
      drawn_more class bytes most s t u offsets b is_class at draining.1 gets gives.1 runs counted,
    )

-- whatever the next request answers, few tickets were drawn
pub drawn_few : (class : ℕ) (s t u : SeqState) (offsets : List ℕ) → HasDrawn class s t offsets
    → u.parts.words.drawn ≤ t.parts.words.drawn + most_small_draws
    → u.parts.words.drawn < s.parts.words.drawn + 2 ^ 32
drawn_few class s t u offsets has draws = let small = has.small in let few = has.few in omega (arith, largest_capacity_fits)

-- there was room for the offset that comes next
pub room_for_one : (class bytes most room : ℕ) (s t u : SeqState) (offsets : List ℕ) (answer : Option Block) (b : Block) → Draining class s t offsets
    → answer ≡ Some b → Answers bytes answer t.parts u.parts → DrainsAs class answer t.parts u.parts → IsClass class → bytes ≡ size_of class
    → Runs (seat_of t) (seat_of u) → IsLargeCall most (seat_of t) (seat_of u) → room ≡ s.parts.capacity * blocks_of class → length offsets < room
room_for_one class bytes most room s t u offsets answer b draining is answers drains is_class at runs counted all =
    let next = draining_more class bytes most s t u offsets (offsets ++ 8 * b.first_word ∷ [])
    answer b refl draining is answers drains is_class at runs counted in
    let short = next.1.short in
    let same : u.parts.capacity ≡ s.parts.capacity = next.1.capacity in
    let product : u.parts.capacity * blocks_of class ≡ s.parts.capacity * blocks_of class = ap (λ n. n * blocks_of class) same in
    let long : length (offsets ++ 8 * b.first_word ∷ []) ≡ length offsets + 1 = length-append offsets (8 * b.first_word ∷ []) in
    omega arith

-- the ticket of a fault
abbrev pub step_of : DrainFault → ℕ
step_of (StoppedFault stopped) = stopped.step
step_of MemoryFault = 0

-- and if it stops the heap, the budget is used up
pub drawn_stops_within : (class most : ℕ) (stopped e : Stopped) (s t u : SeqState) (offsets : List ℕ) → HasDrawn class s t offsets
    → u.parts.words.drawn ≤ t.parts.words.drawn + most_small_draws → IsLargeCall most (seat_of t) (seat_of u)
    → Stops stopped.step (seat_of t) (seat_of u)
    → StoppedFault stopped ≡ StoppedFault e → s.stopped ≡ None
    → (s.parts.words.budget ≤ e.step) × (e.step < s.parts.words.drawn + 2 ^ 32)
drawn_stops_within class most stopped e s t u offsets has draws counted stops one running =
    let few = drawn_few class s t u offsets has draws in
    let above : u.parts.words.budget ≤ stopped.step = stops.above in
    let until : stopped.step < u.parts.words.drawn = (stops.now (has.runs running)).until in
    let same : u.parts.words.budget ≡ s.parts.words.budget = counted.goes_on.budget ∙ has.budget in
    let step : stopped.step ≡ e.step = ap step_of one in
    (omega arith, omega arith)
