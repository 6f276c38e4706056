-- Requests of a class cut no more superblocks than there are.
use Rattle.std.proofs.Common.{◌≡◌, ℕ, zero, suc, ◌+◌, ◌*◌, ◌/◌, ◌%◌, ◌<◌, ◌≤◌, inl, inr, List, [], ◌∷◌, Contains, length, length-set, refl, ap, sym, subst, ◌∙◌, arith}
use Rattle.std.proofs.Math.Nat.{lt_of_mul-lt-mul_right, mul-le-mul_right, mul_comm}
use Rattle.std.proofs.lemmas.Bool.{cases_lt}
use Rattle.std.proofs.lemmas.Nat.{div-mul-add, mod-mul-add, mul-add-lt}
use Rattle.heap_model.specs.declared.block.Block.{Block}
use Rattle.heap_model.specs.Counting.{times, without}
use Rattle.heap_model.specs.Geometry.{lists, start_word}
use Rattle.heap_model.specs.Rest.{IsReady}
use Rattle.heap_model.specs.Sizes.{IsClass, blocks_of, words_of_class}
use Rattle.heap_model.proofs.CountingLemmas.{times_some}
use Rattle.heap_model.proofs.ListLemmas.{times_append, length_without, without_at, without_less}
use Rattle.heap_model.proofs.MemberLemmas.{in_head}
use Rattle.heap_model.proofs.SizeLemmas.{four_blocks}
use Rattle.heap_at_rest.proofs.ListLemmas.{times_of}
use Rattle.core_model.specs.Memory.{Memory, memory_of}
use Rattle.core_model.specs.Opening.{AreOwners}
use Rattle.core_model.specs.Sound.{Good}
use Rattle.core_model.specs.View.{Parts, View, of_class}
use Rattle.core_model.proofs.BlockLemmas.{of_class_same}
use Rattle.heap_table.specs.Plays.{HasReached}
use Rattle.heap_table.specs.Rule.{Opening, opened_view_of, setup_for, state_of}
use Rattle.heap_table.proofs.ReachedLemmas.{reached_sound}
use Rattle.core_model.proofs.OpenedLemmas.{opened}
use Rattle.thread_cache.specs.Small.{HasAllocated}
use Rattle.seat_costs.specs.Idle.{IsIdle}
use Rattle.drain_laws.specs.Drains.{Grants, GrantsAll, no_request, one_more}
use Rattle.drain_laws.proofs.GivenLemmas.{cut_taken, lies, stands_once}
use Rattle.drain_laws.proofs.OnlyLemmas.{alone}
use Rattle.drain_laws.proofs.OpenedLemmas.{Leaves, leaves, opened_good}
use Rattle.seat_costs.proofs.IdleLemmas.{none_cached}

-- a list of values of f below n, none of them twice
few_members : (f : ℕ → ℕ) (n : ℕ) (xs : List ℕ) → ((x : ℕ) → Contains xs x → (i : ℕ) × (i < n) × (x ≡ f i)) → ((i : ℕ) → i < n → times (f i) xs ≤ 1)
    → length xs ≤ n
few_members f zero [] are once = omega arith
few_members f zero (x ∷ xs) are once = absurd (let first = are x (in_head x xs) in let below = first.1 in omega arith)
few_members f (suc n) xs are once =
    let shorter = length_without (f n) xs in
    let rest = few_members f n (without (f n) xs) still (λ i below. let at_most = once i (omega arith) in let fewer = without_less (f i) (f n) xs in
    omega arith) in
    omega arith
  where
    still : (x : ℕ) → Contains (without (f n) xs) x → (i : ℕ) × (i < n) × (x ≡ f i)
    still x p =
        let some = times_of x (without (f n) xs) p in
        let fewer = without_less x (f n) xs in
        let is = are x (times_some x xs (omega arith)) in
        let below = is.1 in
        elim (cases_lt is.0 n) as (λ _. (i : ℕ) × (i < n) × (x ≡ f i)) [
          | inl less ↦ (is.0, less, is.2)
          | inr last ↦
              let same : is.0 ≡ n = omega arith in
              let gone = without_at (f n) xs (once n (omega arith)) in
              let stands : 0 < times (f n) (without (f n) xs) = subst (λ y. 0 < times y (without (f n) xs)) (is.2 ∙ ap f same) some in
              absurd (omega arith)
        ]

one_more_times : (n b : ℕ) → (n + 1) * b ≡ n * b + b
one_more_times n b = mul_comm (n + 1) b ∙ (let e : b * (n + 1) ≡ b * n + b = omega arith in e) ∙ ap (λ x. x + b) (mul_comm b n)

-- what was cut was given or is cached
record Pays (class : ℕ) (v : View) (firsts : List ℕ) (w : View) : Type 0 where
  short : length (of_class w.caches class) < blocks_of class
  long : length w.caches ≡ length v.caches
  paid : w.cuts * blocks_of class ≤ v.cuts * blocks_of class + length firsts + length (of_class w.caches class)

pay : (class : ℕ) (v : View) (firsts : List ℕ) (u w : View) (b : Block) → class < length v.caches → Pays class v firsts u → Grants class b u w
    → Pays class v (b.first_word ∷ firsts) w
pay class v firsts u w b less so_far grants = record {
  short = subst (λ xs. length xs < blocks_of class) (sym cache_is) has.short;
  long = ap (λ (p : Parts). length p.caches) has.parts_are ∙ length-set u.caches class has.cache ∙ so_far.long;
  paid = subst (λ xs. w.cuts * blocks_of class ≤ v.cuts * blocks_of class + suc (length firsts) + length xs) (sym cache_is) by_cut;
} where
  has : HasAllocated class b u w
  has = grants.allocated

  cuts : w.cuts ≤ u.cuts + 1
  cuts = grants.costs.most.cuts

  cache_is : of_class w.caches class ≡ has.cache
  cache_is = ap (λ (p : Parts). of_class p.caches class) has.parts_are ∙ of_class_same u.caches class has.cache class refl
      (let l = so_far.long in omega arith)

  was : length (of_class u.caches class) ≤ length has.cache + 1
  was = elim (cases_lt 0 (length (of_class u.caches class))) as (λ _. length (of_class u.caches class) ≤ length has.cache + 1) [
    | inl some ↦ let e = ap length (has.first some) in omega arith
    | inr none ↦ omega arith
  ]

  -- a superblock is cut for an empty cache alone
  was_empty : u.cuts < w.cuts → length (of_class u.caches class) ≡ 0
  was_empty rose = elim (cases_lt 0 (length (of_class u.caches class))) as (λ _. length (of_class u.caches class) ≡ 0) [
    | inl some ↦ absurd (let e = ap length (has.first some) in let all = has.cut rose in let short = so_far.short in omega arith)
    | inr none ↦ omega arith
  ]

  times_more : (a c : ℕ) → a ≡ c + 1 → a * blocks_of class ≡ c * blocks_of class + blocks_of class
  times_more a c is = ap (λ n. n * blocks_of class) is ∙ (let e : (c + 1) * blocks_of class ≡ c * blocks_of class + blocks_of class = one_more_times c
      (blocks_of class) in e)

  times_less : (a c : ℕ) → a ≤ c → a * blocks_of class ≤ c * blocks_of class
  times_less a c is = mul-le-mul_right (blocks_of class) is

  by_cut : w.cuts * blocks_of class ≤ v.cuts * blocks_of class + suc (length firsts) + length has.cache
  by_cut = elim (cases_lt u.cuts w.cuts) as (λ _. w.cuts * blocks_of class ≤ v.cuts * blocks_of class + suc (length firsts) + length has.cache) [
    | inl rose ↦
        let more = times_more w.cuts u.cuts (omega arith) in
        let paid = so_far.paid in
        let none = was_empty rose in
        let all = has.cut rose in omega (arith, more, paid, none, all)
    | inr same ↦
        let more = times_less w.cuts u.cuts same in
        let paid = so_far.paid in
        let w_was = was in omega (arith, more, paid, w_was)
  ]

pays : (class : ℕ) (v : View) (firsts : List ℕ) (w : View) → class < length v.caches → length (of_class v.caches class) < blocks_of class
    → GrantsAll class v firsts w → Pays class v firsts w
pays class v _ _ less short no_request = record { short = short; long = refl; paid = omega arith }
pays class v _ _ less short (one_more firsts u w b before grants) = pay class v firsts u w b less (pays class v firsts u less short before) grants

module _ (o : Opening) (class : ℕ) (firsts : List ℕ) (w : View) (ready : IsReady o.words o.held)
    (owners : AreOwners o.held o.seats o.block_owners o.root_owners) (one : o.seats ≡ 1) (is : IsClass class)
    (grants : GrantsAll class (opened_view_of o 0) firsts w) (s : HasReached o w) where
  abbrev v : View
  v = opened_view_of o 0

  abbrev c : ℕ
  c = (setup_for o).capacity

  abbrev B : ℕ
  B = blocks_of class

  less : class < lists
  less = let last = is.last in omega arith

  so : Leaves class v firsts w
  so = leaves class v firsts w (let l = ((opened_good o ready owners one).set_up 0 v (omega arith) refl).small in let below = less in
      omega (arith, below, l)) grants

  abbrev m : Memory
  m = memory_of c s.words

  good : Good (setup_for o) m (w ∷ [])
  good = subst (Good (setup_for o) m) (alone o w one so.offers s)
      (reached_sound (setup_for o) (state_of o) (opened o.words o.held o.budget o.seats o.block_owners o.root_owners ready owners)
      s.words s.views s.reached).good

  idle : IsIdle w
  idle = record { batch = so.batch; raw = so.raw; split = so.split; cutting = so.cutting; classed = so.classed }

  -- block i of the class, superblock by superblock
  abbrev place : ℕ → ℕ
  place i = start_word c (i / B) + (i % B) * words_of_class class

  in_list : (x : ℕ) → times x firsts ≤ times x (of_class w.small class)
  in_list x = let all = ap (times x) so.mine ∙ times_append x firsts (of_class v.small class) in omega arith

  placed : (x : ℕ) → Contains firsts x → (i : ℕ) × (i < B * c) × (x ≡ place i)
  placed x there =
      let some = times_of x firsts there in
      let more = in_list x in
      let l = lies (setup_for o) m w good idle class x (omega arith) in
      let taken = cut_taken (setup_for o) m w good idle l.d (let cut = l.cut in omega arith) in
      let room = good.shaped.durable.room in (
        l.d * B + l.index,
        mul-add-lt l.d B l.index c (omega (arith, taken, room)) l.of.below,
        l.of.at ∙ ap (λ d. start_word c d + l.index * words_of_class class) (sym (div-mul-add l.d B l.index l.of.below))
            ∙ ap (λ i. start_word c ((l.d * B + l.index) / B) + i * words_of_class class) (sym (mod-mul-add l.d B l.index l.of.below)),
      )

  pub few_given : length firsts ≤ B * c
  few_given = few_members place (B * c) firsts placed
      (λ i below. let more = in_list (place i) in let once = stands_once (setup_for o) m w good idle class (place i) less in
      omega (arith, more, once))

  pub few_cuts : w.cuts ≤ c
  few_cuts =
      let p = pays class v firsts w (let l = ((opened_good o ready owners one).set_up 0 v (omega arith) refl).caches in let below = less in
      omega (arith, below, l))
      (let none = ap length (none_cached lists class) in let four = four_blocks class is in omega (arith, none, four)) grants in
      let paid = p.paid in
      let short = p.short in
      let most = few_given in
      let turn : B * c ≡ c * B = mul_comm B c in
      let next : (c + 1) * B ≡ c * B + B = one_more_times c B in
      let strict : w.cuts * B < (c + 1) * B = omega (arith, paid, short, most, turn, next) in
      let under : w.cuts < c + 1 = lt_of_mul-lt-mul_right B strict in
      omega (arith, under)
