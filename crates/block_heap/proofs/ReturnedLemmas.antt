-- A whole cache is flushed: where each of its superblocks stands then.
use Rattle.std.proofs.Common.{◌≡◌, ◌≢◌, ℕ, ◌<◌, ◌≤◌, ◌⊎◌, inl, inr, zero, suc, List, [], ◌∷◌, ◌++◌, get_or, Contains, refl, ap, sym, subst, ◌∙◌, arith, length-append, append-nil}
use Rattle.std.proofs.lemmas.Bool.{cases_eq}
use Rattle.std.proofs.lemmas.List.Elements.{Contains-append_left, Contains-append_right}
use Rattle.heap_model.specs.declared.block.Block.{Block}
use Rattle.heap_model.specs.Geometry.{lists, head_word, info_word}
use Rattle.heap_model.specs.Counting.{times}
use Rattle.heap_model.specs.Sizes.{IsClass, blocks_of}
use Rattle.heap_model.specs.Chains.{Walks}
use Rattle.heap_model.proofs.SizeLemmas.{four_blocks}
use Rattle.heap_at_rest.proofs.ListLemmas.{times_of, walk_behind}
use Rattle.heap_shape.specs.Shape.{Place, in_list, is_full, in_large, is_new}
use Rattle.heap_shape.specs.Standing.{first_of, IsFirstOf, HoldsAt, HasOneOwner, a_free, a_held, IsAs}
use Rattle.heap_shape.specs.Effects.{IsInSuperblock}
use Rattle.heap_shape.proofs.BasicLemmas.{first_inside, inside_one, cached_of_class}
use Rattle.block_heap.specs.declared.cache.Cache.{Cache}
use Rattle.block_heap.specs.declared.small.CachePrefix.{CachePrefix}
use Rattle.block_heap.specs.Flush.{IsCachePrefix, KeepsAll}
use Rattle.block_heap.specs.Lists.{head_at, IsInList, KeepsFree, KeepsList, CountsPops}
use Rattle.block_heap.specs.Parts.{Parts, image_of, held_in, cache_at}
use Rattle.block_heap.specs.Returns.{CachesAllOf, Flushes, GivesInRuns, GivesPrefix, IsLongest, GivesTo}
use Rattle.block_heap.specs.Running.{IsRunning}
use Rattle.block_heap.proofs.BlockRunLemmas.{cached_along}
use Rattle.block_heap.proofs.CacheRunsLemmas.{runs_none, runs_more}
use Rattle.block_heap.proofs.PrefixPlaceLemmas.{split, rest_long}
use Rattle.std.proofs.lemmas.List.{nil_from_length}
use Rattle.block_heap.proofs.OrderLemmas.{in_list_along, list_same, leads_same, pops_same, pops_then}
use Rattle.block_heap.proofs.WalkLemmas.{walk_begin}
use Rattle.block_heap.proofs.ReturnLemmas.{along_one, below, listed_where}

-- the cache is the same where loads see the same
pub only_same : (class d : ℕ) (p q : Parts) → q.capacity ≡ p.capacity → q.words.volatile ≡ p.words.volatile
    → cache_at q.caches class ≡ cache_at p.caches class
    → CachesAllOf class d p → CachesAllOf class d q
only_same class d p q capacity same cache all = (
  ap (λ (x : Cache). x.count) cache ∙ all.0,
  λ words along word has. subst (λ n. IsFirstOf n class d word) (sym capacity) (all.1 words (record {
    walks = subst (λ (xs : List ℕ). Walks (λ k. get_or xs k 0) (cache_at p.caches class).first words) same
        (subst (λ (x : Cache). Walks (image_of q) x.first words) cache along.walks);
    count = ap (λ (x : Cache). x.count) (sym cache) ∙ along.count;
  }) word has),
)

-- Where the longest prefix is all of the cache, it is all of a superblock.
module _ (p : Parts) (class : ℕ) (is : IsClass class) (run : IsRunning p) (prefix : CachePrefix) (is_prefix : IsCachePrefix class prefix p) where
  abbrev whole : List ℕ
  whole = is_prefix.before ++ prefix.batch.last ∷ []

  abbrev rest : List ℕ
  rest = (split p class is run prefix is_prefix).0

  cached_is : run.shape.cached class ≡ whole ++ rest
  cached_is = (split p class is run prefix is_prefix).1

  cached_walk : Walks (image_of p) (cache_at p.caches class).first (whole ++ rest)
  cached_walk = subst (λ ws. Walks (image_of p) (cache_at p.caches class).first ws) cached_is (cached_along p class is run).walks

  first_in : Contains whole (cache_at p.caches class).first
  first_in = walk_begin (image_of p) (cache_at p.caches class).first whole is_prefix.walks
      (let both = length-append is_prefix.before (prefix.batch.last ∷ []) in omega arith)

  -- a cache with all blocks of a superblock has them in its longest prefix
  pub all_in_prefix : IsLongest prefix p → (d : ℕ) → CachesAllOf class d p → (prefix.batch.count ≡ blocks_of class) × (prefix.d ≡ d)
  all_in_prefix longest d all = (counted, sym one) where
    in_all : (word : ℕ) → Contains (whole ++ rest) word → IsFirstOf p.capacity class d word
    in_all word has = all.1 (run.shape.cached class) (cached_along p class is run) word (subst (λ ws. Contains ws word) (sym cached_is) has)

    same_superblock : (word : ℕ) → IsFirstOf p.capacity class d word → IsFirstOf p.capacity class prefix.d word → d ≡ prefix.d
    same_superblock word a b = inside_one p.capacity d prefix.d word (first_inside p.capacity class d word is a)
        (first_inside p.capacity class prefix.d word is b)

    one : d ≡ prefix.d
    one = same_superblock (cache_at p.caches class).first (in_all (cache_at p.caches class).first
        (Contains-append_left whole rest (cache_at p.caches class).first first_in)) (is_prefix.firsts (cache_at p.caches class).first first_in)

    none_behind : prefix.rest.count ≡ 0
    none_behind = elim longest as (λ _. prefix.rest.count ≡ 0) [
      | inl none ↦ none
      | inr outside ↦ elim (cases_eq prefix.rest.count 0) as (λ _. prefix.rest.count ≡ 0) [
        | inl none ↦ none
        | inr some ↦
            let long = rest_long p class is run prefix is_prefix in
            let behind : Walks (image_of p) (image_of p prefix.batch.last) rest =
            walk_behind (image_of p) (cache_at p.caches class).first is_prefix.before prefix.batch.last rest cached_walk in
            let next : Contains rest (image_of p prefix.batch.last) = walk_begin (image_of p) (image_of p prefix.batch.last) rest behind
            (omega arith) in
            let first = in_all (image_of p prefix.batch.last) (Contains-append_right whole rest (image_of p prefix.batch.last) next) in
            let inside : IsInSuperblock p.capacity prefix.d (image_of p prefix.batch.last) =
            subst (λ k. IsInSuperblock p.capacity k (image_of p prefix.batch.last)) one
            (first_inside p.capacity class d (image_of p prefix.batch.last) is first) in
            absurd (outside (subst (λ word. IsInSuperblock p.capacity prefix.d word) (sym is_prefix.next) inside))
      ]
    ]

    counted : prefix.batch.count ≡ blocks_of class
    counted = let left = is_prefix.rest in let none = none_behind in let count = all.0 in omega arith

  -- and a prefix of as many blocks is all that the cache has
  pub prefix_is_all : prefix.batch.count ≡ blocks_of class → CachesAllOf class prefix.d p
  prefix_is_all count = (
    full,
    λ words along word has. is_prefix.firsts word
        (subst (λ ws. Contains ws word) only (subst (λ ws. Contains ws word) (along_one p class words is run along) has)),
  ) where
    most : (cache_at p.caches class).count ≤ blocks_of class
    most = (run.caches class is).most

    full : (cache_at p.caches class).count ≡ blocks_of class
    full = let left = is_prefix.rest in let few = most in omega arith

    none : rest ≡ []
    none = nil_from_length rest (let long = rest_long p class is run prefix is_prefix in let left = is_prefix.rest in let few = most in omega arith)

    only : run.shape.cached class ≡ whole
    only = cached_is ∙ ap (λ ws. whole ++ ws) none ∙ append-nil whole

-- a part of the cache was given back: none was yet, or the cache is shorter, and what it had all blocks of is in the free list
pub record FlushesSoFar (class : ℕ) (p q : Parts) : Type 0 where
  pub free : KeepsFree p q
  pub listed : (d : ℕ) → IsInList p class d → IsInList q class d
  pub only : (d : ℕ) → IsInList q 0 d → IsInList p 0 d ⊎ CachesAllOf class d p
  pub same_capacity : q.capacity ≡ p.capacity
  -- what is still in the cache, as runs, makes runs of all of it
  pub in_runs : (x : Parts) → GivesInRuns class q x → GivesInRuns class p x
  pub heads : (c : ℕ) → IsClass c → c ≢ class → head_at q c ≡ head_at p c
  pub lists : (c : ℕ) → IsClass c → c ≢ class → KeepsList p q c
  pub pops : CountsPops class 0 0 p q
  pub infos : (d : ℕ) → d < p.capacity → image_of q (info_word d) ≡ image_of p (info_word d)
  pub way : ((q.capacity ≡ p.capacity) × (q.words.volatile ≡ p.words.volatile) × (cache_at q.caches class ≡ cache_at p.caches class))
      ⊎ (((cache_at q.caches class).count < (cache_at p.caches class).count) × ((d : ℕ) → CachesAllOf class d p → IsInList q 0 d))

pub flushes_none : (class : ℕ) (p : Parts) → FlushesSoFar class p p
flushes_none class p = record {
  free = λ d there. there;
  listed = λ d there. there;
  only = λ d there. inl there;
  same_capacity = refl;
  in_runs = λ x back. back;
  heads = λ c is other. refl;
  lists = λ c is other ds leads. leads;
  pops = pops_same class p p refl;
  infos = λ d below. refl;
  way = inl (refl, refl, refl);
}

-- one prefix more
module _ (class : ℕ) (p q r t : Parts) (is : IsClass class) (most : (cache_at p.caches class).count ≤ blocks_of class) (before : FlushesSoFar class p q)
    (capacity : r.capacity ≡ q.capacity) (volatile : r.words.volatile ≡ q.words.volatile) (cache : cache_at r.caches class ≡ cache_at q.caches class)
    (run : IsRunning r) (prefix : CachePrefix) (is_prefix : IsCachePrefix class prefix r) (longest : IsLongest prefix r) (some : 1 ≤ prefix.batch.count)
    (to : GivesTo class prefix r t) (gave : GivesPrefix class prefix r t) (now_capacity : t.capacity ≡ r.capacity)
    (back : cache_at t.caches class ≡ prefix.rest) where
  loaded : (list d : ℕ) → IsInList q list d → IsInList r list d
  loaded list d there = list_same q r list d capacity volatile there

  now_free : (d : ℕ) → CachesAllOf class d p → IsInList t 0 d
  now_free d all = elim before.way as (λ _. IsInList t 0 d) [
    | inl same ↦
        let found = all_in_prefix r class is run prefix is_prefix longest d
        (only_same class d p r (capacity ∙ same.0) (volatile ∙ same.1) (cache ∙ same.2) all) in
        subst (λ k. IsInList t 0 k) found.1 (to.all found.0)
    | inr less ↦ to.free d (loaded 0 d (less.1 d all))
  ]

  pub flushes_more : FlushesSoFar class p t
  flushes_more = record {
    free = λ d there. to.free d (loaded 0 d (before.free d there));
    listed = λ d there. to.listed d (loaded class d (before.listed d there));
    only = λ d there. elim (to.only d there) as (λ _. IsInList p 0 d ⊎ CachesAllOf class d p) [
      | inl was ↦ before.only d (list_same r q 0 d (sym capacity) (sym volatile) was)
      | inr now ↦ inr (subst (λ k. CachesAllOf class k p) (sym now.0) (elim before.way as (λ _. CachesAllOf class prefix.d p) [
        | inl same ↦ only_same class prefix.d r p (sym (capacity ∙ same.0)) (sym (volatile ∙ same.1)) (sym (cache ∙ same.2))
            (prefix_is_all r class is run prefix is_prefix now.1)
        | inr less ↦ absurd (
            let was : (cache_at r.caches class).count ≡ (cache_at q.caches class).count = ap (λ (x : Cache). x.count) cache in
            let left = is_prefix.rest in
            let all = now.1 in
            let fewer = less.0 in
            omega arith)
      ]))
    ];
    same_capacity = now_capacity ∙ capacity ∙ before.same_capacity;
    in_runs = λ x after. before.in_runs x (runs_more class q r t x capacity volatile cache is prefix longest gave now_capacity back after);
    heads = λ c is_c other.
        to.heads c is_c other ∙ ap (λ (xs : List ℕ). get_or xs (head_word c) 0) volatile ∙ before.heads c is_c other;
    lists = λ c is_c other ds leads.
        to.lists c is_c other ds (leads_same r q c ds (sym capacity) (sym volatile) (before.lists c is_c other ds leads));
    pops = pops_then class 0 0 0 0 0 p q t refl before.pops (pops_then class 0 0 0 0 0 q r t refl (pops_same class q r volatile) to.pops);
    infos = λ d below.
        let inside : d < r.capacity = subst (λ n. d < n) (sym (capacity ∙ before.same_capacity)) below in
        to.infos d inside ∙ ap (λ (xs : List ℕ). get_or xs (info_word d) 0) volatile ∙ before.infos d below;
    way = inr (
      (let now : (cache_at t.caches class).count ≡ prefix.rest.count = ap (λ (x : Cache). x.count) back in
          let was : (cache_at r.caches class).count ≡ (cache_at q.caches class).count = ap (λ (x : Cache). x.count) cache in
          let left = is_prefix.rest in
          elim before.way as (λ _. (cache_at t.caches class).count < (cache_at p.caches class).count) [
            | inl same ↦ let count : (cache_at q.caches class).count ≡ (cache_at p.caches class).count = ap (λ (x : Cache). x.count) same.2 in
                omega arith
            | inr fewer ↦ omega (arith, fewer.0)
          ]),
      now_free,
    );
  }

-- a cached block was free, and it is in the chain of a listed superblock when the cache is empty
module _ (class : ℕ) (p q : Parts) (is : IsClass class) (run : IsRunning p) (now : IsRunning q) (held : held_in q ≡ held_in p)
    (so_far : FlushesSoFar class p q) (empty : (cache_at q.caches class).count ≡ 0) where
  not_held : (word : ℕ) → Contains (run.shape.cached class) word → HoldsAt (held_in p) word → ⊥
  not_held word has =
      let found = run.is.cached class word is has in
      let of = cached_of_class p.capacity (image_of p) (held_in p) run.shape run.is class word is has in
      let first = found.is_first in
      by_owner found.superblock (subst (HasOneOwner run.shape (held_in p) class found.superblock) (sym first.at) (of.owned first.index first.below))
    where
      by_owner : (d : ℕ) → HasOneOwner run.shape (held_in p) class d word → HoldsAt (held_in p) word → ⊥
      by_owner d (a_free one none) = none
      by_owner d (a_held none holds) = λ _. let some = times_of word (run.shape.cached class) has in omega arith

  none_cached : now.shape.cached class ≡ []
  none_cached = nil_from_length (now.shape.cached class) (sym (now.caches class is).count ∙ empty)

  pub listed_now : (word d : ℕ) → Contains (run.shape.cached class) word → IsFirstOf p.capacity class d word → IsInList q class d ⊎ IsInList q 0 d
  listed_now word d has first = by_place (now.shape.place d) refl (now.is.places d (subst (λ n. d < n) (sym so_far.same_capacity) below)) where
    found_is : (run.is.cached class word is has).superblock ≡ d
    found_is =
        let found = run.is.cached class word is has in
        inside_one p.capacity found.superblock d word (first_inside p.capacity class found.superblock word is found.is_first)
        (first_inside p.capacity class d word is first)

    below : d < p.capacity
    below = subst (λ k. k < p.capacity) found_is (run.is.cached class word is has).within

    was_info : image_of p (info_word d) ≡ class
    was_info = subst (λ k. image_of p (info_word k) ≡ class) found_is
        (cached_of_class p.capacity (image_of p) (held_in p) run.shape run.is class word is has).info

    info : image_of q (info_word d) ≡ class
    info = so_far.infos d below ∙ was_info

    in_list_of : (list : ℕ) → list < lists → now.shape.place d ≡ in_list list → IsInList q list d
    in_list_of list less at = in_list_along q list d (now.shape.listed list) (now.is.follows list less)
        (listed_where q.capacity (image_of q) (held_in q) now.shape now.is list d less at)

    by_owner : (c : ℕ) → c ≡ class → now.shape.chain d ≡ [] → HasOneOwner now.shape (held_in q) c d word → ⊥
    by_owner c same chain (a_free one none) =
        let cached : now.shape.cached c ≡ [] = ap now.shape.cached same ∙ none_cached in
        let in_chain : times word (now.shape.chain d) ≡ 0 = ap (times word) chain in
        let in_cache : times word (now.shape.cached c) ≡ 0 = ap (times word) cached in
        omega arith
    by_owner c same chain (a_held none holds) = not_held word has (subst (λ (blocks : List Block). HoldsAt blocks word) held holds)

    by_place : (place : Place) → now.shape.place d ≡ place → IsAs q.capacity (image_of q) now.shape (held_in q) d place
        → IsInList q class d ⊎ IsInList q 0 d
    by_place (in_list zero) at free = inr (in_list_of 0 (omega arith) at)
    by_place (in_list (suc c)) at listed =
        let same : suc c ≡ class = sym listed.of_class.info ∙ info in
        let last = is.last in
        inl (in_list_of class (omega arith) (at ∙ ap in_list same))
    by_place is_full at full =
        let same : first_of q.capacity (image_of q (info_word d)) d first.index ≡ word =
        ap (λ c. first_of q.capacity c d first.index) info ∙ ap (λ n. first_of n class d first.index) so_far.same_capacity ∙ sym first.at in
        absurd (by_owner (image_of q (info_word d)) info full.none
        (subst (HasOneOwner now.shape (held_in q) (image_of q (info_word d)) d) same
        (full.of_class.owned first.index (subst (λ c. first.index < blocks_of c) (sym info) first.below))))
    by_place in_large at large = absurd (large.no_class (subst IsClass (sym info) is))
    by_place is_new at new = absurd (let some = is.some in let none = new.info in let cut = info in omega arith)

-- all was given back
pub flushes_all : (class : ℕ) (p q : Parts) → IsClass class → IsRunning p → IsRunning q → held_in q ≡ held_in p → FlushesSoFar class p q
    → KeepsAll class p q
    → (cache_at q.caches class).count ≡ 0 → Flushes class p q
flushes_all class p q is run now held so_far keeps empty = record {
  capacity = so_far.same_capacity;
  in_runs = so_far.in_runs q (runs_none class q empty);
  empty = empty;
  caches = keeps.caches;
  heads = so_far.heads;
  lists = so_far.lists;
  pops = so_far.pops;
  infos = so_far.infos;
  free = so_far.free;
  listed = so_far.listed;
  all = λ d all. elim so_far.way as (λ _. IsInList q 0 d) [
    | inl same ↦ absurd (
        let count : (cache_at q.caches class).count ≡ (cache_at p.caches class).count = ap (λ (x : Cache). x.count) same.2 in
        let four = four_blocks class is in
        omega (arith, all.0))
    | inr done ↦ done.1 d all
  ];
  only = so_far.only;
  given = λ words along word d has first.
      listed_now class p q is run now held so_far empty word d (subst (λ ws. Contains ws word) (along_one p class words is run along) has) first;
}
