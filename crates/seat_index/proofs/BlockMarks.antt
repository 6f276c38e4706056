-- Which small blocks are a seat's, and their classes, after blocks went from one place to another, came or went.
use Rattle.std.proofs.Common.{◌≡◌, ℕ, ◌+◌, ◌<◌, ◌≤◌, ◌↔◌, ◌⊎◌, inl, inr, Bool, true, false, List, [], ◌∷◌, ◌++◌, get_or, set, length, ap, sym, subst, ◌∙◌, true≢false, arith}
use Rattle.std.proofs.lemmas.Bool.{cases_eq, cases_lt}
use Rattle.std.proofs.lemmas.List.{get_or-set_same, get_or-set_other}
use Rattle.heap_model.specs.Counting.{times, total, without}
use Rattle.heap_model.specs.Geometry.{superblock_of}
use Rattle.core_model.specs.View.{of_class}
use Rattle.core_model.specs.Effects.{first_of, rest_of}
use Rattle.core_model.proofs.BlockLemmas.{of_class_same, of_class_other, total_lists}
use Rattle.core_model.proofs.FrameLemmas.{times_append, times_without}
use Rattle.core_model.proofs.OwnerLemmas.{in_lists_total}
use Rattle.core_model.proofs.ClassListLemmas.{first_rest}
use Rattle.core_model.proofs.TotalLemmas.{ne-eqb-none}
use Rattle.seat_index.specs.Owned.{OwnedParts, IsMarking, AreMarked, AreClasses, times_had}

-- marks of counts that are alike
pub marked_alike : (marks : List Bool) (f g : ℕ → ℕ) → ((n : ℕ) → g n ≡ f n) → AreMarked marks f → AreMarked marks g
marked_alike marks f g same are n = (λ e. subst (λ m. 0 < m) (sym (same n)) ((are n).0 e), λ some. (are n).1 (subst (λ m. 0 < m) (same n) some))

-- marks to which some numbers came
pub marked_more : (old new : List Bool) (f g : ℕ → ℕ) (xs : List ℕ) → IsMarking old new xs true → ((n : ℕ) → g n ≡ f n + times n xs)
    → AreMarked old f → AreMarked new g
marked_more old new f g xs marking same are n = elim (cases_lt 0 (times n xs)) as (λ _. (get_or new n false ≡ true) ↔ (0 < g n)) [
  | inl here ↦ (λ e. let s = same n in omega arith, λ some. marking.inside n here)
  | inr none ↦ let s = same n in (
    λ e. let o = (are n).0 (sym (marking.outside n (omega arith)) ∙ e) in omega arith,
    λ some. marking.outside n (omega arith) ∙ (are n).1 (omega arith),
  )
]

-- marks that some numbers, each of which counted once, lost
pub marked_less : (old new : List Bool) (f g : ℕ → ℕ) (xs : List ℕ) → IsMarking old new xs false → ((n : ℕ) → g n + times n xs ≡ f n)
    → ((n : ℕ) → f n ≤ 1) → AreMarked old f → AreMarked new g
marked_less old new f g xs marking same once are n = elim (cases_lt 0 (times n xs)) as (λ _. (get_or new n false ≡ true) ↔ (0 < g n)) [
  | inl here ↦ (λ e. absurd (true≢false (sym e ∙ marking.inside n here)), λ some. absurd (let s = same n in let o = once n in omega arith))
  | inr none ↦ let s = same n in (
    λ e. let o = (are n).0 (sym (marking.outside n (omega arith)) ∙ e) in omega arith,
    λ some. marking.outside n (omega arith) ∙ (are n).1 (omega arith),
  )
]

-- a member of a list by class, after the list of one class is another
in_set : (lists : List (List ℕ)) (class : ℕ) (xs : List ℕ) (c b : ℕ) → class < length lists → 0 < times b (of_class (set lists class xs) c)
    → ((c ≡ class) × (0 < times b xs)) ⊎ (0 < times b (of_class lists c))
in_set lists class xs c b less some = elim (cases_eq c class) [
  | inl same ↦ inl (same, subst (λ l. 0 < times b l) (of_class_same lists class xs c same less) some)
  | inr other ↦ inr (subst (λ l. 0 < times b l) (of_class_other lists class xs c other) some)
]

module _ (p : OwnedParts) (class : ℕ) (less_small : class < length p.small) (less : class < length p.caches)
    (some : 1 ≤ length (of_class p.caches class)) where
  abbrev cs : List ℕ
  cs = of_class p.caches class

  abbrev first : ℕ
  first = first_of cs

  in_cache : (b : ℕ) → times b cs ≡ times b (first ∷ []) + times b (rest_of cs)
  in_cache b = let e = ap (times b) (first_rest cs some) in omega arith

  -- the first block of a cache is held, or behind the batch
  abbrev pub alloc_parts : OwnedParts
  alloc_parts = record p { small = set p.small class (first ∷ of_class p.small class); caches = set p.caches class (rest_of cs) }

  pub alloc_times : (b : ℕ) → times_had b alloc_parts ≡ times_had b p
  alloc_times b = let s = total_lists b p.small class (first ∷ of_class p.small class) less_small in
      let t = total_lists b p.caches class (rest_of cs) less in let c = in_cache b in omega arith

  pub alloc_classes : (classes : List ℕ) → AreClasses classes p → AreClasses classes alloc_parts
  alloc_classes classes are = record {
    held = λ c b there. elim (in_set p.small class (first ∷ of_class p.small class) c b less_small there) [
      | inl here ↦ elim (cases_lt 0 (times b cs)) [
        | inl cached ↦ are.cached class b cached ∙ sym here.0
        | inr not ↦ are.held class b (let h = here.1 in let i = in_cache b in omega arith) ∙ sym here.0
      ]
      | inr old ↦ are.held c b old
    ];
    cached = λ c b there. elim (in_set p.caches class (rest_of cs) c b less there) [
      | inl here ↦ are.cached class b (let h = here.1 in let i = in_cache b in omega arith) ∙ sym here.0
      | inr old ↦ are.cached c b old
    ];
    batched = are.batched;
  }

  abbrev pub lift_parts : OwnedParts
  lift_parts = record p { caches = set p.caches class (rest_of cs); batch = p.batch ++ first ∷ []; batch_class = class }

  pub lift_times : (b : ℕ) → times_had b lift_parts ≡ times_had b p
  lift_times b = let t = total_lists b p.caches class (rest_of cs) less in let c = in_cache b in let a = times_append b p.batch (first ∷ []) in
      omega arith

  -- the batch is empty, or of the same superblock
  pub lift_classes : (classes : List ℕ) → (1 ≤ length p.batch → p.batch_class ≡ class) → AreClasses classes p → AreClasses classes lift_parts
  lift_classes classes same are = record {
    held = are.held;
    cached = λ c b there. elim (in_set p.caches class (rest_of cs) c b less there) [
      | inl here ↦ are.cached class b (let h = here.1 in let i = in_cache b in omega arith) ∙ sym here.0
      | inr old ↦ are.cached c b old
    ];
    batched = λ b there. elim (cases_lt 0 (times b p.batch)) [
      | inl old ↦ are.batched b old ∙ same (member_some b p.batch old)
      | inr not ↦ are.cached class b (let a = times_append b p.batch (first ∷ []) in let c = in_cache b in omega arith)
    ];
  } where
    member_some : (b : ℕ) (xs : List ℕ) → 0 < times b xs → 1 ≤ length xs
    member_some b [] there = absurd (omega arith)
    member_some b (x ∷ xs) there = omega arith

-- a held block is in front of the cache of its class
module _ (p : OwnedParts) (class : ℕ) (block : ℕ) (less_small : class < length p.small) (less : class < length p.caches)
    (held : 0 < times block (of_class p.small class)) where
  abbrev pub free_parts : OwnedParts
  free_parts = record p {
    small = set p.small class (without block (of_class p.small class));
    caches = set p.caches class (block ∷ of_class p.caches class);
  }

  pub free_times : (b : ℕ) → times_had b free_parts ≡ times_had b p
  free_times b = let s = total_lists b p.small class (without block (of_class p.small class)) less_small in
      let t = total_lists b p.caches class (block ∷ of_class p.caches class) less in
      let w = times_without b block (of_class p.small class) held in omega arith

  pub free_classes : (classes : List ℕ) → AreClasses classes p → AreClasses classes free_parts
  free_classes classes are = record {
    held = λ c b there. elim (in_set p.small class (without block (of_class p.small class)) c b less_small there) [
      | inl here ↦ are.held class b (let h = here.1 in let w = times_without b block (of_class p.small class) held in omega arith) ∙ sym here.0
      | inr old ↦ are.held c b old
    ];
    cached = λ c b there. elim (in_set p.caches class (block ∷ of_class p.caches class) c b less there) [
      | inl here ↦ elim (cases_eq block b) [
        | inl same ↦ subst (λ n. get_or classes (superblock_of p.capacity n) 0 ≡ c) same (are.held class block held ∙ sym here.0)
        | inr other ↦ are.cached class b (let h = here.1 in let z = ne-eqb-none block b other in omega arith) ∙ sym here.0
      ]
      | inr old ↦ are.cached c b old
    ];
    batched = are.batched;
  }

-- blocks of a superblock of which the seat had none come into an empty cache
module _ (p : OwnedParts) (class d : ℕ) (xs : List ℕ) (less : class < length p.caches) (empty : of_class p.caches class ≡ []) where
  abbrev pub cached_parts : OwnedParts
  cached_parts = record p { caches = set p.caches class xs }

  pub cached_times : (b : ℕ) → times_had b cached_parts ≡ times_had b p + times b xs
  cached_times b = let t = total_lists b p.caches class xs less in let e = ap (times b) empty in omega arith

  pub cached_classes : (classes : List ℕ) → d < length classes → ((b : ℕ) → 0 < times b xs → superblock_of p.capacity b ≡ d)
      → ((b : ℕ) → 0 < times_had b p → superblock_of p.capacity b ≡ d → get_or classes d 0 ≡ class) → AreClasses classes p
      → AreClasses (set classes d class) cached_parts
  cached_classes classes inside of_d same are = record {
    held = λ c b there. kept b c (are.held c b there) (let t = in_total b c p.small there in omega arith);
    cached = λ c b there. elim (in_set p.caches class xs c b less there) [
      | inl here ↦ ap (λ n. get_or (set classes d class) n 0) (of_d b here.1) ∙ get_or-set_same classes d class 0 inside ∙ sym here.0
      | inr old ↦ kept b c (are.cached c b old) (let t = in_total b c p.caches old in omega arith)
    ];
    batched = λ b there. kept b p.batch_class (are.batched b there) (omega arith);
  } where
    in_total : (b c : ℕ) (lists : List (List ℕ)) → 0 < times b (of_class lists c) → 0 < total (times b) lists
    in_total b c lists there = in_lists_total b c lists there

    kept : (b c : ℕ) → get_or classes (superblock_of p.capacity b) 0 ≡ c → 0 < times_had b p
        → get_or (set classes d class) (superblock_of p.capacity b) 0 ≡ c
    kept b c is had = elim (cases_eq (superblock_of p.capacity b) d) [
      | inl here ↦ ap (λ n. get_or (set classes d class) n 0) here ∙ get_or-set_same classes d class 0 inside ∙ sym (same b had here)
          ∙ ap (λ n. get_or classes n 0) (sym here) ∙ is
      | inr other ↦ get_or-set_other classes d (superblock_of p.capacity b) class 0 other ∙ is
    ]
