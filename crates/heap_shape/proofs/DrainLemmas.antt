-- What is to be drained stays the same where a superblock is taken, recycled or cut.
use Rattle.std.proofs.Common.{◌≡◌, ◌≢◌, ℕ, ◌+◌, ◌<◌, ◌≤◌, ◌⊎◌, inl, inr, List, ◌∷◌, Contains, ap, sym, subst, ◌∙◌, arith}
use Rattle.std.proofs.lemmas.Bool.{cases_eq, cases_lt}
use Rattle.heap_model.specs.declared.block.Block.{Block}
use Rattle.heap_model.specs.Geometry.{head_word, info_word, anchor_word, link_word, used_word, start_word}
use Rattle.heap_model.specs.Image.{Image}
use Rattle.heap_model.specs.Sizes.{IsClass}
use Rattle.heap_model.specs.Words.{full_anchor, head_first}
use Rattle.heap_model.specs.Recovered.{HasPartIn, beside, freed, fresh}
use Rattle.heap_model.specs.Chains.{Follows}
use Rattle.heap_model.specs.Counting.{times}
use Rattle.heap_model.proofs.MemberLemmas.{in_rest, head_or_rest}
use Rattle.heap_model.proofs.PartLemmas.{cases_parts}
use Rattle.heap_at_rest.proofs.PartLemmas.{part_taken}
use Rattle.heap_at_rest.proofs.ListLemmas.{follows_same}
use Rattle.heap_shape.specs.Shape.{in_list, Shape}
use Rattle.heap_shape.specs.Standing.{IsFree}
use Rattle.heap_at_rest.specs.Draining.{HasNoHeld, layout_at, IsInFreeList, IsDrainable, IsToDrain}
use Rattle.heap_shape.specs.Whole.{IsShape}
use Rattle.heap_shape.specs.Effects.{IsSet, IsPoppedOf, IsPushedOn, IsCut}
use Rattle.heap_shape.specs.Draining.{HasUse, for_class, for_held, for_later, IsAccounted, DrainsSame}
use Rattle.heap_shape.proofs.AccountLemmas.{in_listed}
use Rattle.heap_at_rest.proofs.DrainableLemmas.{free_follows}
use Rattle.heap_shape.proofs.BasicLemmas.{one_list, first_place, member_place, in_free_list}
use Rattle.heap_shape.proofs.CutLemmas.{follows_popped}
use Rattle.heap_shape.proofs.OwnLemmas.{none_past}
use Rattle.heap_shape.proofs.RefillLemmas.{cut_before}

-- superblock e gets the class, or keeps its info and stays in the free list
abbrev Stays : ℕ → Image → Image → List ℕ → List ℕ → ℕ → Type 0
Stays class image new listed free e =
    (new (info_word e) ≡ class) ⊎ ((e < image used_word) × (new (info_word e) ≡ image (info_word e)) × (Contains listed e → Contains free e))

-- what is to be drained is the same where `used` grows, and where the info of each superblock with a part of a held block stays
module _ (capacity class : ℕ) (image new : Image) (held : List Block) (s : Shape) (shape : IsShape capacity image held s)
    (raised : image used_word ≤ new used_word) (most : new used_word ≤ capacity)
    (infos : (b : Block) (d : ℕ) → Contains held b → HasPartIn capacity b d → new (info_word d) ≡ image (info_word d)) where
  still_drained : (b : Block) → IsToDrain capacity image held class b → IsToDrain capacity new held class b
  still_drained b (beside _ d index is taken info of unkept not_free) =
      elim (cases_parts capacity held d) as (λ _. IsToDrain capacity new held class b) [
        | inl some ↦ beside b d index is (omega arith) (infos some.0 d some.1 some.2 ∙ info) of unkept (λ free. free.empty some.0 some.1 some.2)
        | inr none ↦ absurd (not_free (record { taken = taken; empty = none }))
      ]
  still_drained b (freed _ d index is free of) = let taken = free.taken in freed b d index is (record { taken = omega arith; empty = free.empty }) of
  still_drained b (fresh _ d index is past within of) = elim (cases_lt d (new used_word)) as (λ _. IsToDrain capacity new held class b) [
    | inl taken ↦ freed b d index is (record { taken = taken; empty = none_past capacity d image held s shape past }) of
    | inr still ↦ fresh b d index is still within of
  ]

  drained_before : (b : Block) → IsToDrain capacity new held class b → IsToDrain capacity image held class b
  drained_before b (beside _ d index is taken info of unkept not_free) =
      elim (cases_parts capacity held d) as (λ _. IsToDrain capacity image held class b) [
        | inl some ↦
            let was = part_taken (layout_at capacity image) some.0 d (shape.named some.0 some.1) some.2 in
            beside b d index is was (sym (infos some.0 d some.1 some.2) ∙ info) of unkept (λ free. free.empty some.0 some.1 some.2)
        | inr none ↦ absurd (not_free (record { taken = taken; empty = none }))
      ]
  drained_before b (freed _ d index is free of) = elim (cases_lt d (image used_word)) as (λ _. IsToDrain capacity image held class b) [
    | inl taken ↦ freed b d index is (record { taken = taken; empty = free.empty }) of
    | inr past ↦ let taken = free.taken in fresh b d index is past (omega arith) of
  ]
  drained_before b (fresh _ d index is past within of) = fresh b d index is (omega arith) within of

  -- and the heap stays drainable where a superblock gets the class, or keeps its info and stays in the free list
  drains_same : (free : List ℕ) → Follows (λ e. new (link_word e)) capacity (head_first (new (head_word 0))) free
      → ((e : ℕ) → e < new used_word → Stays class image new (s.listed 0) free e)
      → IsClass class → DrainsSame capacity class held image new
  drains_same free follows each is = record {
    has = still_drained;
    only = drained_before;
    drainable = λ drainable. record { each = λ e taken none. still_drainable drainable e none (each e taken) };
    accounted = λ before. record { each = λ e taken. still_used before e (each e taken) };
  } where
    -- in the free list as before
    still_free : (e : ℕ) → (Contains (s.listed 0) e → Contains free e) → IsInFreeList capacity image e → IsInFreeList capacity new e
    still_free e stays in_free = free_follows capacity e new free follows (stays (in_listed capacity e image held s shape in_free))

    still_used : IsAccounted capacity image held → (e : ℕ) → Stays class image new (s.listed 0) free e → HasUse capacity new held e
    still_used before e (inl cut) = for_class (subst IsClass (sym cut) is)
    still_used before e (inr stays) = by_use (before.each e stays.0) where
      by_use : HasUse capacity image held e → HasUse capacity new held e
      by_use (for_class is_class) = for_class (subst IsClass (sym stays.1) is_class)
      by_use (for_held b holds part) = for_held b holds part
      by_use (for_later in_free) = for_later (still_free e stays.2 in_free)

    still_drainable : IsDrainable capacity image held class → (e : ℕ) → HasNoHeld capacity held e
        → Stays class image new (s.listed 0) free e
        → (new (info_word e) ≡ class) ⊎ IsInFreeList capacity new e
    still_drainable drainable e none (inl cut) = inl cut
    still_drainable drainable e none (inr stays) = elim (drainable.each e stays.0 none) as
        (λ _. (new (info_word e) ≡ class) ⊎ IsInFreeList capacity new e) [
          | inl info ↦ inl (stays.1 ∙ info)
          | inr in_free ↦ inr (still_free e stays.2 in_free)
        ]

-- the cache was filled from a partial superblock
pub take_drains : (capacity class d : ℕ) (image middle new : Image) (held : List Block) (s : Shape) (ds : List ℕ) → IsClass class
    → IsShape capacity image held s → s.listed class ≡ d ∷ ds
    → IsPoppedOf image middle class d → IsSet middle new (anchor_word d) full_anchor → DrainsSame capacity class held image new
take_drains capacity class d image middle new held s ds is shape list popped set =
    drains_same capacity class image new held s shape (omega (arith, used)) (omega (arith, used, shape.used)) (λ b e holds part. info e)
    (s.listed 0) leads
    (λ e taken. inr (omega (arith, used), info e, λ p. p)) is where
      -- the words but two are as before
      same : (word : ℕ) → word ≢ anchor_word d → word ≢ head_word class → new word ≡ image word
      same word not_anchor not_head = set.others word not_anchor ∙ popped.set.others word not_head

      used : new used_word ≡ image used_word
      used = same used_word (λ e. omega arith) (λ e. omega arith)

      info : (e : ℕ) → new (info_word e) ≡ image (info_word e)
      info e = let last = is.last in same (info_word e) (λ q. omega arith) (λ q. omega arith)

      head : new (head_word 0) ≡ image (head_word 0)
      head = let some = is.some in same (head_word 0) (λ q. omega arith) (λ q. omega arith)

      leads : Follows (λ e. new (link_word e)) capacity (head_first (new (head_word 0))) (s.listed 0)
      leads = let last = is.last in
          subst (λ h. Follows (λ e. new (link_word e)) capacity (head_first h) (s.listed 0)) (sym head)
          (follows_same (λ e. image (link_word e)) (λ e. new (link_word e)) capacity (head_first (image (head_word 0))) (s.listed 0)
          (λ e p. same (link_word e) (λ q. omega arith) (λ q. omega arith)) (shape.follows 0 (omega arith)))

-- a superblock with no block in use went to the free list
pub recycle_drains : (capacity class d : ℕ) (image middle new : Image) (held : List Block) (s : Shape) (ds : List ℕ) → IsClass class
    → IsShape capacity image held s → s.listed class ≡ d ∷ ds
    → IsPoppedOf image middle class d → IsPushedOn middle new 0 d → DrainsSame capacity class held image new
recycle_drains capacity class d image middle new held s ds is shape list popped pushed =
    drains_same capacity class image new held s shape (omega (arith, used)) (omega (arith, used, shape.used)) (λ b e holds part. info e)
    (d ∷ s.listed 0) leads
    (λ e taken. inr (omega (arith, used), info e, in_rest d e (s.listed 0))) is where
      -- the words but three are as before
      same : (word : ℕ) → word ≢ head_word class → word ≢ link_word d → word ≢ head_word 0 → new word ≡ image word
      same word no_class_head no_link no_head = pushed.head.others word no_head ∙ pushed.link.others word no_link ∙ popped.set.others word no_class_head

      used : new used_word ≡ image used_word
      used = same used_word (λ q. omega arith) (λ q. omega arith) (λ q. omega arith)

      info : (e : ℕ) → new (info_word e) ≡ image (info_word e)
      info e = let last = is.last in same (info_word e) (λ q. omega arith) (λ q. omega arith) (λ q. omega arith)

      first : (s.place d ≡ in_list class) × (d < capacity) × (times d ds ≡ 0)
      first = let last = is.last in first_place capacity image held s shape class d ds (omega arith) list

      -- the superblock was not in the free list
      apart : (e : ℕ) → Contains (s.listed 0) e → e ≢ d
      apart e p one =
          let some = is.some in
          let place : s.place d ≡ in_list 0 = subst (λ x. s.place x ≡ in_list 0) one (member_place capacity image held s shape 0 e (omega arith) p).0 in
          let same_list : class ≡ 0 = one_list class 0 (sym first.0 ∙ place) in
          omega arith

      leads : Follows (λ e. new (link_word e)) capacity (head_first (new (head_word 0))) (d ∷ s.listed 0)
      leads =
          let some = is.some in
          let last = is.last in
          let within = first.1 in
          let small = shape.small in
          let set = pushed.head.at in
          let head : middle (head_word 0) ≡ image (head_word 0) = popped.set.others (head_word 0) (λ q. omega arith) in
          let link : new (link_word d) ≡ head_first (image (head_word 0)) =
          pushed.head.others (link_word d) (λ q. omega arith) ∙ pushed.link.at ∙ ap head_first head in (
            omega arith,
            within,
            subst (λ x. Follows (λ e. new (link_word e)) capacity x (s.listed 0)) (sym link)
                (follows_same (λ e. image (link_word e)) (λ e. new (link_word e)) capacity (head_first (image (head_word 0))) (s.listed 0)
                (λ e p. let other = apart e p in same (link_word e) (λ q. omega arith) (λ q. other (omega arith)) (λ q. omega arith))
                (shape.follows 0 (omega arith))),
          )

-- the words outside superblocks but two are as before the cut
-- a superblock was cut
pub cut_free_drains : (capacity class d : ℕ) (image middle new : Image) (held : List Block) (s : Shape) (ds : List ℕ) → IsClass class
    → IsShape capacity image held s → s.listed 0 ≡ d ∷ ds
    → IsPoppedOf image middle 0 d → IsCut capacity middle new class d → DrainsSame capacity class held image new
cut_free_drains capacity class d image middle new held s ds is shape list popped cut =
    drains_same capacity class image new held s shape (omega (arith, used)) (omega (arith, used, shape.used)) held_info ds
    (follows_popped capacity image held s shape middle new 0 d ds (omega arith) list popped
    (λ other less. cut_before capacity class d middle new (head_word other) cut (omega arith) (λ e. omega arith) (λ e. omega arith))
    (λ e within. same (link_word e) (omega arith) (λ at. omega arith) (λ at. omega arith) (λ at. omega arith)) 0 (omega arith)) each is where
      -- the words outside superblocks but three are as before
      same : (word : ℕ) → word < start_word capacity 0 → word ≢ info_word d → word ≢ anchor_word d → word ≢ head_word 0 → new word ≡ image word
      same word less not_info not_anchor not_head = cut_before capacity class d middle new word cut less not_info not_anchor
          ∙ popped.set.others word not_head

      first : (s.place d ≡ in_list 0) × (d < capacity) × (times d ds ≡ 0)
      first = first_place capacity image held s shape 0 d ds (omega arith) list

      free : IsFree capacity image held d
      free = in_free_list capacity image held s shape d first.1 first.0

      used : new used_word ≡ image used_word
      used = same used_word (omega arith) (λ e. omega arith) (λ e. omega arith) (λ e. omega arith)

      info : (e : ℕ) → e < capacity → e ≢ d → new (info_word e) ≡ image (info_word e)
      info e within apart = same (info_word e) (omega arith) (λ at. apart (omega arith)) (λ at. omega arith) (λ at. omega arith)

      held_info : (b : Block) (e : ℕ) → Contains held b → HasPartIn capacity b e → new (info_word e) ≡ image (info_word e)
      held_info b e holds part =
          let taken = part_taken (layout_at capacity image) b e (shape.named b holds) part in
          let most = shape.used in
          info e (omega arith) (λ one. free.none b holds (subst (HasPartIn capacity b) one part))

      each : (e : ℕ) → e < new used_word → Stays class image new (s.listed 0) ds e
      each e taken = elim (cases_eq e d) as (λ _. Stays class image new (s.listed 0) ds e) [
        | inl one ↦ inl (subst (λ x. new (info_word x) ≡ class) (sym one) cut.info)
        | inr apart ↦ let most = shape.used in let keeps = used in
            inr (
              omega arith,
              info e (omega arith) apart,
              λ p. elim (head_or_rest d e ds (subst (λ xs. Contains xs e) list p)) as (λ _. Contains ds e) [
                | inl one ↦ absurd (apart (sym one))
                | inr later ↦ later
              ],
            )
      ]

pub cut_fresh_drains : (capacity class d : ℕ) (image middle new : Image) (held : List Block) (s : Shape) → IsClass class
    → IsShape capacity image held s → image used_word ≡ d → d < capacity
    → IsSet image middle used_word (d + 1) → IsCut capacity middle new class d → DrainsSame capacity class held image new
cut_fresh_drains capacity class d image middle new held s is shape past within set cut =
    drains_same capacity class image new held s shape (omega (arith, used)) (omega (arith, used)) held_info (s.listed 0) leads each is where
      -- the words outside superblocks but three are as before
      same : (word : ℕ) → word < start_word capacity 0 → word ≢ info_word d → word ≢ anchor_word d → word ≢ used_word → new word ≡ image word
      same word less not_info not_anchor not_used = cut_before capacity class d middle new word cut less not_info not_anchor ∙ set.others word not_used

      used : new used_word ≡ d + 1
      used = cut_before capacity class d middle new used_word cut (omega arith) (λ e. omega arith) (λ e. omega arith) ∙ set.at

      info : (e : ℕ) → e < d → new (info_word e) ≡ image (info_word e)
      info e below = same (info_word e) (omega arith) (λ at. omega arith) (λ at. omega arith) (λ at. omega arith)

      held_info : (b : Block) (e : ℕ) → Contains held b → HasPartIn capacity b e → new (info_word e) ≡ image (info_word e)
      held_info b e holds part = let taken = part_taken (layout_at capacity image) b e (shape.named b holds) part in info e (omega arith)

      leads : Follows (λ e. new (link_word e)) capacity (head_first (new (head_word 0))) (s.listed 0)
      leads =
          let head = same (head_word 0) (omega arith) (λ e. omega arith) (λ e. omega arith) (λ e. omega arith) in
          subst (λ h. Follows (λ e. new (link_word e)) capacity (head_first h) (s.listed 0)) (sym head)
          (follows_same (λ e. image (link_word e)) (λ e. new (link_word e)) capacity (head_first (image (head_word 0))) (s.listed 0)
          (λ e p. let less = (member_place capacity image held s shape 0 e (omega arith) p).1 in
          same (link_word e) (omega arith) (λ at. omega arith) (λ at. omega arith) (λ at. omega arith)) (shape.follows 0 (omega arith)))

      each : (e : ℕ) → e < new used_word → Stays class image new (s.listed 0) (s.listed 0) e
      each e taken = elim (cases_eq e d) as (λ _. Stays class image new (s.listed 0) (s.listed 0) e) [
        | inl one ↦ inl (subst (λ x. new (info_word x) ≡ class) (sym one) cut.info)
        | inr apart ↦ let raised = used in let below : e < d = omega arith in inr (omega arith, info e below, λ p. p)
      ]
