-- What an allocator stores to leaves held blocks, roots, their kinds and words without a meaning alone, so that every
-- image left names the held blocks.
use Rattle.std.proofs.Common.{◌≡◌, ℕ, ◌<◌, ◌≤◌, ◌⊎◌, inl, inr, List, Contains, refl, sym, subst, ◌∙◌, arith}
use Rattle.heap_model.specs.declared.block.Block.{Block}
use Rattle.heap_model.specs.Geometry.{roots, largest_capacity, root_word, info_word, used_word, capacity_word, start_word, kind_word, IsReserved, in_header, in_descriptor, IsKindWord}
use Rattle.heap_model.specs.Image.{words_from}
use Rattle.heap_model.specs.Blocks.{IsIn}
use Rattle.heap_model.specs.Recovered.{HasPartIn}
use Rattle.heap_at_rest.proofs.PartLemmas.{part_taken}
use Rattle.line_memory.specs.View.{View, volatile_at, durable_at}
use Rattle.line_memory.specs.Crash.{MayLeaveStore}
use Rattle.block_heap.specs.Medium.{StoresOnly}
use Rattle.heap_seat.specs.Words.{IsOwn, in_block, in_root}
use Rattle.block_heap.specs.Stable.{root_below, low_layout, lies, own_where}
use Rattle.heap_at_rest.proofs.LayoutLemmas.{block_more}
use Rattle.heap_model.specs.Geometry.{IsFixed}
use Rattle.block_heap.specs.AllocatorWords.{IsAllocatorWord, is_used, is_head, is_info, is_anchor, is_link, is_inside, UsedFits, StoresAsAllocator, IsStable}
use Rattle.block_heap.proofs.MediumLemmas.{stores_then, stores_more, stores_nothing}

module _ (capacity : ℕ) (held : List Block) where
  -- no step at all, two rows of steps, and steps while more blocks are held
  pub as_allocator_none : (v : View) → StoresAsAllocator capacity held v v
  as_allocator_none v = record {
    stores = stores_nothing (IsAllocatorWord capacity held) v;
    used = omega arith;
    used_durable = omega arith;
    fits = λ fits. fits;
  }

  pub as_allocator_then : (v u w : View) → StoresAsAllocator capacity held v u → StoresAsAllocator capacity held u w
      → StoresAsAllocator capacity held v w
  as_allocator_then v u w a b = record {
    stores = stores_then (IsAllocatorWord capacity held) v u w a.stores b.stores;
    used = let p = a.used in let q = b.used in omega arith;
    used_durable = let p = a.used_durable in let q = b.used_durable in omega arith;
    fits = λ fits. b.fits (a.fits fits);
  }

  fewer_word : (fewer : List Block) (word : ℕ) → ((b : Block) → Contains fewer b → Contains held b)
      → IsAllocatorWord capacity held word → IsAllocatorWord capacity fewer word
  fewer_word fewer word are (is_used e) = is_used e
  fewer_word fewer word are (is_head list below e) = is_head list below e
  fewer_word fewer word are (is_info d below none e) = is_info d below (λ b p part. none b (are b p) part) e
  fewer_word fewer word are (is_anchor d below e) = is_anchor d below e
  fewer_word fewer word are (is_link d below e) = is_link d below e
  fewer_word fewer word are (is_inside from until none) = is_inside from until (λ b p in_b. none b (are b p) in_b)

  pub as_allocator_fewer : (fewer : List Block) (v w : View) → ((b : Block) → Contains fewer b → Contains held b)
      → StoresAsAllocator capacity held v w → StoresAsAllocator capacity fewer v w
  as_allocator_fewer fewer v w are as_allocator = record {
    stores = stores_more (IsAllocatorWord capacity held) (IsAllocatorWord capacity fewer) v w
        (λ word may. fewer_word fewer word are may) as_allocator.stores;
    used = as_allocator.used;
    used_durable = as_allocator.used_durable;
    fits = as_allocator.fits;
  }

  -- steps that store to such words, but not to `used`, which is durable as loads see it
  pub as_allocator_of : (to : ℕ → Type 0) (v w : View) → ((word : ℕ) → to word → IsAllocatorWord capacity held word) → (to used_word → ⊥)
      → StoresOnly to v w → durable_at v used_word ≡ volatile_at v used_word
      → StoresAsAllocator capacity held v w × (durable_at w used_word ≡ volatile_at w used_word) × (volatile_at w used_word ≡ volatile_at v used_word)
  as_allocator_of to v w are not_used stores settled =
      let same : volatile_at w used_word ≡ volatile_at v used_word = stores.volatile used_word not_used in
      let durable : durable_at w used_word ≡ volatile_at v used_word =
      elim (stores.durable used_word not_used) as (λ _. durable_at w used_word ≡ volatile_at v used_word) [ inl e ↦ e ∙ settled | inr e ↦ e ] in (
        record {
          stores = stores_more to (IsAllocatorWord capacity held) v w are stores;
          used = omega arith;
          used_durable = omega arith;
          fits = λ fits. let low = fits.volatile in record { volatile = omega arith; durable = omega arith };
        },
        durable ∙ sym same,
        same,
      )

  -- steps that raise `used`
  pub as_allocator_raised : (value : ℕ) (v w : View) → StoresOnly (λ word. word ≡ used_word) v w → MayLeaveStore used_word value v w
      → durable_at v used_word ≡ volatile_at v used_word → volatile_at v used_word ≤ value
      → (UsedFits capacity v → UsedFits capacity w) → StoresAsAllocator capacity held v w
  as_allocator_raised value v w stores may settled more fits = record {
    stores = stores_more (λ word. word ≡ used_word) (IsAllocatorWord capacity held) v w (λ word e. is_used e) stores;
    used = elim may.seen as (λ _. volatile_at v used_word ≤ volatile_at w used_word) [ inl e ↦ omega arith | inr e ↦ omega arith ];
    used_durable = elim may.left as (λ _. durable_at v used_word ≤ durable_at w used_word) [
      | inl e ↦ omega arith
      | inr old ↦ elim old as (λ _. durable_at v used_word ≤ durable_at w used_word) [ inl e ↦ omega arith | inr e ↦ omega arith ]
    ];
    fits = fits;
  }

  -- `used` stays at most the capacity where it isn't stored to
  pub fits_kept : (to : ℕ → Type 0) (v w : View) → (to used_word → ⊥) → StoresOnly to v w → UsedFits capacity v → UsedFits capacity w
  fits_kept to v w not_used stores fits =
      let seen = fits.volatile in
      let left = fits.durable in
      let same : volatile_at w used_word ≡ volatile_at v used_word = stores.volatile used_word not_used in
      record {
        volatile = omega arith;
        durable = elim (stores.durable used_word not_used) as (λ _. durable_at w used_word ≤ capacity) [ inl e ↦ omega arith | inr e ↦ omega arith ];
      }

  -- an allocator stores to no own word of the seat
  pub not_own : (v : View) (word : ℕ) → capacity ≤ largest_capacity → IsStable capacity v held → IsAllocatorWord capacity held word
      → IsOwn held (words_from (λ n. n) 0 roots) word → ⊥
  not_own v word small stable may own = by_word may own where
    fixed_apart : (((root_word 0 ≤ word) × (word < info_word 0)) ⊎ (start_word capacity 0 ≤ word))
        → (word < root_word 0) ⊎ ((info_word 0 ≤ word) × (word < start_word capacity 0)) → ⊥
    fixed_apart (inl at_root) (inl before) = omega (arith, at_root.0)
    fixed_apart (inl at_root) (inr behind) = omega (arith, at_root.1, behind.0)
    fixed_apart (inr inside) (inl before) = omega arith
    fixed_apart (inr inside) (inr behind) = omega (arith, behind.1)

    inside_apart : (other : ℕ) → start_word capacity 0 ≤ other → ((b : Block) → Contains held b → IsIn b other → ⊥)
        → IsOwn held (words_from (λ n. n) 0 roots) other → ⊥
    inside_apart _ from none (in_block b other holds in_b) = none b holds in_b
    inside_apart _ from none (in_root i other p same) = let below = root_below i p in omega arith

    by_word : IsAllocatorWord capacity held word → IsOwn held (words_from (λ n. n) 0 roots) word → ⊥
    by_word (is_used e) own = fixed_apart (own_where capacity held v word stable own) (inl (omega arith))
    by_word (is_head list below e) own = fixed_apart (own_where capacity held v word stable own) (inl (omega arith))
    by_word (is_info d below none e) own = fixed_apart (own_where capacity held v word stable own) (inr (omega arith, omega arith))
    by_word (is_anchor d below e) own = fixed_apart (own_where capacity held v word stable own) (inr (omega arith, omega arith))
    by_word (is_link d below e) own = fixed_apart (own_where capacity held v word stable own) (inr (omega arith, omega arith))
    by_word (is_inside from until none) own = inside_apart word from none own

  -- nor to the first four words of the header, to a word without a meaning, or to the kind of a root, which stands behind the superblocks
  not_first : (word : ℕ) → IsAllocatorWord capacity held word → word < 4 → ⊥
  not_first word (is_used e) few = omega arith
  not_first word (is_head list below e) few = omega arith
  not_first word (is_info d below none e) few = omega arith
  not_first word (is_anchor d below e) few = omega arith
  not_first word (is_link d below e) few = omega arith
  not_first word (is_inside from until none) few = omega arith

  not_reserved : (word : ℕ) → IsReserved capacity word → IsAllocatorWord capacity held word → ⊥
  not_reserved _ (in_header word low high used_not lists_not) (is_used e) = used_not e
  not_reserved _ (in_header word low high used_not lists_not) (is_head list below e) =
      elim lists_not as (λ _. ⊥) [ inl before ↦ omega arith | inr behind ↦ omega arith ]
  not_reserved _ (in_header word low high used_not lists_not) (is_info d below none e) = omega arith
  not_reserved _ (in_header word low high used_not lists_not) (is_anchor d below e) = omega arith
  not_reserved _ (in_header word low high used_not lists_not) (is_link d below e) = omega arith
  not_reserved _ (in_header word low high used_not lists_not) (is_inside from until none) = omega arith
  not_reserved _ (in_descriptor d at word below low high is) (is_used e) = omega arith
  not_reserved _ (in_descriptor d at word below low high is) (is_head list few e) = omega arith
  not_reserved _ (in_descriptor d at word below low high is) (is_info c less none e) = omega arith
  not_reserved _ (in_descriptor d at word below low high is) (is_anchor c less e) = omega arith
  not_reserved _ (in_descriptor d at word below low high is) (is_link c less e) = omega arith
  not_reserved _ (in_descriptor d at word below low high is) (is_inside from until none) = omega arith

  not_kind : (word : ℕ) → IsKindWord capacity word → IsAllocatorWord capacity held word → ⊥
  not_kind word kind (is_used e) = let from = kind.from in omega arith
  not_kind word kind (is_head list few e) = let from = kind.from in omega arith
  not_kind word kind (is_info d less none e) = let from = kind.from in omega arith
  not_kind word kind (is_anchor d less e) = let from = kind.from in omega arith
  not_kind word kind (is_link d less e) = let from = kind.from in omega arith
  not_kind word kind (is_inside above until none) = let from = kind.from in omega arith

  pub not_fixed : (v : View) (word : ℕ) → IsStable capacity v held → IsAllocatorWord capacity held word → IsFixed capacity word → ⊥
  not_fixed v word stable may (inl few) = not_first word may few
  not_fixed v word stable may (inr (inl reserved)) = not_reserved word reserved may
  not_fixed v word stable may (inr (inr kind)) = not_kind word kind may

  -- an own word stands before the end of the last superblock
  pub own_until : (v : View) (word : ℕ) → IsStable capacity v held → IsOwn held (words_from (λ n. n) 0 roots) word → word < start_word capacity capacity
  own_until v _ stable (in_block b word holds in_b) =
      let inside = lies capacity held v b stable holds in
      let until = in_b.until in
      let fits = stable.fits in
      omega (arith, inside.1)
  own_until v _ stable (in_root i word p same) = let below = root_below i p in omega arith

  -- nor is an own word one of these, or `used`
  own_apart : (v : View) (word : ℕ) → IsStable capacity v held → IsOwn held (words_from (λ n. n) 0 roots) word
      → (word < root_word 0) ⊎ ((info_word 0 ≤ word) × (word < start_word capacity 0)) → ⊥
  own_apart v word stable own at = elim (own_where capacity held v word stable own) as (λ _. ⊥) [
    | inl at_root ↦ elim at as (λ _. ⊥) [ inl before ↦ omega (arith, at_root.0) | inr behind ↦ omega (arith, at_root.1, behind.0) ]
    | inr inside ↦ elim at as (λ _. ⊥) [ inl before ↦ omega arith | inr behind ↦ omega (arith, behind.1) ]
  ]

  pub own_not_used : (v : View) → IsStable capacity v held → IsOwn held (words_from (λ n. n) 0 roots) used_word → ⊥
  own_not_used v stable own = own_apart v used_word stable own (inl (omega arith))

  pub own_not_fixed : (v : View) (word : ℕ) → IsStable capacity v held → IsOwn held (words_from (λ n. n) 0 roots) word → IsFixed capacity word → ⊥
  own_not_fixed v word stable own (inl few) = own_apart v word stable own (inl (omega arith))
  own_not_fixed v _ stable own (inr (inl (in_header word low high used_not lists_not))) = own_apart v word stable own (inl (omega arith))
  own_not_fixed v _ stable own (inr (inl (in_descriptor d at word below low high is))) = own_apart v word stable own (inr (omega arith, omega arith))
  own_not_fixed v word stable own (inr (inr kind)) = let until = own_until v word stable own in let from = kind.from in omega arith

  -- held blocks stay named where neither the capacity nor an info of theirs is stored to, and both values of `used` stay above them
  stable_by : (to : ℕ → Type 0) (v w : View) (stable : IsStable capacity v held) → StoresOnly to v w → (to capacity_word → ⊥)
      → ((word : ℕ) → IsKindWord capacity word → to word → ⊥) → stable.low ≤ volatile_at w used_word → stable.low ≤ durable_at w used_word
      → ((b : Block) (d : ℕ) → Contains held b → HasPartIn capacity b d → to (info_word d) → ⊥) → IsStable capacity w held
  stable_by to v w stable stores no_capacity no_kind used used_durable no_info = record {
    capacity_is = stores.volatile capacity_word no_capacity ∙ stable.capacity_is;
    capacity_durable = elim (stores.durable capacity_word no_capacity) as (λ _. durable_at w capacity_word ≡ capacity) [
      | inl e ↦ e ∙ stable.capacity_durable
      | inr e ↦ e ∙ stable.capacity_is
    ];
    kinds_durable = λ root below.
        let word = kind_word capacity root in
        let none = no_kind word (record { from = omega arith; until = omega arith }) in
        let same : volatile_at w word ≡ volatile_at v word = stores.volatile word none in
        elim (stores.durable word none) as (λ _. durable_at w word ≡ volatile_at w word) [
          | inl e ↦ e ∙ stable.kinds_durable root below ∙ sym same
          | inr e ↦ e ∙ sym same
        ];
    low = stable.low;
    fits = stable.fits;
    used = used;
    used_durable = used_durable;
    named = λ b holds. block_more (low_layout capacity held v stable.low) (low_layout capacity held w stable.low) b refl (omega arith)
        (λ d part. stores.volatile (info_word d) (no_info b d holds part)) (stable.named b holds);
    settled = λ b d holds part.
        let same : volatile_at w (info_word d) ≡ volatile_at v (info_word d) = stores.volatile (info_word d) (no_info b d holds part) in
        elim (stores.durable (info_word d) (no_info b d holds part)) as (λ _. durable_at w (info_word d) ≡ volatile_at w (info_word d)) [
          | inl e ↦ e ∙ stable.settled b d holds part ∙ sym same
          | inr e ↦ e ∙ sym same
        ];
  }

  -- an allocator stores to no info of a superblock that a held block has a part in
  not_info : (b : Block) (d word : ℕ) → Contains held b → HasPartIn capacity b d → d < capacity → word ≡ info_word d
      → IsAllocatorWord capacity held word → ⊥
  not_info b d word holds part below at (is_used e) = omega arith
  not_info b d word holds part below at (is_head list few e) = omega arith
  not_info b d word holds part below at (is_info c less none e) =
      let same : d ≡ c = omega arith in none b holds (subst (λ x. HasPartIn capacity b x) same part)
  not_info b d word holds part below at (is_anchor c less e) = omega arith
  not_info b d word holds part below at (is_link c less e) = omega arith
  not_info b d word holds part below at (is_inside from until none) = omega arith

  -- held blocks stay named: their infos lie before the superblocks, where an allocator may store
  pub stable_kept : (v w : View) → IsStable capacity v held → StoresAsAllocator capacity held v w → IsStable capacity w held
  stable_kept v w stable as_allocator =
      let fits = stable.fits in
      stable_by (IsAllocatorWord capacity held) v w stable as_allocator.stores (λ may. not_first capacity_word may (omega arith))
      (λ word kind may. not_kind word kind may)
      (let p = stable.used in let q = as_allocator.used in omega arith) (let p = stable.used_durable in let q = as_allocator.used_durable in
      omega arith)
      (λ b d holds part may.
      let taken = part_taken (low_layout capacity held v stable.low) b d (stable.named b holds) part in
      not_info b d (info_word d) holds part (omega arith) refl may)

  -- also over a store to an own word, or over none
  pub stable_own : (to : ℕ → Type 0) (v w : View) → capacity ≤ largest_capacity → ((word : ℕ) → to word → IsOwn held (words_from (λ n. n) 0 roots) word)
      → IsStable capacity v held → StoresOnly to v w → IsStable capacity w held
  stable_own to v w small own stable stores =
      let fits = stable.fits in
      let p = stable.used in
      let q = stable.used_durable in
      let same : volatile_at w used_word ≡ volatile_at v used_word = stores.volatile used_word not_used in
      stable_by to v w stable stores (λ t. header_apart capacity_word t (omega arith))
      (λ word kind t. let until = own_until v word stable (own word t) in let from = kind.from in omega arith) (omega arith)
      (elim (stores.durable used_word not_used) as (λ _. stable.low ≤ durable_at w used_word) [ inl e ↦ omega arith | inr e ↦ omega arith ])
      (λ b d holds part t.
      let taken = part_taken (low_layout capacity held v stable.low) b d (stable.named b holds) part in
      elim (own_where capacity held v (info_word d) stable (own (info_word d) t)) as
      (λ _. ⊥) [ inl at_root ↦ omega (arith, at_root.1) | inr inside ↦ omega arith ])
    where
      header_apart : (word : ℕ) → to word → word < 16 → ⊥
      header_apart word t few = elim (own_where capacity held v word stable (own word t)) as
          (λ _. ⊥) [ inl at_root ↦ omega (arith, at_root.0) | inr inside ↦ omega arith ]

      not_used : to used_word → ⊥
      not_used t = header_apart used_word t (omega arith)

  pub stable_fewer : (fewer : List Block) (v : View) → ((b : Block) → Contains fewer b → Contains held b) → IsStable capacity v held
      → IsStable capacity v fewer
  stable_fewer fewer v are stable = record {
    capacity_is = stable.capacity_is;
    capacity_durable = stable.capacity_durable;
    kinds_durable = stable.kinds_durable;
    low = stable.low;
    fits = stable.fits;
    used = stable.used;
    used_durable = stable.used_durable;
    named = λ b p. stable.named b (are b p);
    settled = λ b d p part. stable.settled b d (are b p) part;
  }
