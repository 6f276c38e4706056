-- Whose each superblock is, as the held blocks of a heap at rest get their seats one after the other.
use Rattle.std.proofs.Common.{◌≡◌, ◌≢◌, ℕ, suc, ◌+◌, ◌/◌, ◌<◌, ◌≤◌, inl, inr, Bool, true, false, cond, nat_eq, nat_lt, List, [], ◌∷◌, ◌++◌, Contains, get_or, set, length, take, replicate, slice_index, refl, ap, ap₂, sym, subst, ◌∙◌, length-set, add-one, eq-eqb, arith}
use Rattle.std.proofs.lemmas.Bool.{cases_eq}
use Rattle.std.proofs.lemmas.List.{append-nil, take_all}
use Rattle.heap_model.specs.declared.block.Block.{Block}
use Rattle.heap_model.specs.Geometry.{roots, superblock_words, start_word, superblock_of}
use Rattle.heap_model.specs.Counting.{total, one_if}
use Rattle.heap_model.specs.Rest.{IsReady, large_part}
use Rattle.heap_model.proofs.MemberLemmas.{in_head, in_rest}
use Rattle.core_model.specs.Effects.{span_count}
use Rattle.core_model.specs.Opening.{picked, is_small, large_blocks}
use Rattle.core_model.specs.View.{Span, takes, times_large}
use Rattle.heap_model.proofs.ListLemmas.{one_at_most}
use Rattle.heap_model.proofs.CountingLemmas.{total_append}
use Rattle.core_model.proofs.PlaceLemmas.{pick, skip, not-eq}
use Rattle.core_model.proofs.RangeLemmas.{range_is, range_not, cases_range}
use Rattle.core_model.proofs.OpenLemmas.{picked_in, large_sum, span_from}
use Rattle.core_model.proofs.OpenedPartLemmas
use Rattle.seat_state.specs.declared.superblocks.SuperblockUsage.{SuperblockUsage}
use Rattle.seat_state.specs.declared.superblocks.SuperblockUsage.TheVariants as usage
use Rattle.seat_state.specs.declared.superblocks.SuperblockOwner.{SuperblockOwner}
use Rattle.seat_state.specs.OpenedSuperblocks.{AreSuperblockOwners, IsLargeGiven}
use Rattle.seat_state.specs.Superblocks.{usage_for, no_superblock, count_in, IsUsage, HasSuperblocks, IsRange}
use Rattle.seat_state.proofs.HeldSoFar.{alone, for_one, block_there}
use Rattle.seat_state.proofs.PickedLemmas.{picked_more, none_before, in_taken}
use Rattle.seat_state.proofs.RangeLemmas.{range_theirs}
use Rattle.seat_state.proofs.UsageLemmas.{usage_own, usage_theirs, usages_mine, usages_theirs, no_usage}

-- the count of large blocks where one is added
span_apart : (e : ℕ) (spans : List Span) (s : Span) → s.first ≢ e → span_count e (spans ++ (s ∷ [])) ≡ span_count e spans
span_apart e [] s apart = skip (nat_eq s.first e) s.count 0 (not-eq s.first e apart)
span_apart e (y ∷ spans) s apart = ap (λ n. cond (nat_eq y.first e) y.count n) (span_apart e spans s apart)

span_added : (e : ℕ) (spans : List Span) (s : Span) → ((y : Span) → Contains spans y → 1 ≤ y.count) → times_large e spans ≡ 0 → s.first ≡ e
    → span_count e (spans ++ (s ∷ [])) ≡ s.count
span_added e [] s some none here = pick (nat_eq s.first e) s.count 0 (eq-eqb s.first e here)
span_added e (y ∷ spans) s some none here = elim (cases_eq y.first e) as
    (λ _. cond (nat_eq y.first e) y.count (span_count e (spans ++ (s ∷ []))) ≡ s.count) [
      | inl same ↦ absurd (let one = some y (in_head y spans) in let r = range_is y.first y.count e (omega (arith, same)) (omega (arith, same)) in
          omega arith)
      | inr other ↦ skip (nat_eq y.first e) y.count (span_count e (spans ++ (s ∷ []))) (not-eq y.first e other)
          ∙ span_added e spans s (λ x m. some x (in_rest y x spans m)) (omega arith) here
    ]

-- the large blocks of a list behind another
large_append : (c : ℕ) (ps qs : List Block) → large_blocks c (ps ++ qs) ≡ large_blocks c ps ++ large_blocks c qs
large_append c [] qs = refl
large_append c (p ∷ ps) qs = by_test (is_small p) (large_blocks c (ps ++ qs)) (large_append c ps qs) where
  by_test : (t : Bool) (l : List Span) → l ≡ large_blocks c ps ++ large_blocks c qs
      → cond t l (record { first = superblock_of c p.first_word; count = p.words / superblock_words } ∷ l)
      ≡ cond t (large_blocks c ps) (record { first = superblock_of c p.first_word; count = p.words / superblock_words } ∷ large_blocks c ps)
      ++ large_blocks c qs
  by_test true l e = e
  by_test false l e = ap (λ x. record { first = superblock_of c p.first_word; count = p.words / superblock_words } ∷ x) e

-- the large blocks of seat j among the first held blocks
abbrev pub large_so_far : ℕ → List Block → List ℕ → ℕ → ℕ → List Span
large_so_far c held owners i j = large_blocks c (picked j (take i held) (take i owners))

-- the superblocks of the first held blocks have got their seats
pub record HaveSuperblocks (c : ℕ) (held : List Block) (owners : List ℕ) (i : ℕ) (superblocks : List SuperblockOwner) : Type 0 where
  pub long : length superblocks ≡ c
  pub each : (j : ℕ) → HasSuperblocks superblocks j [] [] [] [] (large_so_far c held owners i j)

-- a superblock that a large block of the seat takes
is_large : (e count : ℕ) (large : List Span) → times_large e large ≡ 1 → span_count e large ≡ count → IsUsage e (usage.Large count) [] [] [] [] large
is_large e count large one is = record {
  is_raw = refl;
  is_split = refl;
  is_cutting = refl;
  is_classed = refl;
  class = refl;
  is_large = one;
  count = is;
}

-- what the seat has of a superblock where its large blocks change elsewhere
is_alike : (e : ℕ) (x : SuperblockUsage) (large large' : List Span) → times_large e large' ≡ times_large e large
    → span_count e large' ≡ span_count e large → IsUsage e x [] [] [] [] large → IsUsage e x [] [] [] [] large'
is_alike e x large large' times_same count_same s = record {
  is_raw = s.is_raw;
  is_split = s.is_split;
  is_cutting = s.is_cutting;
  is_classed = s.is_classed;
  class = s.class;
  is_large = times_same ∙ s.is_large;
  count = count_same ∙ s.count;
}

module _ (words : List ℕ) (held : List Block) (owners : List ℕ) (ready : IsReady words held) (long : length owners ≡ length held) where
  abbrev c : ℕ
  c = slice_index words 2

  abbrev IsLarge : Block → Type 0
  IsLarge p = OpenedPartLemmas.IsLarge words held 0 1 (alone words held owners ready long) (replicate roots 0) ready (for_one words held owners ready long) p

  -- where a large block lies, as its superblocks are counted
  pub large_at : (p : Block) → Contains held p → is_small p ≡ false → (start_word c 0 ≤ p.first_word) × (1 ≤ p.words / superblock_words)
      × (superblock_of c p.first_word + p.words / superblock_words ≤ c)
  large_at p there large = let l = OpenedPartLemmas.large_of words held 0 1 (alone words held owners ready long) (replicate roots 0) ready
      (for_one words held owners ready long) p there large in let f = l.first in let s = l.size in let o = l.some in let h = l.here in
      let t = l.fits in let u = ready.formed.used in
      (omega arith, omega arith, omega arith)

  part_takes : (e : ℕ) (p : Block) → Contains held p → is_small p ≡ false
      → one_if (takes e (record { first = superblock_of c p.first_word; count = p.words / superblock_words })) ≡ large_part c e p
  part_takes e p there large = OpenedPartLemmas.part_takes words held 0 1 (alone words held owners ready long) (replicate roots 0) ready
      (for_one words held owners ready long) e p (OpenedPartLemmas.large_of words held 0 1 (alone words held owners ready long) (replicate roots 0) ready
      (for_one words held owners ready long) p there large)

  part_once : (e : ℕ) → total (large_part c e) held ≤ 1
  part_once e = let p = ready.shaped.one_place e in let most = one_at_most (nat_lt e (slice_index words 8)) in omega arith

  some_each : (i j : ℕ) (y : Span) → Contains (large_so_far c held owners i j) y → 1 ≤ y.count
  some_each i j y there = let s = span_from c (picked j (take i held) (take i owners)) y there in
      let l = large_at s.0 (in_taken held i s.0 (picked_in j (take i held) (take i owners) s.0 s.1)) s.2 in let e = s.3 in let o = l.1 in omega arith

  module _ (i : ℕ) (p : Block) (o : ℕ) (below : i < length held) (at : get_or held i p ≡ p) (at_o : get_or owners i o ≡ o) where
    there : Contains held p
    there = block_there held i p below at

    more : (j : ℕ) → large_so_far c held owners (suc i) j ≡ large_so_far c held owners i j ++ large_blocks c (cond (nat_eq o j) (p ∷ []) [])
    more j = ap (large_blocks c) (picked_more j held owners i p o below at (omega arith) at_o)
        ∙ large_append c (picked j (take i held) (take i owners)) (cond (nat_eq o j) (p ∷ []) [])

    no_more : (j : ℕ) → large_blocks c (cond (nat_eq o j) (p ∷ []) []) ≡ [] → large_so_far c held owners (suc i) j ≡ large_so_far c held owners i j
    no_more j none = more j ∙ ap (λ l. large_so_far c held owners i j ++ l) none ∙ append-nil (large_so_far c held owners i j)

    -- a small block leaves all as it is
    pub small_given : (superblocks : List SuperblockOwner) → HaveSuperblocks c held owners i superblocks → is_small p ≡ true
        → HaveSuperblocks c held owners (i + 1) superblocks
    small_given superblocks before small = subst (λ n. HaveSuperblocks c held owners n superblocks) (sym (add-one i)) (record {
      long = before.long;
      each = λ j d. subst (IsUsage d (usage_for j (get_or superblocks d no_superblock)) [] [] [] []) (sym (no_more j (none (nat_eq o j))))
          (before.each j d);
    }) where
      none : (t : Bool) → large_blocks c (cond t (p ∷ []) []) ≡ []
      none true = ap (λ t. cond t [] (record { first = superblock_of c p.first_word; count = p.words / superblock_words } ∷ [])) small
      none false = refl

    module _ (large : is_small p ≡ false) where
      abbrev d : ℕ
      d = superblock_of c p.first_word

      abbrev n : ℕ
      n = p.words / superblock_words

      abbrev span : Span
      span = record { first = d; count = n }

      some : 1 ≤ n
      some = (large_at p there large).1

      mine : large_so_far c held owners (suc i) o ≡ large_so_far c held owners i o ++ (span ∷ [])
      mine = more o ∙ ap (λ l. large_so_far c held owners i o ++ l)
          (ap (large_blocks c) (pick (nat_eq o o) (p ∷ []) [] (eq-eqb o o refl)) ∙ ap (λ t. cond t [] (span ∷ [])) large)

      theirs : (j : ℕ) → j ≢ o → large_so_far c held owners (suc i) j ≡ large_so_far c held owners i j
      theirs j other = no_more j (ap (large_blocks c) (skip (nat_eq o j) (p ∷ []) [] (not-eq o j (λ e. other (sym e)))))

      mine_times : (e : ℕ) → times_large e (large_so_far c held owners (suc i) o) ≡ times_large e (large_so_far c held owners i o) + one_if
          (takes e span)
      mine_times e = ap (times_large e) mine ∙ (let t = total_append (λ s. one_if (takes e s)) (large_so_far c held owners i o) (span ∷ []) in
          omega arith)

      -- before, nobody has the superblocks of the block
      none_yet : (e j : ℕ) → d ≤ e → e < d + n → times_large e (large_so_far c held owners i j) ≡ 0
      none_yet e j low high =
          let part : large_part c e p ≡ 1 = sym (part_takes e p there large) ∙ range_is d n e low high in
          large_sum c e (picked j (take i held) (take i owners)) (λ q m l. part_takes e q
          (in_taken held i q (picked_in j (take i held) (take i owners) q m)) l)
          (λ q m s. OpenedPartLemmas.small_part words held 0 1 (alone words held owners ready long) (replicate roots 0) ready
          (for_one words held owners ready long) e q s)
          ∙ none_before (large_part c e) j held (take i owners) i p below at (part_once e) part

      module _ (old : List SuperblockOwner) (before : HaveSuperblocks c held owners i old) where
        nothing_yet : (j e : ℕ) → d ≤ e → e < d + n → usage_for j (get_or old e no_superblock) ≡ usage.Nothing
        nothing_yet j e low high = no_usage e (usage_for j (get_or old e no_superblock)) [] [] [] [] (large_so_far c held owners i j)
            (before.each j e) (omega arith) refl (none_yet e j low high)

        none_counted : (e j : ℕ) → d ≤ e → e < d + n → span_count e (large_so_far c held owners i j) ≡ 0
        none_counted e j low high = (before.each j e).count ∙ ap count_in (nothing_yet j e low high)

        module _ (rest : List SuperblockOwner) (range : IsRange old rest d n (record { seat = o; usage = usage.Large 0 })) where
          less : d < length rest
          less = let l = range.long in let b = before.long in let f = (large_at p there large).2 in let s = some in omega arith

          abbrev IsMine : ℕ → SuperblockUsage → Type 0
          IsMine e x = IsUsage e x [] [] [] [] (large_so_far c held owners (suc i) o)

          first_mine : IsMine d (usage.Large n)
          first_mine = is_large d n (large_so_far c held owners (suc i) o)
              (let m = mine_times d in let z = none_yet d o (omega arith) (let s = some in omega arith) in
              let r = range_is d n d (omega arith) (let s = some in omega arith) in omega arith)
              (ap (span_count d) mine ∙ span_added d (large_so_far c held owners i o) span (some_each i o)
              (none_yet d o (omega arith) (let s = some in omega arith)) refl)

          apart : (e : ℕ) → e ≢ d → span_count e (large_so_far c held owners (suc i) o) ≡ span_count e (large_so_far c held owners i o)
          apart e other = ap (span_count e) mine ∙ span_apart e (large_so_far c held owners i o) span (λ h. other (sym h))

          rest_mine : (e : ℕ) → e ≢ d → IsMine e (usage_for o (get_or rest e no_superblock))
          rest_mine e other = elim (cases_range d n e) [
            | inl here ↦ subst (IsMine e) (sym (ap (usage_for o) (range.inside e here.0 here.1) ∙ usage_own o (usage.Large 0)))
                (is_large e 0 (large_so_far c held owners (suc i) o)
                (let m = mine_times e in let z = none_yet e o here.0 here.1 in let r = range_is d n e here.0 here.1 in omega arith)
                (apart e other ∙ none_counted e o here.0 here.1))
            | inr out ↦ subst (IsMine e) (sym (ap (usage_for o) (range.outside e out)))
                (is_alike e (usage_for o (get_or old e no_superblock)) (large_so_far c held owners i o) (large_so_far c held owners (suc i) o)
                (let m = mine_times e in let r = range_not d n e out in omega arith) (apart e other) (before.each o e))
          ]

          -- the superblocks of a large block are its seat's
          large_given_on : HaveSuperblocks c held owners (i + 1) (set rest d (record { seat = o; usage = usage.Large n }))
          large_given_on = subst (λ m. HaveSuperblocks c held owners m (set rest d (record { seat = o; usage = usage.Large n })))
              (sym (add-one i)) (record {
                long = length-set rest d (record { seat = o; usage = usage.Large n }) ∙ range.long ∙ before.long;
                each = λ j. elim (cases_eq j o) as (λ _. HasSuperblocks (set rest d (record { seat = o; usage = usage.Large n })) j [] [] [] []
                    (large_so_far c held owners (suc i) j)) [
                      | inl same ↦ subst (λ m. HasSuperblocks (set rest d (record { seat = o; usage = usage.Large n })) m [] [] [] []
                          (large_so_far c held owners (suc i) m)) (sym same)
                          (usages_mine rest o d (usage.Large n) IsMine less first_mine rest_mine)
                      | inr other ↦ subst (HasSuperblocks (set rest d (record { seat = o; usage = usage.Large n })) j [] [] [] []) (sym (theirs j other))
                          (usages_theirs rest o j d (usage.Large n) (λ e x. IsUsage e x [] [] [] [] (large_so_far c held owners i j)) less other
                          (ap (usage_for j) (range.inside d (omega arith) (let s = some in omega arith)) ∙ usage_theirs o j (usage.Large 0) other)
                          (range_theirs old rest o j d n (usage.Large 0) (λ e x. IsUsage e x [] [] [] [] (large_so_far c held owners i j)) other range
                          (λ e low high. nothing_yet j e low high) (before.each j)))
                    ];
              })

        pub large_given : (new : List SuperblockOwner) → IsLargeGiven old new o d n → HaveSuperblocks c held owners (i + 1) new
        large_given new given = subst (HaveSuperblocks c held owners (i + 1)) (sym given.first) (large_given_on given.rest given.range)

  -- all have their seats
  pub all_given : (i : ℕ) (superblocks : List SuperblockOwner) → HaveSuperblocks c held owners i superblocks → length held ≤ i
      → AreSuperblockOwners words held owners superblocks
  all_given i superblocks given past = record {
    long = given.long;
    each = λ j. subst (HasSuperblocks superblocks j [] [] [] []) (ap₂ (λ ps os. large_blocks c (picked j ps os)) (take_all i held past)
        (take_all i owners (omega arith))) (given.each j);
  }
