-- What a seat keeps to tell its own words, after it offered or accepted a large block.
use Rattle.std.proofs.Common.{◌≡◌, ℕ, ◌+◌, ◌-◌, ◌<◌, ◌≤◌, inl, inr, Bool, true, false, cond, not, nat_eq, nat_lt, List, [], ◌∷◌, ◌++◌, Contains, get_or, length, refl, ap, sym, subst, ◌∙◌, eqb-true, ne_eqb, length-set, arith}
use Rattle.std.proofs.lemmas.Bool.{cases_eq, cases_lt}
use Rattle.heap_model.specs.declared.block.Block.{Block}
use Rattle.heap_model.specs.Counting.{times, total, one_if}
use Rattle.heap_model.proofs.MemberLemmas.{in_head, in_rest}
use Rattle.core_model.specs.Carriers.{accepted, both_lists, carrier_of, offered}
use Rattle.heap_model.specs.Geometry.{superblock_of}
use Rattle.core_model.specs.Effects.{span_count, without_span}
use Rattle.core_model.specs.Memory.{Memory, memory_of, used}
use Rattle.core_model.specs.Sound.{Good}
use Rattle.core_model.specs.Splitting.{chosen, chosen_lists, chosen_spans}
use Rattle.core_model.specs.View.{View, Span, of_class, takes, times_raw, times_classed, times_large}
use Rattle.core_model.proofs.BothLemmas.{both_class, both_times}
use Rattle.core_model.proofs.LinkFrameLemmas.{span_covers}
use Rattle.core_model.proofs.OwnLemmas.{one_at_most}
use Rattle.core_model.proofs.OwnerLemmas.{in_lists_total}
use Rattle.core_model.proofs.RangeLemmas.{range_is}
use Rattle.core_model.proofs.TotalLemmas.{total_at}
use Rattle.heap_table.specs.Plays.{HasSoundState}
use Rattle.seat_index.specs.declared.owned.Owned.{Owned}
use Rattle.seat_index.specs.Changed.{IsLargeIn}
use Rattle.seat_index.specs.Holdings.{HoldsLarge, HoldsOneLarge, IsLost}
use Rattle.seat_index.specs.Owned.{HasOwned, IsOwnership, OwnedParts, parts_of, times_had}
use Rattle.seat_index.proofs.BlockMarks.{marked_alike}
use Rattle.seat_index.proofs.OwnedCarriers.{all_roots, all_spans, no_spans, span_takes}
use Rattle.seat_index.proofs.SpanOwnerships.{gained_ownerships, lost_ownerships}
use Rattle.seat_index.proofs.OwnedViews.{taken_below, with_ownerships}
use Rattle.seat_index.proofs.ViewBlocks.{block_cut}
use Rattle.core_model.proofs.ChosenLemmas.{lists_all, lists_only}
use Rattle.seat_index.specs.declared.owned.Ownership.TheVariants as ownership

-- lists without a block that none of them has
one_same : (b : ℕ) (xs : List ℕ) → times b xs ≡ 0 → chosen (λ x. not (nat_eq x b)) xs ≡ xs
one_same b [] none = refl
one_same b (x ∷ xs) none = by_test (nat_eq x b) refl (one_same b xs (omega arith)) where
  by_test : (t : Bool) → nat_eq x b ≡ t → chosen (λ y. not (nat_eq y b)) xs ≡ xs
      → cond (not t) (x ∷ chosen (λ y. not (nat_eq y b)) xs) (chosen (λ y. not (nat_eq y b)) xs) ≡ x ∷ xs
  by_test true e rest = absurd (let z = ap one_if e in omega (arith, none))
  by_test false e rest = ap (λ l. x ∷ l) rest

lists_same : (b : ℕ) (xss : List (List ℕ)) → total (times b) xss ≡ 0 → chosen_lists (λ x. not (nat_eq x b)) xss ≡ xss
lists_same b [] none = refl
lists_same b (xs ∷ xss) none = ap (λ l. l ∷ chosen_lists (λ x. not (nat_eq x b)) xss) (one_same b xs (omega arith))
    ∙ ap (λ l. xs ∷ l) (lists_same b xss (omega arith))

-- behind a span that begins in d none does, where d is taken once
none_behind : (d : ℕ) (span : Span) (spans : List Span) → span.first ≡ d → ((s : Span) → Contains (span ∷ spans) s → 1 ≤ s.count)
    → times_large d (span ∷ spans) ≤ 1 → (other : Span) → Contains spans other → nat_eq other.first d ≡ false
none_behind d span spans here counted once other there = ne_eqb other.first d (λ same.
    let first = range_is span.first span.count d (omega (arith, here)) (let c = counted span (in_head span spans) in omega (arith, here, c)) in
    let behind = span_takes spans other (λ s at. counted s (in_rest span s spans at)) there in
    let e = ap (λ x. times_large x spans) same in omega (arith, first, behind, e, once))

without_it : (d : ℕ) (spans : List Span) → ((s : Span) → Contains spans s → 1 ≤ s.count) → times_large d spans ≤ 1
    → chosen_spans (λ e. not (nat_eq e d)) spans ≡ without_span d spans
without_it d [] counted once = refl
without_it d (span ∷ spans) counted once = by_test (nat_eq span.first d) refl
    (without_it d spans (λ s there. counted s (in_rest span s spans there)) (omega arith)) where
      by_test : (t : Bool) → nat_eq span.first d ≡ t → chosen_spans (λ e. not (nat_eq e d)) spans ≡ without_span d spans
          → cond (not t) (span ∷ chosen_spans (λ e. not (nat_eq e d)) spans) (chosen_spans (λ e. not (nat_eq e d)) spans) ≡ cond t spans
          (span ∷ without_span d spans)
      by_test true e rest = all_spans (λ x. not (nat_eq x d)) spans (λ s there. ap not
          (none_behind d span spans (eqb-true span.first d e) counted once s there))
      by_test false e rest = ap (λ l. span ∷ l) rest

only_it : (d : ℕ) (spans : List Span) → ((s : Span) → Contains spans s → 1 ≤ s.count) → times_large d spans ≤ 1 → 1 ≤ span_count d spans
    → chosen_spans (λ e. nat_eq e d) spans ≡ record { first = d; count = span_count d spans } ∷ []
only_it d [] counted once some = absurd (omega arith)
only_it d (span ∷ spans) counted once some = by_test (nat_eq span.first d) refl
    (λ more. only_it d spans (λ s there. counted s (in_rest span s spans there)) (omega arith) more) some where
      by_test : (t : Bool) → nat_eq span.first d ≡ t → (1 ≤ span_count d spans
          → chosen_spans (λ e. nat_eq e d) spans ≡ record { first = d; count = span_count d spans } ∷ []) → 1 ≤ cond t span.count (span_count d spans)
          → cond t (span ∷ chosen_spans (λ e. nat_eq e d) spans) (chosen_spans (λ e. nat_eq e d) spans) ≡ record {
            first = d;
            count = cond t span.count (span_count d spans);
          } ∷ []
      by_test true e rest more = ap (λ l. span ∷ l) (no_spans (λ x. nat_eq x d) spans
          (none_behind d span spans (eqb-true span.first d e) counted once))
          ∙ ap (λ x. record { first = x; count = span.count } ∷ []) (eqb-true span.first d e)
      by_test false e rest more = rest more

-- a seat that offers a large block
module _ (v : View) (s : HasSoundState v) (b : Block) (d n : ℕ) (large : HoldsLarge v b d n) where
  abbrev m : Memory
  m = memory_of v.setup.capacity s.words

  abbrev good : Good v.setup m s.views
  good = s.sound.good

  place_is : superblock_of v.setup.capacity b.first_word ≡ d
  place_is = let f = large.is.first in omega arith

  counted : (span : Span) → Contains v.large span → 1 ≤ span.count
  counted = (good.claims s.seat v s.below s.at).some

  taken : (e : ℕ) → d ≤ e → e < d + n → 0 < times_large e v.large
  taken e low high = let h = large.held in let some = large.is.some in span_covers d e v.large (omega arith) low (omega arith)

  once : times_large d v.large ≤ 1
  once = let t = total_at (λ (u : View). times_large d u.large) s.views s.seat v s.below s.at in let p = good.shaped.placed.one_place d in
      let most = one_at_most (nat_lt d (used m)) in omega arith

  pub large_below : d + n ≤ v.setup.capacity
  large_below = let some = large.is.some in let t = taken (d + n - 1) (omega arith) (omega arith) in
      let less = taken_below v s (d + n - 1) (omega arith) in omega arith

  -- no small block begins where the large one does
  none_small : total (times b.first_word) v.small ≡ 0
  none_small = elim (cases_lt 0 (total (times b.first_word) v.small)) [
    | inl own ↦ absurd (let cut = (block_cut v s b.first_word (omega arith)).0 in let e = superblock_of v.setup.capacity b.first_word in
        let p = good.shaped.placed.one_place e in let most = one_at_most (nat_lt e (used m)) in
        let t = total_at (λ (u : View). times_large e u.large) s.views s.seat v s.below s.at in let some = large.is.some in
        let l = taken e (let h = place_is in omega arith) (let h = place_is in omega arith) in omega arith)
    | inr none ↦ omega arith
  ]

  pub lose_large : (o o' : Owned) → HasOwned o (parts_of v) → IsLost o o' d n → HasOwned o' (parts_of (offered v b.first_word))
  lose_large o o' own lost = subst (λ x. HasOwned x (parts_of (offered v b.first_word))) (sym lost.others)
      (subst (λ (x : List (List ℕ) × List Span × List ℕ). HasOwned (record o { ownerships = o'.ownerships })
      (record (parts_of v) { small = x.0; large = x.1; roots = x.2 }))
      (λ i. (sym (lists_same b.first_word v.small none_small) i, sym large_left i, sym (all_roots v.roots) i))
      (with_ownerships o o'.ownerships (parts_of v) v.raw v.split v.cutting v.classed (without_span d v.large) own lost.owning.long
      (lost_ownerships o.ownerships.items o'.ownerships.items (parts_of v) d n (sym large.held) large.is.some lost.owning own.ownerships))) where
        large_left : chosen_spans (λ e. not (nat_eq e (superblock_of v.setup.capacity b.first_word))) v.large ≡ without_span d v.large
        large_left = ap (λ x. chosen_spans (λ e. not (nat_eq e x)) v.large) place_is ∙ without_it d v.large counted once

  pub large_alone : HoldsOneLarge (carrier_of v b.first_word) b d n
  large_alone = record {
    is = large.is;
    once = ap (λ x. chosen_spans (λ e. nat_eq e x) v.large) place_is
        ∙ only_it d v.large counted once (let h = large.held in let some = large.is.some in omega arith)
        ∙ ap (λ x. record { first = d; count = x } ∷ []) large.held;
    none_small = λ x. elim (cases_eq x b.first_word) as (λ _. total (times x) (chosen_lists (λ y. nat_eq y b.first_word) v.small) ≡ 0) [
      | inl here ↦ ap (λ y. total (times y) (chosen_lists (λ z. nat_eq z b.first_word) v.small)) here ∙ lists_all b.first_word v.small ∙ none_small
      | inr other ↦ lists_only b.first_word x v.small other
    ];
  }

-- a seat that accepts a large block
module _ (v u : View) (b : Block) (d n : ℕ) (alone : HoldsOneLarge u b d n) (s : HasSoundState (accepted v u)) where
  abbrev after : Good v.setup (memory_of v.setup.capacity s.words) s.views
  after = s.sound.good

  -- its superblocks are taken by it, and by nothing else
  nothing_else : (e : ℕ) → d ≤ e → e < d + n → (times_raw e v ≡ 0) × (times_classed e v.classed ≡ 0) × (times_large e v.large ≡ 0)
  nothing_else e low high =
      let mine : times_large e (accepted v u).large ≡ one_if (takes e (record { first = d; count = n })) + times_large e v.large =
      ap (λ l. times_large e (l ++ v.large)) alone.once in
      let here = range_is d n e low high in
      let p = after.shaped.placed.one_place e in let most = one_at_most (nat_lt e (used (memory_of v.setup.capacity s.words))) in
      let large = total_at (λ (x : View). times_large e x.large) s.views s.seat (accepted v u) s.below s.at in
      let raw = total_at (times_raw e) s.views s.seat (accepted v u) s.below s.at in
      let classed = total_at (λ (x : View). times_classed e x.classed) s.views s.seat (accepted v u) s.below s.at in
      (omega arith, omega arith, omega arith)

  pub gained_below : d + n ≤ v.setup.capacity
  gained_below = let some = alone.is.some in
      let mine : times_large (d + n - 1) (accepted v u).large ≡ one_if (takes (d + n - 1) (record { first = d; count = n })) + times_large
      (d + n - 1) v.large = ap (λ l. times_large (d + n - 1) (l ++ v.large)) alone.once in
      let here = range_is d n (d + n - 1) (omega arith) (omega arith) in
      let less = taken_below (accepted v u) s (d + n - 1) (omega arith) in omega arith

  pub gain_large : (o o' : Owned) → HasOwned o (parts_of v) → IsLargeIn o o' d n → HasOwned o' (parts_of (accepted v u))
  gain_large o o' own gained = subst (λ x. HasOwned x (parts_of (accepted v u))) (sym gained.others)
      (subst (λ l. HasOwned (record o { ownerships = o'.ownerships })
      (record (parts_of v) { small = both_lists u.small v.small; large = l ++ v.large })) (sym alone.once) (record {
        words_long = own.words_long;
        classes_long = own.classes_long;
        ownerships_long = ap length gained.first ∙ length-set gained.rest d (ownership.Large n) ∙ gained.owning.long ∙ own.ownerships_long;
        roots_long = own.roots_long;
        blocks = marked_alike o.blocks (λ x. times_had x (parts_of v)) (λ x. times_had x with_both)
            (λ x. let t = both_times x u.small v.small in let z = alone.none_small x in omega arith) own.blocks;
        classes = record {
          held = λ class x some. own.classes.held class x (let c = both_class x class u.small v.small in
              elim (cases_lt 0 (times x (of_class u.small class))) [
                | inl theirs ↦ absurd (let t = in_lists_total x class u.small theirs in let z = alone.none_small x in omega arith)
                | inr none ↦ omega arith
              ]);
          cached = own.classes.cached;
          batched = own.classes.batched;
        };
        ownerships = λ e. let x = owned e in record {
          unclassed = x.unclassed;
          is_classed = x.is_classed;
          class = x.class;
          is_large = x.is_large;
          count = x.count;
        };
        roots_are = own.roots_are;
        batch = own.batch;
        room = own.room;
        stacks = own.stacks;
      })) where
        with_both : OwnedParts
        with_both = record (parts_of v) { small = both_lists u.small v.small }

        less : d < length gained.rest
        less = let some = alone.is.some in let t = gained_below in let l = gained.owning.long in let k = own.ownerships_long in omega arith

        owned : (e : ℕ) → IsOwnership e (get_or o'.ownerships.items e ownership.Nothing)
            (record (parts_of v) { large = record { first = d; count = n } ∷ v.large })
        owned = subst (λ l. (e : ℕ) → IsOwnership e (get_or l e ownership.Nothing)
            (record (parts_of v) { large = record { first = d; count = n } ∷ v.large })) (sym gained.first)
            (gained_ownerships o.ownerships.items gained.rest (parts_of v) d n alone.is.some less gained.owning own.ownerships nothing_else)
