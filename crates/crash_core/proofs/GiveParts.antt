-- What is so when a batch may go back to its superblock: which answer the core gives, and what its words say.
use Rattle.std.proofs.Common.{◌≡◌, ◌≢◌, ℕ, ◌+◌, ◌-◌, ◌*◌, ◌/◌, ◌<◌, ◌≤◌, ◌↔◌, true, cond, nat_eq, List, [], ◌++◌, get_or, set, length, None, Some, refl, ap, ap₂, sym, subst, ◌∙◌, eq-eqb, eqb-true, arith}
use Rattle.std.specs.Prelude.{Vec}
use Rattle.std.specs.declared.alloc.Global.{Global}
use Rattle.heap_model.specs.Geometry.{start_word, anchor_word, superblock_of}
use Rattle.heap_model.specs.Sizes.{IsClass, words_of_class, blocks_of}
use Rattle.heap_model.specs.Counting.{times}
use Rattle.heap_model.specs.Words.{anchor_state, anchor_first, anchor_count}
use Rattle.heap_model.proofs.SizeLemmas.{few_blocks}
use Rattle.core_model.specs.declared.answer.StepAnswer.TheVariants.{NotNow}
use Rattle.core_model.specs.declared.event.Event.TheVariants.{Give}
use Rattle.crash_core.specs.declared.owners.BlockPlace.TheVariants as place
use Rattle.crash_core.specs.declared.owners.BlockOwner.{BlockOwner}
use Rattle.seat_state.specs.declared.notes.SeatNotes.{SeatNotes}
use Rattle.seat_state.specs.declared.notes.Seen.{Seen}
use Rattle.crash_core.specs.declared.state.CoreState.{CoreState}
use Rattle.core_model.specs.Memory.{anchor, info, next, memory_of}
use Rattle.core_model.specs.View.{Setup, View, one_if_some, no_batch, times_block}
use Rattle.core_model.specs.Effects.{chain, first_of, last_of, seen_word, seen_of, won, lost, given, given_anchor, batch_anchor}
use Rattle.core_model.specs.Guards.{IsThere, MayGive}
use Rattle.core_model.specs.Sound.{tally_of, times_cut, IsCutBlock, Good}
use Rattle.core_model.specs.Steps.{seat_after}
use Rattle.crash_core.specs.Standing.{IsSeatAt, no_block, batched_in, IsPlace, HasBlocksOf, HasNewOwner, IsKept, KeepsViews, Steps, memory_at}
use Rattle.core_model.proofs.TotalLemmas.{total_at}
use Rattle.core_model.proofs.SoundLemmas.{batched}
use Rattle.core_model.proofs.PlaceLemmas.{pick}
use Rattle.core_model.proofs.BlockLemmas.{first_there}
use Rattle.crash_core.proofs.StandingLemmas.{step_not, memory_in}
use Rattle.crash_core.proofs.BlockPlaces.{place_alone}
use Rattle.crash_core.proofs.KeptFacts as facts
use Rattle.crash_core.proofs.FreeSteps.{once}
use Rattle.crash_core.proofs.GivenLemmas.{given_mine, given_theirs}
use Rattle.crash_core.proofs.ChainSteps.{chain_is, block_fits}
use Rattle.core_model.proofs.GivenLemmas
use Rattle.seat_state.proofs.NewSeat.{empty_batch}

module _ (c : CoreState) (k : Setup) (views : List View) (i : ℕ) (v : View) (t : SeatNotes) (keeps : KeepsViews c k views)
    (below : i < length views) (at : get_or views i v ≡ v)
    (at_t : IsSeatAt c i t) where
  pub kept : IsKept c i t v
  kept = keeps.each i t v below at_t at

  pub good : Good k (memory_in c k) views
  good = keeps.sound.good

  same : memory_at c ≡ memory_in c k
  same = ap (λ n. memory_of n c.words.items) (sym keeps.capacity)

  cap : v.setup.capacity ≡ k.capacity
  cap = ap (λ (s : Setup). s.capacity) (good.set_up i v below at).setup

  -- a batch that has blocks is of a class
  pub batch_class : t.batch.count ≢ 0 → IsClass t.batch.class
  batch_class some = let some_length : 1 ≤ length v.batch.blocks = (let n = kept.batch.count in omega arith) in
      let there = first_there v.batch.blocks some_length in let s = (good.blocks i v below at).batched (first_of v.batch.blocks) there in
      let tot = total_at (times_block (first_of v.batch.blocks)) views i v below at in
      let inside = good.shaped.chained.inside (first_of v.batch.blocks) (omega arith) in
      subst IsClass (ap (λ n. info (memory_in c k) (superblock_of n (first_of v.batch.blocks))) (sym cap) ∙ ap (info (memory_in c k)) s.0 ∙ s.1
      ∙ kept.batch.class)
      (good.shaped.chained.is_class (superblock_of k.capacity (first_of v.batch.blocks)) inside.0)

  pub batch_below : t.batch.count ≢ 0 → t.batch.descriptor < c.geometry.capacity
  batch_below some = let b = batched k (memory_in c k) views i v below at good t.batch.descriptor kept.batch.descriptor
      (let n = kept.batch.count in omega arith) in let g = keeps.capacity in omega arith

  module _ (d : ℕ) where
    pub give_none : t.batch.count ≡ 0 → MayGive (memory_in c k) v d → ⊥
    give_none none may = let s = may.some in let n = kept.batch.count in omega arith

    pub give_apart : t.batch.descriptor ≢ d → MayGive (memory_in c k) v d → ⊥
    give_apart apart may = apart (sym kept.batch.descriptor ∙ may.batch)

    module _ (word : Seen) (some : t.seen_anchor ≡ Some word) where
      saw : v.seen_anchor ≡ Some (record { of = word.of; word = word.word })
      saw = facts.saw_anchor c k views i v t keeps below at at_t word some

      pub give_other : word.of ≢ d → MayGive (memory_in c k) v d → ⊥
      give_other other may = other (sym (ap seen_of saw) ∙ may.of)

      to_may : t.batch.count ≢ 0 → t.batch.descriptor ≡ d → word.of ≡ d
          → (anchor_count (seen_word v.seen_anchor) ≢ 0 → next (memory_in c k)
          (last_of v.batch.blocks) ≡ start_word v.setup.capacity d + anchor_first (seen_word v.seen_anchor) * words_of_class v.batch.class)
          → MayGive (memory_in c k) v d
      to_may some_count of_batch of linked = record {
        batch = kept.batch.descriptor ∙ of_batch;
        some = (let n = kept.batch.count in omega arith);
        is_seen = ap one_if_some saw;
        of = ap seen_of saw ∙ of;
        linked = linked;
      }

      pub give_full_one : t.batch.count ≢ 0 → t.batch.descriptor ≡ d → word.of ≡ d → anchor_count word.word ≡ 0 → MayGive (memory_in c k) v d
      give_full_one some_count of_batch of none = to_may some_count of_batch of
          (λ more. absurd (more (ap (λ x. anchor_count (seen_word x)) saw ∙ none)))

      pub give_linked : t.batch.count ≢ 0 → t.batch.descriptor ≡ d → word.of ≡ d → anchor_count word.word ≢ 0 → (to free : ℕ)
          → to ≡ next (memory_at c) t.batch.last
          → free ≡ start_word c.geometry.capacity d + anchor_first word.word * words_of_class t.batch.class
          → (nat_eq to free ≡ true) ↔ MayGive (memory_in c k) v d
      give_linked some_count of_batch of more to free to_is free_is = (
        λ e. to_may some_count of_batch of (λ _. now ∙ eqb-true to free e ∙ first),
        λ may. eq-eqb to free (sym now ∙ may.linked (λ none. more (sym (ap (λ x. anchor_count (seen_word x)) saw) ∙ none)) ∙ sym first),
      ) where
        now : next (memory_in c k) (last_of v.batch.blocks) ≡ to
        now = ap₂ next (sym same) kept.batch.last ∙ sym to_is

        first : free ≡ start_word v.setup.capacity d + anchor_first (seen_word v.seen_anchor) * words_of_class v.batch.class
        first = free_is ∙ ap (λ n. start_word n d + anchor_first word.word * words_of_class t.batch.class) (sym keeps.capacity ∙ sym cap)
            ∙ ap₂ (λ a n. start_word v.setup.capacity d + anchor_first a * words_of_class n) (sym (ap seen_word saw)) (sym kept.batch.class)

      module _ (may : MayGive (memory_in c k) v d) (found : ℕ) (found_is : found ≡ anchor (memory_at c) d) where
        pub now : anchor (memory_in c k) d ≡ found
        now = sym (found_is ∙ ap (λ m. anchor m d) same)

        pub lost_give : found ≢ word.word → Steps c c k views i v (Give d) NotNow
        lost_give differs = step_not c k views i v (Give d) (λ ready seen. differs (sym now ∙ seen ∙ ap seen_word saw))

        module _ (ticket : IsThere v.ticket) (as_it_was : found ≡ word.word) where
          pub as_seen : anchor (memory_in c k) d ≡ seen_word v.seen_anchor
          as_seen = now ∙ as_it_was ∙ sym (ap seen_word saw)

          abbrev bs : List ℕ
          bs = v.batch.blocks

          abbrev pub class : ℕ
          class = v.batch.class

          is_class : IsClass class
          is_class = GivenLemmas.is_class k (memory_in c k) views i v below at good ticket d may as_seen

          pub d_less : d < k.capacity
          d_less = batched k (memory_in c k) views i v below at good d may.batch may.some

          pub cut_d : 0 < times_cut good.shape (tally_of views) d
          cut_d = GivenLemmas.cut_d k (memory_in c k) views i v below at good ticket d may as_seen

          in_batch : (b : ℕ) → 0 < times b bs → IsCutBlock k.capacity class d b
          in_batch = GivenLemmas.in_batch k (memory_in c k) views i v below at good ticket d may as_seen

          -- what the core gives up is the batch
          whole : chain (λ n. get_or c.words.items n 0) t.batch.first t.batch.count ≡ bs
          whole = ap₂ (chain (λ n. get_or c.words.items n 0)) (sym kept.batch.first) (sym kept.batch.count)
              ∙ chain_is c k views keeps class d (first_of bs) bs is_class d_less in_batch (good.blocks i v below at).batch_linked

          pub inside : (b : ℕ) → 0 < times b (chain (λ n. get_or c.words.items n 0) t.batch.first t.batch.count) → (b < length c.blocks.items)
              × (b < length c.words.items)
          inside b there = block_fits c k views keeps class d b is_class d_less (in_batch b (subst (λ xs. 0 < times b xs) whole there))

          anchored_states : anchor_state (anchor (memory_in c k) d) < 3
          anchored_states = GivenLemmas.state_fits k (memory_in c k) views i v below at good ticket d may as_seen

          no_more : length (bs ++ good.shape.chains d) ≤ blocks_of class
          no_more = GivenLemmas.count_fits k (memory_in c k) views i v below at good ticket d may as_seen

          first_is : (first : ℕ) → first ≡ start_word c.geometry.capacity d → (first ≡ start_word v.setup.capacity d) × (first ≤ t.batch.first)
          first_is first is = (
            is ∙ ap (λ n. start_word n d) (sym keeps.capacity ∙ sym cap),
            (let b = (GivenLemmas.first_block k (memory_in c k) views i v below at good ticket d may as_seen).at in let e = kept.batch.first in
                let g = keeps.capacity in omega arith),
          )

          pub first_low : start_word c.geometry.capacity d ≤ t.batch.first
          first_low = (first_is (start_word c.geometry.capacity d) refl).1

          index_of_first : (start_word c.geometry.capacity d ≡ start_word v.setup.capacity d)
              → (t.batch.first - start_word c.geometry.capacity d) / words_of_class t.batch.class ≡
              (first_of bs - start_word v.setup.capacity d) / words_of_class class
          index_of_first same_start = ap₂ (λ a n. (a - start_word c.geometry.capacity d) / words_of_class n) (sym kept.batch.first)
              (sym kept.batch.class) ∙ ap (λ n. (first_of bs - n) / words_of_class class) same_start

          pub index_small : (t.batch.first - start_word c.geometry.capacity d) / words_of_class t.batch.class < 2147483648
          index_small = let e = index_of_first (first_is (start_word c.geometry.capacity d) refl).0 in
              let x = GivenLemmas.index_is k (memory_in c k) views i v below at good ticket d may as_seen in
              let l = (GivenLemmas.first_block k (memory_in c k) views i v below at good ticket d may as_seen).below in
              let few = few_blocks class is_class in omega arith

          pub state_fits : anchor_state found ≢ 3
          state_fits three = let a = anchored_states in let e = ap anchor_state now in omega arith

          pub count_fits : t.batch.count + anchor_count found ≤ blocks_of t.batch.class
          count_fits = let n = kept.batch.count in let e = ap anchor_count as_seen in let z = ap anchor_count now in
              let all = GivenLemmas.count_is k (memory_in c k) views i v below at good ticket d may as_seen in let m = no_more in
              let b = ap blocks_of kept.batch.class in omega arith

          module _ (blocks : Vec BlockOwner Global) (given_chain : HasNewOwner c.blocks.items blocks.items
              (chain (λ n. get_or c.words.items n 0) t.batch.first t.batch.count) (record { seat = i; place = place.Nowhere })) where
            given_bs : HasNewOwner c.blocks.items blocks.items bs (record { seat = i; place = place.Nowhere })
            given_bs = subst (λ xs. HasNewOwner c.blocks.items blocks.items xs (record { seat = i; place = place.Nowhere })) whole given_chain

            pub blocks_mine : HasBlocksOf blocks.items i v.small v.caches []
            blocks_mine = given_mine c.blocks.items blocks.items i bs place.Nowhere (λ b p. IsPlace b p v.small v.caches []) given_bs
                (λ b there. let o = once c k views i v t keeps below at at_t b in record { held = omega arith; cached = omega arith; batched = refl })
                (λ b none. let o = kept.blocks b in record { held = o.held; cached = o.cached; batched = (let h = o.batched in omega arith) })

            pub blocks_theirs : (j : ℕ) (s : SeatNotes) (u : View) → j ≢ i → IsKept c j s u
                → HasBlocksOf blocks.items j u.small u.caches u.batch.blocks
            blocks_theirs j s u other h = given_theirs c.blocks.items blocks.items i j bs place.Nowhere
                (λ b p. IsPlace b p u.small u.caches u.batch.blocks) other given_bs
                (λ b there. place_alone i j (get_or c.blocks.items b no_block) other (λ none. let o = (kept.blocks b).batched in
                let z = ap batched_in none in omega arith)) h.blocks

            abbrev pub w0 : View
            w0 = record (won v) { batch = no_batch; seen_anchor = None; gives = v.gives + 1 }

            module _ (at_word left : ℕ) (here : at_word ≡ anchor_word d)
                (left_is : left ≡ given_anchor found ((t.batch.first - start_word c.geometry.capacity d) / words_of_class t.batch.class)
                t.batch.count (blocks_of t.batch.class)) where
              abbrev pub t' : SeatNotes
              t' = record t { ticket = None; seen_anchor = None; batch = empty_batch }

              test : nat_eq (anchor (memory_in c k) d) (seen_word v.seen_anchor) ≡ true
              test = eq-eqb (anchor (memory_in c k) d) (seen_word v.seen_anchor) as_seen

              pub seat_is : seat_after (memory_in c k) v (Give d) ≡ given v d
              seat_is = pick (nat_eq (anchor (memory_in c k) d) (seen_word v.seen_anchor)) (given v d)
                  (record (lost v (anchor (memory_in c k) d)) { seen_anchor = None }) test

              anchor_is : left ≡ batch_anchor v d
              anchor_is = left_is ∙ ap₂ (λ a n. given_anchor a n t.batch.count (blocks_of t.batch.class)) (sym now ∙ as_seen)
                  (index_of_first (first_is (start_word c.geometry.capacity d) refl).0)
                  ∙ ap₂ (λ n x. given_anchor (seen_word v.seen_anchor) ((first_of bs - start_word v.setup.capacity d) / words_of_class class) n
                  (blocks_of x)) (sym kept.batch.count) (sym kept.batch.class)

              pub words_are : set c.words.items at_word left ≡ set c.words.items (anchor_word d)
                  (cond (nat_eq (anchor (memory_in c k) d) (seen_word v.seen_anchor)) (batch_anchor v d) (anchor (memory_in c k) d))
              words_are = ap₂ (set c.words.items) here (anchor_is ∙ sym (pick (nat_eq (anchor (memory_in c k) d) (seen_word v.seen_anchor))
                  (batch_anchor v d) (anchor (memory_in c k) d) test))
