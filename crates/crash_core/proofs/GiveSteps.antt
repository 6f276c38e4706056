-- The core when a batch goes back to its superblock.
use Rattle.std.proofs.Common.{◌≡◌, ◌≢◌, ℕ, ◌+◌, ◌-◌, ◌/◌, ◌<◌, ◌≤◌, inl, inr, true, cond, nat_eq, List, [], get_or, set, length, None, Some, refl, ap, sym, subst, ◌∙◌, length-set, eq-eqb, ne_eqb, arith}
use Rattle.std.proofs.lemmas.Bool.{cases_lt}
use Rattle.std.specs.Prelude.{Vec}
use Rattle.std.specs.declared.alloc.Global.{Global}
use Rattle.std.specs.Vec.{with_item}
use Rattle.heap_model.specs.Geometry.{start_word, superblocks_end, anchor_word}
use Rattle.heap_model.specs.Sizes.{IsClass, words_of_class, blocks_of}
use Rattle.heap_model.specs.Counting.{times}
use Rattle.heap_model.specs.Words.{anchor_state, anchor_count, full_anchor}
use Rattle.core_model.specs.declared.answer.StepAnswer.TheVariants.{Done}
use Rattle.core_model.specs.declared.event.Event.TheVariants.{Give}
use Rattle.crash_core.specs.declared.owners.BlockPlace.TheVariants as place
use Rattle.crash_core.specs.declared.owners.BlockOwner.{BlockOwner}
use Rattle.seat_state.specs.declared.notes.SeatNotes.{SeatNotes}
use Rattle.seat_state.specs.declared.notes.Seen.{Seen}
use Rattle.seat_state.specs.declared.superblocks.SuperblockUsage.{SuperblockUsage}
use Rattle.seat_state.specs.declared.superblocks.SuperblockUsage.TheVariants as usage
use Rattle.crash_core.specs.declared.state.CoreState.{CoreState}
use Rattle.core_model.specs.Memory.{anchor}
use Rattle.core_model.specs.View.{Setup, View, one_if_some, times_classed}
use Rattle.core_model.specs.Effects.{chain, seen_word, claimed, trimmed, given, given_anchor, batch_anchor}
use Rattle.core_model.specs.Guards.{IsThere, MayGive}
use Rattle.core_model.specs.Sound.{tally_of, times_cut, Good}
use Rattle.core_model.specs.Steps.{seat_after}
use Rattle.seat_state.specs.Superblocks.{usage_for, no_superblock, listed, IsUsage}
use Rattle.crash_core.specs.Standing.{IsAmong, IsSeatAt, HasBlocksOf, HasNewOwner, IsKept, IsCore, KeepsViews, Steps, Decides, memory_at}
use Rattle.core_model.proofs.SoundLemmas.{batched}
use Rattle.crash_core.proofs.StandingLemmas.{among, step_done, memory_in}
use Rattle.seat_state.proofs.UsageLemmas.{no_usage, usages_theirs}
use Rattle.crash_core.proofs.ClaimLemmas.{claimed_kept}
use Rattle.crash_core.proofs.ListSteps.{claimed_going}
use Rattle.crash_core.proofs.LiftSteps.{last_range}
use Rattle.core_model.proofs.AnchorLemmas as on_anchor
use Rattle.seat_state.proofs.WordLemmas.{entry_there}
use Rattle.seat_state.proofs.NewSeat.{empty_batch}
use Rattle.crash_core.proofs.GiveParts

trimmed_kept : (c : CoreState) (i : ℕ) (t : SeatNotes) (v : View) → IsKept c i t v → IsKept c i t (trimmed v)
trimmed_kept c i t v h = record {
  notes = (let n = h.notes in record {
    ticket = n.ticket;
    stopped = n.stopped;
    seen_used = n.seen_used;
    seen_head = n.seen_head;
    seen_link = n.seen_link;
    seen_anchor = n.seen_anchor;
  });
  caches = h.caches;
  batch = h.batch;
  blocks = h.blocks;
  superblocks = h.superblocks;
  roots = h.roots;
}

module _ (c : CoreState) (k : Setup) (views : List View) (i : ℕ) (v : View) (t : SeatNotes) (keeps : KeepsViews c k views)
    (below : i < length views) (at : get_or views i v ≡ v)
    (at_t : IsSeatAt c i t) where
  abbrev kept : IsKept c i t v
  kept = GiveParts.kept c k views i v t keeps below at at_t

  abbrev good : Good k (memory_in c k) views
  good = GiveParts.good c k views i v t keeps below at at_t

  module _ (d : ℕ) where
    module _ (word : Seen) (some : t.seen_anchor ≡ Some word) where
      module _ (may : MayGive (memory_in c k) v d) (found : ℕ) (found_is : found ≡ anchor (memory_at c) d) where
        abbrev now : anchor (memory_in c k) d ≡ found
        now = GiveParts.now c k views i v t keeps below at at_t d word some may found found_is

        module _ (ticket : IsThere v.ticket) (as_it_was : found ≡ word.word) where
          abbrev as_seen : anchor (memory_in c k) d ≡ seen_word v.seen_anchor
          as_seen = GiveParts.as_seen c k views i v t keeps below at at_t d word some may found found_is ticket as_it_was

          abbrev class : ℕ
          class = GiveParts.class c k views i v t keeps below at at_t d word some may found found_is ticket as_it_was

          abbrev d_less : d < k.capacity
          d_less = GiveParts.d_less c k views i v t keeps below at at_t d word some may found found_is ticket as_it_was

          abbrev cut_d : 0 < times_cut good.shape (tally_of views) d
          cut_d = GiveParts.cut_d c k views i v t keeps below at at_t d word some may found found_is ticket as_it_was

          module _ (blocks : Vec BlockOwner Global) (given_chain : HasNewOwner c.blocks.items blocks.items
              (chain (λ n. get_or c.words.items n 0) t.batch.first t.batch.count) (record { seat = i; place = place.Nowhere })) where
            abbrev blocks_mine : HasBlocksOf blocks.items i v.small v.caches []
            blocks_mine = GiveParts.blocks_mine c k views i v t keeps below at at_t d word some may found found_is ticket as_it_was blocks given_chain

            abbrev blocks_theirs : (j : ℕ) (s : SeatNotes) (u : View) → j ≢ i → IsKept c j s u
                → HasBlocksOf blocks.items j u.small u.caches u.batch.blocks
            blocks_theirs = GiveParts.blocks_theirs c k views i v t keeps below at at_t d word some may found found_is ticket as_it_was blocks
                given_chain

            abbrev w0 : View
            w0 = GiveParts.w0 c k views i v t keeps below at at_t d word some may found found_is ticket as_it_was blocks given_chain

            module _ (at_word left : ℕ) (here : at_word ≡ anchor_word d)
                (left_is : left ≡ given_anchor found ((t.batch.first - start_word c.geometry.capacity d) / words_of_class t.batch.class)
                t.batch.count (blocks_of t.batch.class)) where
              abbrev t' : SeatNotes
              t' = GiveParts.t' c k views i v t keeps below at at_t d word some may found found_is ticket as_it_was blocks given_chain at_word
                  left here left_is

              abbrev seat_is : seat_after (memory_in c k) v (Give d) ≡ given v d
              seat_is = GiveParts.seat_is c k views i v t keeps below at at_t d word some may found found_is ticket as_it_was blocks given_chain
                  at_word left here left_is

              abbrev words_are : set c.words.items at_word left ≡ set c.words.items (anchor_word d)
                  (cond (nat_eq (anchor (memory_in c k) d) (seen_word v.seen_anchor)) (batch_anchor v d) (anchor (memory_in c k) d))
              words_are = GiveParts.words_are c k views i v t keeps below at at_t d word some may found found_is ticket as_it_was blocks
                  given_chain at_word left here left_is

              -- a superblock that had free blocks keeps its place
              pub give_kept : v.stopped ≡ None → found ≢ full_anchor
                  → Steps c (record c {
                    words = with_item c.words at_word left;
                    blocks = blocks;
                    seats = with_item c.seats i (record t { ticket = None; seen_anchor = None; batch = empty_batch });
                  }) k views i v (Give d) Done
              give_kept going part = step_done c c' k views i v t t' (Give d) keeps below at at_t going ticket may as_seen
                  (ap (λ (y : View). y.stopped) is ∙ going) words_are
                  refl (record { capacity = refl; budget = refl; carriers = refl; blocks = given_chain.long; superblocks = refl; roots = refl })
                  (subst (IsKept c' i t') (sym is) (trimmed_kept c' i t' w0 (record {
                    notes = (let n = kept.notes in record {
                      ticket = refl;
                      stopped = n.stopped;
                      seen_used = n.seen_used;
                      seen_head = n.seen_head;
                      seen_link = n.seen_link;
                      seen_anchor = refl;
                    });
                    caches = kept.caches;
                    batch = record { descriptor = refl; class = refl; first = refl; last = refl; count = refl; linked = refl };
                    blocks = blocks_mine;
                    superblocks = kept.superblocks;
                    roots = kept.roots;
                  })))
                  (λ j s u other most h. record {
                    notes = h.notes;
                    caches = h.caches;
                    batch = h.batch;
                    blocks = blocks_theirs j s u other h;
                    superblocks = h.superblocks;
                    roots = h.roots;
                  }) where
                    c' : CoreState
                    c' = record c { words = with_item c.words at_word left; blocks = blocks; seats = with_item c.seats i t' }

                    is : seat_after (memory_in c k) v (Give d) ≡ trimmed w0
                    is = seat_is ∙ ap (λ x. trimmed (cond x (claimed w0 d class) w0))
                        (ne_eqb (seen_word v.seen_anchor) full_anchor (λ e. part (sym now ∙ as_seen ∙ e)))

              -- one that was full comes into the hand
              pub give_full : v.stopped ≡ None → found ≡ full_anchor → (x : SuperblockUsage) → x ≡ listed t.batch.class
                  → Steps c (record c {
                    words = with_item c.words at_word left;
                    blocks = blocks;
                    superblocks = with_item c.superblocks d (record { seat = i; usage = x });
                    seats = with_item c.seats i (record t { ticket = None; seen_anchor = None; batch = empty_batch });
                  }) k views i v (Give d) Done
              give_full going full x x_is = step_done c c' k views i v t t' (Give d) keeps below at at_t going ticket may as_seen
                  (ap (λ (y : View). y.stopped) is ∙ claimed_going w0 d class ∙ going) words_are
                  refl (record {
                    capacity = refl;
                    budget = refl;
                    carriers = refl;
                    blocks = given_chain.long;
                    superblocks = length-set c.superblocks.items d (record { seat = i; usage = x });
                    roots = refl;
                  })
                  (subst (IsKept c' i t') (sym is) (trimmed_kept c' i t' (claimed w0 d class)
                  (claimed_kept c' i t' w0 c.superblocks.items d class x (x_is ∙ ap listed (sym kept.batch.class)) refl long
                  (nothing i t v (inl (below, at)) kept) kept.superblocks
                  (let n = kept.notes in record {
                    ticket = refl;
                    stopped = n.stopped;
                    seen_used = n.seen_used;
                    seen_head = n.seen_head;
                    seen_link = n.seen_link;
                    seen_anchor = refl;
                  })
                  kept.caches (record { descriptor = refl; class = refl; first = refl; last = refl; count = refl; linked = refl })
                  blocks_mine kept.roots)))
                  (λ j s u other most h. record {
                    notes = h.notes;
                    caches = h.caches;
                    batch = h.batch;
                    blocks = blocks_theirs j s u other h;
                    superblocks = usages_theirs c.superblocks.items i j d x
                        (λ e y. IsUsage e y u.raw u.split u.cutting u.classed u.large) long other (nothing j s u most h) h.superblocks;
                    roots = h.roots;
                  }) where
                    c' : CoreState
                    c' = record c {
                      words = with_item c.words at_word left;
                      blocks = blocks;
                      superblocks = with_item c.superblocks d (record { seat = i; usage = x });
                      seats = with_item c.seats i t';
                    }

                    is : seat_after (memory_in c k) v (Give d) ≡ trimmed (claimed w0 d class)
                    is = seat_is ∙ ap (λ y. trimmed (cond y (claimed w0 d class) w0))
                        (eq-eqb (seen_word v.seen_anchor) full_anchor (sym as_seen ∙ now ∙ full))

                    long : d < length c.superblocks.items
                    long = let l = d_less in let n = keeps.superblocks in omega arith

                    nothing : (j : ℕ) (s : SeatNotes) (u : View) → IsAmong views j u → IsKept c j s u
                        → usage_for j (get_or c.superblocks.items d no_superblock) ≡ usage.Nothing
                    nothing j s u (inr none) h = let z = none.superblocks d in
                        no_usage d (usage_for j (get_or c.superblocks.items d no_superblock)) u.raw u.split u.cutting u.classed u.large
                        (h.superblocks d) (let r = z.0 in omega arith) z.1 z.2
                    nothing j s u (inl (b, a)) h = let none = on_anchor.not_here k (memory_in c k) views i v below at good d
                        (batch_anchor v d) cut_d j u b a in
                        no_usage d (usage_for j (get_or c.superblocks.items d no_superblock)) u.raw u.split u.cutting u.classed u.large
                        (h.superblocks d) (let z = none.0 in omega arith)
                        (elim (cases_lt 0 (times_classed d u.classed)) [
                          | inl claimed_it ↦ absurd (let l = ((good.claims j u b a).is_classed d claimed_it).2 in
                              let e = ap anchor_state (now ∙ full) in let two : anchor_state 2 ≡ 2 = refl in omega arith)
                          | inr not_claimed ↦ omega arith
                        ]) none.1

-- what fits when the batch is given
pub record GiveFits (c : CoreState) (t : SeatNotes) (d found : ℕ) : Type 0 where
  pub is_class : IsClass t.batch.class
  pub below : d < c.geometry.capacity
  pub low : start_word c.geometry.capacity d ≤ t.batch.first
  pub index : (t.batch.first - start_word c.geometry.capacity d) / words_of_class t.batch.class < 2147483648
  pub state : anchor_state found ≢ 3
  pub count : t.batch.count + anchor_count found ≤ blocks_of t.batch.class
  pub inside : (b : ℕ) → 0 < times b (chain (λ n. get_or c.words.items n 0) t.batch.first t.batch.count) → (b < length c.blocks.items)
      × (b < length c.words.items)

pub give_fits : (c : CoreState) (i d : ℕ) (t : SeatNotes) (word : Seen) (found : ℕ) → IsCore c → i < length c.seats.items → IsSeatAt c i t
    → IsThere t.ticket → t.seen_anchor ≡ Some word → Decides c i (λ m v. MayGive m v d) true
    → found ≡ anchor (memory_at c) d → found ≡ word.word → GiveFits c t d found
give_fits c i d t word found core less at_t ticket some decides found_is as_it_was =
    let below : i < length core.views = among core.keeps less in
    let here = entry_there core.views i below in
    let may = (decides core.setup core.views here.0 core.keeps below here.1).0 refl in
    let its : IsThere here.0.ticket = ap one_if_some (core.keeps.each i t here.0 below at_t here.1).notes.ticket ∙ ticket in
    let some_count : t.batch.count ≢ 0 = (λ none. let s = may.some in let n = (core.keeps.each i t here.0 below at_t here.1).batch.count in
    omega arith) in record {
      is_class = GiveParts.batch_class c core.setup core.views i here.0 t core.keeps below here.1 at_t some_count;
      below = (let b = GiveParts.batch_below c core.setup core.views i here.0 t core.keeps below here.1 at_t some_count in let e = may.batch in
          let f = (core.keeps.each i t here.0 below at_t here.1).batch.descriptor in omega arith);
      low = GiveParts.first_low c core.setup core.views i here.0 t core.keeps below here.1 at_t d word some may found found_is its as_it_was;
      index = GiveParts.index_small c core.setup core.views i here.0 t core.keeps below here.1 at_t d word some may found found_is its as_it_was;
      state = GiveParts.state_fits c core.setup core.views i here.0 t core.keeps below here.1 at_t d word some may found found_is its as_it_was;
      count = GiveParts.count_fits c core.setup core.views i here.0 t core.keeps below here.1 at_t d word some may found found_is its as_it_was;
      inside = GiveParts.inside c core.setup core.views i here.0 t core.keeps below here.1 at_t d word some may found found_is its as_it_was;
    }

-- what fits of a batch that has blocks
pub record BatchFits (c : CoreState) (t : SeatNotes) : Type 0 where
  pub is_class : IsClass t.batch.class
  pub below : t.batch.descriptor < c.geometry.capacity
  pub last : (start_word c.geometry.capacity 0 ≤ t.batch.last) × (t.batch.last < superblocks_end c.geometry.capacity)

pub batch_fits : (c : CoreState) (i : ℕ) (t : SeatNotes) → IsCore c → i < length c.seats.items → IsSeatAt c i t → t.batch.count ≢ 0 → BatchFits c t
batch_fits c i t core less at_t some =
    let below : i < length core.views = among core.keeps less in
    let here = entry_there core.views i below in record {
      is_class = GiveParts.batch_class c core.setup core.views i here.0 t core.keeps below here.1 at_t some;
      below = GiveParts.batch_below c core.setup core.views i here.0 t core.keeps below here.1 at_t some;
      last = last_range c core.setup core.views i here.0 t core.keeps below here.1 at_t some;
    }

pub give_below : (c : CoreState) (i d : ℕ) → IsCore c → i < length c.seats.items → Decides c i (λ m v. MayGive m v d) true → d < c.geometry.capacity
give_below c i d core less decides =
    let below : i < length core.views = among core.keeps less in
    let here = entry_there core.views i below in
    let may = (decides core.setup core.views here.0 core.keeps below here.1).0 refl in
    let b = batched core.setup (memory_in c core.setup) core.views i here.0 below here.1 core.keeps.sound.good d may.batch may.some in
    let g = core.keeps.capacity in omega arith
