-- The push of a claimed descriptor by the core.
use Rattle.std.proofs.Common.{◌≡◌, ◌≢◌, ℕ, ◌+◌, ◌<◌, inl, inr, Bool, true, false, cond, ltb-true, true≢false, nat_eq, nat_lt, List, get_or, set, length, Option, None, Some, refl, ap, ap₂, sym, subst, ◌∙◌, length-set, lt-ltb, arith}
use Rattle.std.proofs.lemmas.Bool.{cases_lt}
use Rattle.std.specs.Vec.{with_item}
use Rattle.heap_model.specs.Counting.{times}
use Rattle.heap_model.specs.Words.{head_of, head_pops}
use Rattle.core_model.specs.declared.answer.StepAnswer.TheVariants.{Done}
use Rattle.core_model.specs.declared.event.Event.TheVariants.{Push}
use Rattle.seat_state.specs.declared.notes.SeatNotes.{SeatNotes}
use Rattle.seat_state.specs.declared.notes.Seen.{Seen}
use Rattle.seat_state.specs.declared.superblocks.SuperblockUsage.TheVariants as usage
use Rattle.crash_core.specs.declared.state.CoreState.{CoreState}
use Rattle.core_model.specs.Cells.{head_cell}
use Rattle.core_model.specs.View.{Setup, View, times_classed}
use Rattle.core_model.specs.Effects.{seen_word, seen_of, cleared, claimed, pushed, pushed_raw, pushed_classed, pushed_head, lost}
use Rattle.core_model.specs.Guards.{IsThere, MayPush, MayList, as_free, of_its_class}
use Rattle.core_model.specs.Steps.{seat_after}
use Rattle.seat_state.specs.Superblocks.{usage_for, no_superblock, IsUsage}
use Rattle.crash_core.specs.Standing.{IsAmong, IsSeatAt, IsKept, KeepsViews, Steps}
use Rattle.seat_state.specs.Notes.{snapshot}
use Rattle.core_model.proofs.PlaceLemmas.{pick, skip}
use Rattle.crash_core.proofs.StandingLemmas.{step_done, memory_in}
use Rattle.seat_state.proofs.UsageLemmas.{usage_alone, usages_theirs}
use Rattle.crash_core.proofs.ClaimLemmas.{raw_given_up, class_given_up}
use Rattle.crash_core.proofs.ListSteps

module _ (c : CoreState) (k : Setup) (views : List View) (i : ℕ) (v : View) (t : SeatNotes) (keeps : KeepsViews c k views)
    (below : i < length views) (at : get_or views i v ≡ v)
    (at_t : IsSeatAt c i t) where
  abbrev kept : IsKept c i t v
  kept = ListSteps.kept c k views i v t keeps below at at_t

  module _ (head : Seen) (some : t.seen_head ≡ Some head) where
    module _ (going : v.stopped ≡ None) (ticket : IsThere v.ticket) (at_word found : ℕ) (here : at_word ≡ 16 + head.of)
        (found_is : found ≡ get_or c.words.items at_word found) (same : found ≡ head.word) where
      abbrev as_seen : (memory_in c k).volatile (head_cell (seen_of v.seen_head)) ≡ seen_word v.seen_head
      as_seen = ListSteps.as_seen c k views i v t keeps below at at_t head some going ticket at_word found here found_is same

      abbrev test : nat_eq ((memory_in c k).volatile (head_cell (seen_of v.seen_head))) (seen_word v.seen_head) ≡ true
      test = ListSteps.test c k views i v t keeps below at at_t head some going ticket at_word found here found_is same

      abbrev index : at_word ≡ 16 + seen_of v.seen_head
      index = ListSteps.index c k views i v t keeps below at at_t head some going ticket at_word found here found_is same

      pub push : (d : ℕ) → MayPush (memory_in c k) v d → d < length c.superblocks.items → (word : ℕ) (anchor : Option Seen)
          → word ≡ head_of (d + 1) (head_pops head.word)
          → snapshot anchor ≡ cleared d 1 (snapshot t.seen_anchor)
          → Steps c (record c {
            words = with_item c.words at_word word;
            superblocks = with_item c.superblocks d (record { seat = i; usage = usage.Nothing });
            seats = with_item c.seats i (record t { ticket = None; seen_head = None; seen_anchor = anchor });
          }) k views i v (Push d) Done
      push d may less word anchor word_new anchor_is = by_claim (nat_lt 0 (times d v.raw + times d v.split)) refl where
        t' : SeatNotes
        t' = record t { ticket = None; seen_head = None; seen_anchor = anchor }

        c' : CoreState
        c' = record c {
          words = with_item c.words at_word word;
          superblocks =
              with_item c.superblocks d (record { seat = i; usage = usage.Nothing });
          seats = with_item c.seats i t';
        }

        won_it : seat_after (memory_in c k) v (Push d) ≡ pushed v d
        won_it = pick (nat_eq ((memory_in c k).volatile (head_cell (seen_of v.seen_head))) (seen_word v.seen_head)) (pushed v d)
            (record (lost v ((memory_in c k).volatile (head_cell (seen_of v.seen_head)))) { seen_head = None }) test

        words_are : set c.words.items at_word word ≡ set c.words.items (16 + seen_of v.seen_head)
            (cond (nat_eq ((memory_in c k).volatile (head_cell (seen_of v.seen_head))) (seen_word v.seen_head)) (pushed_head v d)
            ((memory_in c k).volatile (head_cell (seen_of v.seen_head))))
        words_are = ap₂ (λ n y. set c.words.items n y) index (word_new
            ∙ sym (pick (nat_eq ((memory_in c k).volatile (head_cell (seen_of v.seen_head))) (seen_word v.seen_head)) (pushed_head v d)
            ((memory_in c k).volatile (head_cell (seen_of v.seen_head))) test
            ∙ ap (λ b. head_of (d + 1) (head_pops b)) (ListSteps.word_is c k views i v t keeps below at at_t head some)))

        mine_usage : usage_for i (get_or c.superblocks.items d no_superblock) ≡ usage.Nothing → ⊥
        mine_usage none = let o = subst (λ y. IsUsage d y v.raw v.split v.cutting v.classed v.large) none (kept.superblocks d) in
            claims_none (seen_of v.seen_head) may.listed o where
              claims_none : (list : ℕ) → MayList (memory_in c k) v d list → IsUsage d usage.Nothing v.raw v.split v.cutting v.classed v.large → ⊥
              claims_none list (as_free l is_zero claimed empty) o = let a = o.is_raw in let b = o.is_split in let e = o.is_cutting in
                  let f = o.is_classed in let g = claimed.claimed in absurd (omega arith)
              claims_none list (of_its_class l apart classed class_is state_now) o = let f = o.is_classed in absurd (omega arith)

        theirs : (j : ℕ) (s : SeatNotes) (u : View) → j ≢ i → IsAmong views j u → IsKept c j s u → IsKept c' j s u
        theirs j s u other most h = record {
          notes = h.notes;
          caches = h.caches;
          batch = h.batch;
          blocks = h.blocks;
          superblocks = usages_theirs c.superblocks.items i j d usage.Nothing (λ e y. IsUsage e y u.raw u.split u.cutting u.classed u.large) less other
              (usage_alone i j (get_or c.superblocks.items d no_superblock) other mine_usage) h.superblocks;
          roots = h.roots;
        }

        done : (w : View) → seat_after (memory_in c k) v (Push d) ≡ w → w.stopped ≡ None → IsKept c' i t' w → Steps c c' k views i v (Push d) Done
        done w is_w on mine = step_done c c' k views i v t t' (Push d) keeps below at at_t going ticket may as_seen
            (ap (λ (y : View). y.stopped) is_w ∙ on) words_are refl
            (record {
              capacity = refl;
              budget = refl;
              carriers = refl;
              blocks = refl;
              superblocks = length-set c.superblocks.items d (record { seat = i; usage = usage.Nothing });
              roots = refl;
            })
            (subst (IsKept c' i t') (sym is_w) mine) theirs

        by_claim : (some : Bool) → nat_lt 0 (times d v.raw + times d v.split) ≡ some → Steps c c' k views i v (Push d) Done
        by_claim true e = done (pushed_raw v d) (won_it ∙ pick (nat_lt 0 (times d v.raw + times d v.split)) (pushed_raw v d)
            (pushed_classed v d) e) going (record {
              notes = (let n = kept.notes in record {
                ticket = refl;
                stopped = n.stopped;
                seen_used = n.seen_used;
                seen_head = refl;
                seen_link = n.seen_link;
                seen_anchor = ap (cleared d 1) n.seen_anchor ∙ sym anchor_is;
              });
              caches = kept.caches;
              batch = kept.batch;
              blocks = kept.blocks;
              superblocks = raw_given_up c.superblocks.items i d v.raw v.split v.cutting v.classed v.large less
                  (ltb-true 0 (times d v.raw + times d v.split) e) kept.superblocks;
              roots = kept.roots;
            })
        by_claim false e = done (pushed_classed v d) (won_it ∙ skip (nat_lt 0 (times d v.raw + times d v.split)) (pushed_raw v d)
            (pushed_classed v d) e) going (record {
              notes = (let n = kept.notes in record {
                ticket = refl;
                stopped = n.stopped;
                seen_used = n.seen_used;
                seen_head = refl;
                seen_link = n.seen_link;
                seen_anchor = ap (cleared d 1) n.seen_anchor ∙ sym anchor_is;
              });
              caches = kept.caches;
              batch = kept.batch;
              blocks = kept.blocks;
              superblocks = class_given_up c.superblocks.items i d v.raw v.split v.cutting v.classed v.large less
                  (claims_class (seen_of v.seen_head) may.listed) kept.superblocks;
              roots = kept.roots;
            }) where
              claims_class : (list : ℕ) → MayList (memory_in c k) v d list → 0 < times_classed d v.classed
              claims_class list (as_free l is_zero claimed empty) = let g = claimed.claimed in let h = claimed.not_cutting in let n = not_below e in
                  omega arith where
                    not_below : nat_lt 0 (times d v.raw + times d v.split) ≡ false → times d v.raw + times d v.split ≡ 0
                    not_below f = elim (cases_lt 0 (times d v.raw + times d v.split)) [
                      | inl some ↦ absurd (true≢false (sym (lt-ltb 0 (times d v.raw + times d v.split) some) ∙ f))
                      | inr none ↦ omega arith
                    ]
              claims_class list (of_its_class l apart classed class_is state_now) = classed
