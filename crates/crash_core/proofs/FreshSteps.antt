-- The step of the core that takes superblocks that were never taken.
use Rattle.std.proofs.Common.{◌≡◌, ◌≢◌, ℕ, ◌+◌, ◌<◌, ◌≤◌, inl, inr, true, nat_eq, List, ◌++◌, get_or, set, length, Option, None, Some, refl, ap, ap₂, sym, subst, ◌∙◌, eq-eqb, arith}
use Rattle.std.proofs.lemmas.Bool.{cases_lt}
use Rattle.std.specs.Prelude.{Vec}
use Rattle.std.specs.declared.alloc.Global.{Global}
use Rattle.std.specs.Vec.{with_item}
use Rattle.heap_model.specs.Counting.{times}
use Rattle.core_model.specs.declared.answer.StepAnswer.TheVariants.{Done, NotNow}
use Rattle.core_model.specs.declared.event.Event.TheVariants.{TakeFresh}
use Rattle.seat_state.specs.declared.notes.SeatNotes.{SeatNotes}
use Rattle.seat_state.specs.declared.notes.Seen.{Seen}
use Rattle.seat_state.specs.declared.superblocks.SuperblockUsage.TheVariants as usage
use Rattle.seat_state.specs.declared.superblocks.SuperblockOwner.{SuperblockOwner}
use Rattle.crash_core.specs.declared.state.CoreState.{CoreState}
use Rattle.core_model.specs.Memory.{used}
use Rattle.core_model.specs.View.{Setup, View, one_if_some, times_raw, times_classed, times_large}
use Rattle.core_model.specs.Effects.{seen, cleared, steps, taken_fresh, lost}
use Rattle.core_model.specs.Guards.{IsThere}
use Rattle.core_model.specs.Sound.{Good}
use Rattle.core_model.specs.Steps.{seat_after}
use Rattle.seat_state.specs.Superblocks.{usage_for, no_superblock, IsUsage, IsRange}
use Rattle.crash_core.specs.Standing.{IsAmong, IsSeatAt, IsKept, KeepsViews, Steps}
use Rattle.seat_state.specs.Notes.{snapshot}
use Rattle.core_model.proofs.FrameLemmas.{below_is, below_not, times_steps}
use Rattle.heap_model.proofs.ListLemmas.{times_append}
use Rattle.core_model.proofs.PlaceLemmas.{pick}
use Rattle.crash_core.proofs.StandingLemmas.{among_most, step_done, step_not, memory_in}
use Rattle.seat_state.proofs.UsageLemmas.{no_usage}
use Rattle.seat_state.proofs.RangeLemmas.{range_mine, range_theirs}
use Rattle.seat_state.proofs.WordLemmas.{entry_is}

module _ (c : CoreState) (k : Setup) (views : List View) (i : ℕ) (v : View) (t : SeatNotes) (keeps : KeepsViews c k views)
    (below_i : i < length views) (at : get_or views i v ≡ v)
    (at_t : IsSeatAt c i t) where
  kept : IsKept c i t v
  kept = keeps.each i t v below_i at_t at

  good : Good k (memory_in c k) views
  good = keeps.sound.good

  module _ (mark : ℕ) (some : t.seen_used ≡ Some mark) where
    saw : v.seen_used ≡ Some mark
    saw = kept.notes.seen_used ∙ some

    abbrev u : ℕ
    u = seen v.seen_used

    pub none_taken : (n : ℕ) → n ≡ 0 → Steps c c k views i v (TakeFresh n) NotNow
    none_taken n none = step_not c k views i v (TakeFresh n) (λ may seen_now. let s = may.some in omega (arith, none, s))

    pub no_room : (n : ℕ) → k.capacity < mark + n → Steps c c k views i v (TakeFresh n) NotNow
    no_room n past = step_not c k views i v (TakeFresh n) (λ may seen_now. let r = may.room in let e = ap seen saw in
        let cap : v.setup.capacity ≡ k.capacity = ap (λ (s : Setup). s.capacity) (good.set_up i v below_i at).setup in omega arith)

    now : (found : ℕ) → found ≡ get_or c.words.items 8 found → used (memory_in c k) ≡ found
    now found is = entry_is c.words.items 8 0 found (let l = keeps.sound.long in omega arith) ∙ sym is

    pub lost_take : (n found : ℕ) → found ≡ get_or c.words.items 8 found → found ≢ mark → Steps c c k views i v (TakeFresh n) NotNow
    lost_take n found is differs = step_not c k views i v (TakeFresh n) (λ may seen_now. differs (sym (now found is) ∙ seen_now ∙ ap seen saw))

    pub take_fresh : v.stopped ≡ None → IsThere v.ticket → (n found word : ℕ) → found ≡ get_or c.words.items 8 found → found ≡ mark → 1 ≤ n
        → mark + n ≤ k.capacity → word ≡ mark + n
        → (owners : Vec SuperblockOwner Global) (anchor : Option Seen)
        → IsRange c.superblocks.items owners.items mark n (record { seat = i; usage = usage.Raw })
        → snapshot anchor ≡ cleared mark n (snapshot t.seen_anchor)
        → Steps c (record c {
          words = with_item c.words 8 word;
          superblocks = owners;
          seats = with_item c.seats i (record t { ticket = None; seen_used = Some word; seen_anchor = anchor });
        }) k views i v (TakeFresh n) Done
    take_fresh going ticket n found word is same some_n room word_is owners anchor range anchor_is =
        step_done c c' k views i v t t' (TakeFresh n) keeps below_i at at_t going ticket
        (record {
          is_seen = ap one_if_some saw;
          some = some_n;
          room = (let e = ap seen saw in
              let cap : v.setup.capacity ≡ k.capacity = ap (λ (s : Setup). s.capacity) (good.set_up i v below_i at).setup in omega arith);
        }) as_seen
        (ap (λ (y : View). y.stopped) won_it ∙ going)
        (ap (λ y. set c.words.items 8 y) (word_is ∙ sym (pick (nat_eq (used (memory_in c k)) (seen v.seen_used)) (used (memory_in c k) + n)
        (used (memory_in c k)) test ∙ (let e = as_seen in let f = ap seen saw in let z : used (memory_in c k) + n ≡ mark + n = omega arith in z))))
        refl (record { capacity = refl; budget = refl; carriers = refl; blocks = refl; superblocks = range.long; roots = refl })
        (subst (IsKept c' i t') (sym won_it) (record {
          notes = (let o = kept.notes in record {
            ticket = refl;
            stopped = o.stopped;
            seen_used = ap Some (let e = ap seen saw in let z : seen v.seen_used + n ≡ word = omega arith in z);
            seen_head = o.seen_head;
            seen_link = o.seen_link;
            seen_anchor = ap₂ (λ a b. cleared a n b) (ap seen saw) o.seen_anchor ∙ sym anchor_is;
          });
          caches = kept.caches;
          batch = kept.batch;
          blocks = kept.blocks;
          superblocks = range_mine c.superblocks.items owners.items i u n usage.Raw
              (λ d y. IsUsage d y (v.raw ++ steps u 1 n) v.split v.cutting v.classed v.large) range_u
              (λ d low high. let o = subst (λ y. IsUsage d y v.raw v.split v.cutting v.classed v.large)
              (fresh d low i t v (inl (below_i, at)) kept) (kept.superblocks d) in record {
                is_raw = (let a = times_append d v.raw (steps u 1 n) in let b = times_steps d u n in let low_is = below_not d u low in
                    let high_is = below_is d (u + n) high in let r = o.is_raw in omega arith);
                is_split = o.is_split;
                is_cutting = o.is_cutting;
                is_classed = o.is_classed;
                class = o.class;
                is_large = o.is_large;
                count = o.count;
              })
              (λ d out. let o = kept.superblocks d in record {
                is_raw = (let a = times_append d v.raw (steps u 1 n) in let z = none_there d out in let r = o.is_raw in omega arith);
                is_split = o.is_split;
                is_cutting = o.is_cutting;
                is_classed = o.is_classed;
                class = o.class;
                is_large = o.is_large;
                count = o.count;
              });
          roots = kept.roots;
        }))
        (λ j s w other most h. record {
          notes = h.notes;
          caches = h.caches;
          batch = h.batch;
          blocks = h.blocks;
          superblocks = range_theirs c.superblocks.items owners.items i j u n usage.Raw
              (λ d y. IsUsage d y w.raw w.split w.cutting w.classed w.large) other range_u (λ d low high. fresh d low j s w most h) h.superblocks;
          roots = h.roots;
        })
      where
        t' : SeatNotes
        t' = record t { ticket = None; seen_used = Some word; seen_anchor = anchor }

        c' : CoreState
        c' = record c { words = with_item c.words 8 word; superblocks = owners; seats = with_item c.seats i t' }

        range_u : IsRange c.superblocks.items owners.items u n (record { seat = i; usage = usage.Raw })
        range_u = subst (λ x. IsRange c.superblocks.items owners.items x n (record { seat = i; usage = usage.Raw })) (sym (ap seen saw)) range

        as_seen : used (memory_in c k) ≡ seen v.seen_used
        as_seen = now found is ∙ same ∙ sym (ap seen saw)

        test : nat_eq (used (memory_in c k)) (seen v.seen_used) ≡ true
        test = eq-eqb (used (memory_in c k)) (seen v.seen_used) as_seen

        won_it : seat_after (memory_in c k) v (TakeFresh n) ≡ taken_fresh v n
        won_it = pick (nat_eq (used (memory_in c k)) (seen v.seen_used)) (taken_fresh v n)
            (record (lost v (used (memory_in c k))) { seen_used = None }) test

        fresh : (d : ℕ) → u ≤ d → (j : ℕ) (s : SeatNotes) (w : View) → IsAmong views j w → IsKept c j s w
            → usage_for j (get_or c.superblocks.items d no_superblock) ≡ usage.Nothing
        fresh d low j s w most h = let p = good.shaped.placed.one_place d in let e = as_seen in
            let none = below_not d (used (memory_in c k)) (omega arith) in
            let raw = among_most (times_raw d) views j w most (λ none. (none.superblocks d).0) in
            let classed = among_most (λ (x : View). times_classed d x.classed) views j w most (λ none. (none.superblocks d).1) in
            let large = among_most (λ (x : View). times_large d x.large) views j w most (λ none. (none.superblocks d).2) in
            no_usage d (usage_for j (get_or c.superblocks.items d no_superblock)) w.raw w.split w.cutting w.classed w.large (h.superblocks d)
            (omega arith) (omega arith) (omega arith)

        none_there : (d : ℕ) → (u ≤ d → d < u + n → ⊥) → times d (steps u 1 n) ≡ 0
        none_there d out = elim (cases_lt d u) [
          | inl low ↦ let b = times_steps d u n in let one = below_is d u low in let two = below_is d (u + n) (omega arith) in omega arith
          | inr some_u ↦ elim (cases_lt d (u + n)) [
            | inl high ↦ absurd (out some_u high)
            | inr past ↦ let b = times_steps d u n in let one = below_not d u some_u in let two = below_not d (u + n) past in omega arith
          ]
        ]
