-- When a superblock may go to the list whose head was seen, by what the core keeps.
use Rattle.std.proofs.Common.{◌≡◌, ◌≢◌, ℕ, zero, suc, ◌+◌, ◌<◌, ◌≤◌, ◌↔◌, inl, inr, Bool, true, false, cond, nat_eq, List, [], ◌∷◌, get_or, length, Some, refl, ap, sym, ◌∙◌, eq-eqb, eqb-true, arith}
use Rattle.std.proofs.lemmas.Bool.{cases_eq}
use Rattle.heap_model.specs.Words.{head_first, anchor_state}
use Rattle.seat_state.specs.declared.notes.SeatNotes.{SeatNotes}
use Rattle.seat_state.specs.declared.notes.Seen.{Seen}
use Rattle.seat_state.specs.declared.superblocks.SuperblockUsage.{SuperblockUsage}
use Rattle.seat_state.specs.declared.superblocks.SuperblockUsage.TheVariants as usage
use Rattle.seat_state.specs.declared.superblocks.SuperblockOwner.{SuperblockOwner}
use Rattle.crash_core.specs.declared.state.CoreState.{CoreState}
use Rattle.core_model.specs.Memory.{Memory, info, anchor, link, durable_used, memory_of}
use Rattle.core_model.specs.View.{Setup, View, one_if_some, times_classed}
use Rattle.core_model.specs.Effects.{seen_word, seen_of}
use Rattle.core_model.specs.Guards.{MayList, as_free, of_its_class, MayPush}
use Rattle.seat_state.specs.Superblocks.{usage_for, no_superblock, raw_in, split_in, cutting_in, classed_in}
use Rattle.crash_core.specs.Standing.{IsSeatAt, IsKept, KeepsViews, memory_at}
use Rattle.crash_core.proofs.StandingLemmas.{memory_in}
use Rattle.crash_core.proofs.KeptFacts as facts

pub none_beyond : (owners : List SuperblockOwner) (i d : ℕ) → length owners ≤ d → usage_for i (get_or owners d no_superblock) ≡ usage.Nothing
none_beyond [] i d past = either (nat_eq 0 i) where
  either : (test : Bool) → cond test usage.Nothing usage.Nothing ≡ usage.Nothing
  either true = refl
  either false = refl
none_beyond (o ∷ owners) i zero past = absurd (omega arith)
none_beyond (o ∷ owners) i (suc d) past = none_beyond owners i d (omega arith)

-- a superblock that is freely claimed is not being cut
pub freely_not_cutting : (x : SuperblockUsage) → 0 < raw_in x + split_in x + classed_in x → cutting_in x ≡ 0
freely_not_cutting usage.Nothing some = refl
freely_not_cutting usage.Raw some = refl
freely_not_cutting usage.Split some = refl
freely_not_cutting usage.Cutting some = absurd (omega arith)
freely_not_cutting (usage.Classed class) some = refl
freely_not_cutting (usage.Large count) some = refl

module _ (c : CoreState) (k : Setup) (views : List View) (i : ℕ) (v : View) (t : SeatNotes) (keeps : KeepsViews c k views)
    (below : i < length views) (at : get_or views i v ≡ v)
    (at_t : IsSeatAt c i t) (d : ℕ) where
  kept : IsKept c i t v
  kept = keeps.each i t v below at_t at

  abbrev m : Memory
  m = memory_in c k

  same : memory_at c ≡ m
  same = ap (λ n. memory_of n c.words.items) (sym keeps.capacity)

  abbrev x : SuperblockUsage
  x = usage_for i (get_or c.superblocks.items d no_superblock)

  freely_of : (list : ℕ) → MayList m v d list → 0 < raw_in x + split_in x + classed_in x
  freely_of list (as_free l is_zero claimed empty) = let a = (kept.superblocks d).is_raw in let b = (kept.superblocks d).is_split in
      let e = (kept.superblocks d).is_cutting in let f = (kept.superblocks d).is_classed in let g = claimed.claimed in
      let h = claimed.not_cutting in omega arith
  freely_of list (of_its_class l some classed is state) = let f = (kept.superblocks d).is_classed in omega arith

  pub not_freely : (y : SuperblockUsage) → y ≡ x → raw_in y + split_in y + classed_in y ≡ 0 → MayPush m v d → ⊥
  not_freely y is none may = let some = freely_of (seen_of v.seen_head) may.listed in
      let e = ap (λ z. raw_in z + split_in z + classed_in z) is in omega arith

  pub beyond : c.geometry.capacity ≤ d → MayPush m v d → ⊥
  beyond past may = not_freely usage.Nothing (sym (none_beyond c.superblocks.items i d (let n = keeps.superblocks in let cap = keeps.capacity in
      omega arith))) refl may

  pub undurable : (mark : ℕ) → mark ≡ durable_used (memory_at c) → mark ≤ d → MayPush m v d → ⊥
  undurable mark is past may = let less = may.durable in let e : durable_used m ≡ mark = ap durable_used (sym same) ∙ sym is in omega arith

  module _ (head : Seen) (some : t.seen_head ≡ Some head) where
    of_is : seen_of v.seen_head ≡ head.of
    of_is = ap seen_of (facts.saw c k views i v t keeps below at at_t head some)

    pub unlinked : (to first : ℕ) → to ≡ link (memory_at c) d → first ≡ head_first head.word → to ≢ first → MayPush m v d → ⊥
    unlinked to first to_is first_is differs may = differs (to_is ∙ ap (λ n. link n d) same ∙ may.linked
        ∙ ap head_first (ap seen_word (facts.saw c k views i v t keeps below at at_t head some)) ∙ sym first_is)

    module _ (freely : 0 < raw_in x + split_in x + classed_in x) (mark : ℕ) (mark_is : mark ≡ durable_used (memory_at c)) (less : d < mark)
        (to first : ℕ) (to_is : to ≡ link (memory_at c) d) (first_is : first ≡ head_first head.word) (linked : to ≡ first) (state word : ℕ)
        (state_is : state ≡ anchor_state word) (anchor_is : word ≡ anchor (memory_at c) d) where
      now : anchor_state (anchor m d) ≡ state
      now = ap (λ n. anchor_state (anchor n d)) (sym same) ∙ ap anchor_state (sym anchor_is) ∙ sym state_is

      may_push : MayList m v d (seen_of v.seen_head) → MayPush m v d
      may_push listed = record {
        is_seen = ap one_if_some (facts.saw c k views i v t keeps below at at_t head some);
        durable = (let e : durable_used m ≡ mark = ap durable_used (sym same) ∙ sym mark_is in omega arith);
        linked = ap (λ n. link n d) (sym same) ∙ sym to_is ∙ linked ∙ first_is
            ∙ ap head_first (sym (ap seen_word (facts.saw c k views i v t keeps below at at_t head some)));
        listed = listed;
      }

      empty_of : (list : ℕ) → list ≡ 0 → MayList m v d list → anchor_state (anchor m d) ≡ 0
      empty_of list none (as_free l is_zero claimed empty) = empty
      empty_of list none (of_its_class l some_list classed is state_now) = absurd (some_list none)

      pub as_free_one : head.of ≡ 0 → (nat_eq state 0 ≡ true) ↔ MayPush m v d
      as_free_one zero_list = (
        λ e. may_push (as_free (seen_of v.seen_head) (of_is ∙ zero_list)
            (record {
              claimed = (let a = (kept.superblocks d).is_raw in let b = (kept.superblocks d).is_split in
                  let f = (kept.superblocks d).is_classed in omega arith);
              not_cutting = (kept.superblocks d).is_cutting ∙ freely_not_cutting x freely;
            })
            (now ∙ eqb-true state 0 e)),
        λ may. eq-eqb state 0 (sym now ∙ empty_of (seen_of v.seen_head) (of_is ∙ zero_list) may.listed),
      )

      class_of : (list : ℕ) → list ≢ 0 → MayList m v d list → (0 < times_classed d v.classed) × (info m d ≡ list) × (anchor_state (anchor m d) ≤ 1)
      class_of list some_list (as_free l is_zero claimed empty) = absurd (some_list is_zero)
      class_of list some_list (of_its_class l apart classed is state_now) =
          (classed, is, elim state_now [ inl partial ↦ omega arith | inr empty ↦ omega arith ])

      pub unclassed : head.of ≢ 0 → classed_in x ≡ 0 → MayPush m v d → ⊥
      unclassed some_list none may = let g = (class_of (seen_of v.seen_head) (λ e. some_list (sym of_is ∙ e)) may.listed).0 in
          let f = (kept.superblocks d).is_classed in omega arith

      pub full_one : head.of ≢ 0 → 1 < state → MayPush m v d → ⊥
      full_one some_list full may = let g = (class_of (seen_of v.seen_head) (λ e. some_list (sym of_is ∙ e)) may.listed).2 in let n = now in omega arith

      pub of_class_one : head.of ≢ 0 → 0 < classed_in x → state ≤ 1 → (holds : ℕ) → holds ≡ info (memory_at c) d
          → (nat_eq holds head.of ≡ true) ↔ MayPush m v d
      of_class_one some_list classed low holds holds_is = (
        λ e. may_push (of_its_class (seen_of v.seen_head) (λ z. some_list (sym of_is ∙ z)) (let f = (kept.superblocks d).is_classed in omega arith)
            (ap (λ n. info n d) (sym same) ∙ sym holds_is ∙ eqb-true holds head.of e ∙ sym of_is)
            (elim (cases_eq state 0) [ inl none ↦ inr (now ∙ none) | inr more ↦ inl (now ∙ (let z : state ≡ 1 = omega arith in z)) ])),
        λ may. eq-eqb holds head.of (holds_is ∙ ap (λ n. info n d) same
            ∙ (class_of (seen_of v.seen_head) (λ z. some_list (sym of_is ∙ z)) may.listed).1 ∙ of_is),
      )
