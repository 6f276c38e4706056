-- The steps of the core that exchange the head of a list: those that are lost, and a pop.
use Rattle.std.proofs.Common.{◌≡◌, ◌≢◌, ℕ, zero, suc, ◌+◌, ◌-◌, ◌<◌, inl, true, nat_eq, nat_lt, List, get_or, set, length, Option, None, Some, refl, ap, ap₂, sym, subst, ◌∙◌, length-set, lt-ltb, eq-eqb, arith}
use Rattle.std.specs.Vec.{with_item}
use Rattle.heap_model.specs.Counting.{times}
use Rattle.heap_model.specs.Geometry.{lists}
use Rattle.heap_model.specs.Words.{head_of, head_first, head_pops}
use Rattle.core_model.specs.declared.answer.StepAnswer.TheVariants.{Done, NotNow}
use Rattle.core_model.specs.declared.event.Event.TheVariants.{Pop, Push}
use Rattle.seat_state.specs.declared.notes.SeatNotes.{SeatNotes}
use Rattle.seat_state.specs.declared.notes.Seen.{Seen}
use Rattle.seat_state.specs.declared.superblocks.SuperblockUsage.{SuperblockUsage}
use Rattle.seat_state.specs.declared.superblocks.SuperblockUsage.TheVariants as usage
use Rattle.crash_core.specs.declared.state.CoreState.{CoreState}
use Rattle.core_model.specs.Cells.{head_cell, link_cell}
use Rattle.core_model.specs.Memory.{volatile_at, used}
use Rattle.core_model.specs.View.{Setup, View, one_if_some, times_raw, times_classed, times_large}
use Rattle.core_model.specs.Effects.{seen, seen_word, seen_of, before, cleared, claimed, popped, popped_head, won, lost}
use Rattle.core_model.specs.Guards.{IsThere}
use Rattle.core_model.specs.Sound.{Good, KnowsHead}
use Rattle.core_model.specs.Steps.{seat_after}
use Rattle.seat_state.specs.Superblocks.{usage_for, no_superblock, listed, IsUsage}
use Rattle.crash_core.specs.Standing.{IsAmong, IsSeatAt, IsKept, KeepsViews, Steps}
use Rattle.seat_state.specs.Notes.{snapshot}
use Rattle.heap_model.proofs.ListLemmas.{one_at_most}
use Rattle.core_model.proofs.ListLemmas.{in_lists_at, before_is}
use Rattle.core_model.proofs.PlaceLemmas.{pick}
use Rattle.crash_core.proofs.StandingLemmas.{among_most, step_done, step_not, memory_in}
use Rattle.crash_core.proofs.KeptFacts as facts
use Rattle.seat_state.proofs.UsageLemmas.{no_usage, usages_theirs}
use Rattle.crash_core.proofs.ClaimLemmas.{claimed_kept}
use Rattle.seat_state.proofs.WordLemmas.{entry_is, read_is}

pub claimed_going : (base : View) (d list : ℕ) → (claimed base d list).stopped ≡ base.stopped
claimed_going base d zero = refl
claimed_going base d (suc n) = refl

module _ (c : CoreState) (k : Setup) (views : List View) (i : ℕ) (v : View) (t : SeatNotes) (keeps : KeepsViews c k views)
    (below : i < length views) (at : get_or views i v ≡ v)
    (at_t : IsSeatAt c i t) where
  pub kept : IsKept c i t v
  kept = keeps.each i t v below at_t at

  good : Good k (memory_in c k) views
  good = keeps.sound.good

  -- a descriptor of a list is nobody's
  listed_alone : (list d : ℕ) → list < lists → 0 < times d (good.shape.lists list) → (j : ℕ) (u : View) → IsAmong views j u
      → (times_raw d u ≡ 0) × (times_classed d u.classed ≡ 0) × (times_large d u.large ≡ 0)
  listed_alone zero d is some j u most =
      let p = good.shaped.placed.one_place d in let one = one_at_most (nat_lt d (used (memory_in c k))) in
      let raw = among_most (times_raw d) views j u most (λ none. (none.superblocks d).0) in
      let classed = among_most (λ (x : View). times_classed d x.classed) views j u most (λ none. (none.superblocks d).1) in
      let large = among_most (λ (x : View). times_large d x.large) views j u most (λ none. (none.superblocks d).2) in
      (omega arith, omega arith, omega arith)
  listed_alone (suc n) d is some j u most =
      let p = good.shaped.placed.one_place d in let one = one_at_most (nat_lt d (used (memory_in c k))) in
      let l = in_lists_at d good.shape.lists (suc n) is (λ e. absurd (omega (arith, e))) in
      let raw = among_most (times_raw d) views j u most (λ none. (none.superblocks d).0) in
      let classed = among_most (λ (x : View). times_classed d x.classed) views j u most (λ none. (none.superblocks d).1) in
      let large = among_most (λ (x : View). times_large d x.large) views j u most (λ none. (none.superblocks d).2) in
      (omega arith, omega arith, omega arith)

  nothing : (list d : ℕ) → list < lists → 0 < times d (good.shape.lists list) → (j : ℕ) (s : SeatNotes) (u : View) → IsAmong views j u → IsKept c j s u
      → usage_for j (get_or c.superblocks.items d no_superblock) ≡ usage.Nothing
  nothing list d is some j s u most h = let z = listed_alone list d is some j u most in
      no_usage d (usage_for j (get_or c.superblocks.items d no_superblock)) u.raw u.split u.cutting u.classed u.large (h.superblocks d) z.0 z.1 z.2

  module _ (head : Seen) (some : t.seen_head ≡ Some head) where
    is : v.seen_head ≡ Some (record { of = head.of; word = head.word })
    is = facts.saw c k views i v t keeps below at at_t head some

    of_is : seen_of v.seen_head ≡ head.of
    of_is = ap seen_of is

    pub word_is : seen_word v.seen_head ≡ head.word
    word_is = ap seen_word is

    knows : KnowsHead k.capacity (λ l. (memory_in c k).volatile (head_cell l)) (λ d. (memory_in c k).volatile (link_cell d)) good.shape.lists
        (seen_of v.seen_head) (seen_word v.seen_head) v.seen_link
    knows = (good.knows i v below at).seen_head (ap one_if_some is)

    is_list : seen_of v.seen_head < lists
    is_list = knows.is_list

    -- the head as it is now
    now : (at_word found : ℕ) → at_word ≡ 16 + head.of → found ≡ get_or c.words.items at_word found
        → (memory_in c k).volatile (head_cell (seen_of v.seen_head)) ≡ found
    now at_word found here found_is = read_is k.capacity c.words.items (volatile_at (head_cell (seen_of v.seen_head)))
        (lt-ltb (seen_of v.seen_head) lists is_list)
        ∙ entry_is c.words.items (16 + seen_of v.seen_head) 0 found (let l = keeps.sound.long in let less = is_list in omega arith)
        ∙ ap (λ n. get_or c.words.items n found) (let e = of_is in let g : 16 + seen_of v.seen_head ≡ at_word = omega arith in g) ∙ sym found_is

    pub lost_pop : (at_word found : ℕ) → at_word ≡ 16 + head.of → found ≡ get_or c.words.items at_word found → found ≢ head.word
        → Steps c c k views i v Pop NotNow
    lost_pop at_word found here found_is differs = step_not c k views i v Pop
        (λ may seen. differs (sym (now at_word found here found_is) ∙ seen ∙ word_is))

    pub lost_push : (d at_word found : ℕ) → at_word ≡ 16 + head.of → found ≡ get_or c.words.items at_word found → found ≢ head.word
        → Steps c c k views i v (Push d) NotNow
    lost_push d at_word found here found_is differs = step_not c k views i v (Push d)
        (λ may seen. differs (sym (now at_word found here found_is) ∙ seen ∙ word_is))

    module _ (going : v.stopped ≡ None) (ticket : IsThere v.ticket) (at_word found : ℕ) (here : at_word ≡ 16 + head.of)
        (found_is : found ≡ get_or c.words.items at_word found) (same : found ≡ head.word) where
      pub as_seen : (memory_in c k).volatile (head_cell (seen_of v.seen_head)) ≡ seen_word v.seen_head
      as_seen = now at_word found here found_is ∙ same ∙ sym word_is

      pub test : nat_eq ((memory_in c k).volatile (head_cell (seen_of v.seen_head))) (seen_word v.seen_head) ≡ true
      test = eq-eqb ((memory_in c k).volatile (head_cell (seen_of v.seen_head))) (seen_word v.seen_head) as_seen

      pub index : at_word ≡ 16 + seen_of v.seen_head
      index = let e = of_is in omega arith

      pub pop : (link : ℕ) → t.seen_link ≡ Some link → (word d : ℕ) (x : SuperblockUsage) (anchor : Option Seen)
          → word ≡ head_of (head_first link) (head_pops head.word + 1)
          → d ≡ head_first head.word - 1 → x ≡ listed head.of → snapshot anchor ≡ cleared d 1 (snapshot t.seen_anchor)
          → Steps c (record c {
            words = with_item c.words at_word word;
            superblocks = with_item c.superblocks d (record { seat = i; usage = x });
            seats = with_item c.seats i (record t { ticket = None; seen_head = None; seen_link = None; seen_anchor = anchor });
          }) k views i v Pop Done
      pop link some_link word d x anchor word_new d_new x_is anchor_is =
          step_done c c' k views i v t t' Pop keeps below at at_t going ticket
          (record { is_seen = ap one_if_some is; link = ap one_if_some saw_link }) as_seen
          (ap (λ (y : View). y.stopped) seat_is ∙ claimed_going base d (seen_of v.seen_head) ∙ going)
          (ap₂ (λ n y. set c.words.items n y) index (word_new ∙ sym (pick
          (nat_eq ((memory_in c k).volatile (head_cell (seen_of v.seen_head))) (seen_word v.seen_head)) (popped_head v)
          ((memory_in c k).volatile (head_cell (seen_of v.seen_head))) test ∙ left)))
          refl (record {
            capacity = refl;
            budget = refl;
            carriers = refl;
            blocks = refl;
            superblocks = length-set c.superblocks.items d (record { seat = i; usage = x });
            roots = refl;
          })
          (subst (IsKept c' i t') (sym seat_is)
          (claimed_kept c' i t' base c.superblocks.items d (seen_of v.seen_head) x (x_is ∙ ap listed (sym of_is)) refl
          (subst (λ n. d < n) (sym keeps.superblocks) less) (nothing (seen_of v.seen_head) d is_list in_list i t v (inl (below, at)) kept)
          kept.superblocks
          (let n = kept.notes in record {
            ticket = refl;
            stopped = n.stopped;
            seen_used = n.seen_used;
            seen_head = refl;
            seen_link = refl;
            seen_anchor = ap (cleared d 1) n.seen_anchor ∙ sym anchor_is;
          })
          kept.caches kept.batch kept.blocks kept.roots))
          (λ j s u other most h. record {
            notes = h.notes;
            caches = h.caches;
            batch = h.batch;
            blocks = h.blocks;
            superblocks = usages_theirs c.superblocks.items i j d x (λ e y. IsUsage e y u.raw u.split u.cutting u.classed u.large)
                (subst (λ n. d < n) (sym keeps.superblocks) less) other (nothing (seen_of v.seen_head) d is_list in_list j s u most h) h.superblocks;
            roots = h.roots;
          })
        where
          t' : SeatNotes
          t' = record t { ticket = None; seen_head = None; seen_link = None; seen_anchor = anchor }

          c' : CoreState
          c' = record c {
            words = with_item c.words at_word word;
            superblocks = with_item c.superblocks d (record { seat = i; usage = x });
            seats = with_item c.seats i t';
          }

          base : View
          base = record (won v) { seen_head = None; seen_link = None; seen_anchor = cleared d 1 v.seen_anchor }

          saw_link : v.seen_link ≡ Some link
          saw_link = kept.notes.seen_link ∙ some_link

          linked : head_first (seen_word v.seen_head) ≢ 0
          linked = (knows.linked (ap one_if_some saw_link)).0

          d_is : before (head_first (seen_word v.seen_head)) ≡ d
          d_is = before_is (head_first (seen_word v.seen_head)) linked ∙ ap (λ n. head_first n - 1) word_is ∙ sym d_new

          seat_is : seat_after (memory_in c k) v Pop ≡ claimed base d (seen_of v.seen_head)
          seat_is = pick (nat_eq ((memory_in c k).volatile (head_cell (seen_of v.seen_head))) (seen_word v.seen_head))
              (popped v (before (head_first (seen_word v.seen_head)))) (record
              (lost v ((memory_in c k).volatile (head_cell (seen_of v.seen_head)))) { seen_head = None }) test ∙ ap (popped v) d_is

          left : popped_head v ≡ head_of (head_first link) (head_pops head.word + 1)
          left = ap₂ (λ a b. head_of (head_first a) (head_pops b + 1)) (ap seen saw_link) word_is

          in_list : 0 < times d (good.shape.lists (seen_of v.seen_head))
          in_list = subst (λ n. 0 < times n (good.shape.lists (seen_of v.seen_head))) d_is (knows.listed (ap head_pops (sym as_seen)) linked)

          less : d < k.capacity
          less = let s = knows.small in let l = linked in let e = d_is in let b = before_is (head_first (seen_word v.seen_head)) linked in omega arith
