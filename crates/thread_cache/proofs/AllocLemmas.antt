-- What a request leaves, granted, refused or stopped, for a seat of a heap.
use Rattle.std.proofs.Common.{◌≡◌, ◌<◌, ◌≤◌, ◌⊎◌, ℕ, ◌+◌, ◌-◌, inl, inr, [], length, None, Result, Ok, Err, IfOk, OnOk, OnErr, IfErr, refl, ap, sym, subst, ◌∙◌, arith}
use Rattle.heap_model.specs.declared.block.Block.{Block}
use Rattle.heap_model.specs.Sizes.{IsLeastClassFor, largest_small, span_of}
use Rattle.size_table.proofs.ClassLemmas.{least_small, one_least}
use Rattle.heap_seat.specs.declared.fault.AllocFault.{AllocFault}
use Rattle.heap_seat.specs.declared.fault.AllocFault.TheVariants.{Full, Stopped as StoppedFault}
use Rattle.heap_seat.specs.declared.fault.Looks.{Looks}
use Rattle.heap_seat.specs.Alloc.{Adds, Allocates, FailsBy, Refuses}
use Rattle.heap_seat.specs.Calls.{SameRefusals}
use Rattle.heap_seat.specs.Looks.{FoundEmpty, FoundNoRoom, IsLastSeen}
use Rattle.heap_seat.specs.Words.{IsOwn, KeepsPending}
use Rattle.line_memory.specs.Marks.{IsMarked}
use Rattle.line_memory.specs.Marked.{marked_words-has, marked_words-only}
use Rattle.core_model.specs.View.{LastLook, View, of_class}
use Rattle.heap_table.specs.Plays.{HasSoundState}
use Rattle.heap_rule.specs.Seated.{SeatView}
use Rattle.seat_costs.specs.Costs.{Costs, one_draw}
use Rattle.seat_costs.specs.Rows.{HoldingRow, Parts, Passes, Row, head_look, next_of, parts}
use Rattle.seat_costs.specs.Words.{IsDurableAt, IsHeldWord, KeepsWord as KeepsRowWord}
use Rattle.cache_fill.specs.Refills.{IsFilledInOrder, IsFull, IsLook}
use Rattle.thread_cache.specs.Requests.{Answers, IsGranted, IsRefused, by_class, by_span, light_request, request_costs}
use Rattle.thread_cache.specs.Small.{IfGoing}
use Rattle.seat_model.specs.CacheState.{CacheState, CallCounts, HasCounts, IsStateOf, counts_of, heap_view, heap_view_of, look_of}
use Rattle.seat_model.proofs.ChangedBlocks.{class_in, holds_by, span_by}
use Rattle.seat_model.proofs.TakenBlocks.{large_words_stay, small_words_stay}
use Rattle.seat_model.proofs.HeldLemmas.{own_held, word_law}
use Rattle.thread_cache.specs.Serving.{HasSeenRoom, IsLight, IsServed, IsTurnedAway}
use Rattle.thread_cache.proofs.CallLemmas.{at_state, runs_law, stops_law, call_step}
use Rattle.thread_cache.proofs.LargeLemmas.{LargeStep}
use Rattle.thread_cache.proofs.GrantedLemmas.{granted_going, granted_size, granted_words, holds_block, holds_span, one_span}

-- the counts after a refusal
pub full_step : (before s : CacheState) → before ≡ s → (bytes : ℕ) (looks : Looks) (x y : SeatView) → x.view ≡ before.view
    → x.marks ≡ before.marks → HasSoundState y.view → s.view.stopped ≡ None
    → LargeStep s x y (record {
      small_calls = before.small_calls;
      large_calls = before.large_calls + 1;
      refusals = before.refusals + 1;
      refused_bytes = bytes;
      refused_looks = looks;
    })
full_step before s is bytes looks x y view marks has ran = record {
  call = call_step before s is x y _ view marks has ran;
  small = ap (λ (s : CacheState). s.small_calls) is;
  large = ap (λ (s : CacheState). s.large_calls + 1) is;
}

pub full_counts_then : (small large refusals : ℕ) (v w : View) → next_of v < next_of w → HasCounts small large refusals v
    → HasCounts small (large + 1) (refusals + 1) w
full_counts_then small large refusals v w later counts = (let c = counts.0 in omega arith, let c = counts.1 in omega arith)

-- a pending write-back of a word
pub pending_of : (s : CacheState) (x y : SeatView) (n : CallCounts) → IsStateOf s x → (word : ℕ)
    → (IsMarked x.marks word → IsMarked y.marks word ⊎ IsDurableAt y.view word) → KeepsPending (heap_view s) (heap_view_of y.view y.marks n) word
pending_of s x y n was word keeps pending = elim (keeps (subst (λ marks. IsMarked marks word) (sym was.marks)
    (marked_words-only s.marks word pending))) [
      | inl marked ↦ inl (marked_words-has y.marks word marked)
      | inr durable ↦ inr (record { value = durable.value; seen = durable.seen; left = durable.left })
    ]

module _ (bytes : ℕ) (s : CacheState) (x y : SeatView) (n : CallCounts) (step : LargeStep s x y n) (had : HasSoundState x.view)
    (later : next_of x.view < next_of y.view) where
  was_held : (word : ℕ) → IsOwn (heap_view s).held s.view.roots word → IsHeldWord x.view word
  was_held word own = subst (λ (v : View). IsHeldWord v word) (sym step.call.was.view) (own_held s word own)

  has_state : HasSoundState s.view
  has_state = subst HasSoundState step.call.was.view had

  later_state : next_of s.view < next_of y.view
  later_state = at_state (λ v. next_of v < next_of y.view) s x step.call.was later

  -- granted
  module _ {a : Costs} (b : Block) (row : HoldingRow a x y) (same : SameRefusals (heap_view s) (heap_view_of y.view y.marks n)) where
    granted_heap : IsGranted bytes b s.view y.view → Allocates bytes b (heap_view s) (heap_view_of y.view y.marks n)
    granted_heap granted = record {
      runs = runs_law s.view y.view s.marks y.marks (counts_of s) n step.call.has step.call.ran (granted_going bytes b s.view y.view granted) later_state;
      size = granted_size bytes b s.view y.view granted;
      blocks = by_kind granted;
      words = λ word own. word_law s.view y.view s.marks y.marks (counts_of s) n word
          (at_state (λ v. KeepsRowWord v y.view word) s x step.call.was (row.words word
          (was_held word own, granted_words bytes b s.view y.view has_state granted word (own_held s word own))));
      pending = λ word own. pending_of s x y n step.call.was word (row.marks word
          (was_held word own, granted_words bytes b s.view y.view has_state granted word (own_held s word own)));
      refusals = same;
    } where
      by_kind : IsGranted bytes b s.view y.view → Adds b (heap_view s) (heap_view_of y.view y.marks n)
      by_kind (by_class class least allocated) = holds_by s.view y.view s.marks y.marks (counts_of s) n (λ not. not has_state step.call.has) class b
          (class_in s.view has_state class least.is_class) (holds_block bytes class b s.view y.view least allocated)
      by_kind (by_span large allocated) = span_by s.view y.view s.marks y.marks (counts_of s) n (λ not. not has_state step.call.has) allocated.first
          (span_of bytes) b (holds_span (span_of bytes) b s.view y.view (omega arith) allocated)

  -- refused
  look_seen : (look : LastLook) (word : ℕ) (is : IsLook look word y.view) → next_of s.view ≤ is.ticket → is.ticket < next_of y.view
      → IsLastSeen (heap_view s) (heap_view_of y.view y.marks n) (look_of look) word
  look_seen look word is from until = record {
    is = is.word_is;
    ticket = is.ticket;
    by = is.by;
    drawn = record { from = from; until = until };
    taken = is.taken;
  }

  found_none : (looks : Looks) → IsRefused bytes looks s.view y.view → FoundNoRoom bytes looks (heap_view s) (heap_view_of y.view y.marks n)
  found_none looks (by_class class least full none) =
      let since = full.since in let first = full.class_first in let second = full.free_second in let last = full.last in
      let capacity = ap (λ (p : Parts). p.setup.capacity) full.parts_are in
      let one = one_span bytes class least in let small = least_small bytes class least in record {
        used = look_seen y.view.used_look looks.used full.used_look (omega arith) (omega arith);
        past = let p = full.past in omega arith;
        class = λ c other. subst (λ k. FoundEmpty (heap_view s) (heap_view_of y.view y.marks n) k looks.class_head)
            (one_least bytes class c least other)
            (record { last = look_seen (head_look y.view class) looks.class_head full.class_look since (omega arith); empty = full.class_empty });
        free = λ is. record {
          last = look_seen (head_look y.view 0) looks.free_head full.free_look (omega arith) (omega arith);
          empty = full.free_empty;
        };
        large = λ large. absurd (omega arith);
      }
  found_none looks (by_span large none) =
      let capacity = ap (λ (p : Parts). p.setup.capacity) none.parts_are in record {
        used = look_seen y.view.used_look looks.used none.used_look none.since none.below;
        past = let p = none.past in omega arith;
        class = λ c least. absurd (let small = least_small bytes c least in omega arith);
        free = λ small. absurd (omega arith);
        large = λ is. (none.class_unread, none.free_unread);
      }

  refused_going : (looks : Looks) → IsRefused bytes looks s.view y.view → y.view.stopped ≡ None
  refused_going looks (by_class class least full none) = full.going
  refused_going looks (by_span large none) = none.going

  refused_taken : (looks : Looks) → IsRefused bytes looks s.view y.view → y.view.taken ≡ s.view.taken
  refused_taken looks (by_class class least full none) = full.taken
  refused_taken looks (by_span large none) = none.taken

  refused_parts : (looks : Looks) → IsRefused bytes looks s.view y.view → (parts y.view ≡ parts s.view) × (y.view.cuts ≡ s.view.cuts)
  refused_parts looks (by_class class least full none) = (full.parts_are, full.cuts)
  refused_parts looks (by_span large none) = (none.parts_are, none.cuts)

  refused_heap : {a : Costs} (looks : Looks) → Row a x y → n.refusals ≡ s.refusals + 1 → n.refused_bytes ≡ bytes → n.refused_looks ≡ looks
      → IsRefused bytes looks s.view y.view
      → Refuses bytes looks (heap_view s) (heap_view_of y.view y.marks n)
  refused_heap looks row count bytes_are looks_are refused = record {
    runs = runs_law s.view y.view s.marks y.marks (counts_of s) n step.call.has step.call.ran (refused_going looks refused) later_state;
    found = found_none looks refused;
    taken = refused_taken looks refused;
    count = count;
    bytes_are = bytes_are;
    looks_are = looks_are;
    pending = λ word own. pending_of s x y n step.call.was word (row.marks word (was_held word own));
  }

  answers_state : (result : Result Block AllocFault) → Answers bytes result x.view y.view → Answers bytes result s.view y.view
  answers_state result = at_state (λ v. Answers bytes result v y.view) s x step.call.was

  -- by what was answered
  pub alloc_ok : {a : Costs} (result : Result Block AllocFault) → Answers bytes result x.view y.view → HoldingRow a x y
      → SameRefusals (heap_view s) (heap_view_of y.view y.marks n)
      → IfOk result (λ b. Allocates bytes b (heap_view s) (heap_view_of y.view y.marks n))
  alloc_ok (Ok b) answers row same = granted_heap b row same (answers_state (Ok b) answers)
  alloc_ok (Err fault) answers row same = tt

  pub full_cause : (a : Costs) (looks : Looks) (result : Result Block AllocFault) → result ≡ Err (Full looks)
      → Answers bytes result x.view y.view → OnErr result (Row a x y)
      → n.refusals ≡ s.refusals + 1 → n.refused_bytes ≡ bytes → n.refused_looks ≡ looks
      → IfErr result (λ fault. FailsBy bytes fault (heap_view s) (heap_view_of y.view y.marks n))
  full_cause a looks result is answers row count bytes_are looks_are =
      subst (λ (r : Result Block AllocFault). IfErr r (λ fault. FailsBy bytes fault (heap_view s) (heap_view_of y.view y.marks n))) (sym is)
      (refused_heap looks (subst (λ (r : Result Block AllocFault). OnErr r (Row a x y)) is row) count bytes_are looks_are
      (answers_state (Err (Full looks)) (subst (λ (r : Result Block AllocFault). Answers bytes r x.view y.view) is answers)))

  pub stop_cause : (result : Result Block AllocFault) → ((looks : Looks) → result ≡ Err (Full looks) → ⊥) → Answers bytes result x.view y.view
      → y.view.setup ≡ s.view.setup → SameRefusals (heap_view s) (heap_view_of y.view y.marks n)
      → IfErr result (λ fault. FailsBy bytes fault (heap_view s) (heap_view_of y.view y.marks n))
  stop_cause (Ok b) not_full answers setup same = tt
  stop_cause (Err (Full looks)) not_full answers setup same = absurd (not_full looks refl)
  stop_cause (Err (StoppedFault e)) not_full answers setup same =
      (stops_law s.view y.view s.marks y.marks (counts_of s) n e.step step.call.ran setup (answers_state (Err (StoppedFault e)) answers), same)

  light_by : {moves : ℕ} → (y.view.cuts ≡ x.view.cuts → HoldingRow (light_request bytes moves) x y) → IsLight s.view y.view
  light_by {moves} light cuts gives taken large =
      let passes : Passes (light_request bytes moves) s.view y.view =
      at_state (λ v. Passes (light_request bytes moves) v y.view) s x step.call.was
      (light (cuts ∙ ap (λ (v : View). v.cuts) (sym step.call.was.view))).passes in
      let d = passes.most.draws in let l = passes.more.losses in omega arith

  -- a request gives no batch
  no_gives : {moves : ℕ} → Passes (request_costs bytes moves) x.view y.view → y.view.gives ≡ s.view.gives
  no_gives {moves} passed =
      let passes : Passes (request_costs bytes moves) s.view y.view = at_state (λ v. Passes (request_costs bytes moves) v y.view) s x step.call.was passed in
      let least = passes.more.gives in let most = passes.most.gives in omega arith

  -- what a request may cost
  pub alloc_costs : Passes (request_costs bytes (y.view.moves - x.view.moves)) x.view y.view
      → Passes (request_costs bytes (y.view.moves - s.view.moves)) s.view y.view
  alloc_costs = at_state (λ v. Passes (request_costs bytes (y.view.moves - v.moves)) v y.view) s x step.call.was

  uncut_state : (y.view.cuts ≡ x.view.cuts → HoldingRow (light_request bytes (y.view.moves - x.view.moves)) x y) → y.view.cuts ≡ s.view.cuts
      → Passes (light_request bytes (y.view.moves - s.view.moves)) s.view y.view
  uncut_state light cuts = at_state (λ v. Passes (light_request bytes (y.view.moves - v.moves)) v y.view) s x step.call.was
      (light (cuts ∙ ap (λ (v : View). v.cuts) (sym step.call.was.view))).passes

  pub alloc_room : (result : Result Block AllocFault) → Answers bytes result x.view y.view
      → Passes (request_costs bytes (y.view.moves - x.view.moves)) x.view y.view
      → IfGoing result (y.view.cuts ≡ x.view.cuts → HoldingRow (light_request bytes (y.view.moves - x.view.moves)) x y)
      → IfGoing result ((class : ℕ) → IsLeastClassFor bytes class → IsFilledInOrder class x.view y.view)
      → ((class : ℕ) → IsLeastClassFor bytes class → 1 ≤ length (of_class x.view.caches class) → HoldingRow one_draw x y)
      → OnOk result (IsServed bytes s.view y.view)
  alloc_room (Ok b) answers passed light order cached = record {
    light = light_by light;
    block = b;
    granted = answers_state (Ok b) answers;
    gives = no_gives passed;
    order = λ class least. at_state (λ v. IsFilledInOrder class v y.view) s x step.call.was (order class least);
    cached = λ class least. at_state (λ v. 1 ≤ length (of_class v.caches class) → Passes one_draw v y.view) s x step.call.was
        (λ some. (cached class least some).passes);
    costs = alloc_costs passed;
    uncut = uncut_state light;
    large = by_kind (answers_state (Ok b) answers);
  } where
    by_kind : IsGranted bytes b s.view y.view → largest_small < bytes → HasSeenRoom bytes s.view y.view
    by_kind (by_class class least allocated) large = absurd (let small = least_small bytes class least in omega arith)
    by_kind (by_span is allocated) large = record {
      made = allocated.made;
      room = let seen = allocated.seen in let room = allocated.room in
          let capacity = ap (λ (p : Parts). p.setup.capacity) allocated.parts_are in omega arith;
    }
  alloc_room (Err fault) answers passed light order cached = tt

  pub alloc_none : (result : Result Block AllocFault) → Answers bytes result x.view y.view
      → Passes (request_costs bytes (y.view.moves - x.view.moves)) x.view y.view
      → IfGoing result (y.view.cuts ≡ x.view.cuts → HoldingRow (light_request bytes (y.view.moves - x.view.moves)) x y)
      → IfErr result (λ fault. (looks : Looks) → fault ≡ Full looks → IsTurnedAway bytes looks s.view y.view)
  alloc_none (Ok b) answers passed light = tt
  alloc_none (Err (Full found)) answers passed light = λ looks same. subst (λ l. IsTurnedAway bytes l s.view y.view)
      (one_looks found looks same) (away found (answers_state (Err (Full found)) answers)) where
        looks_in : AllocFault → Looks
        looks_in (Full l) = l
        looks_in (StoppedFault e) = found

        one_looks : (a b : Looks) → Full a ≡ Full b → a ≡ b
        one_looks a b same = ap looks_in same

        away : (looks : Looks) → IsRefused bytes looks s.view y.view → IsTurnedAway bytes looks s.view y.view
        away looks (by_class class least full none) = record {
          light = light_by light;
          parts_are = full.parts_are;
          cuts = full.cuts;
          gives = no_gives passed;
          costs = uncut_state light full.cuts;
          for_class = λ c other. subst (λ k. IsFull k looks s.view y.view × (of_class s.view.caches k ≡ [])) (one_least bytes class c least other)
              (full, none);
          for_span = λ large. absurd (let small = least_small bytes class least in omega arith);
        }
        away looks (by_span is none) = record {
          light = light_by light;
          parts_are = none.parts_are;
          cuts = none.cuts;
          gives = no_gives passed;
          costs = uncut_state light none.cuts;
          for_class = λ c least. absurd (let small = least_small bytes c least in omega arith);
          for_span = λ large. none;
        }
  alloc_none (Err (StoppedFault e)) answers passed light = λ looks same. absurd (let no = ap kind_of same in omega arith) where
    kind_of : AllocFault → ℕ
    kind_of (Full l) = 1
    kind_of (StoppedFault f) = 0
