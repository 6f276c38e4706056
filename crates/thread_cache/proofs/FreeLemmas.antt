-- What the freeing of a block leaves, done or stopped, for a seat of a heap.
use Rattle.std.proofs.Common.{◌≡◌, ◌≢◌, ◌<◌, ◌≤◌, ℕ, ◌+◌, inl, inr, cond, List, [], ◌∷◌, length, None, set, Result, Ok, Err, OnOk, IfErr, ap, sym, subst, ◌∙◌, eq-eqb, ne_eqb, arith}
use Rattle.std.specs.Bool.{⊤}
use Rattle.std.specs.Prelude.{Contains}
use Rattle.std.proofs.lemmas.Bool.{cases_eq, cases_lt}
use Rattle.heap_model.specs.declared.block.Block.{Block}
use Rattle.heap_model.specs.Blocks.{IsIn}
use Rattle.heap_seat.specs.Calls.{SameRefusals}
use Rattle.heap_seat.specs.Free.{Frees, MayHaveFreed as MayFree}
use Rattle.heap_seat.specs.Words.{IsOwn}
use Rattle.line_memory.specs.declared.memory.Stopped.{Stopped}
use Rattle.heap_model.specs.Counting.{without}
use Rattle.core_model.specs.Effects.{span_count, without_span}
use Rattle.core_model.specs.Held.{IsHeld}
use Rattle.core_model.specs.View.{Span, View, of_class, one_if_some}
use Rattle.heap_table.specs.Plays.{HasSoundState}
use Rattle.heap_rule.specs.Seated.{SeatView}
use Rattle.seat_costs.specs.Costs.{Costs}
use Rattle.seat_costs.specs.Idle.{HasShortCaches, IsIdle}
use Rattle.seat_costs.specs.Rows.{Parts, Passes, RowBut, Stops, next_of}
use Rattle.seat_costs.specs.Words.{IsHeldWord, KeepsWord as KeepsRowWord}
use Rattle.seat_costs.proofs.RowLemmas.{not_both}
use Rattle.thread_cache.specs.Requests.{IsGivenBack, IsSmallBlock, IsSpan, MayBeGivenBack, light_free_costs, most_free_costs, of_a_class, of_a_span}
use Rattle.thread_cache.specs.Small.{IsHeldOutside}
use Rattle.seat_model.specs.CacheState.{CacheState, CallCounts, IsBetweenCalls, counts_of, heap_view, heap_view_of, held_blocks}
use Rattle.seat_model.specs.Changes.{GivesBlock, GivesSpan, Loses}
use Rattle.seat_model.proofs.ChangedBlocks.{class_in, gives_by, gives_span_by}
use Rattle.seat_model.proofs.TakenBlocks.{held_same}
use Rattle.seat_model.proofs.HeldLemmas.{held_is, own_held, word_law}
use Rattle.thread_cache.specs.Serving.{IsLight, IsPutBack}
use Rattle.thread_cache.proofs.AllocLemmas.{pending_of}
use Rattle.thread_cache.proofs.IdleLemmas.{same_between, short_but}
use Rattle.thread_cache.proofs.CallLemmas.{at_state, runs_law}
use Rattle.thread_cache.proofs.LargeLemmas.{IsFew, IsPaid, LargeStep, paid_light, paid_most}

-- the block that goes
gives_block : (class : ℕ) (b : Block) (v w : View) → w.setup ≡ v.setup → w.roots ≡ v.roots → IsSmallBlock class b v
    → w.small ≡ set v.small class (without b.first_word (of_class v.small class)) → w.large ≡ v.large → GivesBlock class b v w
gives_block class b v w setup roots is small large = record {
  is_class = is.is_class;
  words = is.words;
  there = is.there;
  setup = setup;
  roots = roots;
  small = small;
  large = large;
}

gives_span : (d : ℕ) (b : Block) (v w : View) → w.setup ≡ v.setup → w.roots ≡ v.roots → IsSpan d b v → w.small ≡ v.small
    → w.large ≡ without_span d v.large → GivesSpan d b v w
gives_span d b v w setup roots is small large = record {
  there = is.there;
  block = is.block;
  setup = setup;
  roots = roots;
  small = small;
  large = large;
}

given_going : (b : Block) (v w : View) → IsGivenBack b v w → w.stopped ≡ None
given_going b v w (of_a_class class is freed) = freed.going
given_going b v w (of_a_span d is freed) = freed.going

-- a held block of the heap's seat is one of the core's
pub held_block : (s : CacheState) (x : SeatView) → HasSoundState x.view → x.view ≡ s.view → (b : Block) → Contains (heap_view s).held b
    → IsHeld x.view b
held_block s x has view b there = held_is x.view has b (subst (λ (v : View). Contains (held_blocks v) b) (sym view) there)

module _ (b : Block) (s : CacheState) (x y : SeatView) (n : CallCounts) (step : LargeStep s x y n) (had : HasSoundState x.view)
    (later : next_of x.view < next_of y.view) {a : Costs}
    (row : RowBut (IsHeldOutside x.view b) a x y) (same : SameRefusals (heap_view s) (heap_view_of y.view y.marks n)) where
  has_state : HasSoundState s.view
  has_state = subst HasSoundState step.call.was.view had

  passes : Passes a s.view y.view
  passes = at_state (λ v. Passes a v y.view) s x step.call.was row.passes

  outside : (word : ℕ) → IsOwn (heap_view s).held s.view.roots word → (IsIn b word → ⊥) → IsHeldOutside x.view b word
  outside word own out = (subst (λ (v : View). IsHeldWord v word) (sym step.call.was.view) (own_held s word own), out)

  -- it is gone
  loses : IsGivenBack b s.view y.view → Loses b (heap_view s) (heap_view_of y.view y.marks n)
  loses (of_a_class class is freed) = gives_by s.view y.view s.marks y.marks (counts_of s) n (λ not. not has_state step.call.has) class b
      (class_in s.view has_state class is.is_class)
      (gives_block class b s.view y.view passes.setup passes.roots is (ap (λ (p : Parts). p.small) freed.parts_are)
      (ap (λ (p : Parts). p.large) freed.parts_are))
  loses (of_a_span d is freed) = gives_span_by s.view y.view s.marks y.marks (counts_of s) n (λ not. not has_state step.call.has) d b
      (gives_span d b s.view y.view passes.setup passes.roots is (ap (λ (p : Parts). p.small) freed.parts_are)
      (ap (λ (p : Parts). p.large) freed.parts_are))

  pub free_ok : (result : Result ⊤ Stopped) → OnOk result (IsGivenBack b x.view y.view)
      → OnOk result (Frees b (heap_view s) (heap_view_of y.view y.marks n))
  free_ok (Ok r) given = let is = at_state (λ v. IsGivenBack b v y.view) s x step.call.was given in record {
    runs = runs_law s.view y.view s.marks y.marks (counts_of s) n step.call.has step.call.ran (given_going b s.view y.view is)
        (at_state (λ v. next_of v < next_of y.view) s x step.call.was later);
    gone = (loses is).gone;
    pending = λ word own out. pending_of s x y n step.call.was word (row.marks word (outside word own out));
  }
  free_ok (Err e) given = tt

  -- at most it is
  may_lose : MayBeGivenBack b s.view y.view → ((c : Block) → Contains (held_blocks y.view) c → Contains (held_blocks s.view) c)
      × ((c : Block) → Contains (held_blocks s.view) c → c ≢ b → Contains (held_blocks y.view) c)
  may_lose (of_a_class class is may) = elim may.small [
    | inl stays ↦ let all = held_same y.view s.view.setup s.view.small s.view.large passes.setup stays may.large in
        (λ c there. subst (λ l. Contains l c) all there, λ c there other. subst (λ l. Contains l c) (sym all) there)
    | inr less ↦ let l = gives_by s.view y.view s.marks y.marks (counts_of s) n (λ not. not has_state step.call.has) class b
        (class_in s.view has_state class is.is_class)
        (gives_block class b s.view y.view passes.setup passes.roots is less may.large) in (l.only, l.keeps)
  ]
  may_lose (of_a_span d is may) = elim may.large [
    | inl stays ↦ let all = held_same y.view s.view.setup s.view.small s.view.large passes.setup may.small stays in
        (λ c there. subst (λ l. Contains l c) all there, λ c there other. subst (λ l. Contains l c) (sym all) there)
    | inr less ↦ let l = gives_span_by s.view y.view s.marks y.marks (counts_of s) n (λ not. not has_state step.call.has) d b
        (gives_span d b s.view y.view passes.setup passes.roots is may.small less) in (l.only, l.keeps)
  ]

  pub free_others : MayBeGivenBack b x.view y.view → MayFree b (heap_view s) (heap_view_of y.view y.marks n)
  free_others may = let l = may_lose (at_state (λ v. MayBeGivenBack b v y.view) s x step.call.was may) in record {
    only = l.0;
    keeps = l.1;
    roots = passes.roots;
    words = λ word own out. word_law s.view y.view s.marks y.marks (counts_of s) n word
        (at_state (λ v. KeepsRowWord v y.view word) s x step.call.was (row.words word (outside word own out)));
    refusals = same;
  }

  free_cached : (y.view.gives ≡ x.view.gives → y.view.large ≡ x.view.large → RowBut (IsHeldOutside x.view b) light_free_costs x y)
      → y.view.gives ≡ s.view.gives → y.view.large ≡ s.view.large → Passes light_free_costs s.view y.view
  free_cached light gives large = at_state (λ v. Passes light_free_costs v y.view) s x step.call.was
      (light (gives ∙ ap (λ (v : View). v.gives) (sym step.call.was.view)) (large ∙ ap (λ (v : View). v.large) (sym step.call.was.view))).passes

  free_light : (result : Result ⊤ Stopped) → OnOk result (y.view.gives ≡ x.view.gives → y.view.large ≡ x.view.large
      → RowBut (IsHeldOutside x.view b) light_free_costs x y) → OnOk result (IsLight s.view y.view)
  free_light (Ok r) light = λ cuts gives taken large. let few = free_cached light gives large in let d = few.most.draws in
      let l = few.more.losses in omega arith
  free_light (Err e) light = tt

  -- what it costs, whatever it answers
  pub free_costs : a ≡ most_free_costs → Passes most_free_costs s.view y.view
  free_costs are = subst (λ (k : Costs). Passes k s.view y.view) are passes

  pub free_put : a ≡ most_free_costs → (result : Result ⊤ Stopped) → OnOk result (IsGivenBack b x.view y.view)
      → OnOk result (y.view.gives ≡ x.view.gives → y.view.large ≡ x.view.large → RowBut (IsHeldOutside x.view b) light_free_costs x y)
      → OnOk result (IsPutBack b s.view y.view)
  free_put are (Ok r) given light = let costs = free_costs are in
      record {
        light = free_light (Ok r) light;
        cuts = let most = costs.most.cuts in let more = costs.more.cuts in omega arith;
        costs = costs;
        cached = free_cached light;
        given = at_state (λ v. IsGivenBack b v y.view) s x step.call.was given;
      }
  free_put are (Err e) given light = tt

pub free_few : IsFew most_free_costs
free_few = record { draws = omega arith; wins = omega arith; gives = omega arith; cuts = omega arith }

-- the seat is idle then, and its caches are short
pub free_between : (b : Block) (v w : View) (has : HasSoundState v) (result : Result ⊤ Stopped) → IsIdle v → HasShortCaches v
    → OnOk result (IsGivenBack b v w) → IfErr result (λ e. Stops e.step v w) → IsBetweenCalls w
free_between b v w has (Ok r) idle short (of_a_class class is freed) stop going = (
  record {
    batch = ap (λ (p : Parts). p.batch) freed.parts_are ∙ idle.batch;
    raw = ap (λ (p : Parts). p.raw) freed.parts_are ∙ idle.raw;
    split = ap (λ (p : Parts). p.split) freed.parts_are ∙ idle.split;
    cutting = ap (λ (p : Parts). p.cutting) freed.parts_are ∙ idle.cutting;
    classed = ap (λ (p : Parts). p.classed) freed.parts_are ∙ idle.classed;
  },
  record {
    each = short_but v class freed.cache w.caches (let long = (has.sound.good.set_up has.seat v has.below has.at).caches in
        let last = is.is_class.last in omega arith) short (ap (λ (p : Parts). p.caches) freed.parts_are) freed.short;
  },
)
free_between b v w has (Ok r) idle short (of_a_span d is freed) stop going = same_between v w idle short
    (ap (λ (p : Parts). p.batch) freed.parts_are) (ap (λ (p : Parts). p.raw) freed.parts_are) (ap (λ (p : Parts). p.split) freed.parts_are)
    (ap (λ (p : Parts). p.cutting) freed.parts_are) (ap (λ (p : Parts). p.classed) freed.parts_are) (ap (λ (p : Parts). p.caches) freed.parts_are)
free_between b v w has (Err e) idle short given stop going = not_both stop.at going

-- a large block that goes is one
span_goes : (d : ℕ) (spans : List Span) → 1 ≤ span_count d spans → length (without_span d spans) + 1 ≡ length spans
span_goes d [] some = absurd (omega arith)
span_goes d (span ∷ spans) some = elim (cases_eq span.first d) as (λ _. length (without_span d (span ∷ spans)) + 1 ≡ length (span ∷ spans)) [
  | inl same ↦ let e = ap (λ test. length (cond test spans (span ∷ without_span d spans))) (eq-eqb span.first d same) in omega arith
  | inr other ↦
      let apart = ne_eqb span.first d other in
      let e = ap (λ test. length (cond test spans (span ∷ without_span d spans))) apart in
      let c = ap (λ test. cond test span.count (span_count d spans)) apart in
      let rest = span_goes d spans (omega arith) in omega arith
]

spans_left : (d : ℕ) (spans : List Span) → length (without_span d spans) ≤ length spans
spans_left d [] = omega arith
spans_left d (span ∷ spans) = elim (cases_eq span.first d) as (λ _. length (without_span d (span ∷ spans)) ≤ length (span ∷ spans)) [
  | inl same ↦ let e = ap (λ test. length (cond test spans (span ∷ without_span d spans))) (eq-eqb span.first d same) in omega arith
  | inr other ↦ let e = ap (λ test. length (cond test spans (span ∷ without_span d spans))) (ne_eqb span.first d other) in
      let rest = spans_left d spans in omega arith
]

may_fewer : (b : Block) (v w : View) → MayBeGivenBack b v w → length w.large ≤ length v.large
may_fewer b v w (of_a_class class is may) = let spans = ap length may.large in omega arith
may_fewer b v w (of_a_span d is may) = elim may.large [
  | inl stays ↦ let spans = ap length stays in omega arith
  | inr less ↦ let spans = ap length less in let l = spans_left d v.large in omega arith
]

-- it draws few tickets, or it gave a batch, gave up a large block or stopped
module _ (b : Block) (x y : SeatView) (ran : x.view.stopped ≡ None) (cost : Passes most_free_costs x.view y.view) where
  pub free_paid : (result : Result ⊤ Stopped) → OnOk result (IsGivenBack b x.view y.view) → MayBeGivenBack b x.view y.view
      → IfErr result (λ e. Stops e.step x.view y.view)
      → OnOk result (y.view.gives ≡ x.view.gives → y.view.large ≡ x.view.large → RowBut (IsHeldOutside x.view b) light_free_costs x y)
      → IsPaid x.view y.view
  free_paid (Ok r) (of_a_class class is freed) may stop light = elim (cases_lt x.view.gives y.view.gives) as (λ _. IsPaid x.view y.view) [
    | inl rose ↦ paid_most most_free_costs x.view y.view free_few cost
        (let c = cost.more.cuts in let t = cost.more.taken in let spans = ap (λ (p : Parts). length p.large) freed.parts_are in
        let going = ap one_if_some ran in omega arith)
    | inr none ↦ paid_light light_free_costs x.view y.view (omega arith)
        (light (let g = cost.more.gives in omega arith) (ap (λ (p : Parts). p.large) freed.parts_are)).passes
        (let c = cost.more.cuts in let g = cost.more.gives in let t = cost.more.taken in
        let spans = ap (λ (p : Parts). length p.large) freed.parts_are in let going = ap one_if_some ran in omega arith)
  ]
  free_paid (Ok r) (of_a_span d is freed) may stop light = paid_most most_free_costs x.view y.view free_few cost
      (let c = cost.more.cuts in let g = cost.more.gives in let t = cost.more.taken in let going = ap one_if_some ran in
      let spans = ap (λ (p : Parts). length p.large) freed.parts_are in let one = span_goes d x.view.large is.there in omega arith)
  free_paid (Err e) given may stop light = paid_most most_free_costs x.view y.view free_few cost
      (let c = cost.more.cuts in let g = cost.more.gives in let t = cost.more.taken in let fewer = may_fewer b x.view y.view may in
      let going = ap one_if_some ran in let stops = ap one_if_some stop.at in omega arith)
