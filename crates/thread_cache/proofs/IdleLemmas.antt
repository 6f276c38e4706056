-- A request leaves a seat idle with short caches, and costs few tickets.
use Rattle.std.proofs.Common.{◌≡◌, ◌<◌, ◌≤◌, ℕ, ◌+◌, inl, inr, List, [], set, length, None, Result, Ok, Err, OnErr, ap, sym, subst, ◌∙◌, arith}
use Rattle.std.proofs.lemmas.Bool.{cases_eq, cases_lt}
use Rattle.std.proofs.lemmas.List.{get_or-set_same, get_or-set_other}
use Rattle.heap_model.specs.declared.block.Block.{Block}
use Rattle.heap_model.specs.Sizes.{IsClass, blocks_of}
use Rattle.heap_seat.specs.declared.fault.AllocFault.{AllocFault}
use Rattle.heap_seat.specs.declared.fault.AllocFault.TheVariants.{Full, Stopped as StoppedFault}
use Rattle.core_model.specs.View.{View, of_class, one_if_some}
use Rattle.heap_table.specs.Plays.{HasSoundState}
use Rattle.heap_rule.specs.Seated.{SeatView}
use Rattle.seat_costs.specs.Idle.{HasShortCaches, IsIdle}
use Rattle.seat_costs.specs.Rows.{HoldingRow, Parts, Passes, Row, parts}
use Rattle.seat_costs.proofs.RowLemmas.{not_both}
use Rattle.thread_cache.specs.Requests.{Answers, by_class, by_span, light_request, request_costs}
use Rattle.thread_cache.specs.Small.{IfGoing}
use Rattle.seat_model.specs.CacheState.{IsBetweenCalls}
use Rattle.thread_cache.proofs.LargeLemmas.{IsFew, IsPaid, paid_light, paid_most}

-- a seat that has the same stays idle
pub same_between : (v w : View) → IsIdle v → HasShortCaches v → w.batch ≡ v.batch → w.raw ≡ v.raw → w.split ≡ v.split → w.cutting ≡ v.cutting
    → w.classed ≡ v.classed → w.caches ≡ v.caches → IsIdle w × HasShortCaches w
same_between v w idle short batch raw split cutting classed caches = (
  record {
    batch = batch ∙ idle.batch;
    raw = raw ∙ idle.raw;
    split = split ∙ idle.split;
    cutting = cutting ∙ idle.cutting;
    classed = classed ∙ idle.classed;
  },
  record { each = λ class is. let s = short.each class is in let e = ap (λ l. length (of_class l class)) caches in omega arith },
)

pub parts_between : (v w : View) → IsIdle v → HasShortCaches v → parts w ≡ parts v → IsIdle w × HasShortCaches w
parts_between v w idle short same = same_between v w idle short (ap (λ (p : Parts). p.batch) same) (ap (λ (p : Parts). p.raw) same)
    (ap (λ (p : Parts). p.split) same) (ap (λ (p : Parts). p.cutting) same) (ap (λ (p : Parts). p.classed) same) (ap (λ (p : Parts). p.caches) same)

-- the caches stay short
pub short_but : (v : View) (class : ℕ) (cache : List ℕ) (caches : List (List ℕ)) → class < length v.caches → HasShortCaches v
    → caches ≡ set v.caches class cache → length cache < blocks_of class
    → (c : ℕ) → IsClass c → length (of_class caches c) < blocks_of c
short_but v class cache caches below short is few c is_class = elim (cases_eq c class) as (λ _. length (of_class caches c) < blocks_of c) [
  | inl same ↦ subst (λ k. length (of_class caches k) < blocks_of k) (sym same)
      (let e = ap length (ap (λ l. of_class l class) is ∙ get_or-set_same v.caches class cache [] below) in omega arith)
  | inr other ↦ let e = ap length (ap (λ l. of_class l c) is ∙ get_or-set_other v.caches class c cache [] other) in
      let s = short.each c is_class in omega arith
]

pub alloc_between : (bytes : ℕ) (v w : View) (has : HasSoundState v) (result : Result Block AllocFault) → IsIdle v → HasShortCaches v
    → Answers bytes result v w → IsBetweenCalls w
alloc_between bytes v w has (Ok b) idle short (by_class class least allocated) going = (
  record {
    batch = ap (λ (p : Parts). p.batch) allocated.parts_are ∙ idle.batch;
    raw = ap (λ (p : Parts). p.raw) allocated.parts_are ∙ idle.raw;
    split = ap (λ (p : Parts). p.split) allocated.parts_are ∙ idle.split;
    cutting = ap (λ (p : Parts). p.cutting) allocated.parts_are ∙ idle.cutting;
    classed = ap (λ (p : Parts). p.classed) allocated.parts_are ∙ idle.classed;
  },
  record {
    each = short_but v class allocated.cache w.caches (let long = (has.sound.good.set_up has.seat v has.below has.at).caches in
        let last = least.is_class.last in omega arith) short (ap (λ (p : Parts). p.caches) allocated.parts_are) allocated.short;
  },
)
alloc_between bytes v w has (Ok b) idle short (by_span large allocated) going = same_between v w idle short
    (ap (λ (p : Parts). p.batch) allocated.parts_are) (ap (λ (p : Parts). p.raw) allocated.parts_are)
    (ap (λ (p : Parts). p.split) allocated.parts_are) (ap (λ (p : Parts). p.cutting) allocated.parts_are)
    (ap (λ (p : Parts). p.classed) allocated.parts_are) (ap (λ (p : Parts). p.caches) allocated.parts_are)
alloc_between bytes v w has (Err (Full looks)) idle short (by_class class least full none) going = parts_between v w idle short full.parts_are
alloc_between bytes v w has (Err (Full looks)) idle short (by_span large none) going = parts_between v w idle short none.parts_are
alloc_between bytes v w has (Err (StoppedFault e)) idle short stop going = not_both stop.at going

-- what a request costs is few
pub request_few : (bytes moves : ℕ) → IsFew (request_costs bytes moves)
request_few bytes moves = record { draws = omega arith; wins = omega arith; gives = omega arith; cuts = omega arith }

-- it draws few tickets, or it cut a superblock or stopped
module _ (bytes moves : ℕ) (x y : SeatView) (ran : x.view.stopped ≡ None) (passes : Passes (request_costs bytes moves) x.view y.view) where
  paid_for : x.view.taken + length y.view.large ≤ y.view.taken + length x.view.large
      → (y.view.cuts ≡ x.view.cuts → HoldingRow (light_request bytes moves) x y) → IsPaid x.view y.view
  paid_for left light = elim (cases_lt x.view.cuts y.view.cuts) as (λ _. IsPaid x.view y.view) [
    | inl rose ↦ paid_most (request_costs bytes moves) x.view y.view (request_few bytes moves) passes
        (let g = passes.more.gives in let going = ap one_if_some ran in omega arith)
    | inr none ↦ paid_light (light_request bytes moves) x.view y.view (omega arith) (light (let c = passes.more.cuts in omega arith)).passes
        (let c = passes.more.cuts in let g = passes.more.gives in let going = ap one_if_some ran in omega arith)
  ]

  pub alloc_paid : (result : Result Block AllocFault) → Answers bytes result x.view y.view
      → IfGoing result (y.view.cuts ≡ x.view.cuts → HoldingRow (light_request bytes moves) x y)
      → OnErr result (Row (request_costs bytes moves) x y) → IsPaid x.view y.view
  alloc_paid (Ok b) (by_class class least allocated) light row =
      paid_for (let t = passes.more.taken in let spans = ap (λ (p : Parts). length p.large) allocated.parts_are in omega arith) light
  alloc_paid (Ok b) (by_span large allocated) light row =
      paid_for (let t = allocated.taken in let spans = ap (λ (p : Parts). length p.large) allocated.parts_are in omega arith) light
  alloc_paid (Err (Full looks)) (by_class class least full none) light row =
      paid_for (let t = passes.more.taken in let spans = ap (λ (p : Parts). length p.large) full.parts_are in omega arith) light
  alloc_paid (Err (Full looks)) (by_span large none) light row =
      paid_for (let t = passes.more.taken in let spans = ap (λ (p : Parts). length p.large) none.parts_are in omega arith) light
  alloc_paid (Err (StoppedFault e)) stop light row = paid_most (request_costs bytes moves) x.view y.view (request_few bytes moves) passes
      (let c = passes.more.cuts in let g = passes.more.gives in let t = passes.more.taken in let spans = ap length row.view.large in
      let going = ap one_if_some ran in let stops = ap one_if_some stop.at in omega arith)
