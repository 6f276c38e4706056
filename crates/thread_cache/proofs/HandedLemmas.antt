-- What an offer and an accept leave of a seat of a heap.
use Rattle.std.proofs.Common.{◌≡◌, ◌<◌, ◌≤◌, ℕ, ◌+◌, inl, inr, not, nat_eq, None, Ok, Err, Result, IfOk, IfErr, OnOk, OnErr, length, length-append, ap, sym, subst, ◌∙◌, arith}
use Rattle.std.specs.Prelude.{Contains}
use Rattle.line_memory.specs.declared.memory.Stopped.{Stopped}
use Rattle.heap_model.specs.declared.block.Block.{Block}
use Rattle.heap_model.specs.Blocks.{IsIn}
use Rattle.heap_seat.specs.Alloc.{Adds}
use Rattle.heap_seat.specs.Handing.{Accepts, ComesWith, Offers}
use Rattle.heap_seat.specs.Words.{IsOwn}
use Rattle.atomic_table.specs.Seated.{TableId}
use Rattle.core_model.specs.Carriers.{accepted}
use Rattle.heap_model.specs.Geometry.{superblock_of}
use Rattle.core_model.specs.Held.{IsHeld}
use Rattle.core_model.specs.View.{Role, View, of_class, one_if_some}
use Rattle.heap_table.specs.Plays.{HasSoundState}
use Rattle.seat_index.specs.declared.owned.Holding.{Holding}
use Rattle.seat_index.specs.Holdings.{HoldsAlone}
use Rattle.heap_rule.specs.Carried.{CarrierView, Carries}
use Rattle.heap_rule.specs.Seated.{SeatView}
use Rattle.seat_index.proofs.OwnedCarriers.{all_roots}
use Rattle.seat_costs.specs.Costs.{one_draw}
use Rattle.seat_costs.specs.Rows.{HasDrawn, Row, Stops, after_ticket, next_of}
use Rattle.seat_costs.specs.Words.{IsHeldWord, KeepsWord as KeepsRowWord}
use Rattle.seat_model.specs.CacheState.{CacheState, CallCounts, IsBetweenCalls, IsStateOf, counts_of, heap_view, heap_view_of, held_blocks}
use Rattle.seat_model.proofs.HandedBlocks.{accept_has, accept_keeps, accept_new, accept_only, alone_held, alone_listed, alone_word, held_alike, offer_gone, offer_keeps, offer_only}
use Rattle.seat_model.proofs.HeldLemmas.{held_is, own_held, word_held, word_law}
use Rattle.seat_model.proofs.ListedBlocks.{listed}
use Rattle.thread_cache.specs.Sending.{AcceptRow, ComesWith as BringsWords, GoesWith as SendsWords, HasAccepted, HasOffered, OfferRow}
use Rattle.thread_cache.specs.Handing.{IsSent, contents_of}
use Rattle.thread_cache.proofs.AllocLemmas.{pending_of}
use Rattle.thread_cache.proofs.FreeLemmas.{held_block}
use Rattle.thread_cache.proofs.CallLemmas.{SmallStep, at_state, runs_law}
use Rattle.thread_cache.proofs.HandledLemmas.{IsHandled, fewer_spans, handled, one_span}

module _ (b : Block) (table : TableId) (v w : View) where
  pub offered_between : (answer : Result CarrierView Stopped) → IfOk answer (λ c. HasOffered b c table v w)
      → IfErr answer (λ e. Stops e.step v w) → v.stopped ≡ None → IsBetweenCalls v → IsBetweenCalls w
  offered_between (Ok c) has stops ran before going = let is = before ran in let left = has.left in let drawn = has.drawn.left in (
    record {
      batch = ap (λ (x : View). x.batch) left ∙ ap (λ (x : View). x.batch) drawn ∙ is.0.batch;
      raw = ap (λ (x : View). x.raw) left ∙ ap (λ (x : View). x.raw) drawn ∙ is.0.raw;
      split = ap (λ (x : View). x.split) left ∙ ap (λ (x : View). x.split) drawn ∙ is.0.split;
      cutting = ap (λ (x : View). x.cutting) left ∙ ap (λ (x : View). x.cutting) drawn ∙ is.0.cutting;
      classed = ap (λ (x : View). x.classed) left ∙ ap (λ (x : View). x.classed) drawn ∙ is.0.classed;
    },
    record {
      each = λ class is_class. let less = is.1.each class is_class in let e = ap (λ (x : View). length (of_class x.caches class)) left in
          let f = ap (λ (x : View). length (of_class x.caches class)) drawn in omega arith;
    },
  )
  offered_between (Err e) has stops ran before going = absurd (let z = ap one_if_some (sym going ∙ stops.at) in omega (arith, z))

  pub offered_later : (answer : Result CarrierView Stopped) → IfOk answer (λ c. HasOffered b c table v w) → IfErr answer (λ e. Stops e.step v w)
      → v.stopped ≡ None → next_of v < next_of w
  offered_later (Ok c) has stops ran = let e = ap next_of has.left in let f = ap next_of has.drawn.left in let l = has.drawn.later in omega arith
  offered_later (Err e) has stops ran = let n = stops.now ran in let l = ap after_ticket stops.last in omega arith

module _ (carrier : CarrierView) (v w : View) where
  pub accepted_between : (answer : Result Block (Stopped × CarrierView)) → IfOk answer (λ b. HasAccepted b carrier v w)
      → IfErr answer (λ e. Stops e.0.step v w × (e.1 ≡ carrier)) → v.stopped ≡ None → IsBetweenCalls v → IsBetweenCalls w
  accepted_between (Ok b) has stops ran before going = let is = before ran in let left = has.left in let drawn = has.drawn.left in (
    record {
      batch = ap (λ (x : View). x.batch) left ∙ ap (λ (x : View). x.batch) drawn ∙ is.0.batch;
      raw = ap (λ (x : View). x.raw) left ∙ ap (λ (x : View). x.raw) drawn ∙ is.0.raw;
      split = ap (λ (x : View). x.split) left ∙ ap (λ (x : View). x.split) drawn ∙ is.0.split;
      cutting = ap (λ (x : View). x.cutting) left ∙ ap (λ (x : View). x.cutting) drawn ∙ is.0.cutting;
      classed = ap (λ (x : View). x.classed) left ∙ ap (λ (x : View). x.classed) drawn ∙ is.0.classed;
    },
    record {
      each = λ class is_class. let less = is.1.each class is_class in let e = ap (λ (x : View). length (of_class x.caches class)) left in
          let f = ap (λ (x : View). length (of_class x.caches class)) drawn in omega arith;
    },
  )
  accepted_between (Err e) has stops ran before going = absurd (let z = ap one_if_some (sym going ∙ stops.0.at) in omega (arith, z))

  pub accepted_later : (answer : Result Block (Stopped × CarrierView)) → IfOk answer (λ b. HasAccepted b carrier v w)
      → IfErr answer (λ e. Stops e.0.step v w × (e.1 ≡ carrier)) → v.stopped ≡ None → next_of v < next_of w
  accepted_later (Ok b) has stops ran = let e = ap next_of has.left in let f = ap next_of has.drawn.left in let l = has.drawn.later in omega arith
  accepted_later (Err e) has stops ran = let n = stops.0.now ran in let l = ap after_ticket stops.0.last in omega arith

-- where the same parts are held
drawn_alike : (v u : View) → HasDrawn v u → (a : Block) → IsHeld v a → IsHeld u a
drawn_alike v u drawn = held_alike v u (ap (λ (x : View). x.setup) drawn.left) (ap (λ (x : View). x.small) drawn.left)
    (ap (λ (x : View). x.large) drawn.left)

drawn_back : (v u : View) → HasDrawn v u → (a : Block) → IsHeld u a → IsHeld v a
drawn_back v u drawn = held_alike u v (ap (λ (x : View). x.setup) (sym drawn.left)) (ap (λ (x : View). x.small) (sym drawn.left))
    (ap (λ (x : View). x.large) (sym drawn.left))

-- the held blocks of the state are those of the core's seat
module _ (s : CacheState) (x : SeatView) (was : IsStateOf s x) (had : HasSoundState x.view) where
  state_held : (a : Block) → Contains (heap_view s).held a → IsHeld x.view a
  state_held = held_block s x had was.view

  held_state : (a : Block) → IsHeld x.view a → Contains (heap_view s).held a
  held_state a held = subst (λ (v : View). Contains (held_blocks v) a) was.view (listed x.view a held)

module _ (b : Block) (s : CacheState) (x y : SeatView) (n : CallCounts) (step : SmallStep s x y n) (had : HasSoundState x.view) where
  module _ (c : CarrierView) (table : TableId) (has : HasOffered b c table x.view y.view) where
    pub offer_blocks : Contains (heap_view s).held b → Adds b (heap_view_of y.view y.marks n) (heap_view s)
    offer_blocks held = let before = drawn_alike x.view has.behind has.drawn b (state_held s x step.call.was had b held) in record {
      new = λ there. offer_gone has.behind b (subst (λ v. IsHeld v b) has.left (held_is y.view step.call.has b there));
      has = held;
      keeps = λ a there. held_state s x step.call.was had a (drawn_back x.view has.behind has.drawn a
          (offer_keeps has.behind has.has b before a (subst (λ v. IsHeld v a) has.left (held_is y.view step.call.has a there))));
      only = λ a there. elim (offer_only has.behind has.has b before a
          (drawn_alike x.view has.behind has.drawn a (state_held s x step.call.was had a there))) [
            | inl same ↦ inl same
            | inr left ↦ inr (listed y.view a (subst (λ v. IsHeld v a) (sym has.left) left))
          ];
      roots = ap (λ (v : View). v.roots) (sym step.call.was.view) ∙ sym (roots_of has);
    } where
      roots_of : HasOffered b c table x.view y.view → y.view.roots ≡ x.view.roots
      roots_of h = ap (λ (v : View). v.roots) h.left ∙ all_roots h.behind.roots ∙ ap (λ (v : View). v.roots) h.drawn.left

    pub offer_sent_law : (t : TableId) → table ≡ t → t ≡ s.table → SendsWords c.view x.view → Contains (heap_view s).held b → IsSent b c s
    offer_sent_law t table_is of sends held = record {
      table = has.at_table ∙ table_is ∙ of;
      block = has.block;
      held = listed c.view b (alone_held c.view b has.carries.holding has.carries.alone);
      alone = alone_listed c.view b has.carries.holding has.carries.alone;
      roots = has.carries.carrier.roots;
      contents = record {
        words = λ word within.
            let is = sends.words word (alone_word x.view c.view b has.carries.holding has.carries.alone has.carries.capacity_is had
            (state_held s x step.call.was had b held) word within) in
            let p = word_law s.view c.view s.marks s.marks (counts_of s) (counts_of s) word
            (at_state (λ v. KeepsRowWord v c.view word) s x step.call.was is) in
            record { volatile = p.volatile; durable = p.durable };
      };
    }

  pub offer_ok : (table : TableId) (result : Result CarrierView Stopped) → IfOk result (λ c. HasOffered b c table x.view y.view)
      → OnOk result (OfferRow x y) → next_of x.view < next_of y.view → Contains (heap_view s).held b
      → OnOk result (Offers b (heap_view s) (heap_view_of y.view y.marks n))
  offer_ok table (Err e) has row later held = tt
  offer_ok table (Ok c) has row later held = record {
    runs = runs_law s.view y.view s.marks y.marks (counts_of s) n step.call.has step.call.ran going
        (at_state (λ v. next_of v < next_of y.view) s x step.call.was later);
    blocks = offer_blocks c table has held;
    words = λ word own. word_law s.view y.view s.marks y.marks (counts_of s) n word (kept word (word_held y.view step.call.has word own));
    pending = λ word own. pending_of s x y n step.call.was word (row.marks word (word_held y.view step.call.has word own));
  } where
    going : y.view.stopped ≡ None
    going = ap (λ (v : View). v.stopped) has.left ∙ ap (λ (v : View). v.stopped) has.drawn.left ∙ has.drawn.went

    kept : (word : ℕ) → IsHeldWord y.view word → KeepsRowWord s.view y.view word
    kept word held = at_state (λ v. KeepsRowWord v y.view word) s x step.call.was (let p = row.words word held in
        record { volatile = p.volatile; durable = p.durable })

  module _ (c : CarrierView) (has : HasAccepted b c x.view y.view) where
    abbrev carries : Carries x.view.setup.capacity c.view b
    carries = has.carries

    capacity : c.view.setup.capacity ≡ has.behind.setup.capacity
    capacity = carries.capacity_is ∙ ap (λ (v : View). v.setup.capacity) (sym has.drawn.left)

    after : HasSoundState (accepted has.behind c.view)
    after = subst HasSoundState has.left step.call.has

    pub accept_blocks : Adds b (heap_view s) (heap_view_of y.view y.marks n)
    accept_blocks = record {
      new = λ there. accept_new has.behind c.view b carries.holding carries.alone capacity has.has after
          (drawn_alike x.view has.behind has.drawn b (state_held s x step.call.was had b there));
      has = listed y.view b (subst (λ v. IsHeld v b) (sym has.left) (accept_has has.behind c.view b carries.holding carries.alone capacity
          has.has after));
      keeps = λ a there. listed y.view a (subst (λ v. IsHeld v a) (sym has.left)
          (accept_keeps has.behind c.view b carries.holding carries.alone capacity has.has after a
          (drawn_alike x.view has.behind has.drawn a (state_held s x step.call.was had a there))));
      only = λ a there. elim (accept_only has.behind c.view b carries.holding carries.alone capacity has.has after a
          (subst (λ v. IsHeld v a) has.left (held_is y.view step.call.has a there))) [
            | inl same ↦ inl same
            | inr mine ↦ inr (held_state s x step.call.was had a (drawn_back x.view has.behind has.drawn a mine))
          ];
      roots = ap (λ (v : View). v.roots) has.left ∙ ap (λ (v : View). v.roots) has.drawn.left ∙ ap (λ (v : View). v.roots) step.call.was.view;
    }

    pub accept_contents : BringsWords c.view y.view → ComesWith b (contents_of c) (heap_view_of y.view y.marks n)
    accept_contents brings = record {
      volatile = λ word within. brings.seen word (theirs word within);
      durable = λ word within. brings.left word (theirs word within);
    } where
      theirs : (word : ℕ) → IsIn b word → IsHeldWord c.view word
      theirs = alone_word y.view c.view b carries.holding carries.alone (capacity ∙ ap (λ (v : View). v.setup.capacity) (sym has.left)) step.call.has
          (subst (λ v. IsHeld v b) (sym has.left) (accept_has has.behind c.view b carries.holding carries.alone capacity has.has after))

    pub accepts_law : AcceptRow x y → next_of x.view < next_of y.view → Accepts b (heap_view s) (heap_view_of y.view y.marks n)
    accepts_law row later = record {
      runs = runs_law s.view y.view s.marks y.marks (counts_of s) n step.call.has step.call.ran going
          (at_state (λ v. next_of v < next_of y.view) s x step.call.was later);
      blocks = accept_blocks;
      words = λ word own. word_law s.view y.view s.marks y.marks (counts_of s) n word (kept word (mine word own));
      pending = λ word own. pending_of s x y n step.call.was word (row.marks word (mine word own));
    } where
      going : y.view.stopped ≡ None
      going = ap (λ (v : View). v.stopped) has.left ∙ ap (λ (v : View). v.stopped) has.drawn.left ∙ has.drawn.went

      mine : (word : ℕ) → IsOwn (heap_view s).held s.view.roots word → IsHeldWord x.view word
      mine word own = subst (λ (v : View). IsHeldWord v word) (sym step.call.was.view) (own_held s word own)

      kept : (word : ℕ) → IsHeldWord x.view word → KeepsRowWord s.view y.view word
      kept word held = at_state (λ v. KeepsRowWord v y.view word) s x step.call.was (let p = row.words word held in
          record { volatile = p.volatile; durable = p.durable })

-- over both answers
module _ (b : Block) (s : CacheState) (x y : SeatView) (n : CallCounts) (step : SmallStep s x y n) (had : HasSoundState x.view) where
  pub offer_handled : (result : Result CarrierView Stopped) → OnOk result (OfferRow x y) → OnErr result (Row one_draw x y) → IsHandled x.view y.view
  offer_handled (Ok c) row none = handled x.view y.view (x.view.offers + 1) x.view.accepts row.passes
  offer_handled (Err e) row none = handled x.view y.view x.view.offers x.view.accepts none.view.passes

  pub offer_paid : (table : TableId) (result : Result CarrierView Stopped) → IfOk result (λ c. HasOffered b c table x.view y.view)
      → OnErr result (Row one_draw x y) → x.view.accepts + length y.view.large ≤ y.view.accepts + length x.view.large
  offer_paid table (Ok c) has none =
      let count = ap (λ (v : View). v.accepts) has.left ∙ ap (λ (v : View). v.accepts) has.drawn.left in
      let spans = ap (λ (v : View). length v.large) has.left in let before = ap (λ (v : View). length v.large) has.drawn.left in
      let fewer = fewer_spans (λ d. not (nat_eq d (superblock_of has.behind.setup.capacity b.first_word))) has.behind.large in omega arith
  offer_paid table (Err e) has none = let count = ap (λ (r : Role). r.accepts) none.view.passes.role_is in
      let spans = ap length none.view.large in omega arith

  pub offer_sent : (table t : TableId) (result : Result CarrierView Stopped) → IfOk result (λ c. HasOffered b c table x.view y.view)
      → IfOk result (λ c. SendsWords c.view x.view) → table ≡ t → t ≡ s.table → Contains (heap_view s).held b
      → IfOk result (λ c. IsSent b c s)
  offer_sent table t (Ok c) has sends same of held = offer_sent_law b s x y n step had c table has t same of sends held
  offer_sent table t (Err e) has sends same of held = tt

  module _ (c : CarrierView) where
    pub accept_handled : (result : Result Block (Stopped × CarrierView)) → OnOk result (AcceptRow x y) → OnErr result (Row one_draw x y)
        → IsHandled x.view y.view
    accept_handled (Ok a) row none = handled x.view y.view x.view.offers (x.view.accepts + 1) row.passes
    accept_handled (Err e) row none = handled x.view y.view x.view.offers x.view.accepts none.view.passes

    pub accept_paid : (result : Result Block (Stopped × CarrierView)) → IfOk result (λ a. HasAccepted a c x.view y.view)
        → OnErr result (Row one_draw x y) → x.view.accepts + length y.view.large ≤ y.view.accepts + length x.view.large
    accept_paid (Ok a) has none =
        let count = ap (λ (v : View). v.accepts) has.left in let before = ap (λ (v : View). v.accepts) has.drawn.left in
        let spans = ap (λ (v : View). length v.large) has.left in let then = ap (λ (v : View). length v.large) has.drawn.left in
        let one = one_span c.view a has.carries.holding has.carries.alone in let both = length-append c.view.large has.behind.large in omega arith
    accept_paid (Err e) has none = let count = ap (λ (r : Role). r.accepts) none.view.passes.role_is in let spans = ap length none.view.large in
        omega arith

    pub accept_ok : (result : Result Block (Stopped × CarrierView)) → IfOk result (λ a. HasAccepted a c x.view y.view)
        → OnOk result (AcceptRow x y) → next_of x.view < next_of y.view → OnOk result (Accepts c.block (heap_view s) (heap_view_of y.view y.marks n))
    accept_ok (Ok a) has row later = subst (λ d. Accepts d (heap_view s) (heap_view_of y.view y.marks n)) has.block
        (accepts_law a s x y n step had c has row later)
    accept_ok (Err e) has row later = tt

    pub accept_brings : (result : Result Block (Stopped × CarrierView)) → IfOk result (λ a. HasAccepted a c x.view y.view)
        → OnOk result (BringsWords c.view y.view) → OnOk result (ComesWith c.block (contents_of c) (heap_view_of y.view y.marks n))
    accept_brings (Ok a) has brings = subst (λ d. ComesWith d (contents_of c) (heap_view_of y.view y.marks n)) has.block
        (accept_contents a s x y n step had c has brings)
    accept_brings (Err e) has brings = tt
