-- From the parts of all workers, and the closed heap, to the whole run.
use Rattle.std.proofs.Common.{◌≡◌, ℕ, ◌+◌, ◌<◌, ◌≤◌, ◌⊎◌, inl, inr, Bool, nat_eq, All, List, ◌++◌, get_or, length, length-append, map, slice_index, Some, Contains, subst, sym, ap, ◌∙◌, arith}
use Rattle.std.proofs.lemmas.List.{get_or-map, length-map}
use Rattle.std.proofs.lemmas.List.Sorted.{IsPermutation-sym, IsPermutation-trans}
use Rattle.std.proofs.lemmas.Bool.{cases_lt}
use Rattle.std.specs.List.Sorted.{IsPermutation}
use Rattle.heap_model.specs.declared.block.Block.{Block}
use Rattle.heap_model.specs.Image.{Image}
use Rattle.heap_model.specs.Rest.{IsReady}
use Rattle.heap_seat.specs.View.{View as HeapView}
use Rattle.core_model.specs.Carriers.{IsCarrier}
use Rattle.core_model.specs.Opening.{setup_of}
use Rattle.core_model.specs.View.{Setup, View}
use Rattle.dict_model.specs.Nodes.{shard_of}
use Rattle.dict_model.specs.Requests.{Request}
use Rattle.dict_model.specs.Shards.{Map}
use Rattle.seat_state.specs.OwnerLists.{OwnerLists}
use Rattle.heap_table.specs.AtTable.{IsClosedReached, IsClosedSound, SharedView}
use Rattle.heap_table.specs.Rule.{Opening, setup_for}
use Rattle.heap_rule.specs.Carried.{CarrierView, carried_views}
use Rattle.heap_rule.specs.Seated.{SeatView}
use Rattle.heap_rule.specs.Seats.{views_of}
use Rattle.seat_model.specs.CacheState.{CacheState}
use Rattle.run_model.specs.Arrivals.{IsWholeMap}
use Rattle.run_model.specs.Opened.{IsDictionary}
use Rattle.run_model.specs.Sending.{Sent, coming}
use Rattle.run_model.specs.Workers.{Replies, worker_of, worker_requests, worker_replies}
use Rattle.run_model.proofs.SendingLemmas.{in_order}
use Rattle.run_model.proofs.TogetherLemmas.{filtered_together}
use Rattle.parcel_queue.proofs.NumberLemmas.{in_order as sorted_as_sent}
use Rattle.run_rows.specs.Posts.{all_sent_to}
use Rattle.worker_parts.specs.Begun.{IsOpenedFor}
use Rattle.worker_parts.specs.Ending.{HasEnded}
use Rattle.worker_parts.specs.Jobs.{image_of}
use Rattle.worker_parts.specs.Parts.{IsPart}
use Rattle.worker_run.specs.Said.{reply_of, replies_of}
use Rattle.seat_owners.specs.Owning.{AreOwnersByRoot}
use Rattle.run_outcome.specs.Together.{HaveWorked, IsLeftOf, opening_for}
use Rattle.shared_run.specs.Dealing.{Queue, padded}
use Rattle.shared_run.specs.Gathering.{AreParts}
use Rattle.shared_run.proofs.ClosedLemmas.{first_of}

-- no worker has more replies than requests
ended_short : {image : Image} {mine : List Request} {replies : Replies} {came brought : List Sent} {halted stopped : Bool} {v : HeapView}
    → HasEnded image mine replies came brought halted stopped v → length replies ≤ length mine
ended_short ended =
    let a = ap length ended.requests_are ∙ length-append (map (λ r. r.0) ended.rs) ended.left in
    let b = length-map ended.rs (λ r. r.0) in
    let c = ap length ended.replies_are ∙ length-map ended.rs (λ r. Some r.1) in
    omega (arith, a, b, c)

-- the first and the last state of a worker's seat
record Ends : Type 0 where
  first : CacheState
  last : CacheState

module _ (shared : SharedView) (requests : List Request) (workers : ℕ) (seats : List SeatView) (told : List Queue) (carriers : List CarrierView)
    (stopped : Bool)
    (parts : AreParts shared requests workers seats told carriers stopped) (any : SeatView) (some : 1 ≤ workers) where
  -- those of the worker, or of the first one for a number of none
  ends_by : (i : ℕ) → (i < workers) ⊎ (workers ≤ i) → Ends
  ends_by i (inl below) = let p = parts.each i any below in record { first = p.first; last = p.last }
  ends_by i (inr past) = let p = parts.each 0 any (omega (arith, some)) in record { first = p.first; last = p.last }

  ends_at : ℕ → Ends
  ends_at i = ends_by i (cases_lt i workers)

  first_at : ℕ → CacheState
  first_at i = (ends_at i).first

  last_at : ℕ → CacheState
  last_at i = (ends_at i).last

  abbrev IsPartAt : ℕ → CacheState → CacheState → Type 0
  IsPartAt i s t = IsPart (image_of shared) workers requests i parts.tables (parts.replies i) (parts.came i) (parts.brought i) parts.halted
      (parts.stops i) s t

  -- what is so of them
  record AreEnds (i : ℕ) (e : Ends) : Type 0 where
    part : IsPartAt i e.first e.last
    fresh : IsOpenedFor shared.opening workers i e.first.view
    last_is : e.last.view ≡ (get_or seats i any).view

  are_by : (i : ℕ) (w : (i < workers) ⊎ (workers ≤ i)) → i < workers → AreEnds i (ends_by i w)
  unfolding ends_by
  are_by i (inl below) inside = let p = parts.each i any below in record { part = p.part; fresh = p.fresh; last_is = p.last_is }
  are_by i (inr past) inside = absurd (omega (arith, past, inside))

  are_at : (i : ℕ) → i < workers → AreEnds i (ends_at i)
  unfolding ends_at
  are_at i inside = are_by i (cases_lt i workers) inside

  part_at : (i : ℕ) → i < workers → IsPartAt i (first_at i) (last_at i)
  unfolding first_at last_at
  part_at i inside = (are_at i inside).part

  fresh_at : (i : ℕ) → i < workers → IsOpenedFor shared.opening workers i (first_at i).view
  unfolding first_at
  fresh_at i inside = (are_at i inside).fresh

  view_at : (i : ℕ) → i < workers → (last_at i).view ≡ (get_or seats i any).view
  unfolding last_at
  view_at i inside = (are_at i inside).last_is

  views_at : (i : ℕ) (v : View) → i < workers → get_or (views_of seats) i v ≡ (last_at i).view
  views_at i v inside = get_or-map (λ (s : SeatView). s.view) seats i any v (let long = parts.seats_long in omega (arith, inside, long))
      ∙ sym (view_at i inside)

  -- each carrier that is left is one
  carry_at : All (λ (c : CarrierView). IsCarrier c.view) carriers → (v : View) → Contains (carried_views carriers) v → IsCarrier v
  carry_at carry v there =
      let long = length-map carriers (λ (c : CarrierView). c.view) in
      let place = there.1 in
      let below : there.0 < length carriers = omega (arith, long, place) in
      let d = first_of carriers (omega (arith, below)) in
      subst IsCarrier (sym (get_or-map (λ (c : CarrierView). c.view) carriers there.0 d v below) ∙ there.2) (carry there.0 d below)

  -- the whole run, over a dictionary that was opened for so many workers
  module _ (words : List ℕ) (held : List Block) (budget : ℕ) (ready : IsReady words held)
      (has : IsDictionary (slice_index words) (Contains held)) (few : workers ≤ 8)
      (owners : OwnerLists) (by_root : AreOwnersByRoot (slice_index words) held workers owners.held owners.roots)
      (opened : shared.opening ≡ opening_for words held owners workers budget)
      (replies : Replies) (long : length replies ≡ length requests)
      (order : (worker : ℕ) (queue : Queue) → worker < length told → length (get_or told worker queue).items ≤ length
      (worker_requests (length told) worker requests)
      → worker_replies (length told) worker requests replies ≡ padded (length told) worker requests (replies_of (get_or told worker queue).items)) where
    set_up : setup_for shared.opening ≡ setup_of words budget workers
    set_up = ap setup_for opened

    image_is : image_of shared ≡ slice_index words
    image_is = ap (λ (k : Setup). slice_index k.opened) set_up

    whole_at : (whole : Map) → IsWholeMap (slice_index words) whole → IsWholeMap (image_of shared) whole
    whole_at whole of = subst (λ (image : Image). IsWholeMap image whole) (sym image_is) of

    -- each worker's replies stand in front of its own
    padded_at : (i : ℕ) → i < workers → worker_replies workers i requests replies ≡ padded workers i requests (parts.replies i)
    padded_at i below =
        let all = parts.told_long in
        let other = first_of told (omega (arith, all, below)) in
        let is = parts.told_are i other below in
        let short = ended_short (part_at i below).ended in
        let count = ap length is ∙ length-map (get_or told i other).items reply_of in
        subst (λ (rs : Replies). worker_replies workers i requests replies ≡ padded workers i requests rs) (sym is)
        (subst (λ n. worker_replies n i requests replies ≡ padded n i requests (replies_of (get_or told i other).items)) all
        (order i other (omega (arith, all, below)) (subst (λ n. length (get_or told i other).items ≤ length (worker_requests n i requests))
        (sym all) (omega (arith, short, count)))))

    -- what came for a worker is what the trace sends there, in its order
    came_at : (whole : Map) → IsWholeMap (slice_index words) whole → (i : ℕ) → i < workers → parts.came i ≡ coming workers i whole requests replies
    came_at whole of i below =
        let all = all_sent_to workers requests whole parts.replies i in
        let mine = coming workers i whole requests replies in
        let to_one : IsPermutation all mine = filtered_together workers whole requests replies parts.replies some padded_at
        (λ s. nat_eq (worker_of workers (shard_of s.key)) i) in
        sorted_as_sent (λ (s : Sent). s.number) mine (parts.came i)
        (IsPermutation-trans mine all (parts.came i) (IsPermutation-sym all mine to_one) (parts.sent i below whole (whole_at whole of)))
        (in_order workers i whole requests replies) (parts.sorted i below)

    pub have_worked : (now kept left : List ℕ) → All (λ (c : CarrierView). IsCarrier c.view) carriers
        → IsClosedSound (setup_for shared.opening) now kept (views_of seats ++ carried_views carriers)
        → IsClosedReached shared.opening now kept (views_of seats ++ carried_views carriers) → length left ≡ length words
        → IsLeftOf stopped now kept left
        → HaveWorked words held workers budget requests replies stopped now kept left
    have_worked now kept left carry closed reached left_long left_is = record {
      ready = ready;
      dictionary = has;
      some = some;
      few = few;
      views = views_of seats;
      carriers = carried_views carriers;
      closed = subst (λ (k : Setup). IsClosedSound k now kept (views_of seats ++ carried_views carriers)) set_up closed;
      count = length-map seats (λ (seat : SeatView). seat.view) ∙ parts.seats_long;
      carry = carry_at carry;
      none_left = λ going. ap carried_views (parts.none_left going);
      owners = owners;
      by_root = by_root;
      reached = subst (λ (o : Opening). IsClosedReached o now kept (views_of seats ++ carried_views carriers)) opened reached;
      first = first_at;
      last = last_at;
      stops = parts.stops;
      told = parts.replies;
      tables = parts.tables;
      came = parts.came;
      brought = parts.brought;
      offered = λ whole of i below. ap (λ (v : View). v.offers) (view_at i below) ∙ (parts.offered i any below).count whole (whole_at whole of);
      accepted = λ i below.
          subst (λ (v : View). (length (parts.brought i) ≤ v.accepts) × (v.accepts ≤ length (parts.brought i) + 1)) (sym (view_at i below))
          (parts.accepted i any below);
      remaining = parts.remaining;
      remain = λ i below. subst (λ (v : View). v.accepts + parts.remaining i ≡ length (parts.came i)) (sym (view_at i below))
          (parts.remain i any below);
      carriers_are = length-map carriers (λ (c : CarrierView). c.view) ∙ parts.carriers_are;
      halted = parts.halted;
      halts = parts.halts;
      long = long;
      padded = padded_at;
      came_are = came_at;
      parts = λ i below. subst (λ (image : Image). IsPart image workers requests i parts.tables (parts.replies i) (parts.came i)
          (parts.brought i) parts.halted (parts.stops i) (first_at i) (last_at i))
          image_is (part_at i below);
      fresh = λ i below. subst (λ (o : Opening). IsOpenedFor o workers i (first_at i).view) opened (fresh_at i below);
      views_are = views_at;
      stopped_by = parts.stopped_by;
      left_long = left_long;
      left_is = left_is;
    }
