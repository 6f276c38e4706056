-- What the workers ended with, taken apart from the last one on, and put together by the workers' numbers.
use Rattle.std.proofs.Common.{◌≡◌, ℕ, zero, suc, ◌+◌, ◌-◌, ◌<◌, ◌≤◌, inl, inr, Bool, true, false, List, [], ◌∷◌, ◌++◌, get_or, length, length-append, map, Contains, refl, subst, sym, ap, ◌∙◌, arith}
use Rattle.std.proofs.lemmas.Bool.{or_cases, or_left, or_parts, or_right}
use Rattle.std.proofs.lemmas.List.{get_or-map, get_or_default, length-map}
use Rattle.std.proofs.lemmas.List.Elements.{Contains-append_cases}
use Rattle.std.specs.List.Sorted.{IsPermutation}
use Rattle.heap_model.proofs.MemberLemmas.{in_none}
use Rattle.dict_model.specs.Requests.{Request}
use Rattle.dict_model.specs.Shards.{Map}
use Rattle.heap_rule.specs.Carried.{CarrierView}
use Rattle.heap_rule.specs.Seated.{SeatView}
use Rattle.heap_table.specs.AtTable.{SharedView}
use Rattle.run_model.specs.Arrivals.{IsWholeMap}
use Rattle.run_model.specs.Workers.{Replies}
use Rattle.run_model.proofs.SumLemmas.{sum_over}
use Rattle.run_rows.specs.declared.arriving.Ended.{Ended}
use Rattle.run_rows.specs.Ended.{HaveEnded, IsEndedOf}
use Rattle.run_rows.specs.Posts.{HasOffered, all_sent_to}
use Rattle.worker_parts.specs.Jobs.{IsPartOf, image_of}
use Rattle.worker_run.specs.Said.{Told, replies_of}
use Rattle.shared_run.specs.Dealing.{Queue}
use Rattle.shared_run.specs.Gathering.{AreParts}
use Rattle.shared_run.proofs.HandedLemmas.{sum_last}
use Rattle.shared_run.proofs.TakenApartLemmas.{AreTaken, at_back, backwards_long, carriers_of, seats_of, told_of, was_stopped}

-- a run is stopped where one of the workers was
stops_where : (ended : List Ended) → was_stopped ended ≡ true → (at : ℕ) × (at < length ended)
    × ((any : Ended) → (get_or ended at any).worked.stopped ≡ true)
stops_where [] e = let no : false ≡ true = e in absurd (cc)
stops_where (one ∷ rest) e = elim (or_cases (was_stopped rest) one.worked.stopped e)
    as (λ _. (at : ℕ) × (at < length (one ∷ rest)) × ((any : Ended) → (get_or (one ∷ rest) at any).worked.stopped ≡ true)) [
      | inl later ↦ let found = stops_where rest later in (suc found.0, (let below = found.1 in omega (arith, below)), λ any. found.2 any)
      | inr here ↦ (0, omega arith, λ any. here)
    ]

so_stopped : (ended : List Ended) (at : ℕ) (any : Ended) → at < length ended → (get_or ended at any).worked.stopped ≡ true → was_stopped ended ≡ true
so_stopped [] at any below is = absurd (omega (arith, below))
so_stopped (one ∷ rest) zero any below is = or_right (was_stopped rest) one.worked.stopped is
so_stopped (one ∷ rest) (suc at) any below is = or_left (was_stopped rest) one.worked.stopped (so_stopped rest at any (omega (arith, below)) is)

-- how many carriers there are, what is so of each, and where there is none
carriers_long : (ended : List Ended) (count : ℕ → ℕ) → ((i place : ℕ) (any : Ended) → i + place + 1 ≡ length ended
    → count i ≡ length (get_or ended place any).carriers.items)
    → length (carriers_of ended) ≡ sum_over count 0 (length ended)
carriers_long [] count same = refl
carriers_long (one ∷ rest) count same =
    let long = length-append (carriers_of rest) one.carriers.items in
    let before = carriers_long rest count (λ i place any both. same i (suc place) any (omega (arith, both))) in
    let last = sum_last count 0 (length rest) in
    let here : count (0 + length rest) ≡ length one.carriers.items = same (0 + length rest) 0 one (omega arith) in
    omega (arith, long, before, last, here)

each_carrier : (P : CarrierView → Type 0) (ended : List Ended) → ((at : ℕ) (any : Ended) → at < length ended → (c : CarrierView)
    → Contains (get_or ended at any).carriers.items c → P c)
    → (c : CarrierView) → Contains (carriers_of ended) c → P c
each_carrier P [] each c there = absurd (in_none c there)
each_carrier P (one ∷ rest) each c there = elim (Contains-append_cases (carriers_of rest) one.carriers.items c there) as (λ _. P c) [
  | inl later ↦ each_carrier P rest (λ at any below. each (suc at) any (omega (arith, below))) c later
  | inr here ↦ each 0 one (omega arith) c here
]

no_carrier : (ended : List Ended) → ((at : ℕ) (any : Ended) → at < length ended → (get_or ended at any).worked.stopped ≡ false
    → (get_or ended at any).carriers.items ≡ [])
    → was_stopped ended ≡ false → carriers_of ended ≡ []
no_carrier [] none going = refl
no_carrier (one ∷ rest) none going =
    let both = or_parts (was_stopped rest) one.worked.stopped going in
    ap (λ xs. xs ++ one.carriers.items) (no_carrier rest (λ at any below. none (suc at) any (omega (arith, below))) both.0)
    ∙ none 0 one (omega arith) both.1

module _ (shared : SharedView) (requests : List Request) (all : List Ended) (seats : List SeatView) (told : List Queue)
    (carriers : List CarrierView) (stopped : Bool)
    (taken : AreTaken all [] seats told carriers stopped) where
  -- all of them are taken
  abbrev same : all ≡ taken.taken
  same = taken.split

  seats_all : seats ≡ seats_of all
  seats_all = taken.seats_are ∙ ap seats_of (sym same)

  told_all : map (λ (q : Queue). q.items) told ≡ told_of all
  told_all = taken.told_are ∙ ap told_of (sym same)

  carriers_all : carriers ≡ carriers_of all
  carriers_all = taken.carriers_are ∙ ap carriers_of (sym same)

  stopped_all : stopped ≡ was_stopped all
  stopped_all = taken.stopped_is ∙ ap was_stopped (sym same)

  seats_long : length seats ≡ length all
  seats_long = ap length seats_all ∙ backwards_long (λ (one : Ended). one.worked.seat) all

  told_long : length told ≡ length all
  told_long = sym (length-map told (λ (q : Queue). q.items)) ∙ ap length told_all ∙ backwards_long (λ (one : Ended). one.worked.replies.items) all

  -- of no worker
  parts_of_none : all ≡ [] → AreParts shared requests 0 seats told carriers stopped
  parts_of_none none = record {
    seats_long = seats_long ∙ ap length none;
    told_long = told_long ∙ ap length none;
    tables = λ shard. false;
    halted = false;
    replies = λ i. [];
    came = λ i. [];
    brought = λ i. [];
    stops = λ i. false;
    remaining = λ i. 0;
    told_are = λ i any below. absurd (omega (arith, below));
    each = λ i any below. absurd (omega (arith, below));
    sorted = λ i below. absurd (omega (arith, below));
    sent = λ i below. absurd (omega (arith, below));
    offered = λ i any below. absurd (omega (arith, below));
    accepted = λ i any below. absurd (omega (arith, below));
    remain = λ i any below. absurd (omega (arith, below));
    carriers_are = ap length (carriers_all ∙ ap carriers_of none);
    at_table = λ c there. absurd (in_none c (subst (λ cs. Contains cs c) (carriers_all ∙ ap carriers_of none) there));
    none_left = λ going. carriers_all ∙ ap carriers_of none;
    halts = λ halt. let no : false ≡ true = halt in absurd (cc);
    stopped_by = (
      λ is. let no : false ≡ true = sym (stopped_all ∙ ap was_stopped none) ∙ is in absurd (cc),
      λ one. absurd (let below = one.1 in omega (arith, below)),
    );
  }

  -- of some workers, each by its number
  module _ (any : Ended) (some : 0 < length all) (ended : HaveEnded shared requests (length all) all) where
    abbrev place : ℕ → ℕ
    place i = length all - (i + 1)

    inside : (i : ℕ) → place i < length all
    inside i = omega (arith, some)

    abbrev one : ℕ → Ended
    one i = get_or all (place i) any

    is : (i : ℕ) → IsEndedOf shared requests ended.tables ended.halted ended.told (one i)
    is i = ended.each (place i) any (inside i)

    turn : (i : ℕ) → i < length all → ((one i).worked.worker.workers ≡ length all) × ((one i).worked.worker.number ≡ i)
    turn i below =
        let is_in = ended.turns.each (place i) any (inside i) in
        let number = is_in.1 in (is_in.0, omega (arith, number, below))

    seat_at : (i : ℕ) (d : SeatView) → i < length all → get_or seats i d ≡ (one i).worked.seat
    seat_at i d below = ap (λ xs. get_or xs i d) seats_all ∙ at_back (λ (x : Ended). x.worked.seat) all i (place i) d any (omega (arith, below))

    queue_at : (i : ℕ) (d : Queue) → i < length all → (get_or told i d).items ≡ (one i).worked.replies.items
    queue_at i d below =
        sym (get_or-map (λ (q : Queue). q.items) told i d d.items (let long = told_long in omega (arith, long, below)))
        ∙ ap (λ (xs : List (List Told)). get_or xs i d.items) told_all
        ∙ at_back (λ (x : Ended). x.worked.replies.items) all i (place i) d.items any (omega (arith, below))

    told_at : (i : ℕ) → i < length all → ended.told i ≡ replies_of (one i).worked.replies.items
    told_at i below = ap ended.told (sym (turn i below).1) ∙ (is i).told_is

    part_at : (i : ℕ) (d : SeatView) → i < length all
        → IsPartOf shared requests (length all) i ended.tables (get_or seats i d) (ended.told i) (is i).came (is i).brought ended.halted
        (one i).worked.stopped
    part_at i d below =
        let w = (one i).worked in
        subst (λ (s : SeatView). IsPartOf shared requests (length all) i ended.tables s (ended.told i) (is i).came
        (is i).brought ended.halted w.stopped) (sym (seat_at i d below))
        (subst (λ (r : Replies). IsPartOf shared requests (length all) i ended.tables w.seat r (is i).came
        (is i).brought ended.halted w.stopped) (sym (told_at i below))
        (subst (λ n. IsPartOf shared requests (length all) n ended.tables w.seat (replies_of w.replies.items) (is i).came
        (is i).brought ended.halted w.stopped) (turn i below).1
        (subst (λ n. IsPartOf shared requests n w.worker.number ended.tables w.seat (replies_of w.replies.items) (is i).came
        (is i).brought ended.halted w.stopped) (turn i below).0
        (is i).worked.part)))

    sent_at : (i : ℕ) → i < length all → (whole : Map) → IsWholeMap (image_of shared) whole
        → IsPermutation (all_sent_to (length all) requests whole ended.told i) (is i).came
    sent_at i below whole of =
        let w = (one i).worked in
        subst (λ n. IsPermutation (all_sent_to (length all) requests whole ended.told n) (is i).came) (turn i below).1
        (subst (λ n. IsPermutation (all_sent_to n requests whole ended.told w.worker.number) (is i).came) (turn i below).0 ((is i).sent whole of))

    offered_at : (i : ℕ) (d : SeatView) → i < length all → HasOffered shared (length all) requests i (ended.told i) (get_or seats i d).view
    offered_at i d below =
        let w = (one i).worked in
        subst (λ (s : SeatView). HasOffered shared (length all) requests i (ended.told i) s.view) (sym (seat_at i d below))
        (subst (λ n. HasOffered shared (length all) requests n (ended.told n) w.seat.view) (turn i below).1
        (subst (λ n. HasOffered shared n requests w.worker.number (ended.told w.worker.number) w.seat.view) (turn i below).0 (is i).offered))

    -- the worker with the number that is counted from the last one on
    number_of : (at : ℕ) → at < length all → place (place at) ≡ at
    number_of at below = omega (arith, below)

    parts_of_some : AreParts shared requests (length all) seats told carriers stopped
    parts_of_some = record {
      seats_long = seats_long;
      told_long = told_long;
      tables = ended.tables;
      halted = ended.halted;
      replies = ended.told;
      came = λ i. (is i).came;
      brought = λ i. (is i).brought;
      stops = λ i. (one i).worked.stopped;
      remaining = λ i. length (one i).carriers.items;
      told_are = λ i d below. told_at i below ∙ ap replies_of (sym (queue_at i d below));
      each = part_at;
      sorted = λ i below. (is i).sorted;
      sent = sent_at;
      offered = offered_at;
      accepted = λ i d below. subst (λ (s : SeatView). (length (is i).brought ≤ s.view.accepts) × (s.view.accepts ≤ length (is i).brought + 1))
          (sym (seat_at i d below)) (is i).accepted;
      remain = λ i d below. subst (λ (s : SeatView). s.view.accepts + length (one i).carriers.items ≡ length (is i).came)
          (sym (seat_at i d below)) (is i).remain;
      carriers_are = ap length carriers_all ∙ carriers_long all (λ i. length (one i).carriers.items)
          (λ i at d both. ap (λ n. length (get_or all n any).carriers.items) (let e : place i ≡ at = omega (arith, both) in e)
          ∙ ap (λ (x : Ended). length x.carriers.items) (get_or_default all at any d (omega (arith, both))));
      at_table = λ c there. each_carrier (λ k. k.table ≡ shared.table) all (λ at d below. (ended.each at d below).at_table) c
          (subst (λ cs. Contains cs c) carriers_all there);
      none_left = λ going. carriers_all ∙ no_carrier all (λ at d below. (ended.each at d below).none_left) (sym stopped_all ∙ going);
      halts = λ halt. let found = ended.halts halt in stopped_all ∙ so_stopped all found.0 any found.1 (found.2 any);
      stopped_by = (
        λ e.
            let found = stops_where all (sym stopped_all ∙ e) in
            (place found.0, inside found.0, ap (λ n. (get_or all n any).worked.stopped) (number_of found.0 found.1) ∙ found.2 any),
        λ found. stopped_all ∙ so_stopped all (place found.0) any (inside found.0) found.2,
      );
    }

pub parts_of_all : (shared : SharedView) (requests : List Request) (all : List Ended) (seats : List SeatView) (told : List Queue)
    (carriers : List CarrierView) (stopped : Bool)
    → AreTaken all [] seats told carriers stopped → HaveEnded shared requests (length all) all
    → AreParts shared requests (length all) seats told carriers stopped
parts_of_all shared requests [] seats told carriers stopped taken ended = parts_of_none shared requests [] seats told carriers stopped taken refl
parts_of_all shared requests (one ∷ others) seats told carriers stopped taken ended =
    parts_of_some shared requests (one ∷ others) seats told carriers stopped taken one (let more : 0 < length (one ∷ others) = omega arith in
    more) ended
