use Rattle.std.proofs.Common.{◌≡◌, ◌∙◌, ℕ, List, length, get_or, slice_index, ap, sym, subst, refl, arith}
use Rattle.std.proofs.lemmas.List.{length-map}
use Rattle.std.specs.BTreeMap.{BTreeMap}
use Rattle.super_block.specs.Contents.{Contents}
use Rattle.core_model.specs.Opening.{opened_view, setup_of}
use Rattle.heap_table.specs.Rule.{Opening, opening_of, setup_for}
use Rattle.heap_rule.specs.Seated.{IsSeatOf, SeatView}
use Rattle.heap_rule.specs.Seats.{AreOpenedSeats}
use Rattle.dict_model.specs.Links.{shards}
use Rattle.dictionary.specs.Reading.{AreMaps}
use Rattle.run_model.specs.Workers.{worker_requests}
use Rattle.run_model.specs.Working.{HaveRoom}
use Rattle.worker_parts.specs.Begun.{IsOpenedFor}
use Rattle.worker_run.specs.Said.{request_of, requests_of}
use Rattle.shared_run.proofs.OpeningLemmas.{opened_fresh}
use Rattle.post_tests.proofs.FirstLemmas.{three_requests}
use Rattle.post_tests.proofs.opening.open.Goals as goal

pub returns-clause-job : goal.returns-clause-job
returns-clause-job c =
    let words = c.args.mapped.words in
    let held = c.args.mapped.held in
    let owners = c.in_ok-owners.owners in
    let shared = c.in_ok-shared.shared in
    let seats = c.in_ok-shared.seats.items in
    let seat = c.in-Some.seat in
    let qs = requests_of c.args.requests.now in
    let parts = c.into_parts-heap.ensures in
    let opening = c.in_ok-shared.ensures.opening ∙ ap (λ (heap : Contents). opening_of heap owners 2 1000000) parts.heap in
    let opened = subst
    (λ (heap : Contents). AreOpenedSeats shared (opened_view (setup_of heap.words 1000000 2) heap.held owners.held owners.roots) seats)
    parts.heap c.in_ok-shared.ensures.seats in
    let fresh = opened_fresh words held 2 1000000 owners.held owners.roots parts.ready c.requires.dictionary c.in_ok-owners.ensures
    shared seats opening opened in
    let two : length seats ≡ 2 = opened.count ∙ c.in_ok-shared.ensures.count in
    let split = sym c.from_vec-seats.ensures.items ∙ c.in-Some.ensures.items in
    let at = ap (λ (l : List SeatView). get_or l 0 seat) split in
    let first : IsSeatOf shared seat × IsOpenedFor shared.opening 2 0 seat.view =
    subst (λ n. IsSeatOf shared seat × IsOpenedFor shared.opening n 0 seat.view) two
    (subst (λ (s : SeatView). IsSeatOf shared s × IsOpenedFor shared.opening (length seats) 0 s.view) at
    (fresh.each 0 seat (omega (arith, two)))) in
    let same : seat.view.setup.opened ≡ words = ap (λ k. k.opened) first.0.setup ∙ ap (λ (o : Opening). (setup_for o).opened) opening in
    let read = subst (λ (ms : List (BTreeMap ℕ (List ℕ))). AreMaps (slice_index words) shards ms) (sym c.deref.ensures.value) parts.maps in
    let rooms = c.in_ok-rooms.ensures (slice_index words) c.requires.dictionary.maps read c.in_ok-longest.ensures in
    let lines : length c.args.requests.now ≡ 3 = sym (length-map c.args.requests.now request_of) ∙ ap length c.requires.trace in
    let longest : length (worker_requests 2 0 qs) ≡ 3 = three_requests 2 0 qs refl refl c.requires.trace in
    record {
      below = omega arith;
      seat = first.0;
      fresh = first.1;
      rooms = subst (λ (ws : List ℕ). HaveRoom (slice_index ws) qs (worker_requests 2 0 qs) c.in_ok-rooms.rooms.items) (sym same) rooms;
      empty = c.in_ok-replies.ensures.items;
      reserved = (let room = c.in_ok-replies.ensures.capacity in omega (arith, longest, lines, room));
    }
