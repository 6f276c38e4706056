use Rattle.std.proofs.Common.{◌≡◌, ◌++◌, List, length, slice_index, ap, sym, subst, ◌∙◌, arith}
use Rattle.std.proofs.lemmas.List.{length-map}
use Rattle.std.proofs.lemmas.Option.{IfSome_then}
use Rattle.heap_model.specs.Header.{capacity_of}
use Rattle.super_block.specs.Contents.{Contents}
use Rattle.core_model.specs.View.{Setup, View}
use Rattle.heap_table.specs.AtTable.{IsClosedSound}
use Rattle.heap_table.specs.Rule.{Opening, setup_for}
use Rattle.heap_rule.specs.Carried.{CarrierView, carried_views}
use Rattle.heap_rule.specs.Seated.{SeatView}
use Rattle.heap_rule.specs.Seats.{views_of}
use Rattle.worker_run.specs.Said.{Told, request_of, requests_of, reply_of, replies_of}
use Rattle.run_model.specs.Opened.{HasMaps}
use Rattle.run_model.specs.Runs.{answered}
use Rattle.tool_ports.specs.Chances.{unasked}
use Rattle.tool_ports.proofs.ChanceLemmas.{comes_then}
use Rattle.shared_run.specs.Following.{AreAfterRun}
use Rattle.shared_run.specs.Gathering.{AreParts}
use Rattle.shared_run.proofs.ClosedLemmas.{both_long, first_of, kept_capacity, kept_whole, now_capacity, now_long, now_whole}
use Rattle.shared_run.proofs.DealtLemmas.{dealt_in_turn}
use Rattle.shared_run.proofs.HandedLemmas.{all_back}
use Rattle.shared_run.proofs.RunLemmas.{have_worked}
use Rattle.shared_run.proofs.ScrambledLemmas.{at_capacity}
use Rattle.shared_run.proofs.run.run_workers.Goals as goal

-- the views that the heap is closed with: the seats', and the carriers that are left
abbrev all_views : List SeatView → List CarrierView → List View
all_views seats carriers = views_of seats ++ carried_views carriers

pub close_shared-requires : goal.close_shared-requires
close_shared-requires g c =
    let got = c.in_ok-seats.field-0 in
    let opened = c.in_ok-shared.ensures.opening in
    let jobs = c.in_ok-shared.ensures.count in
    let ended = c.in_ok-ended.ensures.ended.count in
    let workers : length c.in_ok-ended.ended.items ≡ c.args.workers = omega arith in
    let parts = subst (λ n. AreParts c.in_ok-shared.field-0.shared
    (requests_of c.args.requests.now) n got.seats.items got.told.items got.carriers.items got.stopped) workers c.in_ok-seats.ensures.parts in
    let long = parts.seats_long in
    let least = c.requires.some in
    all_back c.in_ok-shared.field-0.shared (requests_of c.args.requests.now)
    c.args.workers got.seats.items got.told.items got.carriers.items got.stopped parts
    (first_of got.seats.items (omega arith)) least
    (subst (λ (o : Opening). HasMaps (slice_index (setup_for o).opened)) (sym opened.2) c.requires.dictionary.maps)
    (sym c.in_ok-shared.ensures.seats)

pub image_left-image-requires-clause-whole : goal.image_left-image-requires-clause-whole
image_left-image-requires-clause-whole g c κs within = now_whole c.args.mapped.words c.args.mapped.held c.args.workers c.args.budget
    c.in_ok-closed.closed.now c.in_ok-closed.closed.kept (all_views c.in_ok-seats.field-0.seats.items c.in_ok-seats.field-0.carriers.items)
    c.open.ensures.ready
    (subst (λ (k : Setup). IsClosedSound k c.in_ok-closed.closed.now c.in_ok-closed.closed.kept
    (all_views c.in_ok-seats.field-0.seats.items c.in_ok-seats.field-0.carriers.items))
    (ap setup_for c.in_ok-shared.ensures.opening.2) c.in_ok-closed.ensures.sound)

pub image_left-image-requires-clause-kept : goal.image_left-image-requires-clause-kept
image_left-image-requires-clause-kept g c κs within = kept_whole c.args.mapped.words c.args.mapped.held c.args.workers c.args.budget
    c.in_ok-closed.closed.now c.in_ok-closed.closed.kept (all_views c.in_ok-seats.field-0.seats.items c.in_ok-seats.field-0.carriers.items)
    c.open.ensures.ready
    (subst (λ (k : Setup). IsClosedSound k c.in_ok-closed.closed.now c.in_ok-closed.closed.kept
    (all_views c.in_ok-seats.field-0.seats.items c.in_ok-seats.field-0.carriers.items))
    (ap setup_for c.in_ok-shared.ensures.opening.2) c.in_ok-closed.ensures.sound)

pub image_left-image-requires-clause-layout : goal.image_left-image-requires-clause-layout
image_left-image-requires-clause-layout g c κs within = c.geometry-geometry.ensures
    ∙ ap (λ (heap : Contents). capacity_of (slice_index heap.words)) c.heap.ensures
    ∙ sym (now_capacity c.args.mapped.words c.args.mapped.held c.args.workers c.args.budget c.in_ok-closed.closed.now c.in_ok-closed.closed.kept
    (all_views c.in_ok-seats.field-0.seats.items c.in_ok-seats.field-0.carriers.items) c.open.ensures.ready
    (subst (λ (k : Setup). IsClosedSound k c.in_ok-closed.closed.now c.in_ok-closed.closed.kept
    (all_views c.in_ok-seats.field-0.seats.items c.in_ok-seats.field-0.carriers.items))
    (ap setup_for c.in_ok-shared.ensures.opening.2) c.in_ok-closed.ensures.sound))

pub image_left-image-requires-clause-same : goal.image_left-image-requires-clause-same
image_left-image-requires-clause-same g c κs within = c.geometry-geometry.ensures
    ∙ ap (λ (heap : Contents). capacity_of (slice_index heap.words)) c.heap.ensures
    ∙ sym (kept_capacity c.args.mapped.words c.args.mapped.held c.args.workers c.args.budget c.in_ok-closed.closed.now
    c.in_ok-closed.closed.kept (all_views c.in_ok-seats.field-0.seats.items c.in_ok-seats.field-0.carriers.items) c.open.ensures.ready
    (subst (λ (k : Setup). IsClosedSound k c.in_ok-closed.closed.now c.in_ok-closed.closed.kept
    (all_views c.in_ok-seats.field-0.seats.items c.in_ok-seats.field-0.carriers.items))
    (ap setup_for c.in_ok-shared.ensures.opening.2) c.in_ok-closed.ensures.sound))

pub returns-clause-worked : goal.returns-clause-worked
returns-clause-worked g c =
    let words = c.args.mapped.words in
    let held = c.args.mapped.held in
    let lines = c.args.requests.now in
    let shared = c.in_ok-shared.field-0.shared in
    let opened = c.in_ok-shared.ensures.opening in
    let got = c.in_ok-seats.field-0 in
    let closed = c.in_ok-closed.closed in
    let jobs = c.in_ok-shared.ensures.count in
    let ended = c.in_ok-ended.ensures.ended.count in
    let least = c.requires.some in
    let workers : length c.in_ok-ended.ended.items ≡ c.args.workers = omega arith in
    let parts = subst (λ n. AreParts shared (requests_of lines) n got.seats.items got.told.items got.carriers.items got.stopped)
    workers c.in_ok-seats.ensures.parts in
    let count = parts.seats_long in
    let views = all_views got.seats.items got.carriers.items in
    let sound = subst (λ (k : Setup). IsClosedSound k closed.now closed.kept views) (ap setup_for opened.2) c.in_ok-closed.ensures.sound in
    let long = c.put_in_order.ensures.long in
    let replies_long = length-map c.put_in_order.new.replies.items reply_of in
    let requests_long = length-map lines request_of in
    let ready = c.open.ensures.ready in
    let both = both_long words held c.args.workers c.args.budget closed.now closed.kept views ready sound in (
      closed.now,
      closed.kept,
      have_worked shared (requests_of lines) c.args.workers got.seats.items got.told.items got.carriers.items got.stopped parts
          (first_of got.seats.items (omega arith)) least
          words held c.args.budget ready c.requires.dictionary c.requires.few opened.0 opened.1 opened.2
          (replies_of c.put_in_order.new.replies.items) (omega arith) c.put_in_order.ensures.each closed.now closed.kept
          c.image_left-image.result.items c.in_ok-seats.ensures.carry
          c.in_ok-closed.ensures.sound c.in_ok-closed.ensures.reached
          (c.image_left-image.ensures.long both ∙ now_long words held c.args.workers c.args.budget closed.now closed.kept views ready sound)
          c.image_left-image.ensures.left,
    )

pub returns-clause-after : goal.returns-clause-after
returns-clause-after g c = IfSome_then c.in_ok-maps.maps c.in_ok-maps.ensures.after (λ new after. record {
  old = c.in_ok-shared.field-0.maps.items;
  were = c.in_ok-shared.ensures.maps;
  after = subst (λ (rs : List Told). AreAfterRun (answered (requests_of c.args.requests.now) (replies_of rs))
      c.in_ok-shared.field-0.maps.items new.items) c.deref.ensures.value after;
})

pub returns-in_err-replies-clause-chances : goal.returns-in_err-replies-clause-chances
returns-in_err-replies-clause-chances g c = unasked

pub returns-in_err-maps-clause-chances : goal.returns-in_err-maps-clause-chances
returns-in_err-maps-clause-chances g c = comes_then _ _ _ _ _ c.open.ensures.chances c.image_left-image.ensures.chances

pub returns-clause-chances : goal.returns-clause-chances
returns-clause-chances g c = comes_then _ _ _ _ _ c.open.ensures.chances c.image_left-image.ensures.chances

pub returns-clause-scrambled : goal.returns-clause-scrambled
returns-clause-scrambled g c stops = record {
  before = _;
  asked = c.open.ensures.chances;
  drawn = at_capacity _ _ _ _ _ _ (c.geometry-geometry.ensures ∙ ap (λ (heap : Contents). capacity_of (slice_index heap.words)) c.heap.ensures)
      (c.image_left-image.ensures.scrambled stops);
}

pub returns-clause-asked : goal.returns-clause-asked
returns-clause-asked g c = record {
  dealt = c.open.new.chances;
  workers_first = dealt_in_turn g.C.Chances.chance_gives c.args.chances.now c.open.new.chances c.in_ok-shared.field-0.jobs.items c.args.workers
      c.in_ok-shared.ensures.count c.in_ok-shared.ensures.turns c.in_ok-shared.ensures.given;
  then_nothing = c.image_left-image.ensures.unasked;
  then_words = λ stops. at_capacity _ _ _ _ _ _ (c.geometry-geometry.ensures
      ∙ ap (λ (heap : Contents). capacity_of (slice_index heap.words)) c.heap.ensures)
      (c.image_left-image.ensures.scrambled stops);
}
