use Rattle.std.proofs.Common.{◌≡◌, [], slice_index, subst, sym, ap, ◌∙◌, arith}
use contract.BorrowLft.{⊑_meet, ⊑_static}
use Rattle.heap_model.specs.Header.{capacity_of}
use Rattle.line_memory.specs.View.{View}
use Rattle.block_heap.specs.SeqState.{seat_of}
use Rattle.dict_model.specs.Links.{shards}
use Rattle.dictionary.specs.Reading.{AreMaps}
use Rattle.run_model.specs.Opened.{HasMaps}
use Rattle.run_model.specs.Progress.{HasAnswered}
use Rattle.run_model.specs.Workers.{worker_requests}
use Rattle.run_model.specs.Working.{HaveRoom}
use Rattle.worker_run.specs.Left.{AreWholeImage}
use Rattle.worker_run.specs.Said.{requests_of}
use Rattle.worker_run.proofs.UnmovedLemmas.{no_room_needed}
use Rattle.dictionary_heap.proofs.OpenedLemmas.{has_root, run_begins}
use Rattle.dictionary_tests.proofs.TestLeftLemmas.{capacity_seen, capacity_durable, whole_seen, few_requests}
use Rattle.dictionary_tests.proofs.runs.run_requests.Goals as goal

pub work_off-stopped-requires : goal.work_off-stopped-requires
work_off-stopped-requires g c κs within =
    let words = c.args.heap.words in
    let s = c.in_ok-seat.seat in
    let qs = requests_of c.args.requests.now in
    let opened = c.in_ok-seat.ensures in
    let maps = c.requires.dictionary.maps in
    let same : slice_index s.parts.words.volatile ≡ slice_index words = ap (λ (m : View). slice_index m.volatile) opened.opens.words_are in
    let begun = subst (λ image. HasAnswered image [] (seat_of s)) (sym same)
    (run_begins words c.args.heap.held c.args.budget s opened c.requires.dictionary) in
    let read = subst (AreMaps (slice_index words) shards) (sym c.deref.ensures.value) c.in_ok-maps.ensures.ok in
    let rooms = c.in_ok-rooms.ensures (slice_index words) maps read c.in_ok-longest.ensures in
    let exact = c.in_ok-replies.ensures.exact in
    let few = few_requests c.args.requests.now in
    -- the heap's chance lives as long as the source of chances
    let none = ⊑_static κs.1.1.1.1.1.1.0 in
    let one = ⊑_meet κs.1.1.1.1.1.1.0 g.row.C-One.lives [] within.0 none in
    let lives = ⊑_meet κs.1.1.1.1.1.1.0 _ _ one (⊑_meet κs.1.1.1.1.1.1.0 _ _ (⊑_meet κs.1.1.1.1.1.1.0 _ _ one
    (⊑_meet κs.1.1.1.1.1.1.0 _ _ (⊑_meet κs.1.1.1.1.1.1.0 _ _ one (⊑_meet κs.1.1.1.1.1.1.0 _ _ (⊑_meet κs.1.1.1.1.1.1.0 _ _ one one) none))
    none)) none) in (
      lives,
      (
        within.1,
        (
          -- the outbox has nothing that ends
          ⊑_static κs.1.1.1.1.1.1.1.1.0,
          (
            omega arith,
            (
              begun,
              (
                λ shard small mine. has_root shard (omega arith),
                (
                  subst HasMaps (sym same) maps,
                  (
                    subst (λ image. HaveRoom image qs (worker_requests 1 0 qs) c.in_ok-rooms.rooms.items) (sym same) rooms,
                    (c.requires.short, (c.in_ok-replies.ensures.items, (omega arith, (tt, no_room_needed 1 0 qs c.requires.unmoved)))),
                  ),
                ),
              ),
            ),
          ),
        ),
      ),
    )

pub image_left-image-requires-clause-whole : goal.image_left-image-requires-clause-whole
image_left-image-requires-clause-whole g c = λ lifetimes bounds.
    subst AreWholeImage (sym c.finish.ensures.volatile)
    (whole_seen c.args.heap.words c.args.heap.held c.args.budget c.in_ok-seat.seat c.work_off-stopped.new.seat c.maps_of.ensures.ready.formed
    c.in_ok-seat.ensures c.work_off-stopped.ensures.goes_on)

pub image_left-image-requires-clause-layout : goal.image_left-image-requires-clause-layout
image_left-image-requires-clause-layout g c = λ lifetimes bounds.
    c.geometry-geometry.ensures ∙ sym (ap (λ ws. capacity_of (slice_index ws)) c.finish.ensures.volatile
    ∙ capacity_seen c.args.heap.words c.args.heap.held c.args.budget c.in_ok-seat.seat c.work_off-stopped.new.seat
    c.maps_of.ensures.ready.formed c.in_ok-seat.ensures c.work_off-stopped.ensures.goes_on)

pub image_left-image-requires-clause-same : goal.image_left-image-requires-clause-same
image_left-image-requires-clause-same g c = λ lifetimes bounds.
    let formed = c.maps_of.ensures.ready.formed in
    let s = c.in_ok-seat.seat in
    let t = c.work_off-stopped.new.seat in
    let kept = c.work_off-stopped.ensures.goes_on in
    ap (λ ws. capacity_of (slice_index ws)) c.finish.ensures.durable
    ∙ capacity_durable c.args.heap.words c.args.heap.held c.args.budget s t formed c.in_ok-seat.ensures kept
    ∙ sym (ap (λ ws. capacity_of (slice_index ws)) c.finish.ensures.volatile
    ∙ capacity_seen c.args.heap.words c.args.heap.held c.args.budget s t formed c.in_ok-seat.ensures kept)
