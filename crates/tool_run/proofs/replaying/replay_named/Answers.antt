use Rattle.std.proofs.Common.{inl, inr, refl, subst}
use Rattle.tool_run.specs.Inside.{IsBeforeReading}
use Rattle.tool_run.specs.declared.fault.Fault.TheVariants.{ReadFault}
use Rattle.tool_command.specs.Command.{replay_image}
use Rattle.tool_run.proofs.CallLemmas.{refused_by_image}
use Rattle.tool_run.proofs.DeliveryLemmas.{at_cause}
use Rattle.tool_run.proofs.OutsideLemmas.{good_inside}
use Rattle.tool_run.proofs.ReadingLemmas.{none_taken, not_err, stands}
use Rattle.tool_run.proofs.ReplayLemmas.{can_be_replayed, heap_of, was_read, refused_later, replay_fault}
use Rattle.tool_run.proofs.replaying.replay_named.Goals as goal

pub returns-in_err-recovered-clause-err : goal.returns-in_err-recovered-clause-err
returns-in_err-recovered-clause-err g c =
    at_cause _ c.from_residual.result c.from_residual.ensures
    (λ fault is. refused_by_image (replay_image c.args.name.now c.args.seed) _ _ _ _ fault _ is
    (c.in_err-recovered.ensures.err (replay_image c.args.name.now c.args.seed) tt refl))

pub returns-in_err-schedule-clause-err : goal.returns-in_err-schedule-clause-err
returns-in_err-schedule-clause-err g c =
    let contents = g.I.ImageStore.contents c.args.images.now in
    at_cause _ c.from_residual-in_err-schedule.result c.from_residual-in_err-schedule.ensures
    (λ fault is. refused_later contents c.args.name.now c.in_ok-recovered.recovered c.in_ok-recovered.ensures.ok
    (g.T.Source.left c.args.source.now) c.args.seed _ _ fault _ is
    (c.in_err-schedule.ensures.err contents c.args.name.now))

pub returns-in_err-schedule-clause-unread : goal.returns-in_err-schedule-clause-unread
returns-in_err-schedule-clause-unread g c =
    let contents = g.I.ImageStore.contents c.args.images.now in
    let left = g.T.Source.left c.args.source.now in
    at_cause _ c.from_residual-in_err-schedule.result c.from_residual-in_err-schedule.ensures
    (λ fault is before. absurd (was_read contents left c.args.name.now c.args.seed _ c.in_err-schedule.field-0.0
    (c.in_err-schedule.ensures.err contents c.args.name.now)
    (subst (IsBeforeReading (replay_image c.args.name.now c.args.seed)) is before)))

pub replay_image-requires-clause-schedule : goal.replay_image-requires-clause-schedule
replay_image-requires-clause-schedule g c = λ lifetimes live. can_be_replayed _ _ c.in_ok-schedule.ensures.ok

pub replay_image-requires-clause-kinds : goal.replay_image-requires-clause-kinds
replay_image-requires-clause-kinds g c = λ lifetimes live. c.in_ok-recovered.ensures.ok.is.kinds

pub returns-in_err-product-clause-err : goal.returns-in_err-product-clause-err
returns-in_err-product-clause-err g c =
    let contents = g.I.ImageStore.contents c.args.images.now in
    let left = g.T.Source.left c.args.source.now in
    let recovered = c.in_ok-recovered.recovered in
    let is = c.in_ok-recovered.ensures.ok in
    at_cause _ c.from_residual-in_err-product.result c.from_residual-in_err-product.ensures
    (λ fault same. refused_later contents c.args.name.now recovered is left c.args.seed _ _ fault _ same
    (replay_fault contents c.args.name.now recovered is left _ c.in_ok-schedule.schedule c.in_ok-schedule.ensures.ok _ c.in_err-product.ensures.err))

pub returns-clause-ok : goal.returns-clause-ok
returns-clause-ok g c = (
  c.in_ok-product.ensures.no_image,
  record {
    words = c.in_ok-recovered.recovered.heap.words;
    held = c.in_ok-recovered.recovered.heap.held;
    heap = heap_of (g.I.ImageStore.contents c.args.images.now) c.args.name.now c.in_ok-recovered.recovered c.in_ok-recovered.ensures.ok;
    schedule = c.in_ok-schedule.schedule;
    has_schedule = c.in_ok-schedule.ensures.ok;
    replays = c.in_ok-product.ensures.ok;
  },
)

pub returns-clause-asked : goal.returns-clause-asked
returns-clause-asked g c = record {
  words = c.in_ok-recovered.recovered.heap.words;
  held = c.in_ok-recovered.recovered.heap.held;
  heap = heap_of (g.I.ImageStore.contents c.args.images.now) c.args.name.now c.in_ok-recovered.recovered c.in_ok-recovered.ensures.ok;
  schedule = c.in_ok-schedule.schedule;
  has_schedule = c.in_ok-schedule.ensures.ok;
  asks = c.in_ok-product.ensures.asked;
}

pub returns-in_err-schedule-clause-image_first : goal.returns-in_err-schedule-clause-image_first
returns-in_err-schedule-clause-image_first g c at has =
    let heap = heap_of (g.I.ImageStore.contents c.args.images.now) c.args.name.now c.in_ok-recovered.recovered c.in_ok-recovered.ensures.ok in
    absurd (good_inside (g.I.ImageStore.contents c.args.images.now) c.args.name.now c.args.name.now at refl heap.image has)

pub returns-in_err-product-clause-image_first : goal.returns-in_err-product-clause-image_first
returns-in_err-product-clause-image_first g c at has =
    let heap = heap_of (g.I.ImageStore.contents c.args.images.now) c.args.name.now c.in_ok-recovered.recovered c.in_ok-recovered.ensures.ok in
    absurd (good_inside (g.I.ImageStore.contents c.args.images.now) c.args.name.now c.args.name.now at refl heap.image has)

pub returns-clause-image_first : goal.returns-clause-image_first
returns-clause-image_first g c at has =
    let heap = heap_of (g.I.ImageStore.contents c.args.images.now) c.args.name.now c.in_ok-recovered.recovered c.in_ok-recovered.ensures.ok in
    absurd (good_inside (g.I.ImageStore.contents c.args.images.now) c.args.name.now c.args.name.now at refl heap.image has)

pub returns-in_err-recovered-clause-at_most : goal.returns-in_err-recovered-clause-at_most
returns-in_err-recovered-clause-at_most g c = none_taken _ _

pub returns-in_err-schedule-clause-steady : goal.returns-in_err-schedule-clause-steady
returns-in_err-schedule-clause-steady g c =
    stands _ _ _ c.from_residual-in_err-schedule.result c.in_err-schedule.field-0.0 ReadFault c.from_residual-in_err-schedule.ensures
    (λ fault is. is) c.in_err-schedule.ensures.steady

pub returns-in_err-product-clause-steady : goal.returns-in_err-product-clause-steady
returns-in_err-product-clause-steady g c other = c.in_ok-schedule.ensures.steady (not_err _ _)

pub returns-clause-steady : goal.returns-clause-steady
returns-clause-steady g c other = c.in_ok-schedule.ensures.steady (not_err _ _)

pub returns-in_err-recovered-clause-store_steady : goal.returns-in_err-recovered-clause-store_steady
returns-in_err-recovered-clause-store_steady g c =
    stands _ _ _ c.from_residual.result c.in_err-recovered.field-0.0 ReadFault c.from_residual.ensures
    (λ fault is. is) c.in_err-recovered.ensures.store_steady

pub returns-in_err-schedule-clause-store_steady : goal.returns-in_err-schedule-clause-store_steady
returns-in_err-schedule-clause-store_steady g c other = c.in_ok-recovered.ensures.store_steady (not_err _ _)

pub returns-in_err-product-clause-store_steady : goal.returns-in_err-product-clause-store_steady
returns-in_err-product-clause-store_steady g c other = c.in_ok-recovered.ensures.store_steady (not_err _ _)

pub returns-clause-store_steady : goal.returns-clause-store_steady
returns-clause-store_steady g c other = c.in_ok-recovered.ensures.store_steady (not_err _ _)

pub returns-in_err-recovered-clause-one_failed : goal.returns-in_err-recovered-clause-one_failed
returns-in_err-recovered-clause-one_failed g c = inr refl

pub returns-in_err-schedule-clause-one_failed : goal.returns-in_err-schedule-clause-one_failed
returns-in_err-schedule-clause-one_failed g c = inl (c.in_ok-recovered.ensures.store_steady (not_err _ _))

pub returns-in_err-product-clause-one_failed : goal.returns-in_err-product-clause-one_failed
returns-in_err-product-clause-one_failed g c = inl (c.in_ok-recovered.ensures.store_steady (not_err _ _))

pub returns-clause-one_failed : goal.returns-clause-one_failed
returns-clause-one_failed g c = inl (c.in_ok-recovered.ensures.store_steady (not_err _ _))
