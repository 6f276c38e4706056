use Rattle.std.proofs.Common.{List, IsSomeAnd, inl, inr, refl, sym, subst, slice_index}
use Rattle.image_run.specs.Running.{RunsRequests, options_of}
use Rattle.tool_command.specs.Command.{run_image}
use Rattle.worker_run.specs.Said.{Line, requests_of, ValuesAreShort}
use Rattle.tool_run.specs.declared.fault.Fault.TheVariants.{ReadFault}
use Rattle.tool_run.proofs.CallLemmas.{refused_by_image}
use Rattle.tool_run.proofs.DeliveryLemmas.{at_cause}
use Rattle.tool_run.proofs.OutsideLemmas.{mapped_inside}
use Rattle.tool_run.proofs.ReadingLemmas.{none_taken, not_err, stands}
use Rattle.tool_run.proofs.TraceLemmas.{run_asks, runs_trace}
use Rattle.worker_run.proofs.SaidLemmas.{lines_short}
use Rattle.tool_run.proofs.working.run_command.Goals as goal

pub returns-in_err-mapped-clause-err : goal.returns-in_err-mapped-clause-err
returns-in_err-mapped-clause-err g c =
    at_cause _ c.from_residual.result c.from_residual.ensures
    (λ fault is. refused_by_image (run_image c.args.name.now (options_of c.args.options)) _ _ _ _ fault _ is
    (c.in_err-mapped.ensures.err (run_image c.args.name.now (options_of c.args.options)) tt refl))

pub run_image-requires-clause-short : goal.run_image-requires-clause-short
run_image-requires-clause-short g c lifetimes within =
    let lines = c.in_ok-requests.ensures.ok in
    subst (λ (l : List Line). ValuesAreShort (requests_of l)) (sym c.deref.ensures.value) (lines_short _ _ lines.lines_are)

pub returns-clause-ok : goal.returns-clause-ok
returns-clause-ok g c =
    let product = c.in_ok-product.product in
    runs_trace _ _ _ _ _ c.in_ok-mapped.ensures.ok c.in_ok-requests.requests.items c.in_ok-requests.ensures.ok
    (options_of c.args.options) product.image product.text
    (subst (λ (l : List Line). IsSomeAnd product.image (λ image. RunsRequests (slice_index c.in_ok-mapped.mapped.words) (requests_of l)
    (options_of c.args.options) image product.text))
    c.deref.ensures.value c.in_ok-product.ensures.ok)

pub returns-clause-asked : goal.returns-clause-asked
returns-clause-asked g c =
    run_asks g.C.Chances.seed_gives g.C.Chances.chance_gives g.C.Chances.word_gives _ _ _ _ c.in_ok-mapped.ensures.ok
    (options_of c.args.options) _ _ c.in_ok-product.product.image
    c.in_ok-product.ensures.asked

pub returns-in_err-requests-clause-image_first : goal.returns-in_err-requests-clause-image_first
returns-in_err-requests-clause-image_first g c at has = absurd (mapped_inside
    (g.I.ImageStore.contents c.args.images.now) c.args.name.now c.args.name.now at refl c.in_ok-mapped.ensures.ok.image has)

pub returns-in_err-product-clause-image_first : goal.returns-in_err-product-clause-image_first
returns-in_err-product-clause-image_first g c at has = absurd (mapped_inside
    (g.I.ImageStore.contents c.args.images.now) c.args.name.now c.args.name.now at refl c.in_ok-mapped.ensures.ok.image has)

pub returns-clause-image_first : goal.returns-clause-image_first
returns-clause-image_first g c at has = absurd (mapped_inside (g.I.ImageStore.contents c.args.images.now)
    c.args.name.now c.args.name.now at refl c.in_ok-mapped.ensures.ok.image has)

pub returns-in_err-mapped-clause-at_most : goal.returns-in_err-mapped-clause-at_most
returns-in_err-mapped-clause-at_most g c = none_taken _ _

pub returns-in_err-requests-clause-steady : goal.returns-in_err-requests-clause-steady
returns-in_err-requests-clause-steady g c =
    stands _ _ _ c.from_residual-in_err-requests.result c.in_err-requests.field-0.0 ReadFault c.from_residual-in_err-requests.ensures
    (λ fault is. is) c.in_err-requests.ensures.steady

pub returns-in_err-product-clause-steady : goal.returns-in_err-product-clause-steady
returns-in_err-product-clause-steady g c other = c.in_ok-requests.ensures.steady (not_err _ _)

pub returns-clause-steady : goal.returns-clause-steady
returns-clause-steady g c other = c.in_ok-requests.ensures.steady (not_err _ _)

pub returns-in_err-mapped-clause-store_steady : goal.returns-in_err-mapped-clause-store_steady
returns-in_err-mapped-clause-store_steady g c =
    stands _ _ _ c.from_residual.result c.in_err-mapped.field-0.0 ReadFault c.from_residual.ensures
    (λ fault is. is) c.in_err-mapped.ensures.store_steady

pub returns-in_err-requests-clause-store_steady : goal.returns-in_err-requests-clause-store_steady
returns-in_err-requests-clause-store_steady g c other = c.in_ok-mapped.ensures.store_steady (not_err _ _)

pub returns-in_err-product-clause-store_steady : goal.returns-in_err-product-clause-store_steady
returns-in_err-product-clause-store_steady g c other = c.in_ok-mapped.ensures.store_steady (not_err _ _)

pub returns-clause-store_steady : goal.returns-clause-store_steady
returns-clause-store_steady g c other = c.in_ok-mapped.ensures.store_steady (not_err _ _)

pub returns-in_err-mapped-clause-one_failed : goal.returns-in_err-mapped-clause-one_failed
returns-in_err-mapped-clause-one_failed g c = inr refl

pub returns-in_err-requests-clause-one_failed : goal.returns-in_err-requests-clause-one_failed
returns-in_err-requests-clause-one_failed g c = inl (c.in_ok-mapped.ensures.store_steady (not_err _ _))

pub returns-in_err-product-clause-one_failed : goal.returns-in_err-product-clause-one_failed
returns-in_err-product-clause-one_failed g c = inl (c.in_ok-mapped.ensures.store_steady (not_err _ _))

pub returns-clause-one_failed : goal.returns-clause-one_failed
returns-clause-one_failed g c = inl (c.in_ok-mapped.ensures.store_steady (not_err _ _))
