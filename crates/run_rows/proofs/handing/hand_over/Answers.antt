use Rattle.std.proofs.Common.{◌≡◌, ℕ, All, IfOk, length, map, refl, sym, subst, ap, ◌∙◌}
use Rattle.std.proofs.lemmas.List.{length-map}
use Rattle.std.proofs.lemmas.Result.{IfOk-weaker}
use Rattle.heap_model.proofs.ImageLemmas.{length-words_from}
use Rattle.parcel_queue.proofs.RowLemmas.{as_many}
use Rattle.run_model.specs.Workers.{Replies, worker_numbers}
use Rattle.seat_parcels.specs.Boxes.{parcels_for, pieces_of}
use Rattle.seat_parcels.specs.Parcels.{IsParcelOf}
use Rattle.shard_moves.specs.Tables.{is_flagged}
use Rattle.worker_run.specs.Said.{requests_of}
use Rattle.run_rows.specs.Rows.{AreDealtOut, IsArrivingOf}
use Rattle.run_rows.specs.Turns.{AreInTurn}
use Rattle.run_rows.proofs.HandLemmas.{all_arrive, arrive_in_turn, count_arriving, told}
use Rattle.run_rows.proofs.handing.hand_over.Goals as goal

pub absorb_all-requires-clause-kept : goal.absorb_all-requires-clause-kept
absorb_all-requires-clause-kept g c = subst (λ t. All (λ one. All (IsParcelOf t) one.kept.items) c.args.all.items) (sym c.requires.heap)
    (λ k d below. (c.requires.answered k d below).kept)

pub deal_out-requires-clause-owners : goal.deal_out-requires-clause-owners
deal_out-requires-clause-owners g c =
    as_many c.args.queues.now c.absorb_all.new.owners.items c.in_ok-asked.ensures.owners.passes_are ∙ c.requires.each
    ∙ sym (ap length c.in_ok-asked.ensures.asked ∙ length-map c.args.all.items (λ one. one.asked))

pub deal_out-requires-clause-pieces : goal.deal_out-requires-clause-pieces
deal_out-requires-clause-pieces g c =
    let made : pieces_of c.in_ok-pieces.pieces.items ≡ map (λ worker. parcels_for
    (length c.args.queues.now) worker c.in_ok-asked.field-0.kept.items) (worker_numbers (length c.args.queues.now)) =
    c.in_ok-pieces.ensures in
    sym (length-map c.in_ok-pieces.pieces.items (λ v. v.items)) ∙ ap length made
    ∙ length-map (worker_numbers (length c.args.queues.now)) (λ worker. parcels_for
    (length c.args.queues.now) worker c.in_ok-asked.field-0.kept.items) ∙ length-words_from (λ i. i) 0 (length c.args.queues.now)
    ∙ c.requires.each ∙ sym (ap length c.in_ok-asked.ensures.asked ∙ length-map c.args.all.items (λ one. one.asked))

pub returns : goal.returns
returns g c =
    let shared = c.args._shared.now in
    let requests = requests_of c.args._requests.now in
    let tables = is_flagged c.args._tables.now in
    let queues = c.args.queues.now in
    let all = c.args.all.items in
    let owners = c.absorb_all.new.owners.items in
    let kept = c.in_ok-asked.field-0.kept.items in
    let asked = c.in_ok-asked.field-0.asked.items in
    let pieces = pieces_of c.in_ok-pieces.pieces.items in
    let workers = length all in
    let made : pieces ≡ map (λ worker. parcels_for (length queues) worker kept) (worker_numbers (length queues)) = c.in_ok-pieces.ensures in
    let pieces_are = subst (λ n. pieces ≡ map (λ worker. parcels_for n worker kept) (worker_numbers n)) c.requires.each made in
    let kept_are = subst (λ t. All (IsParcelOf t) kept) c.requires.heap c.in_ok-asked.ensures.kept in
    let dealt : IfOk c.deal_out.result (λ arriving. AreDealtOut owners pieces asked arriving.items) = c.deal_out.ensures.dealt in
    record {
      arriving = IfOk-weaker c.deal_out.result (λ arriving. AreDealtOut owners pieces asked arriving.items)
          (λ arriving. (told : ℕ → Replies) × All (IsArrivingOf shared requests tables queues told) arriving.items)
          (λ arriving is. (
            told shared requests tables queues workers all c.requires.answered refl c.requires.turns,
            all_arrive shared requests tables queues workers all c.requires.answered refl c.requires.turns owners kept c.requires.each
                c.in_ok-asked.ensures.owners kept_are
                c.in_ok-asked.ensures.parcels asked pieces arriving.items c.in_ok-asked.ensures.asked pieces_are is,
          )) dealt;
      turns = IfOk-weaker c.deal_out.result (λ arriving. AreDealtOut owners pieces asked arriving.items)
          (λ arriving. AreInTurn (λ one. one.asked.worker) workers arriving.items)
          (λ arriving is. arrive_in_turn shared requests tables queues workers all c.requires.answered refl c.requires.turns owners kept
          c.requires.each c.in_ok-asked.ensures.owners kept_are
          c.in_ok-asked.ensures.parcels asked pieces arriving.items c.in_ok-asked.ensures.asked pieces_are is) dealt;
      count = IfOk-weaker c.deal_out.result (λ arriving. AreDealtOut owners pieces asked arriving.items)
          (λ arriving. length arriving.items ≡ workers)
          (λ arriving is. count_arriving shared requests tables queues workers all c.requires.answered refl c.requires.turns owners kept
          c.requires.each c.in_ok-asked.ensures.owners kept_are
          c.in_ok-asked.ensures.parcels asked pieces arriving.items c.in_ok-asked.ensures.asked pieces_are is) dealt;
    }
