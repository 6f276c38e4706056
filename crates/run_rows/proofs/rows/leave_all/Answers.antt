use Rattle.std.proofs.Common.{◌≡◌, ◌+◌, ◌++◌, ◌∷◌, [], suc, length, length-append, sym, ap, subst, ◌∙◌, arith}
use Rattle.std.specs.List.{AllZip}
use Rattle.std.specs.Vec.Iter.{into_iter_items}
use Rattle.std.proofs.lemmas.Slice.Zip.{all_zipped_more}
use Rattle.worker_run.specs.Said.{requests_of}
use Rattle.worker_parts.specs.Jobs.{IsBegunOf}
use Rattle.run_rows.specs.declared.arriving.Ended.{Ended}
use Rattle.run_rows.proofs.RowLemmas.{IsLeftOf, all_left, left_count, next_of_all, whole_done, whole_more}
use Rattle.run_rows.proofs.rows.leave_all.Goals as goal

pub leave_begun-requires : goal.leave_begun-requires
leave_begun-requires g c = record {
  begun = next_of_all (IsBegunOf c.args.shared.now (requests_of c.args.requests.now)) c.args.all.items c.loop-begun.yielded
      (into_iter_items c.loop-begun.begun-iterator)
      (into_iter_items c.next.new.self) c.in-Some.begun c.requires.begun c.loop-begun.invariant.whole c.in-Some.ensures.steps.0;
}

pub push_reserved-requires : goal.push_reserved-requires
push_reserved-requires g c =
    let was = c.loop-begun.invariant in
    let left = left_count c.args.shared.now (requests_of c.args.requests.now) c.loop-begun.yielded c.loop-begun.ended.items was.left in
    let whole : length c.loop-begun.yielded + length (into_iter_items c.loop-begun.begun-iterator) ≡ length c.args.all.items =
    sym (length-append c.loop-begun.yielded (into_iter_items c.loop-begun.begun-iterator)) ∙ ap length was.whole in
    let more : length (into_iter_items c.loop-begun.begun-iterator) ≡ suc (length (into_iter_items c.next.new.self)) =
    ap length c.in-Some.ensures.steps.0 in
    let room = was.room in
    let long = c.loop-begun.ended.ok.0 in
    omega (arith, left, whole, more, room, long)

pub loop-begun-preserved : goal.loop-begun-preserved
loop-begun-preserved g c =
    let shared = c.args.shared.now in
    let qs = requests_of c.args.requests.now in
    let was = c.loop-begun.invariant in
    let left = c.leave_begun.ensures in
    let steps = c.in-Some.ensures.steps in
    let one : Ended = record { worked = c.leave_begun.result; carriers = c.new.result } in
    record {
      next = was.next;
      finite = was.finite;
      left = subst (AllZip (IsLeftOf shared qs) (c.loop-begun.yielded ++ (c.in-Some.begun ∷ []))) (sym c.push_reserved.ensures.items)
          (all_zipped_more (IsLeftOf shared qs) c.loop-begun.yielded c.loop-begun.ended.items c.in-Some.begun one was.left (record {
            is_begun = next_of_all (IsBegunOf shared qs) c.args.all.items c.loop-begun.yielded (into_iter_items c.loop-begun.begun-iterator)
                (into_iter_items c.next.new.self) c.in-Some.begun
                c.requires.begun was.whole steps.0;
            worker = left.worker;
            replies = left.replies;
            worked = left.worked;
            view = left.view;
            stopped = left.stopped;
            empty = c.new.ensures.items;
          }));
      whole = whole_more c.args.all.items c.loop-begun.yielded (into_iter_items c.loop-begun.begun-iterator)
          (into_iter_items c.next.new.self) c.in-Some.begun was.whole steps.0;
      count =
          let more : length (into_iter_items c.loop-begun.begun-iterator) ≡ suc (length (into_iter_items c.next.new.self)) = ap length steps.0 in
          let count = was.count in
          let fewer = steps.1 in
          omega (arith, more, count, fewer);
      room = let same = c.push_reserved.ensures.capacity in let room = was.room in omega (arith, same, room);
    }

pub returns : goal.returns
returns g c =
    let shared = c.args.shared.now in
    let qs = requests_of c.args.requests.now in
    let was = c.loop-begun.invariant in
    let none : length (into_iter_items c.loop-begun.begun-iterator) ≡ 0 = sym was.count ∙ c.in-None.ensures.steps.0 in
    let done = whole_done c.args.all.items c.loop-begun.yielded (into_iter_items c.loop-begun.begun-iterator) was.whole none in
    record {
      ended = all_left shared qs c.args.all.items c.loop-begun.ended.items
          (subst (λ xs. AllZip (IsLeftOf shared qs) xs c.loop-begun.ended.items) done was.left) c.requires.turns c.requires.stopped;
    }
