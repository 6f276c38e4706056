use Rattle.std.proofs.Common.{sym, subst, arith}
use Rattle.std.proofs.lemmas.List.Elements.{All-contains}
use Rattle.heap_rule.specs.Carried.{AreAllOf}
use Rattle.heap_rule.proofs.HandingLemmas.{handed_none}
use Rattle.thread_cache_tests.specs.Holding.{IsBackFrom}
use Rattle.thread_cache_tests.proofs.together.work_and_close.Goals as goal

pub close_shared-requires : goal.close_shared-requires
close_shared-requires g c =
    let shared = c.args.shared in
    let seats = c.in_ok-seats.seats.items in
    let dealt = c.in_ok-jobs.ensures.count in
    let worked = c.in_ok-worked.ensures.len in
    let back = c.in_ok-seats.ensures.count in
    let all = c.requires.count in
    subst (AreAllOf shared seats) (sym c.new.ensures.items)
    (handed_none shared seats
    (record {
      count = omega (arith, dealt, worked, back, all);
      each =
          λ seat there. (All-contains (IsBackFrom shared) seats seat c.in_ok-seats.ensures.seats there).of;
    })
    (λ seat there. (All-contains (IsBackFrom shared) seats seat c.in_ok-seats.ensures.seats there).role_is))
