use Rattle.std.proofs.Common.{◌≡◌, ◌∷◌, [], length, length-append, Some, ap, subst, ◌∙◌, arith}
use Rattle.std.proofs.lemmas.List.Elements.{All-pop, All-push, All-same}
use Rattle.thread_cache_tests.specs.Holding.{AreRootsOf, HasRootsOf, IsFreshSeatOf, IsJobOf}
use Rattle.thread_cache_tests.proofs.HoldLemmas.{of_last, of_rest, owns}
use Rattle.thread_cache_tests.proofs.together.deal.Goals as goal

pub loop-seat-preserved : goal.loop-seat-preserved
loop-seat-preserved c =
    let all = c.loop-seat.seats.items in let rest = c.pop.new.self.items in let seat = c.in-Some.seat in let split = c.in-Some.ensures.items in
    let count = length c.args.seats.items in
    let popped = All-pop (IsFreshSeatOf c.args.shared.now) all rest (Some seat) split c.loop-seat.invariant.seats in
    let number : c.len-number.result ≡ length rest = omega arith in
    let all_seats : c.len-count.result ≡ count = omega arith in
    let roots = subst (λ m. AreRootsOf (length rest) m c.in_ok-roots.roots.items) all_seats
    (subst (λ n. AreRootsOf n c.len-count.result c.in_ok-roots.roots.items) number c.in_ok-roots.ensures) in
    let job : IsJobOf c.args.shared.now c.in_ok-roots.roots.items seat = record {
      fresh = popped.1;
      owns = owns (length rest) count c.in_ok-roots.roots.items seat roots
          (of_last (λ i. HasRootsOf i count) all rest seat split c.loop-seat.invariant.roots);
    } in record {
      seats = popped.0;
      roots = of_rest (λ i. HasRootsOf i count) all rest seat split c.loop-seat.invariant.roots;
      jobs = All-same (λ job. IsJobOf c.args.shared.now job.roots.items job.seat) c.push.new.self.items _ c.in_ok-push.ensures.items
          (All-push (λ job. IsJobOf c.args.shared.now job.roots.items job.seat) c.loop-seat.jobs.items _ c.loop-seat.invariant.jobs job);
      count = (let count = c.loop-seat.invariant.count in let more = ap length c.in_ok-push.ensures.items ∙ length-append c.loop-seat.jobs.items _ in
          let fewer = ap length split ∙ length-append rest (seat ∷ []) in omega arith);
    }
