use Rattle.std.proofs.Common.{◌∷◌, [], length, length-append, Some, ap, sym, subst, ◌∙◌, arith}
use Rattle.std.proofs.lemmas.List.Elements.{All-pop, All-push, All-same}
use Rattle.thread_cache_tests.specs.Holding.{IsBackFrom}
use Rattle.thread_cache_tests.proofs.together.gather.Goals as goal

pub loop-one-preserved : goal.loop-one-preserved
loop-one-preserved c =
    let rest = c.pop.new.self.items in let one = c.in-Some.one in let split = c.in-Some.ensures.items in let seat = c.in_ok-seat.seat in
    let popped = All-pop (λ one. IsBackFrom c.args.shared.now one.seat) c.loop-one.worked.items rest
    (Some one) split c.loop-one.invariant.worked in record {
      worked = popped.0;
      seats = All-same (IsBackFrom c.args.shared.now) c.push.new.self.items _ c.in_ok-push.ensures.items
          (All-push (IsBackFrom c.args.shared.now) c.loop-one.seats.items seat c.loop-one.invariant.seats
          (subst (IsBackFrom c.args.shared.now) (sym c.in_ok-seat.ensures) popped.1));
      count = (let count = c.loop-one.invariant.count in let more = ap length c.in_ok-push.ensures.items ∙ length-append c.loop-one.seats.items _ in
          let fewer = ap length split ∙ length-append rest (one ∷ []) in omega arith);
    }
