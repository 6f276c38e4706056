use Rattle.std.proofs.lemmas.List.Elements.{All-push, All-same}
use Rattle.heap_rule.specs.Seated.{IsSeatOf}
use Rattle.handing_tests.proofs.CountLemmas.{more_counted}
use Rattle.handing_tests.proofs.closing.add.Goals as goal

pub invariant_of-result : goal.invariant_of-result
invariant_of-result c = record {
  counted = more_counted _ _ _ _ c.args.done.seats.items c.push.new.self.items c.args.back.seat
      c.args.done.counted c.args.back.counted c.in_ok-push.ensures.items;
}

pub returns : goal.returns
returns c = All-same (IsSeatOf c.args.shared.now) c.push.new.self.items _ c.in_ok-push.ensures.items
    (All-push (IsSeatOf c.args.shared.now) c.args.done.seats.items c.args.back.seat c.requires.seats c.requires.seat)
