use Rattle.std.proofs.Common.{◌≡◌}
use Rattle.std.proofs.lemmas.List.Elements.{All-push, All-same}
use Rattle.heap_rule.specs.Carried.{CarrierView}
use Rattle.handing_tests.proofs.ListLemmas.{first_at, rest_at}
use Rattle.handing_tests.proofs.threading.move_all.Goals as goal

pub loop-carrier-preserved : goal.loop-carrier-preserved
loop-carrier-preserved g c =
    let table = g.J.Run.table in let all = c.loop-carrier.more.items in let rest = c.pop_front.new.self.items in
    let carrier = c.in-Some.carrier in let split = c.in-Some.ensures.items in
    let first = first_at table all rest carrier split c.loop-carrier.invariant.left in record {
      left = rest_at table all rest carrier split c.loop-carrier.invariant.left;
      moved = All-same (λ (x : CarrierView). x.table ≡ table) c.push_back.new.self.items _ c.in_ok-push_back.ensures.items
          (All-push (λ (x : CarrierView). x.table ≡ table) c.loop-carrier.carriers.items carrier c.loop-carrier.invariant.moved first);
    }
