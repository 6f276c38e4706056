use Rattle.handing_tests.proofs.ListLemmas.{rest_at}
use Rattle.handing_tests.proofs.ends.put_all.Goals as goal

pub loop-carrier-preserved : goal.loop-carrier-preserved
loop-carrier-preserved g c = (
  c.put_one.ensures.pass,
  rest_at g.J.Run.table c.loop-carrier.carriers.items c.pop_front.new.self.items
      c.in-Some.carrier c.in-Some.ensures.items c.loop-carrier.invariant.1,
)
