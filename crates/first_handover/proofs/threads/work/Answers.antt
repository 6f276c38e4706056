use Rattle.first_handover.proofs.Working.{worked_of}
use Rattle.first_handover.proofs.threads.work.Goals as goal

pub returns : goal.returns
returns g c =
    let sent = c.join-sent in
    let one = c.join-one in
    worked_of c.args.shared.now c.args.value sent.result.0 sent.result.1 one.result.0 one.result.1 sent.ensures.first sent.ensures.second
    one.ensures.first.0 one.ensures.first.1 one.ensures.second
