use Rattle.thread_cache.proofs.HandedRows.{accept_brought, accept_row}
use Rattle.thread_cache.proofs.sending.accept.Goals as goal

pub returns-in-Ok-clause-brought : goal.returns-in-Ok-clause-brought
returns-in-Ok-clause-brought g c = accept_brought c.draw.new.seat.view c.accept-block.new.self.view c.args.carrier.view c.args.carrier.block
    c.recall_soundness.ensures c.accept-block.ensures.carries c.accept-block.ensures.view c.recall_soundness-in-Ok.ensures

pub returns-in-Ok-clause-row : goal.returns-in-Ok-clause-row
returns-in-Ok-clause-row g c = accept_row c.args.seat.now c.draw.new.seat c.accept-block.new.self c.args.carrier.view c.args.carrier.block
    c.draw.ensures.row c.in-Ok.ensures.drawn c.draw.ensures.stores c.recall_soundness.ensures c.accept-block.ensures.carries c.accept-block.ensures.view
    c.accept-block.ensures.stores c.recall_soundness-in-Ok.ensures
