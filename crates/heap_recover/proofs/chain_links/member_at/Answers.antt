use Rattle.std.proofs.Common.{sym}
use Rattle.heap_recover.proofs.ListLemmas.{number_inside, number_past}
use Rattle.heap_recover.proofs.chain_links.member_at.Goals as goal

pub returns-then-i-ds-clause-number : goal.returns-then-i-ds-clause-number
returns-then-i-ds-clause-number c = sym (number_inside c.args.ds.now c.args.i c.if-i-ds.true)

pub returns-clause-number : goal.returns-clause-number
returns-clause-number c = sym (number_past c.args.ds.now c.args.i c.if-i-ds.false)
