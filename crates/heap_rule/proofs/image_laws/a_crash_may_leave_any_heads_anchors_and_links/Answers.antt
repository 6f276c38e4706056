use Rattle.heap_rule.proofs.CrashLemmas.{some_close, some_crash}
use Rattle.heap_rule.proofs.image_laws.a_crash_may_leave_any_heads_anchors_and_links.Goals as goal

pub returns-clause-crash : goal.returns-clause-crash
returns-clause-crash c v any has = some_crash v has any

pub returns-clause-close : goal.returns-clause-close
returns-clause-close c v has = some_close v has
