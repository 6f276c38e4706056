use Rattle.std.proofs.Common.{◌≡◌, ℕ, ◌<◌, ◌↔◌, true, ap, sym, subst, ◌∙◌, arith}
use Rattle.heap_model.specs.Chains.{Walks}
use Rattle.heap_model.specs.Geometry.{start_word}
use Rattle.core_model.specs.Memory.{next}
use Rattle.core_model.specs.Effects.{class_blocks}
use Rattle.seat_state.specs.Superblocks.{cutting_in}
use Rattle.crash_core.specs.Standing.{memory_at}
use Rattle.seat_state.proofs.DecisionLemmas.{refused}
use Rattle.seat_state.proofs.WordLemmas.{entry_there}
use Rattle.crash_core.proofs.CutSteps.{cut_unclaimed, cut_cached, cut_decided}
use Rattle.crash_core.proofs.StandingLemmas.{seat_is}
use Rattle.crash_core.proofs.cuts.may_cut.Goals as goal

pub returns-then-not-is_cutting : goal.returns-then-not-is_cutting
returns-then-not-is_cutting c = λ k views v keeps below at. refused
    (cut_unclaimed c.args.core.now k views c.args.seat v (entry_there c.args.core.now.seats.items c.args.seat c.requires.seat).0 keeps below at
    (seat_is c.requires.seat (entry_there c.args.core.now.seats.items c.args.seat c.requires.seat).1) c.args.d
    (ap cutting_in (sym c.usage.ensures) ∙ sym c.if-not-is_cutting.ensures))

pub returns-then-index-class-ne0 : goal.returns-then-index-class-ne0
returns-then-index-class-ne0 c = λ k views v keeps below at. refused
    (cut_cached c.args.core.now k views c.args.seat v c.index.result.now keeps below at
    (seat_is c.requires.seat (sym c.index.ensures)) c.args.d c.info-class.result c.info-class.ensures
    (let e = c.if-class-eq0.false in omega arith) (let e = c.if-class-gt-LAST_CLASS.false in omega arith) c.if-index-class-ne0.true)

pub returns : goal.returns
returns c = λ k views v keeps below at. cut_decided c.args.core.now k views c.args.seat v c.index.result.now keeps below at
    (seat_is c.requires.seat (sym c.index.ensures)) c.args.d c.info-class.result c.info-class.ensures
    (let e = c.if-class-eq0.false in omega arith) (let e = c.if-class-gt-LAST_CLASS.false in omega arith)
    (subst (λ x. 0 < cutting_in x) c.usage.ensures (let e = c.if-not-is_cutting.ensures in omega arith))
    c.durable_used.result c.durable_info.result c.durable_used.ensures (let e = c.if-d-durable_used.false in omega arith)
    c.durable_info.ensures (let e = c.if-durable_info-class.false in omega arith) (let e = c.if-index-class-ne0.false in omega arith) c.is_linked.result
    (subst (λ (n : ℕ). (c.is_linked.result ≡ true) ↔ Walks (next (memory_at c.args.core.now))
    (start_word c.args.core.now.geometry.capacity c.args.d) (class_blocks c.args.core.now.geometry.capacity n c.args.d))
    c.new.ensures c.is_linked.ensures)
