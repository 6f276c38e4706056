use Rattle.std.proofs.Common.{◌+◌, refl, ap, sym, true≢false, arith}
use Rattle.core_model.specs.declared.event.Event.TheVariants.{Settle}
use Rattle.crash_core.proofs.ReadLemmas.{lengths}
use Rattle.crash_core.proofs.StandingLemmas.{step_not, seat_is}
use Rattle.seat_state.proofs.WordLemmas.{entry_there}
use Rattle.crash_core.proofs.WordSteps.{settle, own_below}
use Rattle.crash_core.proofs.words.settle.Goals as goal

pub returns-then-word-length : goal.returns-then-word-length
returns-then-word-length c = λ k views v keeps below at going ticket. step_not c.args.core.now k views c.args.seat v (Settle c.args.word)
    (λ may seen. let b = own_below c.args.core.now k views c.args.seat v
    (entry_there c.args.core.now.seats.items c.args.seat c.requires.seat).0 keeps below at
    (seat_is c.requires.seat (entry_there c.args.core.now.seats.items c.args.seat c.requires.seat).1) going c.args.word may in
    let e = c.length.ensures in let f = c.if-word-length.true in omega arith)

pub returns-then-not-is_own : goal.returns-then-not-is_own
returns-then-not-is_own c = λ k views v keeps below at going ticket. step_not c.args.core.now k views c.args.seat v (Settle c.args.word)
    (λ may seen. true≢false (sym ((c.if-not-is_own.ensures k views v keeps below at).1 may)))

pub index-requires : goal.index-requires
index-requires c = let l = (lengths c.args.core.now c.requires.core).words in let e = c.length.ensures in let f = c.if-word-length.false in omega arith

pub index_mut-requires : goal.index_mut-requires
index_mut-requires c = let l = (lengths c.args.core.now c.requires.core).words in let e = c.length.ensures in let g = c.length-2.ensures in
    let f = c.if-word-length.false in omega arith

pub returns : goal.returns
returns c = λ k views v keeps below at going ticket. settle c.args.core.now k views c.args.seat v
    (entry_there c.args.core.now.seats.items c.args.seat c.requires.seat).0 keeps below at
    (seat_is c.requires.seat (entry_there c.args.core.now.seats.items c.args.seat c.requires.seat).1) going c.args.word
    (c.length-2.result + c.args.word) c.index.result.now ((c.if-not-is_own.ensures k views v keeps below at).0 refl)
    (ap (λ n. n + c.args.word) c.length-2.ensures) c.index.ensures
