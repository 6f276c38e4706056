use Rattle.std.proofs.Common.{ap, sym, subst, ◌∙◌, arith}
use Rattle.heap_model.specs.Sizes.{IsClass}
use Rattle.core_model.specs.Memory.{info}
use Rattle.crash_core.specs.Standing.{memory_at}
use Rattle.seat_state.proofs.WordLemmas.{entry_there}
use Rattle.crash_core.proofs.FreeSteps.{held_range, held_is}
use Rattle.crash_core.proofs.moves.held_class.Goals as goal
use Rattle.crash_core.proofs.StandingLemmas.{among, seat_is}

pub superblock_of-d-requires : goal.superblock_of-d-requires
superblock_of-d-requires c = let r = c.requires.core in let b = among r.keeps c.requires.seat in let here = entry_there r.views c.args.seat b in
    let t = entry_there c.args.core.now.seats.items c.args.seat c.requires.seat in
    let f = held_range c.args.core.now r.setup r.views c.args.seat here.0 t.0 r.keeps b here.1
    (seat_is c.requires.seat t.1) c.args.block c.requires.held in let low = f.0 in omega arith

pub info-requires-clause-d : goal.info-requires-clause-d
info-requires-clause-d c = let r = c.requires.core in let b = among r.keeps c.requires.seat in let here = entry_there r.views c.args.seat b in
    let t = entry_there c.args.core.now.seats.items c.args.seat c.requires.seat in
    let f = held_range c.args.core.now r.setup r.views c.args.seat here.0 t.0 r.keeps b here.1
    (seat_is c.requires.seat t.1) c.args.block c.requires.held in let low = f.0 in let high = f.1 in let e = c.superblock_of-d.ensures in omega arith

pub returns-clause-some : goal.returns-clause-some
returns-clause-some c = let r = c.requires.core in let b = among r.keeps c.requires.seat in let here = entry_there r.views c.args.seat b in
    let t = entry_there c.args.core.now.seats.items c.args.seat c.requires.seat in
    (subst IsClass (sym (c.info.ensures ∙ ap (info (memory_at c.args.core.now)) c.superblock_of-d.ensures))
    (held_is c.args.core.now r.setup r.views c.args.seat here.0 t.0 r.keeps b here.1 (seat_is c.requires.seat t.1) c.args.block c.requires.held)).some

pub returns-clause-last : goal.returns-clause-last
returns-clause-last c = let r = c.requires.core in let b = among r.keeps c.requires.seat in let here = entry_there r.views c.args.seat b in
    let t = entry_there c.args.core.now.seats.items c.args.seat c.requires.seat in
    (subst IsClass (sym (c.info.ensures ∙ ap (info (memory_at c.args.core.now)) c.superblock_of-d.ensures))
    (held_is c.args.core.now r.setup r.views c.args.seat here.0 t.0 r.keeps b here.1 (seat_is c.requires.seat t.1) c.args.block c.requires.held)).last

pub returns-clause-from : goal.returns-clause-from
returns-clause-from c = let r = c.requires.core in let b = among r.keeps c.requires.seat in let here = entry_there r.views c.args.seat b in
    let t = entry_there c.args.core.now.seats.items c.args.seat c.requires.seat in
    (held_range c.args.core.now r.setup r.views c.args.seat here.0 t.0 r.keeps b here.1 (seat_is c.requires.seat t.1) c.args.block c.requires.held).0

pub returns-clause-until : goal.returns-clause-until
returns-clause-until c = let r = c.requires.core in let b = among r.keeps c.requires.seat in let here = entry_there r.views c.args.seat b in
    let t = entry_there c.args.core.now.seats.items c.args.seat c.requires.seat in
    (held_range c.args.core.now r.setup r.views c.args.seat here.0 t.0 r.keeps b here.1 (seat_is c.requires.seat t.1) c.args.block c.requires.held).1
