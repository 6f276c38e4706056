use Rattle.std.proofs.Common.{length}
use Rattle.c_dictionary.proofs.ClosingLemmas.{clean_in, is_room, leaves}
use Rattle.c_dictionary.proofs.images.heap_close.Goals as goal

pub returns-in-Ok-clause-left : goal.returns-in-Ok-clause-left
returns-in-Ok-clause-left c = λ _. leaves c.args.handle.now.value (length c.args.room.now) c.in-Ok.taken c.in-Ok.ensures.ok
    c.leave.result.items c.leave.new.room c.leave.ensures.are c.leave.ensures.image

pub returns-in-Ok-clause-clean : goal.returns-in-Ok-clause-clean
returns-in-Ok-clause-clean c = λ _. clean_in c.args.handle.now.value (length c.args.room.now) c.in-Ok.taken c.in-Ok.ensures.ok
    c.leave.result.items c.leave.new.room c.leave.ensures.are c.leave.ensures.image c.leave.ensures.clean

pub returns-in-Err-clause-room : goal.returns-in-Err-clause-room
returns-in-Err-clause-room c = is_room c.args.handle.now.value (length c.args.room.now) c.in-Err.status c.in-Err.ensures.err
