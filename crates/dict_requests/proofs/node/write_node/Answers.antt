use Rattle.std.proofs.lemmas.Result.{on_ok_weaker}
use Rattle.dict_requests.proofs.NodeLemmas.{within_length, within_key, within_next, node_written}
use Rattle.dict_requests.proofs.node.write_node.Goals as goal

pub returns-clause-ok : goal.returns-clause-ok
returns-clause-ok g c =
    let view = g.H.HeapSeat.view in
    let v = view c.args.seat.now in
    let u = view c.write_value.new.seat in
    let t = view c.write_word.new.seat in
    let s = view c.write_word-2.new.seat in
    let w = view c.write_word-3.new.seat in
    let b = c.args.node in
    let value = c.args.value.now in
    let within_t = within_length b c.args.key c.args.next value v u t s w c.requires.held c.requires.room c.write_value.ensures.within
    c.write_word.ensures.crash c.write_word.ensures.calls c.write_word.ensures.refusals in
    let within_s = within_key b c.args.key c.args.next value v u t s w c.requires.held c.requires.room c.write_value.ensures.within
    c.write_word.ensures.crash c.write_word-2.ensures.crash within_t
    c.write_word-2.ensures.calls c.write_word-2.ensures.refusals in
    on_ok_weaker c.write_word-3.result
    (λ last. node_written b c.args.key c.args.next value v u t s w c.requires.held c.requires.room c.write_value.ensures.within
    c.write_word.ensures.crash c.write_word-2.ensures.crash within_t
    c.write_word-3.ensures.crash within_s c.in_ok-write_value.ensures.ok c.in_ok-write_word.ensures.ok c.in_ok-write_word-2.ensures.ok last)
    c.write_word-3.ensures.ok

pub returns-clause-within : goal.returns-clause-within
returns-clause-within g c =
    let view = g.H.HeapSeat.view in
    let v = view c.args.seat.now in
    let u = view c.write_value.new.seat in
    let t = view c.write_word.new.seat in
    let s = view c.write_word-2.new.seat in
    let w = view c.write_word-3.new.seat in
    let b = c.args.node in
    let value = c.args.value.now in
    let within_t = within_length b c.args.key c.args.next value v u t s w c.requires.held c.requires.room c.write_value.ensures.within
    c.write_word.ensures.crash c.write_word.ensures.calls c.write_word.ensures.refusals in
    let within_s = within_key b c.args.key c.args.next value v u t s w c.requires.held c.requires.room c.write_value.ensures.within
    c.write_word.ensures.crash c.write_word-2.ensures.crash within_t
    c.write_word-2.ensures.calls c.write_word-2.ensures.refusals in
    within_next b c.args.key c.args.next value v u t s w c.requires.held c.requires.room c.write_value.ensures.within c.write_word.ensures.crash
    c.write_word-2.ensures.crash within_t
    c.write_word-3.ensures.crash within_s c.write_word-3.ensures.calls c.write_word-3.ensures.refusals
