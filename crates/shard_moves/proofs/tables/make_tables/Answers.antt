use Rattle.std.proofs.Common.{◌+◌, arith, subst, sym, ap, length, ◌∙◌}
use Rattle.std.proofs.lemmas.List.{length-set}
use Rattle.shard_moves.specs.Tables.{is_flagged}
use Rattle.shard_moves.proofs.TableLemmas.{HasMade, made_past, made_on, answered_on, most_on, calls_most, flag_set, flag_stays}
use Rattle.shard_moves.proofs.FlagLemmas.{made_missing}
use Rattle.shard_moves.proofs.tables.make_tables.Goals as goal
use Rattle.shard_moves.proofs.tables.make_tables.Goals.{then-wanted-shard+in_ok-has, else-wanted-shard}

pub returns-in_err-has-clause-answered : goal.returns-in_err-has-clause-answered
returns-in_err-has-clause-answered g c =
    let heap = g.H.HeapSeat in
    let made = c.have_table.ensures in
    answered_on heap.view heap.keeps heap.has_none c.args.wanted.now c.args.tables.now c.loop-shard.tables c.loop-shard.shard c.args.seat.now
    c.loop-shard.seat (omega arith) c.loop-shard.invariant
    c.have_table.new.seat g.met.H.HeapSeat.keeps_row (g.met.H.HeapSeat.seat c.loop-shard.seat) c.if-wanted-shard.true
    (record { maps = made.maps; change = made.crash; takes = made.taken; calls = made.calls; kept = made.kept })

pub returns-in_err-has-clause-most : goal.returns-in_err-has-clause-most
returns-in_err-has-clause-most g c =
    let heap = g.H.HeapSeat in
    let made = c.have_table.ensures in
    most_on heap.view heap.keeps heap.has_none c.args.wanted.now c.args.tables.now c.loop-shard.tables c.loop-shard.shard c.args.seat.now
    c.loop-shard.seat (omega arith) c.loop-shard.invariant
    c.have_table.new.seat g.met.H.HeapSeat.keeps_row (g.met.H.HeapSeat.seat c.loop-shard.seat) c.if-wanted-shard.true
    (record { maps = made.maps; change = made.crash; takes = made.taken; calls = made.calls; kept = made.kept })

pub returns-in_err-has-clause-calls : goal.returns-in_err-has-clause-calls
returns-in_err-has-clause-calls g c =
    let heap = g.H.HeapSeat in
    let made = c.have_table.ensures in
    calls_most heap.view heap.keeps heap.has_none c.args.wanted.now c.args.tables.now c.loop-shard.tables c.loop-shard.shard c.args.seat.now
    c.loop-shard.seat (omega arith) c.loop-shard.invariant
    c.have_table.new.seat g.met.H.HeapSeat.keeps_row (g.met.H.HeapSeat.seat c.loop-shard.seat) c.if-wanted-shard.true
    (record { maps = made.maps; change = made.crash; takes = made.taken; calls = made.calls; kept = made.kept })

pub returns-clause-most : goal.returns-clause-most
returns-clause-most g c =
    let v = g.H.HeapSeat.view c.args.seat.now in
    let w = g.H.HeapSeat.view c.loop-shard.seat in
    let few = made_missing c.args.wanted.now v w in
    let taken = c.loop-shard.invariant.taken in
    omega arith

pub loop-shard-preserved : goal.loop-shard-preserved
loop-shard-preserved g c = elim c.if-wanted-shard.branch [
  | then-wanted-shard+in_ok-has w ↦
      let heap = g.H.HeapSeat in
      let made = w.have_table.ensures in
      let on = made_on heap.view heap.keeps heap.has_none c.args.wanted.now c.args.tables.now c.loop-shard.tables c.loop-shard.shard
      c.args.seat.now c.loop-shard.seat (omega arith) c.loop-shard.invariant
      w.have_table.new.seat g.met.H.HeapSeat.keeps_row (g.met.H.HeapSeat.seat c.loop-shard.seat) w.if-wanted-shard.true
      (record { maps = made.maps; change = made.crash; takes = made.taken; calls = made.calls; kept = made.kept })
      w.in_ok-has.has w.in_ok-has.ensures.told w.in_ok-has.ensures.none
      c.if-wanted-shard.tables
      (ap (λ fs. is_flagged fs c.loop-shard.shard) w.tables-is ∙ flag_set c.loop-shard.tables c.loop-shard.shard w.in_ok-has.has
      (let long = sym (ap length w.tables-is) ∙ c.if-wanted-shard.array_long in
      let same = length-set c.loop-shard.tables c.loop-shard.shard w.in_ok-has.has in omega arith))
      (λ k other. ap (λ fs. is_flagged fs k) w.tables-is ∙ flag_stays c.loop-shard.tables c.loop-shard.shard k w.in_ok-has.has other)
      w.in_ok-has.ensures.runs w.in_ok-has.ensures.exact in
      subst (λ s. HasMade heap.view heap.keeps heap.has_none c.args.wanted.now c.args.tables.now c.if-wanted-shard.tables
      (c.loop-shard.shard + 1) c.args.seat.now s) (sym w.seat-is) on
  | else-wanted-shard w ↦
      let heap = g.H.HeapSeat in
      let past = made_past heap.view heap.keeps heap.has_none c.args.wanted.now c.args.tables.now c.loop-shard.tables c.loop-shard.shard
      c.args.seat.now c.loop-shard.seat (omega arith) c.loop-shard.invariant
      w.if-wanted-shard.false in
      subst (λ fs. HasMade heap.view heap.keeps heap.has_none c.args.wanted.now c.args.tables.now fs
      (c.loop-shard.shard + 1) c.args.seat.now c.if-wanted-shard.seat) (sym w.tables-is)
      (subst (λ s. HasMade heap.view heap.keeps heap.has_none c.args.wanted.now c.args.tables.now c.loop-shard.tables
      (c.loop-shard.shard + 1) c.args.seat.now s) (sym w.seat-is) past)
]
