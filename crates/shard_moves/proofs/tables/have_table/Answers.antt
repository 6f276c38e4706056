use Rattle.std.proofs.Common.{ℕ, subst, arith}
use Rattle.heap_seat.specs.declared.fault.AllocFault.{AllocFault}
use Rattle.dict_requests.specs.Moving.{TableFails}
use Rattle.dict_requests.specs.Changes.{MayChange, Changes}
use Rattle.shard_moves.proofs.TableLemmas.{same_change}
use Rattle.shard_moves.proofs.ToldLemmas.{null_at_first}
use Rattle.shard_moves.proofs.tables.have_table.Goals as goal

pub returns-in-Ok-clause-crash : goal.returns-in-Ok-clause-crash
returns-in-Ok-clause-crash g c =
    subst (λ (n : ℕ). MayChange n (λ map. map) (g.H.HeapSeat.view c.args.seat.now) (g.H.HeapSeat.view c.make_table.new.seat)) c.at.ensures
    (c.make_table.ensures.crash (λ map. map))

pub returns-in-Err-Full-clause-crash : goal.returns-in-Err-Full-clause-crash
returns-in-Err-Full-clause-crash g c =
    subst (λ (n : ℕ). MayChange n (λ map. map) (g.H.HeapSeat.view c.args.seat.now) (g.H.HeapSeat.view c.make_table.new.seat)) c.at.ensures
    (c.make_table.ensures.crash (λ map. map))

pub returns-in-Err-Stopped-clause-crash : goal.returns-in-Err-Stopped-clause-crash
returns-in-Err-Stopped-clause-crash g c =
    subst (λ (n : ℕ). MayChange n (λ map. map) (g.H.HeapSeat.view c.args.seat.now) (g.H.HeapSeat.view c.make_table.new.seat)) c.at.ensures
    (c.make_table.ensures.crash (λ map. map))

pub returns-in-Err-Stopped-clause-maps : goal.returns-in-Err-Stopped-clause-maps
returns-in-Err-Stopped-clause-maps g c =
    subst (λ (n : ℕ). Changes n (λ map. map) (g.H.HeapSeat.view c.args.seat.now) (g.H.HeapSeat.view c.make_table.new.seat)) c.at.ensures
    (same_change c.at.result.number (g.H.HeapSeat.view c.args.seat.now) (g.H.HeapSeat.view c.make_table.new.seat)
    (c.make_table.ensures.crash (λ map. map)))

pub returns-in-Err-Full-clause-told : goal.returns-in-Err-Full-clause-told
returns-in-Err-Full-clause-told g c =
    let v = g.H.HeapSeat.view c.args.seat.now in
    let w = g.H.HeapSeat.view c.make_table.new.seat in
    let change = subst (λ (n : ℕ). MayChange n (λ map. map) v w) c.at.ensures (c.make_table.ensures.crash (λ map. map)) in
    let why = subst (λ (fault : AllocFault). TableFails c.args.number fault v w) c.in-Err-Full.field-0-is
    (subst (λ (n : ℕ). TableFails n c.in-Err-Full.field-0 v w) c.at.ensures c.in-Err-Full.ensures.cause) in (
      null_at_first v w c.args.number (λ map. map) change c.requires.shard.owned why.0,
      why.0,
      record {
        at = c.make_table.new.seat;
        before = c.make_table.ensures.kept;
        behind = g.met.H.HeapSeat.keeps_none c.make_table.new.seat;
        null = why.0;
        knows = omega arith;
        until = omega arith;
        room = record { past = let past = why.1.found.past in let seen = why.1.found.used.is in omega arith; now = why.1.found.used.taken };
        looks = c.in-Err-Full.field-0-0;
        none = c.in-Err-Full.ensures.none _ c.in-Err-Full.field-0-is;
      },
    )
