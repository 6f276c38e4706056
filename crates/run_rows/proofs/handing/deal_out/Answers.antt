use Rattle.std.proofs.Common.{◌≡◌, ◌+◌, ◌++◌, List, [], ◌∷◌, length, refl, sym, subst, ap, ◌∙◌, arith}
use Rattle.std.proofs.lemmas.List.{length-map, length_push, map-append}
use Rattle.std.specs.Option.{MatchOption}
use Rattle.std.specs.Vec.{vec_len}
use Rattle.seat_parcels.specs.Boxes.{pieces_of}
use Rattle.worker_parts.specs.declared.asking.Asked.{Asked}
use Rattle.run_rows.specs.declared.arriving.Arriving.{Arriving}
use Rattle.run_rows.specs.Rows.{AreDealtOut}
use Rattle.run_rows.proofs.DealLemmas.{AreDealtSoFar, all_dealt, all_done, none_dealt, one_dealt, one_done, so_many_done, so_many_left}
use Rattle.run_rows.proofs.handing.deal_out.Goals as goal
use Rattle.run_rows.proofs.handing.deal_out.Goals.{in_default-via-in-Some+in_default, in_default-via-in_default}

pub loop-asked-init : goal.loop-asked-init
loop-asked-init g c =
    let none = c.in_ok-arriving.ensures.len in
    let room = c.in_ok-arriving.ensures.exact in
    let long = c.len.ensures in
    let ok = c.args.all.ok in
    record {
      can = tt;
      finite = tt;
      all_are = sym c.into_iter-asked-iterator.ensures.into_iter_gives.0;
      dealt = subst (λ (l : List (Arriving g.row.C.Denot)). AreDealtSoFar c.args.owners.items
          (pieces_of c.args.pieces.items) c.args.owners.items (pieces_of c.args.pieces.items) [] l)
          (sym {A = List (Arriving g.row.C.Denot)} c.in_ok-arriving.ensures.items) (none_dealt c.args.owners.items (pieces_of c.args.pieces.items));
      count = none;
      room = omega (arith, room, long, ok);
    }

pub push_reserved-requires : goal.push_reserved-requires
push_reserved-requires g c =
    let inv = c.loop-asked.invariant in
    let more = so_many_done c.args.all.items c.loop-asked.yielded c.loop-asked.asked-iterator.rest.items inv.all_are c.in-Some.asked
    c.next.new.self.rest.items c.in-Some.ensures.steps.0 in
    let count = inv.count in
    let room = inv.room in
    omega (arith, more, count, room)

pub loop-asked-preserved : goal.loop-asked-preserved
loop-asked-preserved g c =
    let inv = c.loop-asked.invariant in
    let one : Arriving g.row.C.Denot = record { asked = c.in-Some.asked; pass = c.in-Some-Some.pass; kept = c.in-Some-Some.kept } in
    let count = inv.count in
    let room = inv.room in
    let long = c.push_reserved.ensures.len in
    let same = c.push_reserved.ensures.capacity in
    let pushed = length_push c.loop-asked.yielded c.in-Some.asked in
    record {
      can = tt;
      finite = tt;
      all_are = one_done c.args.all.items c.loop-asked.yielded c.loop-asked.asked-iterator.rest.items inv.all_are c.in-Some.asked
          c.next.new.self.rest.items c.in-Some.ensures.steps.0;
      dealt = subst (λ (l : List (Arriving g.row.C.Denot)). AreDealtSoFar c.args.owners.items
          (pieces_of c.args.pieces.items) c.pop.new.self.items (pieces_of c.pop-in-loop-asked.new.self.items)
          (c.loop-asked.yielded ++ c.in-Some.asked ∷ []) l) (sym {A = List (Arriving g.row.C.Denot)} c.push_reserved.ensures.items)
          (one_dealt c.args.owners.items (pieces_of c.args.pieces.items) c.loop-asked.owners.items c.pop.new.self.items
          (pieces_of c.loop-asked.pieces.items) (pieces_of c.pop-in-loop-asked.new.self.items)
          c.loop-asked.yielded c.loop-asked.arriving.items c.in-Some-Some.pass c.in-Some-Some.kept.items c.in-Some.asked one inv.dealt
          c.in-Some-Some.ensures.items
          (ap pieces_of c.in-Some-Some.ensures'.items ∙ map-append (λ v. v.items) c.pop-in-loop-asked.new.self.items (c.in-Some-Some.kept ∷ []))
          refl refl refl);
      count = omega (arith, count, long, pushed);
      room = omega (arith, room, same);
    }

pub unreachable-requires : goal.unreachable-requires
unreachable-requires g c =
    let inv = c.loop-asked.invariant in
    let more = so_many_done c.args.all.items c.loop-asked.yielded c.loop-asked.asked-iterator.rest.items inv.all_are c.in-Some.asked
    c.next.new.self.rest.items c.in-Some.ensures.steps.0 in
    let left = so_many_left c.args.owners.items (pieces_of c.args.pieces.items) c.loop-asked.owners.items
    (pieces_of c.loop-asked.pieces.items) c.loop-asked.yielded c.loop-asked.arriving.items inv.dealt in
    let left_owners = left.0 in
    let left_pieces = left.1 in
    let owners = c.requires.owners in
    let pieces = c.requires.pieces in
    let mapped = length-map c.args.pieces.items (λ v. v.items) in
    let mapped' = length-map c.loop-asked.pieces.items (λ v. v.items) in
    let ok = c.loop-asked.owners.ok in
    let ok' = c.loop-asked.pieces.ok in
    elim c.in_default.branch [
      | in_default-via-in-Some+in_default w ↦
          let is = w.in_default.is-1 in
          let none = subst (λ r. MatchOption r ((vec_len c.loop-asked.pieces ≡ 0) × (vec_len c.pop-in-loop-asked.new.self ≡ 0))
          (λ x. vec_len c.pop-in-loop-asked.new.self + 1 ≡ vec_len c.loop-asked.pieces)) is c.pop-in-loop-asked.ensures.cases in
          let zeroth = none.0 in
          omega (arith, zeroth, ok', left_pieces, more, pieces, mapped, mapped')
      | in_default-via-in_default w ↦
          let is = w.in_default.is-0 in
          let none = subst (λ r. MatchOption r ((vec_len c.loop-asked.owners ≡ 0) × (vec_len c.pop.new.self ≡ 0))
          (λ x. vec_len c.pop.new.self + 1 ≡ vec_len c.loop-asked.owners)) is c.pop.ensures.cases in
          let zeroth = none.0 in
          omega (arith, zeroth, ok, left_owners, more, owners)
    ]

pub returns : goal.returns
returns g c =
    let inv = c.loop-asked.invariant in
    let none = c.in-None.ensures.steps.0 in
    let ok = c.loop-asked.asked-iterator.rest.ok in
    let are = all_done c.args.all.items c.loop-asked.yielded c.loop-asked.asked-iterator.rest.items inv.all_are (omega (arith, none, ok)) in
    let long = ap length are in
    let owners = c.requires.owners in
    let pieces = c.requires.pieces in
    let mapped = length-map c.args.pieces.items (λ v. v.items) in
    record {
      dealt = subst (λ (l : List (Asked _)). AreDealtOut c.args.owners.items (pieces_of c.args.pieces.items) l c.loop-asked.arriving.items) (sym are)
          (all_dealt c.args.owners.items (pieces_of c.args.pieces.items) c.loop-asked.owners.items
          (pieces_of c.loop-asked.pieces.items) c.loop-asked.yielded c.loop-asked.arriving.items inv.dealt
          (omega (arith, owners, long)) (omega (arith, pieces, long, mapped)));
    }
