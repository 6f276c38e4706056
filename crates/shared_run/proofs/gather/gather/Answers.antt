use Rattle.std.proofs.Common.{◌≡◌, ◌||◌, [], ◌∷◌, length, length-append, subst, sym, ap, ◌∙◌, arith}
use Rattle.std.proofs.lemmas.List.{nil_from_length}
use Rattle.worker_run.specs.Said.{requests_of}
use Rattle.shared_run.proofs.GatherLemmas.{parts_of_all}
use Rattle.shared_run.proofs.TakenApartLemmas.{AreTaken, taken_more, taken_none}
use Rattle.shared_run.proofs.gather.gather.Goals as goal
use Rattle.shared_run.proofs.gather.gather.Goals.{then-stopped, else-stopped}

pub loop-one-init : goal.loop-one-init
loop-one-init c = record {
  taken = taken_none c.args.ended.items c.in_ok-seats.seats.items c.in_ok-told.told.items c.new-carriers.result.items
      c.in_ok-seats.ensures.items c.in_ok-told.ensures.items c.new-carriers.ensures.items;
  seats_count = (let none = ap length c.in_ok-seats.ensures.items in omega arith);
  told_count = (let none = ap length c.in_ok-told.ensures.items in omega arith);
  seats_room = (let k = c.in_ok-seats.ensures.exact in let l = c.in_ok-seats.ensures.capacity in omega arith);
  told_room = (let k = c.in_ok-told.ensures.exact in let l = c.in_ok-told.ensures.capacity in omega arith);
}

pub loop-one-preserved : goal.loop-one-preserved
loop-one-preserved c =
    let one = c.in-Some.one in
    let was = c.loop-one.invariant in
    let fewer = ap length c.in-Some.ensures.items ∙ length-append c.pop.new.self.items (one ∷ []) in
    let seats_more = ap length c.push_reserved.ensures.items ∙ length-append c.loop-one.seats.items (one.worked.seat ∷ []) in
    let told_more = ap length c.push_reserved-in-Some.ensures.items ∙ length-append c.loop-one.told.items (c.from_vec.result ∷ []) in
    let seats_count = was.seats_count in
    let told_count = was.told_count in
    let now : c.if-stopped.stopped ≡ c.loop-one.stopped || one.worked.stopped = elim c.if-stopped.branch [
      | then-stopped w ↦ w.stopped-is ∙ w.if-stopped.true ∙ sym (ap (λ b. b || one.worked.stopped) w.if-stopped.true)
      | else-stopped w ↦ w.stopped-is ∙ sym (ap (λ b. b || one.worked.stopped) w.if-stopped.false)
    ] in
    record {
      taken = taken_more c.args.ended.items c.loop-one.ended.items c.pop.new.self.items one c.from_vec.result c.loop-one.seats.items
          c.push_reserved.new.self.items c.loop-one.told.items c.push_reserved-in-Some.new.self.items
          c.loop-one.carriers.items c.append.new.self.items c.loop-one.stopped c.if-stopped.stopped was.taken c.in-Some.ensures.items
          c.from_vec.ensures.items c.push_reserved.ensures.items c.push_reserved-in-Some.ensures.items
          c.in_ok-append.ensures.items now;
      seats_count = omega arith;
      told_count = omega arith;
      seats_room = let same = c.push_reserved.ensures.capacity in let room = was.seats_room in omega arith;
      told_room = let same = c.push_reserved-in-Some.ensures.capacity in let room = was.told_room in omega arith;
    }

pub returns-clause-parts : goal.returns-clause-parts
returns-clause-parts c =
    let all = c.args.ended.items in
    let seats = c.loop-one.seats.items in
    let told = c.loop-one.told.items in
    let carriers = c.loop-one.carriers.items in
    let stopped = c.loop-one.stopped in
    let none = nil_from_length c.loop-one.ended.items (let ok = c.loop-one.ended.ok in let none = c.in_default.ensures.cases.0 in omega arith) in
    parts_of_all c.args._shared.now (requests_of c.args._requests.now) all seats told carriers stopped
    (subst (λ left. AreTaken all left seats told carriers stopped) none c.loop-one.invariant.taken) c.requires.ended
