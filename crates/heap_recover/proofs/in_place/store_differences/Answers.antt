use Rattle.std.proofs.Common.{◌∙◌, ◌≡◌, ◌+◌, ◌-◌, ◌*◌, ◌/◌, length, slice_index, subst, sym, ap, arith}
use Rattle.std.proofs.lemmas.Result.{err_from_is_err_and}
use Rattle.heap_recover.specs.InPlace.{Differ, differences, changed_lines, steps_between, IsStoredTo}
use Rattle.heap_recover.proofs.InPlaceLemmas.{line_written, line_same, write_back_draws, write_back_budget, write_back_going, refused_cut, cut_later}
use Rattle.heap_recover.proofs.DifferenceLemmas.{line_more, line_none, lines_from, none_differ, differ_from}
use Rattle.heap_recover.specs.InOrder.{steps_in, TakesAll}
use Rattle.heap_recover.proofs.OrderLemmas.{line_next, line_skipped, line_cut, write_back_cut}
use Rattle.heap_recover.proofs.in_place.store_differences.Goals as goal
use Rattle.heap_recover.proofs.in_place.store_differences.Goals.{then-branch+in_ok-write_back, else-branch}

pub returns-in_err-store_line-clause-cut_off : goal.returns-in_err-store_line-clause-cut_off
returns-in_err-store_line-clause-cut_off g c =
    let view = g.M.LineMemory.view in
    let old = slice_index c.args.old.now in
    let new = slice_index c.args.new.now in
    let drawn = c.loop-line.invariant.drawn in
    let first = differ_from old new (8 * c.loop-line.line) (8 * c.loop-line.line + 8) (omega arith) in
    let rest = differ_from old new (8 * c.loop-line.line + 8) (length c.args.old.now) (omega (arith, c.loop-line-test.true)) in
    let lines = lines_from old new c.loop-line.line (length c.args.old.now / 8) (omega (arith, c.loop-line-test.true)) in
    let cut = cut_later c.args.old.now c.args.new.now 0 (differences old new (8 * c.loop-line.line) + changed_lines old new c.loop-line.line)
    (differences old new (8 * c.loop-line.line + 8) - differences old new (8 * c.loop-line.line)) (steps_between old new (length c.args.old.now))
    c.in_err-store_line.field-0.0.step (view c.args.memory.now) (view c.loop-line.memory)
    (view c.store_line.new.memory) c.in_err-store_line.ensures.cut_off c.loop-line.invariant.budget c.loop-line.invariant.going
    (omega arith) (omega arith) in
    let p = err_from_is_err_and c.from_residual.result c.from_residual.ensures.1 in
    rw (p.1, p.2) cut

pub returns-in_err-write_back-clause-cut_off : goal.returns-in_err-write_back-clause-cut_off
returns-in_err-write_back-clause-cut_off g c =
    let view = g.M.LineMemory.view in
    let old = slice_index c.args.old.now in
    let new = slice_index c.args.new.now in
    let before = c.loop-line.invariant.drawn in
    let drawn = c.in_ok-store_line.ensures.drawn in
    let some = c.in_ok-store_line.ensures.some.0 c.if-branch.true in
    let rest = differ_from old new (8 * c.loop-line.line + 8) (length c.args.old.now) (omega (arith, c.loop-line-test.true)) in
    let lines = lines_from old new c.loop-line.line (length c.args.old.now / 8) (omega (arith, c.loop-line-test.true)) in
    let here = ap (changed_lines old new) {x = (8 * c.loop-line.line + 8 - 1) / 8} {y = c.loop-line.line} (omega arith) in
    let cut = refused_cut c.args.old.now c.args.new.now (8 * c.loop-line.line) (8 * c.loop-line.line + 8) 0
    (steps_between old new (length c.args.old.now))
    (view c.args.memory.now) (view c.store_line.new.memory) (view c.write_back.new.self)
    c.in_err-write_back.field-0.0.step c.in_ok-store_line.ensures.ok
    c.in_err-write_back.ensures.stopped (c.store_line.ensures.budget ∙ c.loop-line.invariant.budget) (c.in_ok-store_line.ensures.going
    ∙ c.loop-line.invariant.going)
    (g.met.M.LineMemory.sound c.store_line.new.memory) (omega arith) (omega arith) in
    let p = err_from_is_err_and c.from_residual-in_err-write_back.result c.from_residual-in_err-write_back.ensures.1 in
    rw (p.1, p.2) cut

pub returns-in_err-store_line-clause-first_steps : goal.returns-in_err-store_line-clause-first_steps
returns-in_err-store_line-clause-first_steps g c =
    let cut = line_cut g.M.LineMemory.view g.M.LineMemory.draws (slice_index c.args.old.now) (slice_index c.args.new.now) c.loop-line.line
    (length c.args.old.now / 8)
    c.in_err-store_line.field-0.0.step c.args.memory.now c.loop-line.memory c.store_line.new.memory c.loop-line-test.true c.loop-line.invariant.steps
    c.in_err-store_line.ensures.first_steps in
    let p = err_from_is_err_and c.from_residual.result c.from_residual.ensures.1 in
    rw (p.1, p.2) cut

pub returns-in_err-write_back-clause-first_steps : goal.returns-in_err-write_back-clause-first_steps
returns-in_err-write_back-clause-first_steps g c =
    let cut = write_back_cut g.M.LineMemory.view g.M.LineMemory.draws (slice_index c.args.old.now) (slice_index c.args.new.now) c.loop-line.line
    (length c.args.old.now / 8)
    c.in_err-write_back.field-0.0.step c.args.memory.now c.loop-line.memory c.store_line.new.memory c.write_back.new.self c.loop-line-test.true
    c.loop-line.invariant.steps
    c.in_ok-store_line.ensures.steps c.in_err-write_back.ensures.stopped in
    let p = err_from_is_err_and c.from_residual-in_err-write_back.result c.from_residual-in_err-write_back.ensures.1 in
    rw (p.1, p.2) cut

pub loop-line-preserved : goal.loop-line-preserved
loop-line-preserved g c =
    let view = g.M.LineMemory.view in
    let numbers = g.M.LineMemory.draws in
    let old = slice_index c.args.old.now in
    let new = slice_index c.args.new.now in
    let before = c.loop-line.invariant.drawn in
    let below = c.loop-line-test.true in
    let drawn = c.in_ok-store_line.ensures.drawn in
    let next : 8 * c.loop-line.line + 8 ≡ 8 * (c.loop-line.line + 1) = omega arith in
    let same = ap (differences old new) next in
    elim c.if-branch.branch [
      | then-branch+in_ok-write_back w ↦
          let some = c.in_ok-store_line.ensures.some.0 w.if-branch.true in
          let draws = write_back_draws c.loop-line.line (view c.store_line.new.memory) (view w.write_back.new.self) w.in_ok-write_back.ensures.ok in
          let written = line_written c.args.old.now c.args.new.now (8 * c.loop-line.line) (8 * c.loop-line.line + 8)
          (view c.store_line.new.memory) c.in_ok-store_line.ensures.ok
          (view w.write_back.new.self) c.loop-line.line (omega arith) (omega arith) (omega arith) w.in_ok-write_back.ensures.ok in
          let more = line_more old new c.loop-line.line some in
          let all : (view w.write_back.new.self).drawn ≡ (view c.args.memory.now).drawn +
          (differences old new (8 * (c.loop-line.line + 1)) + changed_lines old new (c.loop-line.line + 1)) = omega arith in
          record {
            high = omega arith;
            stored = subst (λ m. IsStoredTo c.args.old.now c.args.new.now (8 * (c.loop-line.line + 1)) (8 * (c.loop-line.line + 1)) (view m))
                (sym w.memory-is)
                (subst (λ n. IsStoredTo c.args.old.now c.args.new.now n n (view w.write_back.new.self)) next written);
            budget = ap (λ m. (view m).budget) w.memory-is ∙ write_back_budget c.loop-line.line (view c.store_line.new.memory)
                (view w.write_back.new.self) w.in_ok-write_back.ensures.ok
                ∙ c.store_line.ensures.budget ∙ c.loop-line.invariant.budget;
            going = ap (λ m. (view m).stopped) w.memory-is ∙ write_back_going c.loop-line.line (view c.store_line.new.memory)
                (view w.write_back.new.self) w.in_ok-write_back.ensures.ok
                ∙ c.in_ok-store_line.ensures.going ∙ c.loop-line.invariant.going;
            drawn = ap (λ m. (view m).drawn) w.memory-is ∙ all;
            steps = subst (λ m. TakesAll view numbers c.args.memory.now (steps_in old new (c.loop-line.line + 1)) m) (sym w.memory-is)
                (line_next view numbers c.args.old.now c.args.new.now c.loop-line.line c.args.memory.now c.loop-line.memory
                c.store_line.new.memory w.write_back.new.self
                some c.loop-line.invariant.steps c.in_ok-store_line.ensures.steps w.in_ok-write_back.ensures.ok);
          }
      | else-branch w ↦
          let same_words : Differ c.args.old.now c.args.new.now (8 * c.loop-line.line) (8 * c.loop-line.line + 8) → ⊥ =
          λ differ. absurd (let some = c.in_ok-store_line.ensures.some.1 differ in let none = w.if-branch.false in absurd (cc)) in
          let kept = line_same c.args.old.now c.args.new.now (8 * c.loop-line.line) (8 * c.loop-line.line + 8)
          (view c.store_line.new.memory) c.in_ok-store_line.ensures.ok
          same_words in
          let stays = none_differ c.args.old.now c.args.new.now (8 * c.loop-line.line) (8 * c.loop-line.line + 8) (omega arith) same_words in
          let none = line_none old new c.loop-line.line stays in
          let all : (view c.store_line.new.memory).drawn ≡ (view c.args.memory.now).drawn +
          (differences old new (8 * (c.loop-line.line + 1)) + changed_lines old new (c.loop-line.line + 1)) = omega arith in
          record {
            high = omega arith;
            stored = subst (λ m. IsStoredTo c.args.old.now c.args.new.now (8 * (c.loop-line.line + 1)) (8 * (c.loop-line.line + 1)) (view m))
                (sym w.memory-is)
                (subst (λ n. IsStoredTo c.args.old.now c.args.new.now n n (view c.store_line.new.memory)) next kept);
            budget = ap (λ m. (view m).budget) w.memory-is ∙ c.store_line.ensures.budget ∙ c.loop-line.invariant.budget;
            going = ap (λ m. (view m).stopped) w.memory-is ∙ c.in_ok-store_line.ensures.going ∙ c.loop-line.invariant.going;
            drawn = ap (λ m. (view m).drawn) w.memory-is ∙ all;
            steps = subst (λ m. TakesAll view numbers c.args.memory.now (steps_in old new (c.loop-line.line + 1)) m) (sym w.memory-is)
                (line_skipped view numbers c.args.old.now c.args.new.now c.loop-line.line c.args.memory.now c.loop-line.memory c.store_line.new.memory
                same_words c.loop-line.invariant.steps c.in_ok-store_line.ensures.steps);
          }
    ]
