use Rattle.std.proofs.Common.{◌≡◌, ◌+◌, ◌-◌, ◌*◌, ◌/◌, slice_index, subst, sym, ap, ◌∙◌, arith}
use Rattle.std.proofs.lemmas.Result.{err_from_is_err_and}
use Rattle.heap_recover.specs.InPlace.{differences, changed_lines, IsStoredTo}
use Rattle.heap_recover.proofs.InPlaceLemmas.{stored_same, stored_more, store_draws, store_budget, store_going, refused_cut}
use Rattle.heap_recover.proofs.DifferenceLemmas.{lines_from, differ_more, differ_same, differ_from}
use Rattle.heap_recover.specs.InOrder.{store_of, TakesAll}
use Rattle.heap_recover.proofs.OrderLemmas.{stored_next, stored_one, stored_none, store_cut}
use Rattle.heap_recover.proofs.in_place.store_line.Goals as goal
use Rattle.heap_recover.proofs.in_place.store_line.Goals.{then-old-word+in_ok-store, else-old-word}

pub returns-in_err-store-clause-cut_off : goal.returns-in_err-store-clause-cut_off
returns-in_err-store-clause-cut_off g c =
    let view = g.M.LineMemory.view in
    let i = c.loop-word.invariant in
    let old = slice_index c.args.old.now in
    let new = slice_index c.args.new.now in
    let low = i.low in
    let drawn = i.drawn in
    let below = c.loop-word-test.true in
    let other = c.if-old-word.true in
    let more = differ_more old new c.loop-word.word other in
    let first = differ_from old new (8 * c.args.line) c.loop-word.word low in
    let rest = differ_from old new (c.loop-word.word + 1) (8 * c.args.line + 8) (omega arith) in
    let lines = lines_from old new ((c.loop-word.word - 1) / 8) c.args.line (omega arith) in
    let cut = refused_cut c.args.old.now c.args.new.now (8 * c.args.line) c.loop-word.word
    (differences old new (8 * c.args.line) + changed_lines old new c.args.line)
    (differences old new (8 * c.args.line + 8) - differences old new (8 * c.args.line))
    (view c.args.memory.now) (view c.loop-word.memory) (view c.store.new.self)
    c.in_err-store.field-0.0.step i.stored c.in_err-store.ensures.stopped i.budget i.going
    (g.met.M.LineMemory.sound c.loop-word.memory) (omega arith) (omega arith) in
    let p = err_from_is_err_and c.from_residual.result c.from_residual.ensures.1 in
    rw (p.1, p.2) cut

pub returns-in_err-store-clause-first_steps : goal.returns-in_err-store-clause-first_steps
returns-in_err-store-clause-first_steps g c =
    let view = g.M.LineMemory.view in
    let numbers = g.M.LineMemory.draws in
    let i = c.loop-word.invariant in
    let low = i.low in
    let below = c.loop-word-test.true in
    let cut = store_cut view numbers (slice_index c.args.old.now) (slice_index c.args.new.now)
    (8 * c.args.line) c.loop-word.word c.in_err-store.field-0.0.step
    c.args.memory.now c.loop-word.memory c.store.new.self low (omega arith) i.steps c.in_err-store.ensures.stopped in
    let p = err_from_is_err_and c.from_residual.result c.from_residual.ensures.1 in
    rw (p.1, p.2) cut

pub loop-word-preserved : goal.loop-word-preserved
loop-word-preserved g c =
    let view = g.M.LineMemory.view in
    let numbers = g.M.LineMemory.draws in
    let i = c.loop-word.invariant in
    let old = slice_index c.args.old.now in
    let new = slice_index c.args.new.now in
    let low = i.low in
    let high = i.high in
    let drawn = i.drawn in
    let below = c.loop-word-test.true in
    elim c.if-old-word.branch [
      | then-old-word+in_ok-store w ↦
          let next = stored_more c.args.old.now c.args.new.now (8 * c.args.line) c.loop-word.word (view c.loop-word.memory) i.stored
          (view w.store.new.self)
          low (omega arith) w.in_ok-store.ensures.ok in
          let more = differ_more old new c.loop-word.word w.if-old-word.true in
          let first = differ_from old new (8 * c.args.line) c.loop-word.word low in
          let draws = store_draws c.loop-word.word (slice_index c.args.new.now c.loop-word.word) (view c.loop-word.memory)
          (view w.store.new.self) w.in_ok-store.ensures.ok in
          let drawn_then : (view w.store.new.self).drawn + differences old new (8 * c.args.line)
          ≡ (view c.args.memory.now).drawn + differences old new (c.loop-word.word + 1) = omega arith in
          record {
            low = omega arith;
            high = omega arith;
            stored = subst (λ m. IsStoredTo c.args.old.now c.args.new.now (8 * c.args.line) (c.loop-word.word + 1) (view m)) (sym w.memory-is) next;
            tells = (λ _. omega arith, λ _. w.some-is);
            budget = ap (λ m. (view m).budget) w.memory-is
                ∙ store_budget c.loop-word.word (slice_index c.args.new.now c.loop-word.word) (view c.loop-word.memory)
                (view w.store.new.self) w.in_ok-store.ensures.ok ∙ i.budget;
            going = ap (λ m. (view m).stopped) w.memory-is
                ∙ store_going c.loop-word.word (slice_index c.args.new.now c.loop-word.word) (view c.loop-word.memory)
                (view w.store.new.self) w.in_ok-store.ensures.ok ∙ i.going;
            drawn = ap (λ m. (view m).drawn + differences old new (8 * c.args.line)) w.memory-is ∙ drawn_then;
            steps = stored_next view numbers old new (8 * c.args.line) c.loop-word.word c.args.memory.now c.loop-word.memory _ low i.steps
                (subst (λ m. TakesAll view numbers c.loop-word.memory (store_of old new c.loop-word.word) m) (sym w.memory-is)
                (stored_one view numbers old new c.loop-word.word c.loop-word.memory w.store.new.self w.if-old-word.true w.in_ok-store.ensures.ok));
          }
      | else-old-word w ↦
          let next = stored_same c.args.old.now c.args.new.now (8 * c.args.line) c.loop-word.word
          (view c.loop-word.memory) i.stored w.if-old-word.false in
          let same = differ_same old new c.loop-word.word w.if-old-word.false in
          let drawn_then : (view c.loop-word.memory).drawn + differences old new (8 * c.args.line)
          ≡ (view c.args.memory.now).drawn + differences old new (c.loop-word.word + 1) = omega arith in
          record {
            low = omega arith;
            high = omega arith;
            stored = subst (λ m. IsStoredTo c.args.old.now c.args.new.now (8 * c.args.line) (c.loop-word.word + 1) (view m)) (sym w.memory-is) next;
            tells = (λ is. let before = i.tells.0 (sym w.some-is ∙ is) in omega arith, λ differ. w.some-is ∙ i.tells.1 (omega arith));
            budget = ap (λ m. (view m).budget) w.memory-is ∙ i.budget;
            going = ap (λ m. (view m).stopped) w.memory-is ∙ i.going;
            drawn = ap (λ m. (view m).drawn + differences old new (8 * c.args.line)) w.memory-is ∙ drawn_then;
            steps = stored_next view numbers old new (8 * c.args.line) c.loop-word.word c.args.memory.now c.loop-word.memory _ low i.steps
                (stored_none view numbers old new c.loop-word.word c.loop-word.memory _ w.if-old-word.false w.memory-is);
          }
    ]
