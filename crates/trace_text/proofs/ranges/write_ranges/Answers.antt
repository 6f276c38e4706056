use Rattle.std.proofs.Common.{◌≡◌, ◌≢◌, ℕ, ◌+◌, ◌-◌, List, length, get_or, take, drop, refl, rules}
use Rattle.trace_text.proofs.RunLemmas.{next_step, apart_step}
use Rattle.trace_text.proofs.ranges.write_ranges.Goals as goal
use Rattle.trace_text.proofs.ranges.write_ranges.Goals.{then-not-is_next+in_ok-write_run, else-not-is_next}

pub loop-number-preserved : goal.loop-number-preserved
loop-number-preserved c =
    let others : List ℕ = take (length c.args.numbers.now - 1) (drop 1 c.args.numbers.now) in
    let i = c.loop-number.number-index in
    let first = c.loop-number.first in
    let last = c.loop-number.last in
    let number : ℕ = get_or others i 0 in
    elim c.if-not-is_next.branch [
      | then-not-is_next+in_ok-write_run w ↦
          let apart : number ≢ last + 1 = search rules in
          let step = apart_step first last number i others _ _ _ c.loop-number-test.true refl apart c.loop-number.invariant
          w.in_ok-write_run.ensures.ok in
          cc
      | else-not-is_next w ↦
          let next : number ≡ last + 1 = search rules in
          let step = next_step first last number i others _ _ c.loop-number-test.true refl next c.loop-number.invariant in
          cc
    ]
