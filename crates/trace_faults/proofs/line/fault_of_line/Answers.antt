use Rattle.std.proofs.Common.{◌≡◌, ◌<◌, length, ap, rules, arith}
use Rattle.trace_faults.proofs.LineFaultLemmas.{of_words}
use Rattle.trace_faults.proofs.WordListLemmas.{stands_nowhere}
use Rattle.trace_faults.proofs.line.fault_of_line.Goals as goal

pub returns-then-has-2 : goal.returns-then-has-2
returns-then-has-2 c = (c.has-2.ensures.yes c.if-has-2.true, stands_nowhere 13 c.args.line.now (c.has.ensures.no c.if-has.false))

pub returns-then-has_empty_word : goal.returns-then-has_empty_word
returns-then-has_empty_word c =
    let line = c.args.line.now in
    let some : 0 < length line = search rules in (
      λ e. let none : length line ≡ 0 = ap length e in omega (arith, none, some),
      stands_nowhere 13 line (c.has.ensures.no c.if-has.false),
      stands_nowhere 9 line (c.has-2.ensures.no c.if-has-2.false),
      c.has_empty_word.ensures.0 c.if-has_empty_word.true,
    )

pub returns : goal.returns
returns c =
    let line = c.args.line.now in
    let some : 0 < length line = search rules in
    of_words line c.fault_of_words.result (record {
      some = λ e. let none : length line ≡ 0 = ap length e in omega (arith, none, some);
      no_return = stands_nowhere 13 line (c.has.ensures.no c.if-has.false);
      no_tab = stands_nowhere 9 line (c.has-2.ensures.no c.if-has-2.false);
      no_space = λ has. let t = c.has_empty_word.ensures.1 has in cc (t, c.if-has_empty_word.false);
    }) c.fault_of_words.ensures
