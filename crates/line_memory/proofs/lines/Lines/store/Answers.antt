use Rattle.std.proofs.Common.{◌<◌, length, refl, arith, length-set}
use Rattle.line_memory.specs.Marked.{marked_words-same}
use Rattle.line_memory.proofs.LineStepLemmas.{not_pending, other_mark, recent_pushed, lengths_stay}
use Rattle.line_memory.proofs.lines.Lines.store.Goals as goal

pub invariant_of-self-clause-marks : goal.invariant_of-self-clause-marks
invariant_of-self-clause-marks c =
    lengths_stay c.args.self.now.pending c.unmark.new.self c.args.self.now.volatile.items c.args.word c.args.value c.args.self.now.marks
    c.unmark.ensures

pub invariant_of-self-clause-recent_within : goal.invariant_of-self-clause-recent_within
invariant_of-self-clause-recent_within c =
    recent_pushed c.args.self.now.recent c.push.new.self c.args.word
    (length c.args.self.now.volatile.items) _ c.args.self.now.recent_within c.requires c.push.ensures
    (length-set c.args.self.now.volatile.items c.args.word c.args.value)

pub returns : goal.returns
returns c =
    let within : c.args.word < length c.args.self.now.pending = omega (arith, c.args.self.now.marks, c.requires) in
    record {
      volatile = refl;
      durable = refl;
      not_pending = not_pending c.args.self.now.pending c.unmark.new.self c.args.word within c.unmark.ensures;
      pending = λ other ne. marked_words-same c.args.self.now.pending c.unmark.new.self other (other_mark _ _ _ _ c.unmark.ensures ne);
      recent = c.push.ensures;
      tickets = record { drawn = refl; budget = refl; stopped = refl };
    }
