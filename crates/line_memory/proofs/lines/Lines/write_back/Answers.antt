use Rattle.std.proofs.Common.{refl, arith}
use Rattle.line_memory.specs.Marked.{marked_words-has, marked_words-same}
use Rattle.line_memory.proofs.lines.Lines.write_back.Goals as goal

pub returns : goal.returns
returns c =
    record {
      volatile = refl;
      durable = refl;
      in_line = λ word lt e. marked_words-has c.mark_line.new.self word (c.mark_line.ensures.in_line word (omega (arith, lt, c.args.self.now.marks)) e);
      pending = λ other ne. marked_words-same c.args.self.now.pending c.mark_line.new.self other (c.mark_line.ensures.others other ne);
      recent = refl;
      tickets = record { drawn = refl; budget = refl; stopped = refl };
    }
