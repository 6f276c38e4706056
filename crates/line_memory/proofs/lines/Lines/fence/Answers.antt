use Rattle.std.proofs.Common.{ℕ, refl, ap, ◌∙◌, List, get_or}
use Rattle.std.proofs.lemmas.List.{with_items_is}
use Rattle.line_memory.specs.Marked.{marked_words-none}
use Rattle.line_memory.proofs.LineStepLemmas.{completed_pending, completed_other}
use Rattle.line_memory.proofs.lines.Lines.fence.Goals as goal

pub returns : goal.returns
returns c =
    let whole = with_items_is c.args.self.now.durable c.complete.new.durable (c.complete.auto.durable ∙ c.deref_mut.ensures.len) in
    record {
      volatile = refl;
      durable = λ word h.
          rw whole
          (c.complete.ensures.completed word ∙ completed_pending c.args.self.now.pending c.deref.result.now c.deref_mut.result.now word h
          ∙ ap (λ (x : List ℕ). get_or x word 0) c.deref.ensures.value);
      others = λ word h.
          rw whole
          (c.complete.ensures.completed word ∙ completed_other c.args.self.now.pending c.deref.result.now c.deref_mut.result.now word h
          ∙ ap (λ (x : List ℕ). get_or x word 0) c.deref_mut.ensures.value);
      pending = marked_words-none c.complete.new.self c.complete.ensures.clear;
      recent = refl;
      tickets = record { drawn = refl; budget = refl; stopped = refl };
    }
