use Rattle.std.proofs.Common.{◌≡◌, length, get_or, refl, ap, sym, subst, ◌∙◌}
use Rattle.seat_index.specs.declared.stacks.Stack.{Stack}
use Rattle.seat_index.specs.Stacks.{IsTopOf}
use Rattle.seat_index.proofs.StackLemmas.{the_entry}
use Rattle.seat_index.proofs.owned.Owned.cache.Goals as goal

pub returns : goal.returns
returns c =
    let same = λ (x : Stack) (at : get_or c.args.self.now.stacks.items c.args.class x ≡ x). the_entry c.args.self.now.stacks.items c.args.class
    c.index_mut.result.now x c.requires.stack.below (sym c.index_mut.ensures.value) at in record {
      others = refl;
      stacks = record {
        stack = c.push.new.self;
        is = refl;
        room = λ x at. c.push.ensures.room ∙ ap (λ (s : Stack). length s.blocks.items) (same x at);
        top = λ x cache at top. c.push.ensures.front cache (subst (λ s. IsTopOf s cache) (sym (same x at)) top);
      };
    }
