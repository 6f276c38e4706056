use Rattle.std.proofs.Common.{◌≡◌, length, get_or, refl, ap, sym, subst, ◌∙◌}
use Rattle.seat_index.specs.declared.stacks.Stack.{Stack}
use Rattle.seat_index.specs.Stacks.{IsTopOf}
use Rattle.seat_index.proofs.StackLemmas.{the_entry}
use Rattle.seat_index.proofs.owned.Owned.uncache.Goals as goal

pub returns : goal.returns
returns c =
    let same = λ (x : Stack) (at : get_or c.args.self.now.stacks.items c.args.class x ≡ x). the_entry c.args.self.now.stacks.items c.args.class
    c.index_mut.result.now x c.requires (sym c.index_mut.ensures.value) at in record {
      others = refl;
      stacks = record {
        stack = c.pop.new.self;
        is = refl;
        room = λ x at. ap (λ v. length v.items) c.pop.ensures.blocks ∙ ap (λ (s : Stack). length s.blocks.items) (same x at);
        top = λ x cache at top. c.pop.ensures.rest cache (subst (λ s. IsTopOf s cache) (sym (same x at)) top);
      };
    }
