use Rattle.std.proofs.Common.{◌≡◌, ◌≤◌, ◌*◌, drop, length, true, refl, ap, ap₂, sym, subst, ◌∙◌, arith}
use Rattle.std.proofs.lemmas.List.{get_or-set_same}
use Rattle.heap_model.specs.Geometry.{largest_capacity_fits, start_word}
use Rattle.heap_model.specs.Sizes.{words_of_class}
use Rattle.heap_model.proofs.SizeLemmas.{blocks_fit}
use Rattle.core_model.specs.Effects.{steps, class_blocks}
use Rattle.core_model.proofs.CountLemmas.{length_steps}
use Rattle.seat_index.specs.declared.stacks.Stack.{Stack}
use Rattle.seat_index.specs.Owned.{IsMarking}
use Rattle.seat_index.proofs.StackLemmas.{filled_stack}
use Rattle.seat_index.proofs.owned.Owned.cut.Goals as goal

pub fill-requires : goal.fill-requires
fill-requires c =
    let long = c.requires.stack.room c.index_mut.result.now (sym c.index_mut.ensures.value) in
    let size : length c.index_mut.result.now.blocks.items * c.block_words.result ≤ 8192 =
    subst (λ n. n ≤ 8192) (sym (ap₂ (λ n w. n * w) long c.block_words.ensures.words)) (blocks_fit c.args.class.number c.args.class.is) in
    let start = c.start.ensures in let small = c.args.geometry.small in let fits = largest_capacity_fits in let less = c.requires.below in omega arith

pub returns : goal.returns
returns c =
    let long = c.requires.stack.room c.index_mut.result.now (sym c.index_mut.ensures.value) in
    let filled : c.fill.new.self.blocks.items ≡ class_blocks c.args.geometry.capacity c.args.class.number c.args.d = c.fill.ensures.blocks
    ∙ ap₂ (λ s w. steps s w (length c.index_mut.result.now.blocks.items)) c.start.ensures c.block_words.ensures.words
    ∙ ap (steps (start_word c.args.geometry.capacity c.args.d) (words_of_class c.args.class.number)) long in
    let top_is = ap (λ n. drop n c.fill.new.self.blocks.items) c.fill.ensures.top ∙ filled in
    let cut = c.index.ensures ∙ get_or-set_same c.args.self.now.stacks.items c.args.class.number c.fill.new.self c.index.result.now
    c.requires.stack.below in
    record {
      others = refl;
      blocks = subst (λ l. IsMarking c.args.self.now.blocks c.mark_all.new.blocks l true) (c.cached.ensures
          ∙ ap (λ (s : Stack). drop s.top s.blocks.items) cut ∙ top_is) c.mark_all.ensures;
      classes = refl;
      ownerships = refl;
      stacks = filled_stack c.args.self.now.stacks.items c.args.class.number c.args.class.number c.index_mut.result.now c.fill.new.self
          (class_blocks c.args.geometry.capacity c.args.class.number c.args.d) refl c.requires.stack.below (sym c.index_mut.ensures.value)
          (ap length c.fill.ensures.blocks ∙ length_steps c.start.result c.block_words.result (length c.index_mut.result.now.blocks.items))
          (let t = c.fill.ensures.top in omega arith) top_is;
    }
