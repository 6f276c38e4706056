use Rattle.std.proofs.Common.{◌-◌, ◌/◌, slice_index, arith, sym, subst}
use Rattle.heap_recover.specs.declared.roles.Role.{Role}
use Rattle.heap_recover.specs.Rebuilt.{IsAnchorOf}
use Rattle.heap_recover.proofs.SuperblockLemmas.{of_partial, first_spare, found_first}
use Rattle.heap_recover.proofs.superblocks.anchor_word_of.Goals as goal

pub overflow_sub-spares : goal.overflow_sub-spares
overflow_sub-spares c =
    let are = of_partial c.args.geometry.now.capacity c.args.d c.in-Partial.class c.args.spares.now c.args.role c.in-Partial.is c.requires.spares in
    let first = first_spare c.args.geometry.now.capacity c.in-Partial.class c.args.d c.args.spares.now (omega arith) (omega arith) are in
    omega (arith, first.1.at, c.start.ensures)

pub nonzero_div-spares : goal.nonzero_div-spares
nonzero_div-spares c =
    let some = c.block_words.ensures.some in
    omega arith

pub pack-requires-in-Partial : goal.pack-requires-in-Partial
pack-requires-in-Partial c =
    let are = of_partial c.args.geometry.now.capacity c.args.d c.in-Partial.class c.args.spares.now c.args.role c.in-Partial.is c.requires.spares in
    let first = found_first c.args.geometry.now.capacity c.in-Partial.class c.args.d c.args.spares.now c.start.result c.block_words.result
    (omega arith) (omega arith) are c.start.ensures c.block_words.ensures.words in
    record { first = first.below; count = first.few }

pub returns-in-Partial : goal.returns-in-Partial
returns-in-Partial c =
    let are = of_partial c.args.geometry.now.capacity c.args.d c.in-Partial.class c.args.spares.now c.args.role c.in-Partial.is c.requires.spares in
    let first = found_first c.args.geometry.now.capacity c.in-Partial.class c.args.d c.args.spares.now c.start.result c.block_words.result
    (omega arith) (omega arith) are c.start.ensures c.block_words.ensures.words in
    subst (λ (r : Role). IsAnchorOf c.args.geometry.now.capacity c.args.d c.args.spares.now c.pack-in-Partial.result r) (sym c.in-Partial.is)
    (record {
      first = (slice_index c.args.spares.now 0 - c.start.result) / c.block_words.result;
      is = c.pack-in-Partial.ensures;
      begins = first.begins;
    })
