use Rattle.std.proofs.Common.{◌<◌, slice_index, All, subst, sym}
use Rattle.heap_recover.proofs.SuperblockLemmas.{described, rebuilt, spares_fit, spares_ascend}
use Rattle.heap_recover.proofs.superblocks.rebuild_superblock.Goals as goal

pub link_chain-requires-clause-inside : goal.link_chain-requires-clause-inside
link_chain-requires-clause-inside c =
    subst (λ n. All (λ w. w < n) c.args.spares.now) (sym c.requires.long)
    (spares_fit c.args.geometry.now.capacity c.args.d c.args.spares.now c.args.role c.requires.spares c.requires.superblock)

pub link_chain-requires-clause-ascending : goal.link_chain-requires-clause-ascending
link_chain-requires-clause-ascending c = spares_ascend c.args.geometry.now.capacity c.args.d c.args.spares.now c.args.role c.requires.spares

pub returns : goal.returns
returns c =
    let old = slice_index c.args.words.now in
    let chained = slice_index c.link_chain.new.words in
    let new = slice_index c.write_descriptor.new.words in
    rebuilt old chained new c.args.geometry.now.capacity c.args.d c.args.spares.now c.anchor_word_of.result c.requires.superblock
    c.link_chain.ensures.chained c.args.role c.requires.spares c.write_descriptor.ensures
    (described old chained new c.args.geometry.now.capacity c.args.d c.args.spares.now c.anchor_word_of.result c.requires.superblock
    c.link_chain.ensures.chained c.args.role c.requires.capacity c.requires.info c.requires.spares c.anchor_word_of.ensures
    c.write_descriptor.ensures)
