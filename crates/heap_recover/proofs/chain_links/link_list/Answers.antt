use Rattle.std.proofs.Common.{◌≡◌, ◌+◌, ◌*◌, suc, set, length, slice_index, sym, subst, ◌∙◌, arith}
use Rattle.heap_model.specs.Geometry.{link_word, largest_capacity_fits}
use Rattle.super_block.specs.Links.{link_of}
use Rattle.heap_recover.specs.Roles.{number_at}
use Rattle.heap_recover.specs.Rebuilt.{IsLinked}
use Rattle.heap_recover.proofs.WritingLemmas.{AreWritten}
use Rattle.heap_recover.proofs.ListLemmas.{first_small, linked}
use Rattle.heap_recover.proofs.chain_links.link_list.Goals as goal

pub pack-requires-2-clause-first : goal.pack-requires-2-clause-first
pack-requires-2-clause-first c =
    let low = first_small c.args.ds.now c.args.geometry.now.capacity c.requires.inside in
    let capacity = c.args.geometry.now.small in
    omega (arith, largest_capacity_fits, c.member_at.ensures.number)

pub returns : goal.returns
returns c =
    let old = c.args.words.now in
    let ds = c.args.ds.now in
    let all : c.loop-i.i ≡ length ds = omega arith in
    let written = subst (λ n. AreWritten (λ j. link_word (slice_index ds j)) (λ j. number_at ds (suc j)) old c.loop-i.words n) all c.loop-i.invariant in
    let head : link_of c.member_at.result + 16777216 * 0 ≡ number_at ds 0 = omega (arith, c.member_at.ensures.number) in
    subst (λ x. IsLinked (slice_index old) (slice_index (set c.loop-i.words (16 + c.args.list) x)) c.args.geometry.now.capacity c.args.list ds)
    (sym (c.pack-2.ensures ∙ head))
    (linked old c.loop-i.words c.args.geometry.now.capacity c.args.list ds c.requires.list c.requires.long c.requires.inside written)
