use Rattle.std.proofs.Common.{set, slice_index, sym, subst, ◌∙◌, arith}
use Rattle.std.proofs.lemmas.List.{get_or-set_same, get_or-set_other}
use Rattle.heap_model.specs.Geometry.{lists}
use Rattle.heap_model.specs.Header.{used_of}
use Rattle.heap_recover.specs.Marked.{IsMarked}
use Rattle.heap_recover.specs.Rebuilt.{AreCleared, AreListed}
use Rattle.heap_recover.proofs.PassLemmas.{done_capacity}
use Rattle.heap_recover.proofs.RebuildLemmas.{rebuild}
use Rattle.heap_recover.proofs.passes.rebuild.Goals as goal

pub clear_rest-requires-clause-capacity : goal.clear_rest-requires-clause-capacity
clear_rest-requires-clause-capacity g c =
    let old = slice_index c.args.words.now in
    let found = c.in_ok-found.found in
    done_capacity old (slice_index c.rebuild_taken.new.words) (IsMarked c.args.marks.now.pairs)
    (used_of old) found.held.items found.roles.items c.requires.formed.used c.in_ok-found.ensures.ok
    ∙ sym c.new-geometry.ensures

pub returns : goal.returns
returns g c =
    let old = slice_index c.args.words.now in
    let found = c.in_ok-found.found in
    let done = slice_index c.rebuild_taken.new.words in
    let cleared = slice_index c.clear_rest.new.new in
    let words = c.link_lists.new.words in
    let are_cleared = subst (λ n. AreCleared done cleared n (used_of old) n) c.new-geometry.ensures c.clear_rest.ensures in
    let are_listed = subst (λ n. AreListed cleared (slice_index words) n found.roles.items lists) c.new-geometry.ensures
    (subst (λ rs. AreListed cleared (slice_index words) c.new-geometry.result.capacity rs lists) c.deref.ensures.value c.in_ok-link_lists.ensures.ok) in
    record {
      ok = rebuild old done cleared (slice_index words) (slice_index (set words 3 2))
          (IsMarked c.args.marks.now.pairs) found.held.items found.roles.items
          c.requires.keeps c.requires.formed.used c.in_ok-found.ensures.ok are_cleared are_listed
          (get_or-set_same words 3 2 0 (let long = c.requires.formed.length_is in omega arith))
          (λ word other. get_or-set_other words 3 word 2 0 other);
    }
