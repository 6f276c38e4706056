use Rattle.std.proofs.Common.{set, slice_index, subst, arith}
use Rattle.std.proofs.lemmas.List.{get_or-set_same, get_or-set_other}
use Rattle.heap_model.specs.Geometry.{lists}
use Rattle.heap_recover.specs.Rebuilt.{AreListed}
use Rattle.quick_recover.specs.Written.{AreWritten}
use Rattle.quick_recover.proofs.ReopenLemmas.{reopened}
use Rattle.quick_recover.proofs.reopen.write_words.Goals as goal

pub returns : goal.returns
returns c =
    let old = slice_index c.args.words.now in
    let written = slice_index c.write_descriptors.new.words in
    let words = c.link_lists.new.words in
    let roles = c.args.roles.now in
    let are_written = subst (AreWritten old written roles) c.new-geometry.ensures c.write_descriptors.ensures in
    let are_listed = subst (λ n. AreListed written (slice_index words) n roles lists) c.new-geometry.ensures c.in_ok-link_lists.ensures.ok in
    record {
      ok = reopened old written (slice_index words) (slice_index (set words 3 2)) roles c.requires.formed.used c.requires.roles are_written are_listed
          (get_or-set_same words 3 2 0 (let long = c.requires.formed.length_is in let first = c.write_descriptors.auto.words in
          let second = c.link_lists.auto.words in omega arith))
          (λ word other. get_or-set_other words 3 word 2 0 other);
    }
