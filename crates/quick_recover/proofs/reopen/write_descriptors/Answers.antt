use Rattle.std.proofs.Common.{◌≡◌, slice_index, ap, subst, ◌∙◌, arith}
use Rattle.quick_recover.specs.Written.{anchor_after, AreWritten}
use Rattle.quick_recover.proofs.WriteLemmas.{written_next}
use Rattle.quick_recover.proofs.reopen.write_descriptors.Goals as goal

pub loop-d-preserved : goal.loop-d-preserved
loop-d-preserved c = (
  written_next (slice_index c.args.words.now) (slice_index c.loop-d.words)
      (slice_index c.write_descriptor.new.words) c.args.roles.now c.loop-d.d c.role_of-role.result c.anchor_in-anchor.result
      c.loop-d.invariant.0 c.role_of-role.ensures
      (c.anchor_in-anchor.ensures ∙ ap (λ w. anchor_after (slice_index c.loop-d.words w) c.role_of-role.result) c.anchor.ensures)
      c.write_descriptor.ensures,
  c.write_descriptor.auto.words ∙ c.loop-d.invariant.1,
)

pub returns : goal.returns
returns c =
    let all : c.loop-d.d ≡ c.args.geometry.now.capacity = omega arith in
    subst (AreWritten (slice_index c.args.words.now) (slice_index c.loop-d.words) c.args.roles.now) all c.loop-d.invariant.0
