use Rattle.std.proofs.Common.{replicate, slice_index, refl}
use Rattle.heap_model.specs.Geometry.{roots}
use Rattle.heap_recover.proofs.KeptLemmas.{made_with}
use Rattle.mixed_trace.specs.declared.mode.Mode.TheVariants.{All}
use Rattle.mixed_trace.specs.Reach.{modes_of, IsReachedMixed}
use Rattle.mixed_trace.specs.Conservative.{no_links, IsReachedByWords}
use Rattle.mixed_trace.proofs.LawLemmas.{reached_alike, none_has_filter}
use Rattle.mixed_trace.proofs.RecoveryLemmas.{never_outside}
use Rattle.mixed_trace.proofs.conservative.recover_current_conservatively.Goals as goal

pub returns-in-Ok : goal.returns-in-Ok
returns-in-Ok c =
    let words = c.args.words.items in
    let modes = modes_of (replicate roots All) in
    record {
      ok = made_with words (IsReachedMixed (slice_index words) modes no_links) (IsReachedByWords (slice_index words)) c.in-Ok.recovered
          (reached_alike (slice_index words) modes (λ root. All) no_links no_links none_has_filter (record { each = λ root below. refl }))
          (reached_alike (slice_index words) (λ root. All) modes no_links no_links (record { each = λ root below. refl }) none_has_filter)
          c.in-Ok.ensures.ok;
    }

pub unreachable-requires : goal.unreachable-requires
unreachable-requires c =
    never_outside (slice_index c.args.words.items) (modes_of (replicate roots All)) no_links c.in-Err-Outside.field-0 _ _ none_has_filter
    c.in-Err-Outside.field-0-is c.in-Err-Outside.ensures.cause
