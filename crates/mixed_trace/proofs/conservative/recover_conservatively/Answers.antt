use Rattle.std.proofs.Common.{replicate, slice_index, refl}
use Rattle.std.proofs.lemmas.Result.{IfOk-weaker, IfErr-weaker}
use Rattle.heap_model.specs.Geometry.{roots}
use Rattle.heap_recover.specs.Answer.{IsMadeOf}
use Rattle.heap_recover.proofs.KeptLemmas.{made_with}
use Rattle.mixed_trace.specs.declared.mode.Mode.TheVariants.{All}
use Rattle.mixed_trace.specs.Reach.{modes_of, IsReachedMixed}
use Rattle.mixed_trace.specs.Recovery.{TellsMixedFault}
use Rattle.mixed_trace.specs.Conservative.{no_links, IsReachedByWords, current_without_kinds, TellsHeader}
use Rattle.mixed_trace.proofs.LawLemmas.{reached_alike, none_has_filter}
use Rattle.mixed_trace.proofs.RecoveryLemmas.{tells_header}
use Rattle.mixed_trace.proofs.conservative.recover_conservatively.Goals as goal

pub returns-clause-ok : goal.returns-clause-ok
returns-clause-ok c =
    let words = current_without_kinds c.args.words.now in
    let modes = modes_of (replicate roots All) in
    IfOk-weaker c.recover_mixed.result (IsMadeOf words (IsReachedMixed (slice_index words) modes no_links))
    (IsMadeOf words (IsReachedByWords (slice_index words)))
    (λ answer made. made_with words (IsReachedMixed (slice_index words) modes no_links) (IsReachedByWords (slice_index words)) answer
    (reached_alike (slice_index words) modes (λ root. All) no_links no_links none_has_filter (record { each = λ root below. refl }))
    (reached_alike (slice_index words) (λ root. All) modes no_links no_links (record { each = λ root below. refl }) none_has_filter) made)
    c.recover_mixed.ensures.ok

pub returns-clause-cause : goal.returns-clause-cause
returns-clause-cause c =
    let words = current_without_kinds c.args.words.now in
    let modes = modes_of (replicate roots All) in
    IfErr-weaker c.recover_mixed.result (TellsMixedFault c.args.words.now words modes no_links) (TellsHeader c.args.words.now)
    (λ fault told. tells_header c.args.words.now words modes no_links fault none_has_filter told) c.recover_mixed.ensures.cause
