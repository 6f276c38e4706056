use Rattle.std.proofs.Common.{refl}
use Rattle.tool_run.proofs.ImageLemmas.{first_limited, is_malformed}
use Rattle.tool_run.proofs.CurrentLemmas.{got_in_words, good_words, is_current, no_memory}
use Rattle.tool_run.proofs.DeliveryLemmas.{at_cause}
use Rattle.tool_run.proofs.getting.current_image.Goals as goal

pub returns-in_err-header-clause-err : goal.returns-in_err-header-clause-err
returns-in_err-header-clause-err g c =
    let first = first_limited (g.I.ImageStore.contents c.args.images.now)
    c.args.name.now c.in_ok-bytes.bytes.items _ c.most_bytes.ensures c.in_ok-bytes.ensures.ok in
    at_cause _ c.from_residual-in_err-header.result c.from_residual-in_err-header.ensures
    (λ fault is. is_malformed c.args.limit _ _ _ _ _ _ fault is first c.deref.ensures.value c.in_err-header.ensures.cause)

pub words_in-requires : goal.words_in-requires
words_in-requires g c = got_in_words c.args.limit c.in_ok-bytes.bytes.items _ c.deref.ensures.value c.in_ok-header.ensures.good

pub current-requires-clause-good : goal.current-requires-clause-good
current-requires-clause-good g c =
    good_words c.args.limit c.in_ok-bytes.bytes.items _ c.deref.ensures.value c.in_ok-header.ensures.good _ c.in_ok-words_in.ensures.ok

pub returns-in_err-words_in-clause-err : goal.returns-in_err-words_in-clause-err
returns-in_err-words_in-clause-err g c =
    at_cause _ c.from_residual-in_err-words_in.result c.from_residual-in_err-words_in.ensures
    (λ fault is command gets checks named. no_memory command _ _ fault is)

pub returns-in_err-words-clause-err : goal.returns-in_err-words-clause-err
returns-in_err-words-clause-err g c =
    at_cause _ c.from_residual-in_err-words.result c.from_residual-in_err-words.ensures
    (λ fault is command gets checks named. no_memory command _ _ fault is)

pub returns-clause-ok : goal.returns-clause-ok
returns-clause-ok g c =
    let first = first_limited (g.I.ImageStore.contents c.args.images.now)
    c.args.name.now c.in_ok-bytes.bytes.items _ c.most_bytes.ensures c.in_ok-bytes.ensures.ok in
    is_current c.args.limit c.in_ok-bytes.bytes.items _ c.deref.ensures.value c.in_ok-header.ensures.good
    c.in_ok-words_in.field-0.items c.in_ok-words_in.ensures.ok c.args.kinds.now _ _ c.in_ok-header.header _ first
    c.in_ok-header.ensures.ok c.requires.roots c.requires.kinds c.in_ok-words.ensures.ok refl
