use Rattle.std.proofs.lemmas.Result.{IfOk-weaker}
use Rattle.std.proofs.Common.{slice_index}
use Rattle.image_run.specs.Conservative.{IsHeapText, TellsByWords}
use Rattle.image_run.proofs.ConservativeLemmas.{tells_by_words}
use Rattle.image_run.proofs.conservative.conservative_text.Goals as goal

pub returns : goal.returns
returns c =
    let recovered = c.in_ok-recovered.recovered in
    record {
      ok = IfOk-weaker c.unkeyed_text.result (IsHeapText recovered c.args.with_map)
          (TellsByWords (slice_index c.args.words.items) c.args.with_map)
          (λ text told. tells_by_words c.args.words.items recovered c.args.with_map text c.in_ok-recovered.ensures.ok told)
          c.unkeyed_text.ensures.ok;
    }
