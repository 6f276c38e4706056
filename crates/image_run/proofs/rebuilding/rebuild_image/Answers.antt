use Rattle.std.proofs.Common.{rules, ◌≡◌, ℕ, List, length, slice_index, subst}
use Rattle.heap_model.specs.Image.{bytes_of_words}
use Rattle.region_header.specs.Words.{AreWordsOf}
use Rattle.image_run.proofs.RebuiltLemmas.{good_header}
use Rattle.image_run.proofs.rebuilding.rebuild_image.Goals as goal

pub recover_inside-requires-clause-good : goal.recover_inside-requires-clause-good
recover_inside-requires-clause-good g c =
    good_header (slice_index c.args.words.now) (length c.args.words.now)
    c.args.budget c.in_ok-rebuilt.rebuilt.stopped c.in_ok-rebuilt.rebuilt.words.items c.in_ok-rebuilt.ensures.ok

pub recover_inside-requires-clause-version : goal.recover_inside-requires-clause-version
recover_inside-requires-clause-version g c = c.in_ok-rebuilt.ensures.ok.alike.formed.version_is

pub returns-clause-ok : goal.returns-clause-ok
returns-clause-ok g c =
    let rebuilt = c.in_ok-rebuilt.rebuilt in
    let image_is : c.in_ok-image.image ≡ bytes_of_words rebuilt.words.items = search rules in
    record {
      stopped = rebuilt.stopped;
      left = rebuilt.words.items;
      rebuilt = c.in_ok-rebuilt.ensures.ok;
      put_is = image_is;
      words_are = subst (λ (l : List ℕ). AreWordsOf l c.in_ok-image.image) c.deref.ensures.value c.in_ok-image.ensures.words;
      report = c.in_ok-report.report;
      tells = c.in_ok-report.ensures (slice_index rebuilt.words.items) c.in_ok-recovered.ensures;
      text_is = c.in_ok-text.ensures;
    }

pub returns-clause-asked : goal.returns-clause-asked
returns-clause-asked g c =
    let rebuilt = c.in_ok-rebuilt.rebuilt in
    let image_is : c.in_ok-image.image ≡ bytes_of_words rebuilt.words.items = search rules in
    record {
      begun = c.seed.new.self;
      anew = c.seed.ensures;
      stopped = rebuilt.stopped;
      left = rebuilt.words.items;
      put_is = image_is;
      report = c.in_ok-report.report;
      text_is = c.in_ok-text.ensures;
      asked = c.in_ok-rebuilt.ensures.asked;
    }
