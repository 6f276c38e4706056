use Rattle.std.proofs.Common.{◌≡◌, List, ℕ, ◌++◌, slice_index, subst, ap, ◌∙◌, rules}
use Rattle.worker_run.specs.Said.{Told}
use Rattle.heap_model.specs.Image.{bytes_of_words}
use Rattle.trace_text.specs.Replies.{replies_text}
use Rattle.region_header.specs.Words.{AreWordsOf}
use Rattle.worker_run.proofs.AgainLemmas.{can_be_run}
use Rattle.image_run.specs.Running.{as_they_are}
use Rattle.image_run.proofs.running.run_image.Goals as goal

pub left_text-requires-clause-run : goal.left_text-requires-clause-run
left_text-requires-clause-run g c =
    can_be_run (slice_index c.args.mapped.words) (slice_index c.in_ok-outcome.outcome.image.items)
    _ _ _ _ _ c.requires.dictionary.maps c.in_ok-outcome.ensures.maps
    c.in_ok-outcome.ensures.header c.in_ok-outcome.ensures.others

pub returns-clause-ok : goal.returns-clause-ok
returns-clause-ok g c =
    let outcome = c.in_ok-outcome.outcome in
    let replies_are : c.in_ok-replies.replies ≡ replies_text outcome.replies.items outcome.stopped c.args.options.with_sum =
    c.in_ok-replies.ensures.ok ∙ ap (λ (rs : List Told). replies_text rs outcome.stopped c.args.options.with_sum) c.deref.ensures.value in
    let joined : c.from_vec.result ≡ c.in_ok-replies.replies ++ c.in_ok-report.report = search rules in
    let text_is : c.from_vec.result ≡ replies_text outcome.replies.items outcome.stopped c.args.options.with_sum ++ c.in_ok-report.report =
    joined ∙ ap (λ (l : List ℕ). l ++ c.in_ok-report.report) replies_are in
    let image_is : c.in_ok-image.image ≡ bytes_of_words outcome.image.items = search rules in
    record {
      told = outcome.replies.items;
      stopped = outcome.stopped;
      left = outcome.image.items;
      leaves = record {
        worked = record {
          words = c.args.mapped.words;
          opened = as_they_are;
          held = c.args.mapped.held;
          now = c.in_ok-outcome.ensures.worked.0;
          kept = c.in_ok-outcome.ensures.worked.1;
          worked = c.in_ok-outcome.ensures.worked.2;
        };
        answers = c.in_ok-outcome.ensures.answers;
        stops = c.in_ok-outcome.ensures.stops;
        replies = c.in_ok-outcome.ensures.replies;
        full = c.in_ok-outcome.ensures.full;
        maps = c.in_ok-outcome.ensures.maps;
        header = c.in_ok-outcome.ensures.header;
        others = c.in_ok-outcome.ensures.others;
        used = c.in_ok-outcome.ensures.used;
        state = c.in_ok-outcome.ensures.state;
        orderly = c.in_ok-outcome.ensures.orderly;
      };
      put_is = image_is;
      words_are = subst (λ (l : List ℕ). AreWordsOf l c.in_ok-image.image) c.deref-2.ensures.value c.in_ok-image.ensures.words;
      report = c.in_ok-report.report;
      reports = c.in_ok-report.ensures;
      text_is = text_is;
    }

pub returns-clause-asked : goal.returns-clause-asked
returns-clause-asked g c =
    let outcome = c.in_ok-outcome.outcome in
    let image_is : c.in_ok-image.image ≡ bytes_of_words outcome.image.items = search rules in
    record {
      begun = c.seed.new.self;
      anew = c.seed.ensures;
      stopped = outcome.stopped;
      left = outcome.image.items;
      put_is = image_is;
      state = c.in_ok-outcome.ensures.state;
      asked = c.in_ok-outcome.ensures.asked;
    }
