use Rattle.std.proofs.Common.{rules, ◌≡◌, ◌++◌, ◌∙◌, List, length, slice_index, ap, sym}
use Rattle.trace_text.specs.Answered.{answers_text_of, tickets_line_of}
use Rattle.image_run.specs.Replaying.{events_of, last_answers}
use Rattle.image_run.proofs.LineLemmas.{answered}
use Rattle.image_run.proofs.OutcomeLemmas.{left_in_each}
use Rattle.image_run.proofs.replaying.replay_image.Goals as goal

pub last_answers-requires : goal.last_answers-requires
last_answers-requires g c =
    let is = c.in_ok-replayed.ensures.replayed in
    ap (λ (l : List _). length l) c.deref-2.ensures.value ∙ answered _ _ is.state _ _ is.runs
    ∙ ap (λ (l : List _). length (events_of l)) (sym c.deref.ensures.value)

pub returns-clause-ok : goal.returns-clause-ok
returns-clause-ok g c =
    let replayed = c.in_ok-replayed.replayed in
    let text_is : c.in_ok-text.text
    ≡ answers_text_of (last_answers c.args.schedule.now.lines.items replayed.answers.items)
    ++ tickets_line_of replayed.tickets ++ c.in_ok-report.report = search rules in
    record {
      answers = replayed.answers.items;
      tickets = replayed.tickets;
      left = replayed.left.items;
      replayed = c.in_ok-replayed.ensures.replayed;
      inside = c.in_ok-recovered.ensures.inside;
      report = c.in_ok-report.report;
      tells = c.in_ok-report.ensures (slice_index replayed.left.items) c.in_ok-recovered.ensures.ok;
      text_is = text_is;
    }

pub returns-clause-always_outside : goal.returns-clause-always_outside
returns-clause-always_outside g c at value leaves =
    let there = left_in_each _ _ _ _ at value leaves _ _ _ c.in_ok-replayed.ensures.replayed in
    absurd (c.in_ok-recovered.ensures.inside at there.0)

pub returns-clause-asked : goal.returns-clause-asked
unfolding returns-clause-ok
returns-clause-asked g c = record {
  begun = c.seed.new.self;
  anew = c.seed.ensures;
  replays = returns-clause-ok g c;
  asked = c.in_ok-replayed.ensures.drawn;
}
