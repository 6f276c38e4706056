use Rattle.std.proofs.Common.{rules, ◌≡◌, ◌∙◌, ℕ, ◌<◌, List, map, slice_index, ap, sym, subst}
use Rattle.std.specs.Prelude.{Contains}
use Rattle.heap_model.specs.Header.{capacity_of}
use Rattle.crash_image.specs.Crash.{GivesAll, transient_words}
use Rattle.core_model.specs.declared.event.Event.{Event}
use Rattle.tool_ports.specs.Chances.{unasked}
use Rattle.image_run.specs.Replaying.{events_of, replay_setup}
use Rattle.image_run.proofs.LineLemmas.{seats_below}
use Rattle.image_run.proofs.CrashLemmas.{ended, replayed, left_good, left_new}
use Rattle.image_run.proofs.replaying.replay_lines.Goals as goal

pub replay-requires : goal.replay-requires
replay-requires g c =
    let lines = c.args.schedule.now.lines.items in
    let events_are : c.deref-2.result.now ≡ events_of lines = c.deref-2.ensures.value ∙ c.in_ok-events.ensures ∙ ap events_of c.deref.ensures.value in
    record {
      seats = λ e has. subst (λ n. e.0 < n) (sym c.in_ok-core.ensures.seats)
          (seats_below c.args.schedule.now.seats lines c.requires.schedule.below e (subst (λ (es : List (ℕ × Event)). Contains es e) events_are has));
    }

pub returns-clause-replayed : goal.returns-clause-replayed
returns-clause-replayed g c =
    let lines = c.args.schedule.now.lines.items in
    let events_are : c.deref-2.result.now ≡ events_of lines = c.deref-2.ensures.value ∙ c.in_ok-events.ensures ∙ ap events_of c.deref.ensures.value in
    let end = ended c.args.heap.words c.args.heap.held c.args.schedule.now.seats lines c.deref-2.result.now _ _ _ events_are
    c.in_ok-core.ensures.ok c.in_ok-answers.ensures.runs in
    replayed c.args.heap.words c.args.heap.held c.args.schedule.now.seats lines _ _ _ _ end c.tickets-tickets.ensures
    c.in_ok-left.ensures.ok c.in_ok-left.ensures.length

pub returns-clause-drawn : goal.returns-clause-drawn
returns-clause-drawn g c =
    let lines = c.args.schedule.now.lines.items in
    let events_are : c.deref-2.result.now ≡ events_of lines = c.deref-2.ensures.value ∙ c.in_ok-events.ensures ∙ ap events_of c.deref.ensures.value in
    let end = ended c.args.heap.words c.args.heap.held c.args.schedule.now.seats lines c.deref-2.result.now _ _ _ events_are
    c.in_ok-core.ensures.ok c.in_ok-answers.ensures.runs in
    let numbers = map (slice_index c.in_ok-left.left.items) (transient_words (capacity_of (slice_index c.args.heap.words))) in
    let drawn : GivesAll g.C.Chances.word_gives c.args.chances.now numbers c.left_by_words.new.scramble.chances.now =
    c.in_ok-left.ensures.drawn (replay_setup c.args.heap.words c.args.schedule.now.seats) end.0 end.2 in
    subst (λ (to : _). GivesAll g.C.Chances.word_gives c.args.chances.now numbers to) (search rules) drawn

pub returns-clause-good : goal.returns-clause-good
returns-clause-good g c = left_good _ _ _ _ _ _ _ c.core_over.ensures.ready c.requires.kinds c.requires.schedule.some (returns-clause-replayed g c)

pub returns-clause-version : goal.returns-clause-version
returns-clause-version g c = left_new _ _ (returns-clause-replayed g c).long (returns-clause-good g c)

pub returns-in_err-core-clause-chances : goal.returns-in_err-core-clause-chances
returns-in_err-core-clause-chances g c = unasked

pub returns-in_err-events-clause-chances : goal.returns-in_err-events-clause-chances
returns-in_err-events-clause-chances g c = unasked

pub returns-in_err-answers-clause-chances : goal.returns-in_err-answers-clause-chances
returns-in_err-answers-clause-chances g c = unasked
