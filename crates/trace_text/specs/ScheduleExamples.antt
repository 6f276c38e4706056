-- Worked examples of schedules and of answers.
use Rattle.std.specs.Prelude.{◌≡◌, ◌^◌, ◌<◌, [], ◌∷◌, ◌++◌, codes, Some, None, refl}
use Rattle.std.proofs.Common.{inl, arith}
use Rattle.std.proofs.lemmas.List.Elements.{All-nil, All-cons}
use Rattle.std.specs.Fmt.{digits}
use Rattle.core_model.specs.declared.answer.StepAnswer.TheVariants.{Done, Stopped, NotNow}
use Rattle.core_model.specs.declared.event.Event.TheVariants.{Tick, Store, TakeAll}
use Rattle.core_model.specs.declared.event.Shift.TheVariants.{Cut, Large}
use Rattle.trace_text.specs.declared.schedule.Schedule.{Schedule}
use Rattle.trace_text.specs.Answered.{answers_text_of, tickets_line_of}
use Rattle.trace_text.specs.Lines.{lines_of}
use Rattle.trace_text.specs.Report.{line_feed}
use Rattle.trace_text.specs.Schedule.{words_of_event, IsStepLine, IsSeatsLine, IsSchedule, IsFirstBad}

-- events as they are written
a_draw : words_of_event (Tick None) ≡ codes "tick"
a_draw = refl

a_large_block : words_of_event (Tick (Some (Large 4 2))) ≡ codes "large 4 2"
unfolding digits
a_large_block = refl

a_store : words_of_event (Store 8 18446744073709551615) ≡ codes "store 8 18446744073709551615"
unfolding digits
a_store = refl

all_blocks_of_a_superblock : words_of_event (TakeAll 10) ≡ codes "take-all 10"
unfolding digits
all_blocks_of_a_superblock = refl

-- a line with the step of a seat
a_step : IsStepLine 8 (codes "1 cut 3") (1, Tick (Some (Cut 3)))
unfolding digits
a_step = record {
  words = codes "cut 3";
  line_is = refl;
  seat_is_below = omega arith;
  event_is = record { words_are = refl; numbers_fit = All-cons (λ n. n < 2 ^ 64) 3 [] (omega arith) (All-nil (λ n. n < 2 ^ 64)) };
}

-- a first line
eight_seats : IsSeatsLine (codes "seats 8") 8
unfolding digits
eight_seats = record { some = omega arith; at_most_8 = omega arith; line_is = refl }

-- a whole schedule, of which the last line may lack its line feed
two_lines : (s : Schedule) → s.seats ≡ 8 → s.lines.items ≡ (1, Tick (Some (Cut 3))) ∷ []
    → IsSchedule (codes "seats 8" ++ line_feed ++ codes "1 cut 3") s
two_lines s seats steps = record {
  first = codes "seats 8";
  further = codes "1 cut 3" ∷ [];
  lines_are = refl;
  seats_are = rw seats eight_seats;
  steps_are = rw (seats, steps) (a_step, tt);
}

-- an empty text counts as an empty line
empty_text : IsFirstBad (lines_of []) 1
empty_text = refl

empty_line : IsFirstBad (lines_of line_feed) 1
empty_line = inl (λ seats is. cc is.line_is, refl)

-- answers
three_answers : answers_text_of (Done ∷ NotNow ∷ Stopped 4 ∷ [])
    ≡ codes "done" ++ line_feed ++ codes "not now" ++ line_feed ++ codes "not now" ++ line_feed
three_answers = refl

some_tickets : tickets_line_of 120 ≡ codes "tickets 120" ++ line_feed
unfolding digits
some_tickets = refl
