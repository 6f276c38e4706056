-- What the steps of a schedule answered, as lines.
use Rattle.std.specs.Prelude.{ℕ, List, ◌++◌, codes, decimal}
use Rattle.std.specs.List.{flat_map}
use Rattle.core_model.specs.declared.answer.StepAnswer.{StepAnswer}
use Rattle.core_model.specs.declared.answer.StepAnswer.TheVariants.{Done, Stopped, NotNow}
use Rattle.trace_text.specs.Report.{line_feed}

-- whether a step was done, in words
abbrev pub answer_words : StepAnswer → List ℕ
answer_words Done = codes "done"
answer_words (Stopped step) = codes "not now"
answer_words NotNow = codes "not now"

-- an answer in a line
abbrev pub answer_line : StepAnswer → List ℕ
answer_line answer = answer_words answer ++ line_feed

-- the answers in their order, one a line
abbrev pub answers_text_of : List StepAnswer → List ℕ
answers_text_of answers = flat_map answer_line answers

-- how many tickets were drawn
abbrev pub tickets_line_of : ℕ → List ℕ
tickets_line_of tickets = codes "tickets " ++ decimal tickets ++ line_feed
