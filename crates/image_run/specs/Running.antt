-- What a run of a trace puts and prints.
use Rattle.std.specs.Prelude.{◌≡◌, ℕ, Bool, List, ◌++◌, length, slice_index}
use Rattle.heap_model.specs.declared.block.Block.{Block}
use Rattle.heap_model.specs.Header.{capacity_of}
use Rattle.heap_model.specs.Image.{Image, bytes_of_words}
use Rattle.region_header.specs.Words.{AreWordsOf}
use Rattle.dict_model.specs.Requests.{Request}
use Rattle.dictionary.specs.Reading.{RecoversTo}
use Rattle.run_model.specs.Runs.{AnswerInOrder, StopsRightly, IsFullRightly, RepliesRightly, LeavesMaps, LeavesHeader, LeavesOthers, LeavesUsed, LeavesState}
use Rattle.run_model.specs.Workers.{Replies}
use Rattle.run_outcome.specs.Closed.{LeavesOrderly}
use Rattle.shared_run.specs.Dealt.{DealsThenScrambles}
use Rattle.run_outcome.specs.Together.{HaveWorked}
use Rattle.worker_run.specs.Said.{Told, replies_of}
use Rattle.trace_text.specs.Replies.{replies_text}
use Rattle.image_run.specs.declared.options.RunOptions.{RunOptions}
use Rattle.image_run.specs.Reporting.{Reports}

-- how a trace is run, and what is told of it
pub record Options : Type 0 where
  pub workers : ℕ
  pub budget : ℕ
  pub seed : ℕ
  pub with_sum : Bool
  pub with_map : Bool

-- what the options of the code stand for
abbrev pub options_of : RunOptions → Options
options_of options = record {
  workers = options.workers;
  budget = options.budget;
  seed = options.seed;
  with_sum = options.with_sum;
  with_map = options.with_map;
}

-- the words are those of the image, or those that recovery leaves of it
pub data AreOpened (words : List ℕ) : Image → Type 0 where
  as_they_are : AreOpened words (slice_index words)
  by_recovery : (image next : Image) → RecoversTo image next → AreOpened words next → AreOpened words image

-- the replies and the image left are those of workers over one heap at rest that was opened with the image: the states
-- that each one's seat went through, from the opening on, say why it was stopped
pub record WorkedOver (image : Image) (workers budget : ℕ) (requests : List Request) (replies : Replies) (stopped : Bool) (left : List ℕ) : Type 0 where
  pub words : List ℕ
  pub opened : AreOpened words image
  pub held : List Block
  pub now : List ℕ
  pub kept : List ℕ
  pub worked : HaveWorked words held workers budget requests replies stopped now kept left

-- each worker's requests are answered in order with right replies, as far as the budget goes, and this image is left
pub record Leaves (image : Image) (requests : List Request) (workers budget : ℕ) (told : List Told) (stopped : Bool) (left : List ℕ) : Type 0 where
  pub worked : WorkedOver image workers budget requests (replies_of told) stopped left
  pub answers : AnswerInOrder workers requests (replies_of told)
  pub stops : StopsRightly image workers requests budget (replies_of told) stopped
  pub replies : RepliesRightly image requests (replies_of told)
  pub full : IsFullRightly image workers requests (replies_of told)
  pub maps : LeavesMaps image workers requests (replies_of told) stopped (slice_index left)
  pub header : LeavesHeader image (length left) (slice_index left)
  pub others : LeavesOthers image (slice_index left)
  pub used : LeavesUsed image workers requests (replies_of told) (slice_index left)
  pub state : LeavesState stopped (slice_index left)
  pub orderly : LeavesOrderly stopped (length left) (slice_index left)

-- a run of the requests over the image puts these bytes, those of the image that is left, which are read again as its
-- words, and prints this text: the replies, and then the report on the image that is left
pub record RunsRequests (image : Image) (requests : List Request) (options : Options) (put text : List ℕ) : Type 0 where
  pub told : List Told
  pub stopped : Bool
  pub left : List ℕ
  pub leaves : Leaves image requests options.workers options.budget told stopped left
  pub put_is : put ≡ bytes_of_words left
  pub words_are : AreWordsOf left put
  pub report : List ℕ
  pub reports : Reports (slice_index left) options.with_sum options.with_map report
  pub text_is : text ≡ replies_text told stopped options.with_sum ++ report

-- the chances of a run that puts these bytes began anew by the seed, first of all and once. Then each worker was given
-- its chance and, where the run was stopped, the words were taken that the crash leaves at random
pub record RunAsks {C One : Type 0} (seed_gives : C → ℕ → C → Type 0) (chance_gives : C → ℕ → One → C → Type 0) (word_gives : C → ℕ → C → Type 0)
    (image : Image) (options : Options) (put : List ℕ) (old new : C) : Type 0 where
  pub begun : C
  pub anew : seed_gives old options.seed begun
  pub stopped : Bool
  pub left : List ℕ
  pub put_is : put ≡ bytes_of_words left
  pub state : LeavesState stopped (slice_index left)
  pub asked : DealsThenScrambles chance_gives word_gives options.workers stopped (capacity_of image) (slice_index left) begun new
