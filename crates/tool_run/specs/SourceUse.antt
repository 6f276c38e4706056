-- When the source is read, and how far, by the words and the status.
use Rattle.std.specs.Prelude.{◌≡◌, ◌≢◌, ℕ, ◌+◌, List}
use Rattle.tool_ports.specs.Left.{IsAtEnd, GivesAtMost}
use Rattle.tool_run.specs.Making.{longest_trace}
use Rattle.tool_run.specs.CommandUses.{RefusesOutside}
use Rattle.tool_run.specs.Outcome.{AsksToGet, AsksForReplay, AsksForSource, HoldsOutside}
use Rattle.tool_run.specs.Seen.{Seen}
use Rattle.tool_run.specs.Status.{done, read_fault, outside, IsBeforeTrace}

-- It is read for a run or a replay alone, once its image is good. `before` is the source as it was, and `after` as it is, of which
-- `HasEnded` says that it told its end.
pub record UsesSource {T : Type 0} (words : List (List ℕ)) (old new : Seen) (HasEnded : T → Type 0) (before after : T) (status : ℕ) : Type 0 where
  -- no other command reads it
  pub unread : ((name : List ℕ) → ¬ (AsksForSource words name)) → after ≡ before
  -- words or an image that are refused leave it alone, but where a replay leaves a word outside
  pub not_yet_read : IsBeforeTrace status → (status ≡ outside → (name : List ℕ) → ¬ (AsksForReplay words name)) → after ≡ before
  pub image_first : (name : List ℕ) (at : ℕ) (asks : AsksToGet words name) (has : HoldsOutside old.contents name at)
      → RefusesOutside asks.command has.bytes → after ≡ before
  -- a result is made once it is read to its end
  pub read_to_the_end : (name : List ℕ) → AsksForSource words name → status ≡ done → IsAtEnd new.left
  pub has_ended : (name : List ℕ) → AsksForSource words name → status ≡ done → HasEnded after
  -- at most one byte more is taken than a trace may have
  pub read_at_most : GivesAtMost (longest_trace + 1) old.left new.left
  -- a failed read tells
  pub no_failed_read : status ≢ read_fault → new.source_faults ≡ old.source_faults
