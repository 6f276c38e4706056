-- The heap as it is opened for a replay, and the image that a crash leaves.
use Rattle.std.proofs.Common.{◌≡◌, ℕ, ◌*◌, ◌≤◌, List, length, slice_index, replicate, Some, None, inl, inr, sym, subst, arith}
use Rattle.std.proofs.lemmas.List.{length-replicate}
use Rattle.heap_model.specs.declared.block.Block.{Block}
use Rattle.heap_model.specs.Geometry.{roots, version, version_word, image_words}
use Rattle.heap_model.specs.Header.{header_fault, HasKindsBelow}
use Rattle.heap_model.specs.Durability.{IsCrashImage}
use Rattle.heap_model.specs.Rest.{IsReady}
use Rattle.core_model.specs.declared.answer.StepAnswer.{StepAnswer}
use Rattle.core_model.specs.declared.event.Event.{Event}
use Rattle.core_model.specs.Memory.{memory_of}
use Rattle.core_model.specs.View.{Setup}
use Rattle.core_model.specs.Held.{durable_image}
use Rattle.core_model.specs.Opening.{AreOwners, opened_state}
use Rattle.core_model.specs.Steps.{TableState, Runs}
use Rattle.core_model.proofs.OpenedLemmas.{opened}
use Rattle.core_model.proofs.SoundLemmas.{sound_runs}
use Rattle.core_model.proofs.HeaderLemmas.{crash_header}
use Rattle.crash_core.specs.declared.state.CoreState.{CoreState}
use Rattle.crash_core.specs.Standing.{Represents, RunsOn}
use Rattle.heap_model.proofs.HeaderLemmas.{good_header}
use Rattle.dict_model.specs.Links.{kind_count}
use Rattle.image_run.specs.Replaying.{events_of, replay_setup, replay_opening, IsReplayed}
use Rattle.image_run.proofs.LineLemmas.{in_replicate}

-- all blocks and roots are seat 0's
pub first_owns : (held : List Block) (seats : ℕ) → 1 ≤ seats → AreOwners held seats (replicate (length held) 0) (replicate roots 0)
first_owns held seats some = record {
  blocks = length-replicate {A = ℕ} (length held) 0;
  roots_all = length-replicate {A = ℕ} roots 0;
  block_seats = λ owner has. let none : 0 ≡ owner = in_replicate (length held) 0 owner has in omega arith;
  root_seats = λ owner has. let none : 0 ≡ owner = in_replicate roots 0 owner has in omega arith;
}

-- what the core does is what the seats do
pub opened_by_first : (words : List ℕ) (held : List Block) (seats : ℕ) (block_owners root_owners : List ℕ) (core : CoreState)
    → block_owners ≡ replicate (length held) 0 → root_owners ≡ replicate roots 0
    → Represents core (replay_setup words seats) (opened_state (replay_setup words seats) held block_owners root_owners seats)
    → Represents core (replay_setup words seats) (replay_opening words held seats)
opened_by_first words held seats block_owners root_owners core blocks_are roots_are stands =
    subst (λ (l : List ℕ). Represents core (replay_setup words seats)
    (opened_state (replay_setup words seats) held l (replicate roots 0) seats)) blocks_are
    (subst (λ (l : List ℕ). Represents core (replay_setup words seats) (opened_state (replay_setup words seats) held block_owners l seats))
    roots_are stands)

pub ended : (words : List ℕ) (held : List Block) (seats : ℕ) (lines : List (ℕ × Event)) (events : List (ℕ × Event))
    (answers : List StepAnswer) (old new : CoreState) → events ≡ events_of lines
    → Represents old (replay_setup words seats) (replay_opening words held seats)
    → RunsOn old events answers new
    → (s : TableState) × Runs (replay_setup words seats) (replay_opening words held seats) (events_of lines) answers s
    × Represents new (replay_setup words seats) s
ended words held seats lines events answers old new events_are stands runs =
    let ran = runs (replay_setup words seats) (replay_opening words held seats) stands in (
      ran.0,
      subst (λ (es : List (ℕ × Event)). Runs (replay_setup words seats) (replay_opening words held seats) es answers ran.0)
          events_are ran.1,
      ran.2,
    )

-- and of the state that they come to it gives the tickets, and an image that a crash leaves
pub replayed : (words : List ℕ) (held : List Block) (seats : ℕ) (lines : List (ℕ × Event)) (answers : List StepAnswer) (tickets : ℕ)
    (left : List ℕ) (new : CoreState)
    → (s : TableState) × Runs (replay_setup words seats) (replay_opening words held seats) (events_of lines) answers s
    × Represents new (replay_setup words seats) s
    → ((k : Setup) (s : TableState) → Represents new k s → tickets ≡ (memory_of k.capacity s.words).drawn)
    → ((k : Setup) (s : TableState) → Represents new k s → IsCrashImage (durable_image k.capacity s.words) (slice_index left))
    → ((k : Setup) (s : TableState) → Represents new k s → length left ≡ image_words k.capacity)
    → IsReplayed words held seats lines answers tickets left
replayed words held seats lines answers tickets left new end drawn crash long = record {
  state = end.0;
  runs = end.1;
  tickets_are = drawn (replay_setup words seats) end.0 end.2;
  left_is = crash (replay_setup words seats) end.0 end.2;
  long = long (replay_setup words seats) end.0 end.2;
}

-- the image that is left has a good header
pub left_good : (words : List ℕ) (held : List Block) (seats : ℕ) (lines : List (ℕ × Event)) (answers : List StepAnswer) (tickets : ℕ) (left : List ℕ)
    → IsReady words held → HasKindsBelow (Some kind_count) (slice_index words) → 1 ≤ seats → IsReplayed words held seats lines answers tickets left
    → header_fault (Some kind_count) (8 * length left) (slice_index left) ≡ None
left_good words held seats lines answers tickets left ready below some is =
    let opening = opened words held _ seats (replicate (length held) 0) (replicate roots 0) ready (first_owns held seats some) in
    let sound = sound_runs (replay_setup words seats) (replay_opening words held seats) is.state _ answers opening is.runs in
    subst (λ n. header_fault (Some kind_count) (8 * n) (slice_index left) ≡ None) (sym is.long)
    (crash_header (replay_setup words seats) is.state.words is.state.views sound (slice_index left) is.left_is ready.formed (Some kind_count) below)

-- and is of this version: an image of the old one has another number of words
pub left_new : (capacity : ℕ) (left : List ℕ) → length left ≡ image_words capacity
    → header_fault (Some kind_count) (8 * length left) (slice_index left) ≡ None
    → slice_index left version_word ≡ version
left_new capacity left long good = elim (good_header (Some kind_count) (8 * length left) (slice_index left) good) as
    (λ _. slice_index left version_word ≡ version) [
      | inl old ↦ absurd (let same = old.length_is in omega arith)
      | inr new ↦ new.0.version_is
    ]
