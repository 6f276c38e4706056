-- Recovery made in place, word by word: what it asks for, and what stands of the image wherever it ends.
use Rattle.std.specs.Prelude.{◌≡◌, ◌≢◌, ◌↔◌, ◌⊎◌, ℕ, zero, suc, ◌+◌, ◌-◌, ◌*◌, ◌/◌, ◌<◌, ◌≤◌, cond, nat_eq, List, length, slice_index, Option, None, Some}
use Rattle.heap_model.specs.declared.block.Block.{Block}
use Rattle.heap_model.specs.Geometry.{roots, root_word, state_word, clean, dirty}
use Rattle.heap_model.specs.Header.{IsWellFormed, HasKindsBelow, capacity_of, kinds_of}
use Rattle.heap_model.specs.Durability.{IsTransient}
use Rattle.heap_model.specs.Image.{Image}
use Rattle.heap_model.specs.Blocks.{IsIn, layout_of}
use Rattle.heap_model.specs.Reach.{Links, ReachIn, IsReachedIn, IsOutsideIn}
use Rattle.heap_model.specs.Recovered.{IsFreeSuperblock, AreAscending}
use Rattle.heap_model.specs.Recovery.{IsRecovered}
use Rattle.line_memory.specs.View.{View, word_count, volatile_at, durable_at, IsPending}

-- of the first words of two images, how many differ
abbrev pub differences : Image → Image → ℕ → ℕ
differences old new zero = 0
differences old new (suc n) = differences old new n + cond (nat_eq (old n) (new n)) 0 1

-- of their first lines, how many have a word that differs
abbrev pub changed_lines : Image → Image → ℕ → ℕ
changed_lines old new zero = 0
changed_lines old new (suc line) = changed_lines old new line
    + cond (nat_eq (differences old new (8 * line + 8)) (differences old new (8 * line))) 0 1

-- the steps before a word: a store of each word below it that differs, and a write-back of each line that ends below it and has such a word
abbrev pub steps_until : Image → Image → ℕ → ℕ
steps_until old new word = differences old new word + changed_lines old new ((word - 1) / 8)

-- the steps that make the one image the other, of so many whole lines: a store of each word that differs, a write-back of each line that
-- has one, and a fence
abbrev pub steps_between : Image → Image → ℕ → ℕ
steps_between old new words = 1 + (differences old new words + changed_lines old new (words / 8))

-- the heap of these words and held blocks is what recovery makes of the image, whose kinds of roots are below the limit
pub record IsRecoveryOf (limit : Option ℕ) (old : List ℕ) (links : Links) (new : List ℕ) (held : List Block) : Type 0 where
  pub formed : IsWellFormed (8 * length old) (slice_index old)
  pub below : HasKindsBelow limit (slice_index old)
  pub none_outside : (at : ℕ) → IsOutsideIn (slice_index old) links at → ⊥
  pub held_are : AreAscending (λ (b : Block). b.first_word) (IsReachedIn (slice_index old) links) held
  pub long : length new ≡ length old
  pub words_are : IsRecovered (slice_index old) (slice_index new) (IsReachedIn (slice_index old) links)

-- a memory that has the image, each word of it durable
pub record HoldsDurably (words : List ℕ) (v : View) : Type 0 where
  pub volatile : v.volatile ≡ words
  pub durable : v.durable ≡ words

-- Recovery of the other image keeps the same as that of the one. Its header is good, with kinds below the limit, and
-- nothing in it is outside. The same blocks are
-- reached as the same kinds, with the same words, from the same roots of the same kinds. The same superblocks are free.
pub record RecoversAlike (limit : Option ℕ) (bytes : ℕ) (image other : Image) (links : Links) : Type 0 where
  pub formed : IsWellFormed bytes other
  pub below : HasKindsBelow limit other
  pub none_outside : (at : ℕ) → IsOutsideIn other links at → ⊥
  pub reach : (b : Block) (kind : ℕ) → ReachIn image links b kind ↔ ReachIn other links b kind
  pub words : (b : Block) (word : ℕ) → IsReachedIn image links b → IsIn b word → other word ≡ image word
  pub roots_are : (root : ℕ) → root < roots → other (root_word root) ≡ image (root_word root)
  pub kinds_are : (root : ℕ) → root < roots → kinds_of other root ≡ kinds_of image root
  pub free : (d : ℕ) → IsFreeSuperblock (layout_of image) (IsReachedIn image links) d
      ↔ IsFreeSuperblock (layout_of other) (IsReachedIn other links) d

-- each word that loads see, and each that is durable, is that of the one image or of the other
pub record IsBetween (old new : List ℕ) (v : View) : Type 0 where
  pub count : word_count v ≡ length old
  pub volatile : (word : ℕ) → (volatile_at v word ≡ slice_index old word) ⊎ (volatile_at v word ≡ slice_index new word)
  pub durable : (word : ℕ) → (durable_at v word ≡ slice_index old word) ⊎ (durable_at v word ≡ slice_index new word)

-- as loads see them, the words below `done` are the new ones and the others the old ones, which are durable too; those below `settled` are
-- durable so, or pending
pub record IsStoredTo (old new : List ℕ) (settled done : ℕ) (v : View) : Type 0 where
  pub count : word_count v ≡ length old
  pub stored : (word : ℕ) → word < done → volatile_at v word ≡ slice_index new word
  pub rest : (word : ℕ) → done ≤ word → volatile_at v word ≡ slice_index old word
  pub durable : (word : ℕ) → (durable_at v word ≡ slice_index old word) ⊎ (durable_at v word ≡ slice_index new word)
  pub kept : (word : ℕ) → done ≤ word → durable_at v word ≡ slice_index old word
  pub settling : (word : ℕ) → word < settled → (durable_at v word ≡ slice_index new word) ⊎ IsPending v word

-- how far stores in the order of word index have come: loads see the new words below `at` and the old ones from there on, which are
-- durable too. Unless it had stopped before, the budget has a step for each of these stores and write-backs, but for so many before
pub record HasReached (old new : List ℕ) (before : ℕ) (v w : View) : Type 0 where
  pub at : ℕ
  pub stored : (word : ℕ) → word < at → volatile_at w word ≡ slice_index new word
  pub rest : (word : ℕ) → at ≤ word → volatile_at w word ≡ slice_index old word
  pub rest_durable : (word : ℕ) → at ≤ word → durable_at w word ≡ slice_index old word
  pub steps : v.stopped ≡ None → v.drawn + steps_until (slice_index old) (slice_index new) at ≤ v.budget + before

-- it stopped at this ticket, drew so many tickets at most, behind so many steps before, and came so far
pub record IsStoppedBetween (old new : List ℕ) (before most ticket : ℕ) (v w : View) : Type 0 where
  pub stopped : w.stopped ≡ Some ticket
  pub between : IsBetween old new w
  pub budget : w.budget ≡ v.budget
  pub drawn : w.drawn ≤ v.drawn + most
  pub reached : HasReached old new before v w

-- it stopped at this ticket, which is at or above the budget and one of the next `most` tickets or an earlier one, and came so far
pub record IsStoppedAt (old new : List ℕ) (most ticket : ℕ) (v w : View) : Type 0 where
  pub stopped : w.stopped ≡ Some ticket
  pub above : v.budget ≤ ticket
  pub few : ticket < v.drawn + most
  pub reached : HasReached old new 0 v w

-- each word is that of the one image or of the other, but the state and those that a crash leaves with any value
pub record IsPartlyRecovered (old new image : Image) : Type 0 where
  pub state : (image state_word ≡ clean) ⊎ (image state_word ≡ dirty)
  pub others : (word : ℕ) → word ≢ state_word → (IsTransient (capacity_of old) word → ⊥) → (image word ≡ old word) ⊎ (image word ≡ new word)

-- the words of two images differ in the range
abbrev pub Differ : List ℕ → List ℕ → ℕ → ℕ → Type 0
Differ old new from to = differences (slice_index old) (slice_index new) from < differences (slice_index old) (slice_index new) to
