-- A directory that grows by one superblock, and what it keeps.
use Rattle.std.proofs.Common.{ℕ, ◌*◌, ◌<◌, ◌≤◌, List, length, slice_index_or, Option, Some, None, IfSome, subst, arith}
use Rattle.heap_model.specs.declared.block.Block.{Block}
use Rattle.heap_model.specs.Blocks.{Layout, Begins, of_class, as_large, NamesIn}
use Rattle.heap_model.proofs.BlockLemmas.{some_words}
use Rattle.heap_model.proofs.SizeLemmas.{blocks_fit}
use Rattle.super_block.specs.declared.division.Division.{Division}
use Rattle.super_block.specs.Division.{Divisions, Describes, DividesAs, DividesTaken, DividesFirst, FitsIn, IsPlaceOf}
use Rattle.super_block.specs.declared.naming.Place.{Place}
use Rattle.super_block.proofs.NamingLemmas.{placed_block}

-- the blocks that are begun have no more words than all superblocks
few_words : (l : Layout) (d w n : ℕ) → l.used ≤ l.capacity → d < l.used → Begins l d w n → n * w ≤ 8192 * l.capacity
few_words l d w n used taken (of_class c e is) = omega (arith, blocks_fit c is)
few_words l d w n used taken (as_large k some e end zeros) = omega arith

begun_room : (l : Layout) (d : ℕ) (found : Option Division) → l.used ≤ l.capacity → d < l.used → DividesAs l d found
    → IfSome found (FitsIn l.capacity d)
begun_room l d None used taken none = tt
begun_room l d (Some division) used taken begins = record {
  below = omega arith;
  some = omega (arith, some_words l d division.words division.count begins);
  few = few_words l d division.words division.count used taken begins;
}

-- so in a directory all that is begun has room
pub all_have_room : (l : Layout) (of : List (Option Division)) (count : ℕ) → l.used ≤ l.capacity → count ≤ l.used → DividesFirst l of count
    → (d : ℕ) → d < length of → IfSome (slice_index_or of d None) (FitsIn l.capacity d)
all_have_room l of count used taken first d below =
    let long = first.long in
    begun_room l d (slice_index_or of d None) used (omega arith) (first.each d (omega arith))

-- an offset in a superblock that has not been taken, or begins no block, names nothing
pub names_none : (l : Layout) (offset : ℕ) (place : Place) → IsPlaceOf l.capacity offset place → DividesTaken l place.superblock None
    → (b : Block) → NamesIn l offset b → ⊥
names_none l offset place lies none b names =
    let placed = placed_block l offset place b lies names in none placed.is_of.taken placed.words placed.count placed.is_of.begins

-- the offset lies there in the layout that a directory describes too
pub lies_in : (l : Layout) (directory : Divisions) (offset : ℕ) (place : Place) → Describes directory l
    → IsPlaceOf directory.capacity offset place → IsPlaceOf l.capacity offset place
lies_in l directory offset place is lies = subst (λ c. IsPlaceOf c offset place) is.capacity_is lies
