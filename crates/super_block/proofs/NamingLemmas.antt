-- Which block an offset names, from the superblock that it lies in and how that is divided.
use Rattle.std.proofs.Common.{◌≡◌, ℕ, ◌+◌, ◌*◌, ◌/◌, ◌%◌, ◌<◌, ◌≤◌, None, ap, subst, ◌∙◌, arith}
use Rattle.std.proofs.Math.Nat.{mul-mod_left, mul-div_cancel}
use Rattle.heap_model.specs.declared.block.Block.{Block}
use Rattle.heap_model.specs.Geometry.{start_word}
use Rattle.heap_model.specs.Sizes.{IsClass, words_of_class, blocks_of}
use Rattle.heap_model.specs.Blocks.{Layout, IsBlockOf, NamesIn}
use Rattle.heap_model.proofs.SizeLemmas.{blocks_fit, two_words}
use Rattle.heap_model.proofs.BlockLemmas.{same_begins, block_step, begins_inside}
use Rattle.super_block.specs.declared.division.Division.{Division}
use Rattle.super_block.specs.declared.naming.Place.{Place}
use Rattle.super_block.specs.Division.{IsPlaceOf, IsFound, DividesAs}

-- a block of a class begins inside its superblock
pub block_offset : (c index : ℕ) → IsClass c → index < blocks_of c → index * words_of_class c < 8192
block_offset c index is below = omega (arith, block_step index (blocks_of c) (words_of_class c) below, blocks_fit c is, two_words c is)

-- a named block lies in the superblock of the offset, and begins at its place there
pub record IsPlacedAt (l : Layout) (place : Place) (b : Block) : Type 0 where
  pub index : ℕ
  pub words : ℕ
  pub count : ℕ
  pub is_of : IsBlockOf l b place.superblock index words count
  pub within : place.within ≡ index * words

pub placed_block : (l : Layout) (offset : ℕ) (place : Place) (b : Block) → IsPlaceOf l.capacity offset place → NamesIn l offset b → IsPlacedAt l place b
placed_block l offset place b lies names =
    let of = names.block.is_of in
    let inside = begins_inside l names.block.superblock names.block.index names.block.words names.block.count of.begins of.below in
    let at = names.begins_at in
    let superblock : names.block.superblock ≡ place.superblock = omega (arith, lies.at, lies.inside) in
    let within : place.within ≡ names.block.index * names.block.words = omega (arith, lies.at, lies.inside) in
    record {
      index = names.block.index;
      words = names.block.words;
      count = names.block.count;
      within = within;
      is_of = subst (λ d. IsBlockOf l b d names.block.index names.block.words names.block.count) superblock of;
    }

-- an offset past the taken superblocks names nothing
pub past_taken : (l : Layout) (offset : ℕ) (place : Place) → IsPlaceOf l.capacity offset place → l.used ≤ place.superblock → (b : Block)
    → NamesIn l offset b → ⊥
past_taken l offset place lies past b names = let placed = placed_block l offset place b lies names in omega (arith, placed.is_of.taken)

-- nor one in a superblock that begins no blocks
pub undivided : (l : Layout) (offset : ℕ) (place : Place) → IsPlaceOf l.capacity offset place → DividesAs l place.superblock None → (b : Block)
    → NamesIn l offset b → ⊥
undivided l offset place lies none b names =
    let placed = placed_block l offset place b lies names in none placed.words placed.count placed.is_of.begins

-- nor one in a superblock that begins some, at no multiple of their size
pub no_multiple : (l : Layout) (offset capacity : ℕ) (place : Place) (division : Division) → IsFound l offset capacity place division
    → 1 ≤ division.words
    → ((place.within % division.words ≡ 0) → division.count ≤ place.within / division.words) → (b : Block) → NamesIn l offset b → ⊥
no_multiple l offset capacity place division found some past b names =
    let lies = subst (λ c. IsPlaceOf c offset place) found.capacity_is found.lies in
    let placed = placed_block l offset place b lies names in
    let same = same_begins l place.superblock placed.words placed.count division.words division.count placed.is_of.begins found.divided in
    let within : place.within ≡ placed.index * division.words = placed.within ∙ ap (λ w. placed.index * w) same.0 in
    let whole : place.within % division.words ≡ 0 = ap (λ x. x % division.words) within ∙ mul-mod_left placed.index division.words in
    let index : place.within / division.words ≡ placed.index = ap (λ x. x / division.words) within ∙ mul-div_cancel placed.index some in
    let behind = past whole in
    let below = placed.is_of.below in
    omega (arith, same.1)

-- an offset of no word of a superblock names nothing
pub nowhere : (l : Layout) (offset : ℕ) → ((d within : ℕ) → offset ≡ 8 * (start_word l.capacity d + within) → ⊥) → (b : Block) → NamesIn l offset b → ⊥
nowhere l offset none b names =
    none names.block.superblock (names.block.index * names.block.words) (names.begins_at ∙ ap (λ x. 8 * x) names.block.is_of.at)
