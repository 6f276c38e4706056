-- Where a word leads among the blocks that it may lead to.
use Rattle.std.proofs.Common.{◌≡◌, ◌≢◌, ℕ, ◌+◌, ◌<◌, ◌≤◌, ◌^◌, ◌-◌, ◌/◌, ◌&&◌, false, nat_eq, List, length, take, drop, slice_index, subst, ◌∙◌, ap, arith}
use Rattle.std.specs.Prelude.{not}
use Rattle.std.proofs.lemmas.Bool.{and_parts, not-false, eqb-true}
use Rattle.heap_model.specs.declared.block.Block.{Block}
use Rattle.heap_model.specs.Image.{Image, words_from, bytes_of_words}
use Rattle.heap_model.specs.Header.{kinds_of}
use Rattle.heap_model.specs.Blocks.{layout_of, IsBlock}
use Rattle.heap_model.specs.Pointers.{Leads}
use Rattle.heap_model.specs.Reach.{ReachFrom}
use Rattle.heap_model.proofs.ImageLemmas.{words_from-list}
use Rattle.heap_model.proofs.ReachLemmas.{one_block}
use Rattle.super_block.specs.Division.{Divisions}
use Rattle.filter_trace.proofs.TraceStepLemmas.{block_within, image_short}
use Rattle.root_reach.specs.declared.labels.Origins.{Origins}
use Rattle.root_reach.specs.Reaching.{IsReachedBeside}
use Rattle.dict_model.specs.Links.{dict_links}
use Rattle.dict_model.specs.Nodes.{length_in, value_in}
use Rattle.dict_model.specs.Shards.{Leading, LeadsOnce, LeadsAstray, LeadsAlone, but}
use Rattle.dictionary.specs.Reading.{IsRead}

-- a word that leads to a block that isn't wanted leads astray
pub not_wanted : (leads : Leading) (once : LeadsOnce leads) (wanted : Block → Type 0) (word : ℕ) (b : Block) → leads word b → (wanted b → ⊥)
    → LeadsAstray leads wanted word
not_wanted leads once wanted word b to not = record {
  not_null = λ null. once.null b (subst (λ w. leads w b) null to);
  nowhere = λ c to_c wants. not (subst (λ x. wanted x) (once.one word c b to_c to) wants);
}

-- so does one that leads to the table where a node is wanted
pub not_table : (leads : Leading) (once : LeadsOnce leads) (wanted : Block → Type 0) (word : ℕ) (b table : Block) → leads word b → b ≡ table
    → LeadsAstray (but table leads) wanted word
not_table leads once wanted word b table to is = record {
  not_null = λ null. once.null b (subst (λ w. leads w b) null to);
  nowhere = λ c to_c wants. to_c.1 (once.one word c b to_c.0 to ∙ is);
}

-- what leads astray whatever is wanted does so where something is
pub astray_more : (leads leads' : Leading) (wanted wanted' : Block → Type 0) (word : ℕ)
    → ((b : Block) → leads' word b → wanted' b → leads word b × wanted b)
    → LeadsAstray leads wanted word → LeadsAstray leads' wanted' word
astray_more leads leads' wanted wanted' word more astray = record {
  not_null = astray.not_null;
  nowhere = λ b to wants. let was = more b to wants in astray.nowhere b was.0 was.1;
}

module _ (image : Image) (shard word : ℕ) (b : Block) (leads : Leads image word b) where
  -- a word that leads to a block which another root reaches leads to none that it may lead to
  pub beside_astray : (wanted : Block → Type 0) → IsReachedBeside image (kinds_of image) dict_links shard b
      → LeadsAstray (LeadsAlone image shard) wanted word
  beside_astray wanted beside = record {
    not_null = λ null. let to = leads.pointer in omega arith;
    nowhere = λ c to_c wants. to_c.1 beside.kind (subst (λ x. ReachFrom image (λ i. i ≢ shard) (kinds_of image) dict_links x beside.kind)
        (one_block image word b c leads to_c.0) beside.reached);
  }

  pub leads_alone : (IsReachedBeside image (kinds_of image) dict_links shard b → ⊥) → LeadsAlone image shard word b
  leads_alone none = (leads, λ kind reached. none (record { kind = kind; reached = reached }))

-- the words of a block lie in the image
pub lies_in : (words : List ℕ) (directory : Divisions) (origins : Origins) (b : Block) → IsRead words directory origins
    → IsBlock (layout_of (slice_index words)) b
    → (b.first_word + b.words ≤ length words) × (length words < 2 ^ 31)
lies_in words directory origins b read is =
    (block_within (slice_index words) (length words) b read.formed is, (image_short (slice_index words) (length words) read.formed).1)

-- blocks that are not told apart are one
pub same_block : (a b : Block) → not (nat_eq a.first_word b.first_word && nat_eq a.words b.words) ≡ false → a ≡ b
same_block a b same =
    let parts = and_parts (nat_eq a.first_word b.first_word) (nat_eq a.words b.words)
    (not-false (nat_eq a.first_word b.first_word && nat_eq a.words b.words) same) in
    let first : a.first_word ≡ b.first_word = eqb-true a.first_word b.first_word parts.0 in
    let words : a.words ≡ b.words = eqb-true a.words b.words parts.1 in
    λ i. record { first_word = first i; words = words i }

-- the words of a node's value lie in its block, and they are few
pub value_lies : (count words from total : ℕ) → 3 + (count + 7) / 8 ≤ words → from + words ≤ total → total < 2 ^ 31
    → (count + 7 < 2 ^ 64) × (from + 3 + (count + 7) / 8 ≤ total)
value_lies count words from total fits within small = (omega arith, omega arith)

-- and its bytes are the first of theirs
pub value_read : (words : List ℕ) (b : Block) (count : ℕ) → count ≡ length_in (slice_index words) b → b.first_word + 3 + (count + 7) / 8 ≤ length words
    → take count (bytes_of_words (take (b.first_word + 3 + (count + 7) / 8 - (b.first_word + 3)) (drop (b.first_word + 3) words))) ≡ value_in
    (slice_index words) b
value_read words b count is fits =
    let size : b.first_word + 3 + (count + 7) / 8 - (b.first_word + 3) ≡ (count + 7) / 8 = omega arith in
    rw (size, ← words_from-list words (b.first_word + 3) ((count + 7) / 8) fits)
    (ap (λ n. take n (bytes_of_words (words_from (slice_index words) (b.first_word + 3) ((n + 7) / 8)))) is)
