-- What one superblock begins, from its info.
use Rattle.std.proofs.Common.{◌≡◌, ℕ, ◌+◌, ◌/◌, ◌<◌, arith, subst, sym, ◌∙◌}
use Rattle.super_block.specs.Info.{Says}
use Rattle.super_block.specs.declared.info.Info.TheVariants.{Nothing}
use Rattle.heap_model.specs.Words.{large_info}
use Rattle.heap_model.specs.Sizes.{IsClass, size_of, words_of_class, blocks_of}
use Rattle.heap_model.specs.Blocks.{Layout, Begins, of_class, as_large}
use Rattle.heap_model.proofs.SizeLemmas.{size_of-words}

-- the words of a class are its bytes by eight
pub words_from_size : (c : ℕ) → IsClass c → size_of c / 8 ≡ words_of_class c
words_from_size c is = let bytes = size_of-words c is in omega arith

-- a large block that would go past the taken superblocks begins nothing
pub past_the_end : (l : Layout) (d n : ℕ) → l.info d ≡ large_info n → l.used < d + n → (w m : ℕ) → Begins l d w m → ⊥
past_the_end l d n info past w m (of_class c e is) = omega arith
past_the_end l d n info past w m (as_large k some e end zeros) = omega arith

-- nor one with another info inside
pub info_inside : (l : Layout) (d n i : ℕ) → l.info d ≡ large_info n → d < i → i < d + n → (l.info i ≡ 0 → ⊥) → (w m : ℕ) → Begins l d w m → ⊥
info_inside l d n i info low high other w m (of_class c e is) = omega arith
info_inside l d n i info low high other w m (as_large k some e end zeros) = let same : k ≡ n = omega arith in other (zeros i low (omega arith))

-- an info without a meaning begins nothing
pub nothing_begins : (l : Layout) (d word : ℕ) → l.info d ≡ word → Says word Nothing → (w m : ℕ) → Begins l d w m → ⊥
nothing_begins l d word info says w m (of_class c e is) = says.0 (subst IsClass (sym e ∙ info) is)
nothing_begins l d word info says w m (as_large k some e end zeros) = says.1 k some (sym info ∙ e)

-- a class begins its blocks
pub class_begins : (l : Layout) (d c w n : ℕ) → l.info d ≡ c → IsClass c → w ≡ words_of_class c → n ≡ blocks_of c → Begins l d w n
class_begins l d c w n info is words count = subst (λ n'. Begins l d w n') (sym count)
    (subst (λ w'. Begins l d w' (blocks_of c)) (sym words) (of_class c info is))
