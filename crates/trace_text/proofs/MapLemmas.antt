-- What a superblock is used for, by whether it is free and by its info.
use Rattle.std.proofs.Common.{◌≡◌, ℕ, ◌+◌, ◌*◌, ◌/◌, ◌%◌, ◌≤◌, true, false, nat_eq, nat_le, List, codes, refl, ap, ◌∙◌, arith, leb-true, eqb-true}
use Rattle.std.proofs.lemmas.Bool.{le-leb, eq-eqb, and_parts, false_from_ne_true}
use Rattle.std.specs.List.{list_any}
use Rattle.trace_text.proofs.OrderLemmas.{both}
use Rattle.heap_model.specs.declared.block.Block.{Block}
use Rattle.heap_model.specs.Geometry.{info_word}
use Rattle.heap_model.specs.Header.{capacity_of}
use Rattle.heap_model.specs.Image.{Image}
use Rattle.heap_model.specs.Sizes.{IsClass, last_class}
use Rattle.super_block.specs.declared.info.Info.TheVariants.{Nothing}
use Rattle.super_block.specs.Info.{Says}
use Rattle.heap_model.specs.Words.{is_large_info}
use Rattle.trace_text.specs.HeapMap.{is_class, use_if, use_of, class_use, large_use, inside_use, first_of}

pub no_class : (w : ℕ) → (IsClass w → ⊥) → is_class w ≡ false
no_class w none = false_from_ne_true (is_class w) (λ h.
    let tests = and_parts (nat_le 1 w) (nat_le w last_class) h in
    none (record { some = leb-true 1 w tests.0; last = leb-true w last_class tests.1 }))

not_large : (w : ℕ) → ((count : ℕ) → 1 ≤ count → w ≡ 255 + 256 * count → ⊥) → is_large_info w ≡ false
not_large w none = false_from_ne_true (is_large_info w) (λ h.
    let tests = and_parts (nat_le 511 w) (nat_eq (w % 256) 255) h in
    let low = leb-true 511 w tests.0 in
    let rest = eqb-true (w % 256) 255 tests.1 in
    none (w / 256) (omega arith) (omega arith))

-- it is one of a large block behind the first
pub use_if-inside : (image : Image) (held : List Block) (d : ℕ) → Says (image (info_word d)) Nothing
    → use_if false image held d ≡ inside_use (first_of (capacity_of image) d held)
use_if-inside image held d says = rw (no_class (image (info_word d)) says.0, not_large (image (info_word d)) says.1) refl

pub use_of-inside : (image : Image) (held : List Block) (free : List ℕ) (d : ℕ) → list_any (λ f. nat_eq f d) free ≡ false
    → Says (image (info_word d)) Nothing → use_of image held free d ≡ inside_use (first_of (capacity_of image) d held)
use_of-inside image held free d taken says = ap (λ is_free. use_if is_free image held d) taken ∙ use_if-inside image held d says

-- the other uses
pub use_if-class : (image : Image) (held : List Block) (d : ℕ) → IsClass (image (info_word d))
    → use_if false image held d ≡ class_use (capacity_of image) (image (info_word d)) held d
use_if-class image held d is =
    let test : is_class (image (info_word d)) ≡ true =
    both (nat_le 1 (image (info_word d))) (nat_le (image (info_word d)) last_class) (le-leb _ _ is.some) (le-leb _ _ is.last) in
    rw test refl

pub use_if-large : (image : Image) (held : List Block) (d superblocks : ℕ) → 1 ≤ superblocks → image (info_word d) ≡ 255 + 256 * superblocks
    → use_if false image held d ≡ large_use superblocks
use_if-large image held d superblocks some info =
    let other : is_class (image (info_word d)) ≡ false = no_class (image (info_word d)) (λ is. let last = is.last in omega arith) in
    let rest : image (info_word d) % 256 ≡ 255 = omega arith in
    let count : image (info_word d) / 256 ≡ superblocks = omega arith in
    let test : is_large_info (image (info_word d)) ≡ true =
    both (nat_le 511 (image (info_word d))) (nat_eq (image (info_word d) % 256) 255) (le-leb 511 _ (omega arith)) (eq-eqb _ 255 rest) in
    rw (other, test) (ap large_use count)

pub use_of-free : (image : Image) (held : List Block) (free : List ℕ) (d : ℕ) → list_any (λ f. nat_eq f d) free ≡ true
    → use_of image held free d ≡ codes "free"
use_of-free image held free d listed = rw listed refl

pub use_of-class : (image : Image) (held : List Block) (free : List ℕ) (d : ℕ) → list_any (λ f. nat_eq f d) free ≡ false
    → IsClass (image (info_word d)) → use_of image held free d ≡ class_use (capacity_of image) (image (info_word d)) held d
use_of-class image held free d taken is = ap (λ is_free. use_if is_free image held d) taken ∙ use_if-class image held d is

pub use_of-large : (image : Image) (held : List Block) (free : List ℕ) (d superblocks : ℕ) → list_any (λ f. nat_eq f d) free ≡ false
    → 1 ≤ superblocks → image (info_word d) ≡ 255 + 256 * superblocks → use_of image held free d ≡ large_use superblocks
use_of-large image held free d superblocks taken some info =
    ap (λ is_free. use_if is_free image held d) taken ∙ use_if-large image held d superblocks some info
