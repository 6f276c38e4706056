-- The words of a table as they are read: a value that is there is the word of its place, and put back it changes nothing.
use Rattle.std.proofs.Common.{◌≡◌, ℕ, zero, suc, ◌+◌, ◌<◌, true, List, [], ◌∷◌, get_or, set, length, refl, ap, ◌∙◌, arith}
use Rattle.std.proofs.lemmas.List.{set-get_or}
use Rattle.heap_model.specs.Geometry.{image_words}
use Rattle.core_model.specs.Cells.{is_cell, index_of}
use Rattle.core_model.specs.Memory.{StepPlace, volatile_at, durable_at, tickets, read, memory_of, table_index}
use Rattle.core_model.proofs.PlaceLemmas.{pick}
use Rattle.core_model.proofs.TableLemmas.{is_place}

-- where an entry is there the default does not matter
pub entry_is : {A : Type 0} (xs : List A) (i : ℕ) (a b : A) → i < length xs → get_or xs i a ≡ get_or xs i b
entry_is [] i a b less = absurd (omega arith)
entry_is (x ∷ xs) zero a b less = refl
entry_is (x ∷ xs) (suc i) a b less = entry_is xs i a b (omega arith)

pub read_is : (c : ℕ) (words : List ℕ) (p : StepPlace) → is_place c p ≡ true → read (memory_of c words) p ≡ get_or words (table_index c p) 0
read_is c words (volatile_at cell) is = pick (is_cell c cell) (get_or words (index_of cell) 0) 0 is
read_is c words (durable_at cell) is = pick (is_cell c cell) (get_or words (image_words c + index_of cell) 0) 0 is
read_is c words tickets is = refl

pub put_back : (c : ℕ) (words : List ℕ) (p : StepPlace) → is_place c p ≡ true → set words (table_index c p) (read (memory_of c words) p) ≡ words
put_back c words p is = ap (set words (table_index c p)) (read_is c words p is) ∙ set-get_or words (table_index c p) 0

-- an entry below the length is there
pub entry_there : {A : Type 0} (xs : List A) (i : ℕ) → i < length xs → (a : A) × (get_or xs i a ≡ a)
entry_there [] i less = absurd (omega arith)
entry_there (x ∷ xs) zero less = (x, refl)
entry_there (x ∷ xs) (suc i) less = entry_there xs i (omega arith)
