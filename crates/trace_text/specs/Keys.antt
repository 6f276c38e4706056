-- The keys of maps and their values, as bytes of a text.
use Rattle.std.specs.Prelude.{◌≡◌, ℕ, if◌then◌else◌, Bool, List, [], ◌++◌, Option, None, Some, codes, decimal, length}
use Rattle.std.specs.List.{flat_map, sum_by}
use Rattle.std.specs.List.Sorted.{IsPermutation, IsNonDecreasingBy}
use Rattle.std.specs.BTreeMap.{BTreeMap}
use Rattle.heap_model.specs.declared.block.Block.{Block}
use Rattle.trace_text.specs.Report.{line_feed, report_of}
use Rattle.trace_text.specs.Values.{value_word}

-- keys, each with its value
abbrev pub Entries : Type 0
Entries = List (ℕ × List ℕ)

-- the line of a key
abbrev pub key_line : ℕ × List ℕ → List ℕ
key_line entry = codes "key " ++ decimal entry.0 ++ codes " " ++ value_word entry.1 ++ line_feed

-- the bytes of all values
abbrev pub bytes_of : Entries → ℕ
bytes_of entries = sum_by (λ entry. length entry.1) entries

-- the line that counts keys and bytes
abbrev pub sum_line : Entries → List ℕ
sum_line entries = codes "keys " ++ decimal (length entries) ++ codes " bytes " ++ decimal (bytes_of entries) ++ line_feed

-- what is told of the keys: their sum, or a line for each
abbrev pub keys_text : Bool → Entries → List ℕ
keys_text sum entries = if sum then sum_line entries else flat_map key_line entries

-- the keys of all maps with their values, in ascending order
pub record AreEntries (maps : List (BTreeMap ℕ (List ℕ))) (entries : Entries) : Type 0 where
  pub all : IsPermutation (flat_map (λ m. m.entries) maps) entries
  pub ascending : IsNonDecreasingBy (λ entry. entry.0) entries

-- these bytes tell of the maps, or there are none and nothing is told
abbrev pub TellsKeys : Option (List (BTreeMap ℕ (List ℕ))) → Bool → List ℕ → Type 0
TellsKeys None sum text = text ≡ []
TellsKeys (Some maps) sum text = (entries : Entries) × AreEntries maps entries × (text ≡ keys_text sum entries)

-- they have been written behind a text
pub record WritesKeys (maps : Option (List (BTreeMap ℕ (List ℕ)))) (sum : Bool) (old new : List ℕ) : Type 0 where
  pub keys : List ℕ
  pub tells : TellsKeys maps sum keys
  pub is : new ≡ old ++ keys

-- the text is the report on a heap of this capacity with these held blocks, and on these maps
pub record IsReport (capacity : ℕ) (is_clean : Bool) (maps : Option (List (BTreeMap ℕ (List ℕ)))) (sum : Bool) (held : List Block)
    (text : List ℕ) : Type 0 where
  pub keys : List ℕ
  pub tells : TellsKeys maps sum keys
  pub is : text ≡ report_of capacity is_clean keys held
