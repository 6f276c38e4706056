-- The words that recovery writes, step by step.
use Rattle.std.specs.Prelude.{◌≡◌, ◌≢◌, ℕ, ◌<◌, ◌≤◌, ◌+◌, ◌*◌, ◌↔◌, List, [], length, Contains, AllPairs, slice_index, slice_index_or}
use Rattle.heap_model.specs.declared.block.Block.{Block}
use Rattle.heap_model.specs.Geometry.{info_word, anchor_word, link_word, head_word, start_word}
use Rattle.heap_model.specs.Image.{Image}
use Rattle.heap_model.specs.Header.{capacity_of, used_of}
use Rattle.heap_model.specs.Sizes.{words_of_class}
use Rattle.heap_model.specs.Words.{anchor_of, partial_state, full_anchor}
use Rattle.heap_model.specs.Blocks.{layout_of}
use Rattle.heap_model.specs.Recovered.{IsBlockOfClass, IsFreeSuperblock, AreAscending}
use Rattle.heap_model.specs.Recovery.{HasInfoAndAnchor, IsRechained, IsRecovered, but_last, first_number}
use Rattle.heap_model.specs.Chains.{Follows, Walks}
use Rattle.size_table.specs.declared.size_class.SizeClass.{SizeClass}
use Rattle.heap_recover.specs.declared.roles.Role.{Role}
use Rattle.heap_recover.specs.declared.roles.Role.TheVariants.{Free, Partial, Full, Large}
use Rattle.heap_recover.specs.Marked.{IsKeptBelow}
use Rattle.heap_recover.specs.Roles.{IsRole, IsMember}

-- the words lead along the chain, and no other word changes
pub record IsChained (old new : Image) (chain : List ℕ) : Type 0 where
  pub walks : (from : ℕ) → (0 < length chain → from ≡ slice_index chain 0) → Walks new from chain
  pub others : (word : ℕ) → (Contains (but_last chain) word → ⊥) → new word ≡ old word

-- one of the words that belong to superblock d: of its descriptor those that have a meaning, and all its own
pub data IsOf (capacity d : ℕ) : ℕ → Type 0 where
  is_info : (word : ℕ) → word ≡ info_word d → IsOf capacity d word
  is_anchor : (word : ℕ) → word ≡ anchor_word d → IsOf capacity d word
  is_link : (word : ℕ) → word ≡ link_word d → IsOf capacity d word
  is_inside : (word : ℕ) → start_word capacity d ≤ word → word < start_word capacity (d + 1) → IsOf capacity d word

-- these are first words of blocks of the class in superblock d, in order, and there are some
pub record AreSpares (capacity : ℕ) (class : SizeClass) (d : ℕ) (spares : List ℕ) : Type 0 where
  pub some : 0 < length spares
  pub ascending : AllPairs (λ x y. x < y) spares
  pub blocks : (w : ℕ) → Contains spares w
      → (index : ℕ) × IsBlockOfClass capacity class.number d index (record { first_word = w; words = words_of_class class.number })

-- a superblock of the role has such spares, or none
abbrev pub HasSpares : ℕ → ℕ → List ℕ → Role → Type 0
HasSpares capacity d spares Free = spares ≡ []
HasSpares capacity d spares (Partial class) = AreSpares capacity class d spares
HasSpares capacity d spares (Full class) = spares ≡ []
HasSpares capacity d spares Large = spares ≡ []

-- the info of a partial superblock is its class
abbrev pub HasInfo : ℕ → Role → Type 0
HasInfo info Free = Unit {0}
HasInfo info (Partial class) = info ≡ class.number
HasInfo info (Full class) = Unit {0}
HasInfo info Large = Unit {0}

-- the word is an anchor with the spares as its free blocks
pub record CountsSpares (capacity class d : ℕ) (spares : List ℕ) (word : ℕ) : Type 0 where
  pub first : ℕ
  pub is : word ≡ anchor_of partial_state first (length spares)
  pub begins : start_word capacity d + first * words_of_class class ≡ slice_index spares 0

-- the anchor of a superblock of the role
abbrev pub IsAnchorOf : ℕ → ℕ → List ℕ → ℕ → Role → Type 0
IsAnchorOf capacity d spares word Free = word ≡ 0
IsAnchorOf capacity d spares word (Partial class) = CountsSpares capacity class.number d spares word
IsAnchorOf capacity d spares word (Full class) = word ≡ full_anchor
IsAnchorOf capacity d spares word Large = word ≡ full_anchor

-- the info of a superblock of the role, after another one
abbrev pub IsInfoAfter : ℕ → ℕ → Role → Type 0
IsInfoAfter old new Free = new ≡ 0
IsInfoAfter old new (Partial class) = new ≡ old
IsInfoAfter old new (Full class) = new ≡ old
IsInfoAfter old new Large = new ≡ old

-- the descriptor of superblock d is written for the role, and no other word changes
pub record IsWrittenAs (old new : Image) (d : ℕ) (role : Role) (anchor : ℕ) : Type 0 where
  pub info : IsInfoAfter (old (info_word d)) (new (info_word d)) role
  pub anchor_is : new (anchor_word d) ≡ anchor
  pub link_is : new (link_word d) ≡ 0
  pub others : (word : ℕ) → word ≢ info_word d → word ≢ anchor_word d → word ≢ link_word d → new word ≡ old word

-- info, anchor and chain of a superblock of the role
abbrev pub IsDescribed : Image → Image → ℕ → List ℕ → Role → Type 0
IsDescribed old new d spares Free = HasInfoAndAnchor new d 0 0
IsDescribed old new d spares (Partial class) = IsRechained old new class.number d spares
IsDescribed old new d spares (Full class) = HasInfoAndAnchor new d (old (info_word d)) full_anchor
IsDescribed old new d spares Large = HasInfoAndAnchor new d (old (info_word d)) full_anchor

-- inside superblock d only the first words of chained blocks, but the last, change
pub record KeepsInside (old new : Image) (capacity d : ℕ) (spares : List ℕ) : Type 0 where
  pub each : (word : ℕ) → start_word capacity d ≤ word → word < start_word capacity (d + 1)
      → (Contains (but_last spares) word → ⊥) → new word ≡ old word

-- superblock d is rebuilt in its role, and no word of another changes
pub record IsRebuiltAs (old new : Image) (capacity d : ℕ) (role : Role) (spares : List ℕ) : Type 0 where
  pub described : IsDescribed old new d spares role
  pub link : new (link_word d) ≡ 0
  pub inside : KeepsInside old new capacity d spares
  pub others : (word : ℕ) → (IsOf capacity d word → ⊥) → new word ≡ old word

-- superblock d has this role, and is rebuilt in it
pub record IsRebuiltInRole (old new : Image) (kept : Block → Type 0) (d : ℕ) (role : Role) : Type 0 where
  pub spares : List ℕ
  pub has_role : IsRole (layout_of old) kept d role spares
  pub described : IsDescribed old new d spares role
  pub inside : KeepsInside old new (capacity_of old) d spares

-- the superblocks below d are rebuilt, each in its role
pub record AreDone (old new : Image) (kept : Block → Type 0) (d : ℕ) (held : List Block) (roles : List Role) : Type 0 where
  pub long : length roles ≡ d
  pub each : (e : ℕ) → e < d → IsRebuiltInRole old new kept e (slice_index_or roles e Large)
  pub links : (e : ℕ) → e < d → new (link_word e) ≡ 0
  pub in_order : AreAscending (λ (b : Block). b.first_word) (IsKeptBelow (capacity_of old) kept d) held
  pub others : (word : ℕ) → ((e : ℕ) → e < d → IsOf (capacity_of old) e word → ⊥) → new word ≡ old word

-- the superblocks from `used` up to d are cleared, and no other word changes
pub record AreCleared (old new : Image) (capacity used d : ℕ) : Type 0 where
  pub each : (e : ℕ) → used ≤ e → e < d → HasInfoAndAnchor new e 0 0
  pub links : (e : ℕ) → used ≤ e → e < d → new (link_word e) ≡ 0
  pub inside : (e : ℕ) → used ≤ e → e < d → KeepsInside old new capacity e []
  pub others : (word : ℕ) → ((e : ℕ) → used ≤ e → e < d → IsOf capacity e word → ⊥) → new word ≡ old word

-- the list has these descriptors, and no other word changes
pub record IsLinked (old new : Image) (capacity list : ℕ) (ds : List ℕ) : Type 0 where
  pub head : new (head_word list) ≡ first_number ds
  pub follows : Follows (λ d. new (link_word d)) capacity (first_number ds) ds
  pub others : (word : ℕ) → word ≢ head_word list → ((d : ℕ) → Contains ds d → word ≢ link_word d) → new word ≡ old word

-- list `list` has the superblocks whose role puts them into it
pub record IsList (new : Image) (capacity : ℕ) (roles : List Role) (list : ℕ) : Type 0 where
  pub members : List ℕ
  pub are_members : AreAscending (λ d. d) (IsMember roles list) members
  pub head : new (head_word list) ≡ first_number members
  pub follows : Follows (λ d. new (link_word d)) capacity (first_number members) members

-- the lists below `list` are linked, and no other word changes
pub record AreListed (old new : Image) (capacity : ℕ) (roles : List Role) (list : ℕ) : Type 0 where
  pub each : (j : ℕ) → j < list → IsList new capacity roles j
  pub others : (word : ℕ) → ((j : ℕ) → j < list → word ≢ head_word j)
      → ((d j : ℕ) → j < list → IsMember roles j d → word ≢ link_word d) → new word ≡ old word

-- the whole rebuild: the new image, the held blocks and the roles
pub record IsRebuild (old new : Image) (kept : Block → Type 0) (held : List Block) (roles : List Role) : Type 0 where
  pub recovered : IsRecovered old new kept
  pub long : length roles ≡ used_of old
  pub in_order : AreAscending (λ (b : Block). b.first_word) kept held
  pub free : (d : ℕ) → IsMember roles 0 d ↔ IsFreeSuperblock (layout_of old) kept d
