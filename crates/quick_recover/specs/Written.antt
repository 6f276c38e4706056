-- The descriptors that are written when an image is opened by its anchors.
use Rattle.std.specs.Prelude.{◌≡◌, ◌≢◌, ℕ, ◌<◌, List, slice_index_or}
use Rattle.heap_model.specs.Geometry.{info_word, anchor_word, link_word}
use Rattle.heap_model.specs.Image.{Image}
use Rattle.heap_model.specs.Words.{full_anchor}
use Rattle.heap_recover.specs.declared.roles.Role.{Role}
use Rattle.heap_recover.specs.declared.roles.Role.TheVariants.{Free, Partial, Full, Large}
use Rattle.heap_recover.specs.Rebuilt.{IsInfoAfter}

-- the anchor of a superblock of the role, after another one
abbrev pub anchor_after : ℕ → Role → ℕ
anchor_after old Free = 0
anchor_after old (Partial class) = old
anchor_after old (Full class) = full_anchor
anchor_after old Large = full_anchor

-- info, anchor and link of superblock d in its role
pub record IsWritten (old new : Image) (d : ℕ) (role : Role) : Type 0 where
  pub info : IsInfoAfter (old (info_word d)) (new (info_word d)) role
  pub anchor : new (anchor_word d) ≡ anchor_after (old (anchor_word d)) role
  pub link : new (link_word d) ≡ 0

-- the word is no info, anchor or link of a superblock below d
pub record IsNoWordBelow (d word : ℕ) : Type 0 where
  pub no : (e : ℕ) → e < d → (word ≢ info_word e) × (word ≢ anchor_word e) × (word ≢ link_word e)

-- the descriptors below d are written, each superblock in its role, and no other word changes; a superblock without a role is free
pub record AreWritten (old new : Image) (roles : List Role) (d : ℕ) : Type 0 where
  pub each : (e : ℕ) → e < d → IsWritten old new e (slice_index_or roles e Free)
  pub others : (word : ℕ) → IsNoWordBelow d word → new word ≡ old word
