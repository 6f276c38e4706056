-- The folder that a file's name leads to.
use Rattle.std.specs.Prelude.{◌≡◌, ◌<◌, ℕ, List, ◌∷◌, ◌++◌, length}
use Rattle.std.specs.Path.{HasNoSlash, slash, cur_dir, root_dir}

-- What stands in front of the last slash is the folder: the root where that is nothing, and this folder where there is no slash.
pub data IsFolderOf (name : List ℕ) : List ℕ → Type 0 where
  here : HasNoSlash name → IsFolderOf name cur_dir
  root : (last : List ℕ) → HasNoSlash last → name ≡ slash ∷ last → IsFolderOf name root_dir
  before : (folder last : List ℕ) → HasNoSlash last → 0 < length folder → name ≡ folder ++ slash ∷ last → IsFolderOf name folder
