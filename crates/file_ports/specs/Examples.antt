-- Worked examples of folders.
use Rattle.std.specs.Prelude.{[], codes, refl}
use Rattle.std.proofs.Common.{arith}
use Rattle.file_ports.specs.Folders.{IsFolderOf, here, root, before}

of_this_folder : IsFolderOf (codes "heap") (codes ".")
of_this_folder = here tt

no_name_at_all : IsFolderOf [] (codes ".")
no_name_at_all = here tt

of_the_root : IsFolderOf (codes "/heap") (codes "/")
of_the_root = root (codes "heap") tt refl

the_root_itself : IsFolderOf (codes "/") (codes "/")
the_root_itself = root [] tt refl

of_a_folder : IsFolderOf (codes "images/heap") (codes "images")
of_a_folder = before (codes "images") (codes "heap") tt (omega arith) refl

of_a_folder_in_a_folder : IsFolderOf (codes "images/old/heap") (codes "images/old")
of_a_folder_in_a_folder = before (codes "images/old") (codes "heap") tt (omega arith) refl

of_a_folder_in_the_root : IsFolderOf (codes "/images/heap") (codes "/images")
of_a_folder_in_the_root = before (codes "/images") (codes "heap") tt (omega arith) refl

-- a slash at the end leaves the last name empty
slash_at_the_end : IsFolderOf (codes "images/") (codes "images")
slash_at_the_end = before (codes "images") [] tt (omega arith) refl

-- of two slashes only the last one goes
two_slashes : IsFolderOf (codes "images//heap") (codes "images/")
two_slashes = before (codes "images/") (codes "heap") tt (omega arith) refl

of_this_folder_by_name : IsFolderOf (codes "./heap") (codes ".")
of_this_folder_by_name = before (codes ".") (codes "heap") tt (omega arith) refl
