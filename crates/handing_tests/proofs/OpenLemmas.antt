-- The seats of a heap that was opened just now.
use Rattle.std.proofs.Common.{◌≡◌, ◌<◌, ◌+◌, ℕ, List, get_or, sym, subst}
use Rattle.heap_model.specs.declared.block.Block.{Block}
use Rattle.heap_model.specs.Counting.{times}
use Rattle.heap_model.specs.Geometry.{roots}
use Rattle.heap_model.proofs.CountingLemmas.{times_some}
use Rattle.core_model.specs.Opening.{opened_view}
use Rattle.core_model.specs.View.{Setup, View}
use Rattle.core_model.proofs.RootLemmas.{owns_root}
use Rattle.handing_tests.specs.Handing.{HasAllRoots}

-- the seat of which all roots are has them
pub has_all_roots : (setup : Setup) (held : List Block) (block_owners root_owners : List ℕ) (i : ℕ) (v : View)
    → v ≡ opened_view setup held block_owners root_owners i
    → ((root d : ℕ) → root < roots → get_or root_owners root d ≡ i) → HasAllRoots v.roots
has_all_roots setup held block_owners root_owners i v is own = record {
  each = λ root inside. times_some root v.roots (subst (λ (w : View). 0 < times root w.roots) (sym is)
      ((owns_root i roots root_owners root).1 (inside, own root (i + 1) inside)));
}
