-- Facts on packed words.
use Rattle.std.proofs.Common.{◌≡◌, ℕ, ◌<◌, arith}
use Rattle.heap_model.specs.Words.{anchor_of, anchor_state, anchor_first, anchor_count}

-- the parts of an anchor
pub anchor_parts : (state first count : ℕ) → state < 4 → first < 2147483648
    → (anchor_state (anchor_of state first count) ≡ state) × (anchor_first (anchor_of state first count) ≡ first)
    × (anchor_count (anchor_of state first count) ≡ count)
anchor_parts state first count few short = (omega arith, omega arith, omega arith)
