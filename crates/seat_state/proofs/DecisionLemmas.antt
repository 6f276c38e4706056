-- Tests that decide, and a change that goes with a draw.
use Rattle.std.proofs.Common.{◌≡◌, ℕ, ◌<◌, ◌↔◌, Bool, true, false, refl, sym, true≢false, arith, Some}
use Rattle.heap_model.specs.Counting.{one_if}
use Rattle.core_model.specs.Memory.{Memory}
use Rattle.core_model.specs.View.{View}
use Rattle.core_model.specs.Effects.{drew}
use Rattle.core_model.specs.ViewAfter.{shifted}
use Rattle.core_model.specs.declared.event.Shift.{Shift}
use Rattle.core_model.specs.declared.event.Shift.TheVariants.{Cut, Alloc, Free, Lift, Large, Split}

pub one_true : (b : Bool) (n : ℕ) → one_if b ≡ n → (b ≡ true) ↔ (0 < n)
one_true true n is = (λ e. omega arith, λ some. refl)
one_true false n is = (λ e. absurd (true≢false (sym e)), λ some. absurd (omega arith))

-- a guard that does not hold is refused
pub refused : {G : Type 0} → (G → ⊥) → (false ≡ true) ↔ G
refused not = (λ e. absurd (true≢false (sym e)), λ may. absurd (not may))

pub going_on : (m : Memory) (v : View) (shift : Shift) (found : ℕ) → (shifted m (drew v found) (Some shift)).stopped ≡ v.stopped
going_on m v (Cut d) found = refl
going_on m v (Alloc class) found = refl
going_on m v (Free block) found = refl
going_on m v (Lift class) found = refl
going_on m v (Large d n) found = refl
going_on m v (Split block) found = refl
