-- A word that is written as it was read leaves the memory as it is.
use Rattle.std.proofs.Common.{◌≡◌, ℕ, Bool, true, false, cond, refl, ap, sym, eqb-true, eq-eqb}
use Rattle.core_model.specs.Cells.{Cell, used_cell, head_cell, info_cell, anchor_cell, link_cell, root_cell, data_cell, no_cell, same_cell}
use Rattle.core_model.specs.Memory.{Memory, StepPlace, volatile_at, durable_at, tickets, read, write, with_cell}

pub same-true : (a b : Cell) → same_cell a b ≡ true → a ≡ b
same-true used_cell used_cell e = refl
same-true (head_cell a) (head_cell b) e = ap head_cell (eqb-true a b e)
same-true (info_cell a) (info_cell b) e = ap info_cell (eqb-true a b e)
same-true (anchor_cell a) (anchor_cell b) e = ap anchor_cell (eqb-true a b e)
same-true (link_cell a) (link_cell b) e = ap link_cell (eqb-true a b e)
same-true (root_cell a) (root_cell b) e = ap root_cell (eqb-true a b e)
same-true (data_cell a) (data_cell b) e = ap data_cell (eqb-true a b e)
same-true no_cell no_cell e = refl
same-true a b e = absurd (cc)

pub same-refl : (a : Cell) → same_cell a a ≡ true
same-refl used_cell = refl
same-refl (head_cell a) = eq-eqb a a refl
same-refl (info_cell a) = eq-eqb a a refl
same-refl (anchor_cell a) = eq-eqb a a refl
same-refl (link_cell a) = eq-eqb a a refl
same-refl (root_cell a) = eq-eqb a a refl
same-refl (data_cell a) = eq-eqb a a refl
same-refl no_cell = refl

by_test : (test : Bool) (f : Cell → ℕ) (cell at : Cell) → (test ≡ true → cell ≡ at) → cond test (f at) (f cell) ≡ f cell
by_test true f cell at same = ap f (sym (same refl))
by_test false f cell at same = refl

pub rewritten : (f : Cell → ℕ) (at : Cell) → with_cell f at (f at) ≡ f
rewritten f at = λ i cell. (by_test (same_cell cell at) f cell at (same-true cell at)) i

pub write_read : (m : Memory) (p : StepPlace) → write m p (read m p) ≡ m
write_read m (volatile_at cell) = λ i. record { volatile = (rewritten m.volatile cell) i; durable = m.durable; drawn = m.drawn }
write_read m (durable_at cell) = λ i. record { volatile = m.volatile; durable = (rewritten m.durable cell) i; drawn = m.drawn }
write_read m tickets = refl
