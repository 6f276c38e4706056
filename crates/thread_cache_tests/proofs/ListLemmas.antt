-- What may be pushed on a list of superblocks.
use Rattle.std.proofs.Common.{◌≡◌, ◌<◌, ℕ, [], Option, None, Some, refl, ap, sym, subst, ◌∙◌, arith}
use Rattle.heap_model.specs.Counting.{times}
use Rattle.size_table.specs.declared.size_class.SizeClass.{SizeClass}
use Rattle.core_model.specs.View.{View}
use Rattle.core_model.proofs.TotalLemmas.{eq-eqb-one}
use Rattle.heap_rule.specs.Shown.{CanList, as_free, by_claim, of_its_class}
use Rattle.seat_costs.specs.Rows.{Parts, parts}
use Rattle.superblock_lists.specs.Pops.{HasPopped}
use Rattle.superblock_lists.proofs.AnchorLemmas.{claim_of_class}
use Rattle.thread_cache_tests.specs.Holding.{list_of}

-- what was popped off a list may be pushed on it
pub popped_can : (class : Option SizeClass) (d : ℕ) (v w : View) → v.cutting ≡ [] → HasPopped (list_of class) d v w → CanList w d (list_of class)
popped_can None d v w none popped = as_free (record {
  claimed = let some = raw in omega arith;
  not_cutting = ap (times d) (ap (λ (p : Parts). p.cutting) popped.parts_are ∙ none);
}) (by_claim raw) where
  raw : 0 < times d w.raw
  raw = subst (λ (p : Parts). 0 < times d p.raw) (sym popped.parts_are) (let one = eq-eqb-one d d refl in omega arith)
popped_can (Some class) d v w none popped =
    let claim = claim_of_class class.number d (parts v) w class.is popped.parts_are in of_its_class class.number class.is claim.claimed claim.of
