-- A queue whose carriers are all of one heap, behind a push and a pop.
use Rattle.std.proofs.Common.{◌≡◌, suc, ◌∷◌, ◌++◌, [], List, ap, sym, ◌∙◌, ⊎_elim}
use Rattle.atomic_table.specs.Seated.{TableId}
use Rattle.crossbeam_queue.proofs.Lists.{at_snoc}
use Rattle.heap_rule.specs.Carried.{CarrierView}
use Rattle.handing_tests.specs.Handing.{AreAllAt}

pub with_more : (table : TableId) (items : List CarrierView) (x : CarrierView) → AreAllAt table items → x.table ≡ table
    → AreAllAt table (items ++ x ∷ [])
with_more table items x all of = λ j y p. ⊎_elim (λ before. all j y before) (λ same. ap (λ (c : CarrierView). c.table) (sym same) ∙ of)
    (at_snoc items x y j p)

pub with_less : (table : TableId) (items : List CarrierView) (x : CarrierView) → AreAllAt table (x ∷ items) → AreAllAt table items
with_less table items x all = λ j y p. all (suc j) y p
