-- Carriers in a row, of which the first is taken, and seats of which the last is.
use Rattle.std.proofs.Common.{◌≡◌, ◌-◌, List, [], ◌∷◌, ◌++◌, length, length-append, get_or, ap, subst, ◌∙◌, arith}
use Rattle.std.specs.Prelude.{IfSome, None, Option, Some, option_to_list}
use Rattle.std.proofs.lemmas.List.Elements.{All-head, All-tail}
use Rattle.std.proofs.Math.Seq.{get_or-append_seam}
use Rattle.atomic_table.specs.Seated.{TableId}
use Rattle.heap_rule.specs.Carried.{CarrierView}
use Rattle.heap_rule.specs.Seated.{SeatView}
use Rattle.handing_tests.specs.Handing.{AreAt, HasAllRoots, HasLastAllRoots}

pub first_at : (table : TableId) (all rest : List CarrierView) (x : CarrierView) → all ≡ x ∷ rest → AreAt table all → x.table ≡ table
first_at table all rest x split at = All-head (λ (c : CarrierView). c.table ≡ table) x rest (subst (AreAt table) split at)

pub rest_at : (table : TableId) (all rest : List CarrierView) (x : CarrierView) → all ≡ x ∷ rest → AreAt table all → AreAt table rest
rest_at table all rest x split at = All-tail (λ (c : CarrierView). c.table ≡ table) x rest (subst (AreAt table) split at)

pub last_has : (all rest : List SeatView) (seat : SeatView) → all ≡ rest ++ seat ∷ [] → HasLastAllRoots all → HasAllRoots seat.view.roots
last_has all rest seat split has = has seat (ap (λ n. get_or all n seat) place ∙ ap (λ l. get_or l (length rest) seat) split
    ∙ get_or-append_seam rest seat [] seat) where
      place : length all - 1 ≡ length rest
      place = let long = ap length split in let more = length-append rest (seat ∷ []) in omega (arith, long, more)

pub last_roots : (all rest : List SeatView) (r : Option SeatView) → all ≡ rest ++ option_to_list r → HasLastAllRoots all
    → IfSome r (λ seat. HasAllRoots seat.view.roots)
last_roots all rest None split has = tt
last_roots all rest (Some seat) split has = last_has all rest seat split has
