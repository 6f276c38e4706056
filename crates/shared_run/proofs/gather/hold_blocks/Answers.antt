use Rattle.std.proofs.Common.{◌≡◌, ℕ, zero, suc, ◌≤◌, All, List, [], ◌∷◌, length, take, refl, subst, ap, arith}
use Rattle.std.proofs.lemmas.List.Elements.{All-more, All-nil}
use Rattle.core_model.specs.Carriers.{IsCarrier}
use Rattle.heap_rule.specs.Carried.{CarrierView}
use Rattle.shared_run.proofs.gather.hold_blocks.Goals as goal

-- all of a list is taken
take_all : {X : Type 0} (n : ℕ) (xs : List X) → length xs ≤ n → take n xs ≡ xs
take_all zero [] few = refl
take_all zero (x ∷ xs) few = absurd (omega (arith, few))
take_all (suc n) [] few = refl
take_all (suc n) (x ∷ xs) few = ap (λ ys. x ∷ ys) (take_all n xs (omega (arith, few)))

pub loop-carrier-init : goal.loop-carrier-init
loop-carrier-init c = record { held = All-nil (λ (k : CarrierView). IsCarrier k.view) }

pub loop-carrier-preserved : goal.loop-carrier-preserved
loop-carrier-preserved c = record {
  held = All-more (λ (k : CarrierView). IsCarrier k.view) c.args.carriers.now c.loop-carrier.carrier-index c.carrier-item.result
      c.loop-carrier-test.true c.loop-carrier.invariant.held
      (subst (λ (k : CarrierView). IsCarrier k.view) c.carrier-item.is c.holds_its_block.ensures.carrier);
}

pub returns : goal.returns
returns c = subst (All (λ (k : CarrierView). IsCarrier k.view)) (take_all c.loop-carrier.carrier-index c.args.carriers.now
    c.loop-carrier-test.false) c.loop-carrier.invariant.held
