use Rattle.std.proofs.Common.{refl, arith}
use Rattle.core_model.specs.Carriers.{offered}
use Rattle.core_model.specs.Steps.{found_by, seat_after}
use Rattle.core_model.proofs.CarrierLemmas.{join_sound}
use Rattle.core_model.proofs.OfferLemmas.{offer_sound, carries_block, offers_one, accepts_one, same_roles}
use Rattle.core_model.proofs.EmptiedLemmas.{accept_counted, accept_sound, empties_carrier}
use Rattle.core_model.proofs.HeldOnceLemmas.{held_once}
use Rattle.core_model.proofs.RoleLemmas.{role_after}
use Rattle.core_model.proofs.laws.a_block_may_go_between_seats.Goals as goal

pub returns-clause-offered : goal.returns-clause-offered
returns-clause-offered c = offer_sound

pub returns-clause-carried : goal.returns-clause-carried
returns-clause-carried c = carries_block

pub returns-clause-accepted : goal.returns-clause-accepted
returns-clause-accepted c = join_sound

pub returns-clause-offers_one : goal.returns-clause-offers_one
returns-clause-offers_one c = λ k views i v block below at seat are. offers_one k views i v (offered v block) below at are block seat refl

pub returns-clause-accepts_one : goal.returns-clause-accepts_one
returns-clause-accepts_one c = accepts_one

pub returns-clause-stepped : goal.returns-clause-stepped
returns-clause-stepped c = λ k m views i v event below at seat are. same_roles k views i v (seat_after m v event) below at are seat
    (role_after m v event (found_by m v event))

pub returns-clause-accepted_in_place : goal.returns-clause-accepted_in_place
returns-clause-accepted_in_place c = λ k words views i j v u apart below_i at_i below_j at_j carries sound. accept_sound k views i j v u apart
    below_i at_i below_j at_j words carries sound

pub returns-clause-emptied : goal.returns-clause-emptied
returns-clause-emptied c = empties_carrier

pub returns-clause-once : goal.returns-clause-once
returns-clause-once c = λ u empty carrier. omega (arith, empty.is_two, carrier.is_one)

pub returns-clause-accepts_one_in_place : goal.returns-clause-accepts_one_in_place
returns-clause-accepts_one_in_place c = accept_counted

pub returns-clause-counts : goal.returns-clause-counts
returns-clause-counts c = λ k views are. are.carriers

pub returns-clause-held_once : goal.returns-clause-held_once
returns-clause-held_once c = held_once
