-- Worked examples of offers and accepts that a seat may make, of such that it may not, and of what they answer.
use Rattle.std.proofs.Common.{◌≡◌, ◌*◌, [], ◌∷◌, None, Some, refl, ap, arith}
use Rattle.heap_model.specs.Geometry.{start_word, superblock_words}
use Rattle.heap_model.specs.Sizes.{words_of_class}
use Rattle.core_model.specs.declared.answer.StepAnswer.TheVariants.{Done, Stopped, NotNow}
use Rattle.core_model.specs.Carriers.{IsCarrier, accepted, carrier_of, emptied, offered}
use Rattle.core_model.specs.CarrierExamples.{two}
use Rattle.core_model.specs.HeldExamples.{large}
use Rattle.core_model.specs.Handing.{MayOffer, MayAccept, OffersTo, AcceptsTo, is_offered, offers_not, offers_stopped, is_accepted, accepts_not, accepts_stopped}
use Rattle.core_model.specs.Held.{a_small, a_large}
use Rattle.core_model.specs.Steps.{TableState}
use Rattle.core_model.specs.View.{View}

-- the seat behind its offer, which has drawn the next ticket; one that has stopped; and the carrier
abbrev left : View
left = record (offered two 1080) { ticket = Some 4 }

abbrev at_rest : View
at_rest = record two { ticket = None; stopped = Some 9 }

abbrev carrier : View
carrier = carrier_of two 1080

-- a held block, small or large, is offered by its first word
pub may_offer : MayOffer two 1080
may_offer = record {
  may = record { seat = refl; going = refl; ticket = refl };
  held = record { block = record { first_word = 1080; words = words_of_class 20 }; holds = a_small 20 1080 (omega arith); at = refl };
}

pub may_offer_large : MayOffer large 9272
may_offer_large = record {
  may = record { seat = refl; going = refl; ticket = refl };
  held = record { block = record { first_word = start_word 2 1; words = superblock_words * 1 }; holds = a_large 1 1 (omega arith) refl; at = refl };
}

-- not without a ticket, by a seat that has stopped, or by a carrier
pub offers_without_a_ticket : MayOffer (offered two 1080) 2872 → ⊥
offers_without_a_ticket may = let t = may.may.ticket in omega (arith, t)

pub offers_at_rest : MayOffer at_rest 1080 → ⊥
offers_at_rest may = let g = may.may.going in omega (arith, g)

pub carrier_offers : MayOffer carrier 1080 → ⊥
carrier_offers may = let s = may.may.seat in omega (arith, s)

-- the carrier is accepted where it stands
pub is_carrier : IsCarrier carrier
is_carrier = record {
  is_one = refl;
  roots = refl;
  free = (refl, refl);
  claims = (refl, refl, refl, refl);
  tickets = (refl, refl);
  counts = (refl, refl, refl, refl, refl, refl, refl);
  handed = (refl, refl);
}

pub may_accept : MayAccept (left ∷ carrier ∷ []) left 1 carrier
may_accept = record { may = record { seat = refl; going = refl; ticket = refl }; below = omega arith; at = refl; carrier = is_carrier }

-- not a seat, past all views, or a carrier whose block was accepted
pub accepts_a_seat : (u : View) → MayAccept (left ∷ carrier ∷ []) left 0 u → ⊥
accepts_a_seat u may = let at : 0 ≡ u.carries = ap (λ (x : View). x.carries) may.at in let one = may.carrier.is_one in omega (arith, at, one)

pub accepts_past_all : (u : View) → MayAccept (left ∷ carrier ∷ []) left 2 u → ⊥
accepts_past_all u may = let b = may.below in omega (arith, b)

pub accepts_twice : (u : View) → MayAccept (left ∷ emptied carrier ∷ []) left 1 u → ⊥
accepts_twice u may = let at : 2 ≡ u.carries = ap (λ (x : View). x.carries) may.at in let one = may.carrier.is_one in omega (arith, at, one)

-- an offer is done, and makes the carrier; or it may not be made now, or the seat has stopped
abbrev alone : View → TableState
alone v = record { words = []; views = v ∷ [] }

pub offer_done : OffersTo (alone two) 0 1080 Done (record { words = []; views = offered two 1080 ∷ carrier ∷ [] })
offer_done = is_offered two refl may_offer

pub offer_not_now : OffersTo (alone (offered two 1080)) 0 2872 NotNow (alone (offered two 1080))
offer_not_now = offers_not (offered two 1080) refl refl offers_without_a_ticket

pub offer_stopped : OffersTo (alone at_rest) 0 1080 (Stopped 9) (alone at_rest)
offer_stopped = offers_stopped at_rest 9 refl refl

-- an accept is done, and leaves the carrier empty; or it may not be made now, or the seat has stopped
abbrev beside : View → View → TableState
beside v u = record { words = []; views = v ∷ u ∷ [] }

pub accept_done : AcceptsTo (beside left carrier) 0 1 Done (beside (accepted left carrier) (emptied carrier))
accept_done = is_accepted left carrier refl may_accept

pub accept_not_now : AcceptsTo (beside left (emptied carrier)) 0 1 NotNow (beside left (emptied carrier))
accept_not_now = accepts_not left refl refl accepts_twice

pub accept_stopped : AcceptsTo (beside at_rest carrier) 0 1 (Stopped 9) (beside at_rest carrier)
accept_stopped = accepts_stopped at_rest 9 refl refl
