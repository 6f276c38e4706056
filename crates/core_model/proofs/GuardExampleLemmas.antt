-- Worked examples of what each condition of a guard refuses by itself: of a superblock that is cut, of stores to
-- anchors and to blocks, and of blocks that go between seats.
use Rattle.std.proofs.Common.{◌≡◌, ℕ, [], ◌∷◌, replicate, set, Option, None, Some, true, inl, inr, refl, ap, subst, arith}
use Rattle.heap_model.specs.Sizes.{class_sizes, words_of_class, blocks_of}
use Rattle.heap_model.specs.Counting.{total}
use Rattle.heap_model.proofs.MemberLemmas.{in_head, in_rest, in_none, head_or_rest}
use Rattle.core_model.specs.Cells.{used_cell, info_cell, anchor_cell, data_cell}
use Rattle.core_model.specs.Memory.{Memory, write, volatile_at, durable_at}
use Rattle.core_model.specs.View.{Setup, View}
use Rattle.core_model.specs.Guards.{MayCut, MayAnchor, as_empty, as_full, MayChangeWord}
use Rattle.core_model.specs.Carriers.{IsCarrier, IsEmptied, MayHand, AreOneLess, AreSeatsAndCarriers, offered, carrier_of, accepted, emptied}
use Rattle.core_model.specs.Examples.{idle, memory}
use Rattle.core_model.specs.HeldExamples.{cached, behind}
use Rattle.core_model.specs.CarrierExamples.{two}
use Rattle.core_model.proofs.OfferLemmas.{carries_block}
use Rattle.core_model.proofs.EmptiedLemmas.{empties_carrier}

-- superblock 0 is made ready for class 20, below the durable mark: its four blocks lead along one another
abbrev said_20 : Memory
said_20 = write (write memory (volatile_at (info_cell 0)) 20) (durable_at (info_cell 0)) 20

abbrev ready : Memory
ready = write (write (write said_20 (volatile_at (data_cell 1080)) 2872) (volatile_at (data_cell 2872)) 4664) (volatile_at (data_cell 4664)) 6456

abbrev cutting : View
cutting = record idle { cutting = 0 ∷ [] }

pub cuts : MayCut ready cutting 0
unfolding words_of_class class_sizes blocks_of
cuts = record {
  cutting = omega arith;
  class = record { some = omega arith; last = omega arith };
  durable_class = refl;
  durable = omega arith;
  linked = (refl, (refl, (refl, (refl, tt))));
  uncached = refl;
}

pub cuts_claimed : MayCut ready (record idle { raw = 0 ∷ [] }) 0 → ⊥
cuts_claimed may = let some = may.cutting in omega arith

pub cuts_no_class : MayCut (write (write ready (volatile_at (info_cell 0)) 0) (durable_at (info_cell 0)) 0) cutting 0 → ⊥
cuts_no_class may = let some = may.class.some in omega arith

pub cuts_before_the_class_is_durable : MayCut (write ready (durable_at (info_cell 0)) 0) cutting 0 → ⊥
cuts_before_the_class_is_durable may = let same = may.durable_class in omega arith

pub cuts_above_the_mark : MayCut (write ready (durable_at used_cell) 0) cutting 0 → ⊥
cuts_above_the_mark may = let less = may.durable in omega arith

pub cuts_unlinked : MayCut (write ready (volatile_at (data_cell 4664)) 1080) cutting 0 → ⊥
unfolding words_of_class class_sizes blocks_of
cuts_unlinked may = let led = may.linked.1.1.1.0 in omega arith

pub cuts_into_a_cache : MayCut ready (record cutting { caches = set (replicate 21 []) 20 (9272 ∷ []) }) 0 → ⊥
cuts_into_a_cache may = let none = ap (λ l. total (λ n. 1) l) may.uncached in omega arith

-- an anchor becomes 0, whatever it was
abbrev full : Memory
full = write memory (volatile_at (anchor_cell 0)) 2

pub empties : MayAnchor full cutting 0 0
empties = as_empty 0 refl

-- it becomes full where it is empty, or after a split
pub fills : MayAnchor memory (record idle { raw = 0 ∷ [] }) 0 2
fills = as_full 2 refl refl (inl refl)

pub fills_split : MayAnchor full (record idle { split = 0 ∷ [] }) 0 2
fills_split = as_full 2 refl refl (inr (omega arith))

pub fills_full : MayAnchor full (record idle { raw = 0 ∷ [] }) 0 2 → ⊥
fills_full (as_empty value none) = omega (arith, none)
fills_full (as_full value is apart (inl empty)) = omega (arith, empty)
fills_full (as_full value is apart (inr split)) = omega (arith, split)

-- not while its blocks are being made, though it is empty
pub fills_cutting : MayAnchor memory cutting 0 2 → ⊥
fills_cutting (as_empty value none) = omega (arith, none)
fills_cutting (as_full value is apart where_from) = omega (arith, apart)

-- and it becomes nothing else
pub becomes_partial : MayAnchor memory (record idle { raw = 0 ∷ [] }) 0 1 → ⊥
becomes_partial (as_empty value none) = omega (arith, none)
becomes_partial (as_full value is apart where_from) = omega (arith, is)

-- the word of a held block may change, and the first word of the batch's last block
pub changes_held : MayChangeWord two 1080
changes_held = record { uncached = refl; in_batch = inl refl }

pub changes_last : MayChangeWord (behind true) 6456
changes_last = record { uncached = refl; in_batch = inr refl }

-- the second word of a cached block too, but not the first, nor that of a block that another follows in the batch
pub changes_inside : MayChangeWord cached 1081
changes_inside = record { uncached = refl; in_batch = inl refl }

pub changes_cached : MayChangeWord cached 1080 → ⊥
changes_cached may = let none = may.uncached in omega arith

pub changes_before_last : MayChangeWord (behind true) 4664 → ⊥
changes_before_last may = elim may.in_batch [ inl none ↦ omega (arith, none) | inr last ↦ omega (arith, last) ]

-- a seat with a ticket hands blocks on; not without one, nor once it stopped, nor a carrier
pub hands : MayHand two
hands = record { seat = refl; going = refl; ticket = refl }

pub hands_without_a_ticket : MayHand (record two { ticket = None }) → ⊥
hands_without_a_ticket may = let ticket = may.ticket in omega arith

pub hands_stopped : MayHand (record two { stopped = Some 10 }) → ⊥
hands_stopped may = let going = may.going in omega arith

pub carrier_hands : MayHand (record two { carries = 1 }) → ⊥
carrier_hands may = let seat = may.seat in omega arith

-- a carrier, and what is none: with a ticket, with a root, or once its block was accepted
abbrev carrier : View
carrier = carrier_of two 1080

pub is_carrier : IsCarrier carrier
is_carrier = carries_block two 1080

pub carrier_with_a_ticket : IsCarrier (record carrier { ticket = Some 3 }) → ⊥
carrier_with_a_ticket is = let none = ap one_if_ticket is.tickets.0 in omega arith where
  one_if_ticket : Option ℕ → ℕ
  one_if_ticket None = 0
  one_if_ticket (Some n) = 1

pub carrier_with_a_root : IsCarrier (record carrier { roots = 1 ∷ [] }) → ⊥
carrier_with_a_root is = let none = ap (total (λ n. n)) is.roots in omega arith

pub emptied_carrier : IsCarrier (emptied carrier) → ⊥
emptied_carrier is = let one = is.is_one in omega arith

pub is_emptied : IsEmptied (emptied carrier)
is_emptied = empties_carrier carrier is_carrier

pub emptied_with_a_block : IsEmptied (record carrier { carries = 2 }) → ⊥
emptied_with_a_block is = let none = ap (total (total (λ n. 1))) is.held.0 in omega arith

-- one view stands for two, and no block for none
pub is_one_less : AreOneLess (idle ∷ carrier ∷ []) (two ∷ []) idle carrier two
is_one_less = record {
  sums = λ f. omega arith;
  members = λ x there. elim
      (head_or_rest two x [] there) [ inl same ↦ inl same | inr none ↦ absurd (in_none x none) ];
}

pub one_is_left : AreOneLess (idle ∷ carrier ∷ []) (two ∷ carrier ∷ []) idle carrier two → ⊥
one_is_left less = let more = less.sums (λ v. 1) in omega arith

pub one_is_new : AreOneLess (idle ∷ carrier ∷ []) (two ∷ []) idle carrier cached → ⊥
one_is_new less = let blocks = less.sums (λ v. total (total (λ n. 1)) v.caches) in omega arith

-- one seat, and the carrier that it made; then the seat again, and the carrier with nothing
abbrev alone : Setup
alone = record idle.setup { seats = 1 }

abbrev sender : View
sender = offered two 1080

pub are_all : AreSeatsAndCarriers alone (sender ∷ carrier ∷ [])
are_all = record {
  seats = refl;
  carriers = refl;
  each = λ v there. elim (head_or_rest sender v (carrier ∷ []) there) [
    | inl same ↦ inl (subst (λ (x : View). x.carries ≡ 0) same refl)
    | inr later ↦ elim (head_or_rest carrier v [] later) [ inl same ↦ inr (inl (subst IsCarrier same is_carrier)) | inr none ↦ absurd (in_none v none) ]
  ];
}

pub are_all_after : AreSeatsAndCarriers alone (accepted sender carrier ∷ emptied carrier ∷ [])
are_all_after = record {
  seats = refl;
  carriers = refl;
  each = λ v there. elim (head_or_rest (accepted sender carrier) v (emptied carrier ∷ []) there) [
    | inl same ↦ inl (subst (λ (x : View). x.carries ≡ 0) same refl)
    | inr later ↦ elim (head_or_rest (emptied carrier) v [] later)
        [ inl same ↦ inr (inr (subst IsEmptied same is_emptied)) | inr none ↦ absurd (in_none v none) ]
  ];
}

-- a carrier that is lost, a seat too few, and a carrier that still has the block that was accepted
pub one_is_lost : AreSeatsAndCarriers alone (sender ∷ []) → ⊥
one_is_lost are = let made = are.carriers in omega arith

pub no_seat_there : AreSeatsAndCarriers alone (carrier ∷ []) → ⊥
no_seat_there are = let one = are.seats in omega arith

pub one_has_it_still : AreSeatsAndCarriers alone (accepted sender carrier ∷ carrier ∷ []) → ⊥
one_has_it_still are = let made = are.carriers in omega arith

pub carrier_is_no_carrier : AreSeatsAndCarriers alone (sender ∷ record carrier { ticket = Some 3 } ∷ []) → ⊥
carrier_is_no_carrier are = elim (are.each (record carrier { ticket = Some 3 })
    (in_rest sender (record carrier { ticket = Some 3 }) (record carrier { ticket = Some 3 } ∷ []) (in_head (record carrier { ticket = Some 3 }) []))) [
      | inl seat ↦ omega (arith, seat)
      | inr (inl is) ↦ carrier_with_a_ticket is
      | inr (inr empty) ↦ omega (arith, empty.is_two)
    ]
