-- Worked examples by computation: a seat that holds two blocks of class 20, or a large one, offers one of them, and takes it in again.
use Rattle.std.specs.Prelude.{◌≡◌, [], ◌∷◌, List, replicate, None, Some, refl, set}
use Rattle.heap_model.specs.Sizes.{class_sizes, words_of_class}
use Rattle.core_model.specs.Cells.{data_cell}
use Rattle.core_model.specs.View.{View, Span, of_class, known}
use Rattle.core_model.specs.Carriers.{offered, carrier_of, accepted, emptied}
use Rattle.core_model.specs.Examples.{idle}
use Rattle.core_model.specs.HeldExamples.{large}

-- it knows the first word of each
abbrev pub two : View
two = record idle {
  small = set (replicate 21 []) 20 (1080 ∷ 2872 ∷ []);
  volatile = set (replicate 2880 None) 1080 (Some 5);
  durable = set (replicate 2880 None) 1080 (Some 6);
}

-- an offer takes the one block out, with its words, and uses the ticket up
pub offers : of_class (offered two 1080).small 20 ≡ 2872 ∷ []
offers = refl

pub used_up : (offered two 1080).ticket ≡ None
used_up = refl

pub counts_offer : (offered two 1080).offers ≡ 1
counts_offer = refl

pub forgets : known (offered two 1080).volatile (data_cell 1080) ≡ None
forgets = refl

-- the carrier has it, and what was known of its words
pub carries : of_class (carrier_of two 1080).small 20 ≡ 1080 ∷ []
carries = refl

pub is_marked : (carrier_of two 1080).carries ≡ 1
is_marked = refl

pub knows_now : known (carrier_of two 1080).volatile (data_cell 1080) ≡ Some 5
unfolding words_of_class class_sizes
knows_now = refl

pub knows_durable : known (carrier_of two 1080).durable (data_cell 1080) ≡ Some 6
unfolding words_of_class class_sizes
knows_durable = refl

-- a large block goes by its first word
abbrev one : List Span
one = record { first = 1; count = 1 } ∷ []

pub offers_large : (offered large 9272).large ≡ []
offers_large = refl

pub carries_large : (carrier_of large 9272).large ≡ one
carries_large = refl

pub keeps_large : (offered large 1080).large ≡ one
keeps_large = refl

-- an accept gives the block and what is known of it, and uses the ticket up
pub accepts : of_class (accepted (record (offered two 1080) { ticket = Some 4 }) (carrier_of two 1080)).small 20 ≡ 1080 ∷ 2872 ∷ []
accepts = refl

pub accepts_large : (accepted (offered large 9272) (carrier_of large 9272)).large ≡ one
accepts_large = refl

pub used_up_again : (accepted (record (offered two 1080) { ticket = Some 4 }) (carrier_of two 1080)).ticket ≡ None
used_up_again = refl

pub counts_accept : (accepted (offered two 1080) (carrier_of two 1080)).accepts ≡ 1
counts_accept = refl

pub knows_again : known (accepted (offered two 1080) (carrier_of two 1080)).volatile (data_cell 1080) ≡ Some 5
unfolding words_of_class class_sizes
knows_again = refl

-- the carrier has nothing then
pub is_empty : (emptied (carrier_of two 1080)).small ≡ replicate 21 []
is_empty = refl

pub has_no_large : (emptied (carrier_of large 9272)).large ≡ []
has_no_large = refl

pub is_marked_empty : (emptied (carrier_of two 1080)).carries ≡ 2
is_marked_empty = refl

pub knows_no_more : known (emptied (carrier_of two 1080)).volatile (data_cell 1080) ≡ None
knows_no_more = refl
