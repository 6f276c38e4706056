-- Which superblock a word belongs to; a word that recovery leaves alone belongs to none, and is no head and no state.
use Rattle.std.proofs.Common.{◌≡◌, ℕ, ◌+◌, ◌<◌, ◌≤◌, ◌⊎◌, inl, inr, arith}
use Rattle.heap_model.specs.Geometry.{info_word, head_word, start_word, superblocks_end, state_word, in_header, in_descriptor, lists}
use Rattle.heap_model.specs.Recovery.{IsKeptWord, in_header as header_kept, is_root, is_kind, is_reserved}
use Rattle.heap_recover.specs.Rebuilt.{IsOf, is_info, is_anchor, is_link, is_inside}

-- each word belongs to one superblock
pub one_owner : (capacity d e word : ℕ) → d < capacity → e < capacity → IsOf capacity d word → IsOf capacity e word → d ≡ e
one_owner capacity d e word in_d in_e (is_info _ is) (is_info _ is') = omega arith
one_owner capacity d e word in_d in_e (is_info _ is) (is_anchor _ is') = absurd (omega arith)
one_owner capacity d e word in_d in_e (is_info _ is) (is_link _ is') = absurd (omega arith)
one_owner capacity d e word in_d in_e (is_info _ is) (is_inside _ from until) = absurd (omega arith)
one_owner capacity d e word in_d in_e (is_anchor _ is) (is_info _ is') = absurd (omega arith)
one_owner capacity d e word in_d in_e (is_anchor _ is) (is_anchor _ is') = omega arith
one_owner capacity d e word in_d in_e (is_anchor _ is) (is_link _ is') = absurd (omega arith)
one_owner capacity d e word in_d in_e (is_anchor _ is) (is_inside _ from until) = absurd (omega arith)
one_owner capacity d e word in_d in_e (is_link _ is) (is_info _ is') = absurd (omega arith)
one_owner capacity d e word in_d in_e (is_link _ is) (is_anchor _ is') = absurd (omega arith)
one_owner capacity d e word in_d in_e (is_link _ is) (is_link _ is') = omega arith
one_owner capacity d e word in_d in_e (is_link _ is) (is_inside _ from until) = absurd (omega arith)
one_owner capacity d e word in_d in_e (is_inside _ from until) (is_info _ is') = absurd (omega arith)
one_owner capacity d e word in_d in_e (is_inside _ from until) (is_anchor _ is') = absurd (omega arith)
one_owner capacity d e word in_d in_e (is_inside _ from until) (is_link _ is') = absurd (omega arith)
one_owner capacity d e word in_d in_e (is_inside _ from until) (is_inside _ from' until') = omega arith

-- where a kept word stands: before the descriptors, behind the last superblock, or behind the words of a descriptor that have a meaning
pub kept_where : (capacity word : ℕ) → IsKeptWord capacity word
    → ((word < 1064) ⊎ (superblocks_end capacity ≤ word)) ⊎ ((e : ℕ) × (at : ℕ) × (e < capacity) × (3 ≤ at) × (at < 8) × (word ≡ info_word e + at))
kept_where capacity _ (header_kept word is) = inl (inl (elim is as (λ _. word < 1064) [
  | inl magic ↦ omega arith
  | inr rest ↦ elim rest as (λ _. word < 1064) [
    | inl version ↦ omega arith
    | inr last ↦ elim last as
        (λ _. word < 1064) [ inl capacity_is ↦ omega arith | inr used ↦ omega arith ]
  ]
]))
kept_where capacity _ (is_root i word below is) = inl (inl (omega arith))
kept_where capacity _ (is_kind i word below is) = inl (inr (omega arith))
kept_where capacity _ (is_reserved word (in_header _ low high used_not lists_not)) = inl (inl (omega arith))
kept_where capacity _ (is_reserved word (in_descriptor d at _ below low high is)) = inr (d, at, below, low, high, is)

-- a kept word is not the state
pub kept_no_state : (capacity word : ℕ) → IsKeptWord capacity word → word ≡ state_word → ⊥
kept_no_state capacity _ (header_kept word is) same = elim is as (λ _. ⊥) [
  | inl magic ↦ omega arith
  | inr rest ↦ elim rest as (λ _. ⊥) [
    | inl version ↦ omega arith
    | inr last ↦ elim last as
        (λ _. ⊥) [ inl capacity_is ↦ omega arith | inr used ↦ omega arith ]
  ]
]
kept_no_state capacity _ (is_root i word below is) same = omega arith
kept_no_state capacity _ (is_kind i word below is) same = omega arith
kept_no_state capacity _ (is_reserved word (in_header _ low high used_not lists_not)) same = omega arith
kept_no_state capacity _ (is_reserved word (in_descriptor d at _ below low high is)) same = omega arith

-- nor a head
pub kept_no_head : (capacity word : ℕ) → IsKeptWord capacity word → (j : ℕ) → j < lists → word ≡ head_word j → ⊥
kept_no_head capacity _ (header_kept word is) j few same = elim is as (λ _. ⊥) [
  | inl magic ↦ omega arith
  | inr rest ↦ elim rest as (λ _. ⊥) [
    | inl version ↦ omega arith
    | inr last ↦ elim last as
        (λ _. ⊥) [ inl capacity_is ↦ omega arith | inr used ↦ omega arith ]
  ]
]
kept_no_head capacity _ (is_root i word below is) j few same = omega arith
kept_no_head capacity _ (is_kind i word below is) j few same = omega arith
kept_no_head capacity _ (is_reserved word (in_header _ low high used_not lists_not)) j few same =
    elim lists_not as (λ _. ⊥) [ inl before ↦ omega arith | inr behind ↦ omega arith ]
kept_no_head capacity _ (is_reserved word (in_descriptor d at _ below low high is)) j few same = omega arith

-- a word of a superblock's blocks belongs to no lower superblock
pub no_lower : (capacity d e word : ℕ) → e < d → e < capacity → start_word capacity d ≤ word → IsOf capacity e word → ⊥
no_lower capacity d e word less below from (is_info _ is) = omega arith
no_lower capacity d e word less below from (is_anchor _ is) = omega arith
no_lower capacity d e word less below from (is_link _ is) = omega arith
no_lower capacity d e word less below from (is_inside _ from' until) = omega arith

-- a kept word belongs to no superblock
pub kept_apart : (capacity d word : ℕ) → d < capacity → IsKeptWord capacity word → IsOf capacity d word → ⊥
kept_apart capacity d word below kept owned = elim (kept_where capacity word kept) as (λ _. ⊥) [
  | inl apart ↦ elim apart as (λ _. ⊥) [ inl header ↦ header_apart header owned | inr behind ↦ behind_apart behind owned ]
  | inr descriptor ↦ descriptor_apart descriptor.0 descriptor.1 (descriptor.2, descriptor.3, descriptor.4, descriptor.5) owned
] where
  header_apart : word < 1064 → IsOf capacity d word → ⊥
  header_apart low (is_info _ is) = omega arith
  header_apart low (is_anchor _ is) = omega arith
  header_apart low (is_link _ is) = omega arith
  header_apart low (is_inside _ from until) = omega arith

  behind_apart : superblocks_end capacity ≤ word → IsOf capacity d word → ⊥
  behind_apart past (is_info _ is) = omega arith
  behind_apart past (is_anchor _ is) = omega arith
  behind_apart past (is_link _ is) = omega arith
  behind_apart past (is_inside _ from until) = omega arith

  descriptor_apart : (e at : ℕ) → (e < capacity) × (3 ≤ at) × (at < 8) × (word ≡ info_word e + at) → IsOf capacity d word → ⊥
  descriptor_apart e at where_ (is_info _ is) = let same = where_.3 in let low = where_.1 in let high = where_.2 in omega arith
  descriptor_apart e at where_ (is_anchor _ is) = let same = where_.3 in let low = where_.1 in let high = where_.2 in omega arith
  descriptor_apart e at where_ (is_link _ is) = let same = where_.3 in let low = where_.1 in let high = where_.2 in omega arith
  descriptor_apart e at where_ (is_inside _ from until) = let same = where_.3 in let inside = where_.0 in let high = where_.2 in omega arith
