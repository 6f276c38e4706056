-- What faults are told as.
use Rattle.std.proofs.Common.{◌≡◌, ℕ, ◌*◌, List, length, Some, sym, ap, ◌∙◌, arith}
use Rattle.std.specs.Prelude.{slice_index}
use Rattle.heap_model.specs.Header.{header_fault}
use Rattle.heap_model.specs.Image.{Image, image_of_bytes}
use Rattle.region_header.specs.Words.{AreWordsOf}
use Rattle.region_header.proofs.WordBytes.{image_of_words}
use Rattle.dict_model.specs.Links.{kind_count}
use Rattle.dictionary_heap.specs.Faults.{TellsFault}
use Rattle.dictionary_heap.specs.declared.fault.OpenFault.{OpenFault}
use Rattle.dictionary_heap.specs.declared.fault.OpenFault.TheVariants.{Header, Outside, BadShard, Memory}
use Rattle.c_dictionary.specs.declared.fault.Fault.{Fault}
use Rattle.c_dictionary.specs.Faults.{IsRefused, TellsFaultOf, status_of}

-- the status of a fault is neither 0 nor 2
pub not_done : (fault : OpenFault) (status : ℕ) → status ≡ status_of fault → status ≡ 0 → ⊥
not_done (Header cause) status is e = omega arith
not_done (Outside at value) status is e = omega arith
not_done (BadShard shard at) status is e = omega arith
not_done Memory status is e = omega arith

pub not_usage : (fault : OpenFault) (status : ℕ) → status ≡ status_of fault → status ≡ 2 → ⊥
not_usage (Header cause) status is e = omega arith
not_usage (Outside at value) status is e = omega arith
not_usage (BadShard shard at) status is e = omega arith
not_usage Memory status is e = omega arith

same_header : (words bytes : List ℕ) → AreWordsOf words bytes
    → header_fault (Some kind_count) (8 * length words) (slice_index words) ≡ header_fault (Some kind_count) (length bytes) (image_of_bytes bytes)
same_header words bytes are =
    ap (λ n. header_fault (Some kind_count) n (slice_index words)) are.count
    ∙ ap (λ (image : Image). header_fault (Some kind_count) (length bytes) image) (image_of_words words bytes are)

-- so a fault of the words is one of the bytes
pub fault_of_bytes : (words bytes : List ℕ) (status : ℕ) (old new : Fault) → AreWordsOf words bytes
    → IsRefused (TellsFault words) status old new → IsRefused (TellsFaultOf bytes) status old new
fault_of_bytes words bytes status old new are refused = record {
  fault = refused.fault;
  is_so = tells refused.fault refused.is_so;
  status_is = refused.status_is;
  told_is = refused.told_is;
} where
  tells : (fault : OpenFault) → TellsFault words fault → TellsFaultOf bytes fault
  tells (Header cause) is = sym (same_header words bytes are) ∙ is
  tells (Outside at value) is = (words, are, is)
  tells (BadShard shard at) is = (words, are, is)
  tells Memory is = tt
