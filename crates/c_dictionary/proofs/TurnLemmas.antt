-- A request to one shard, seen at the whole dictionary.
use Rattle.std.proofs.Common.{◌≡◌, ◌≢◌, ℕ, ◌<◌, inl, inr, List, false, cond, nat_eq, Option, None, Some, refl, sym, ap, subst, ◌∙◌}
use Rattle.std.proofs.lemmas.Bool.{cases_eq, cond-false, ne_eqb, false≢true}
use Rattle.heap_seat.specs.View.{View}
use Rattle.block_heap.specs.Laws.{seat_law}
use Rattle.block_heap.specs.SeqState.{SeqState, seat_of}
use Rattle.dict_model.specs.Links.{shards}
use Rattle.dict_model.specs.Nodes.{shard_of}
use Rattle.dict_model.specs.Requests.{with_key, without_key}
use Rattle.dict_model.specs.Shards.{Map}
use Rattle.dict_requests.specs.Answers.{Deletes}
use Rattle.dict_requests.specs.Changes.{MayChange, Changes}
use Rattle.dict_requests.specs.Shards.{HasShards}
use Rattle.dict_requests.proofs.DeleteLemmas.{shard_below}
use Rattle.dict_requests.proofs.OthersLemmas.{others_give}
use Rattle.c_dictionary.specs.Dictionary.{GivesPart, GivesWhole}

-- what is made of a key depends on what the map has of it, and keys of other shards stay
pub record IsLocal (key : ℕ) (change : Map → Map) : Type 0 where
  pub alike : (a b : Map) (k : ℕ) → a k ≡ b k → change a k ≡ change b k
  pub others : (a : Map) (k : ℕ) → shard_of k ≢ shard_of key → change a k ≡ a k

pub with_local : (key : ℕ) (value : List ℕ) → IsLocal key (λ map. with_key map key value)
with_local key value = record {
  alike = λ a b k same. ap (cond (nat_eq key k) (Some value)) same;
  others = λ a k other. cond-false (nat_eq key k) (Some value) (a k) (ne_eqb key k (λ e. other (ap shard_of (sym e))));
}

pub without_local : (key : ℕ) → IsLocal key (λ map. without_key map key)
without_local key = record {
  alike = λ a b k same. ap (cond (nat_eq key k) None) same;
  others = λ a k other. cond-false (nat_eq key k) None (a k) (ne_eqb key k (λ e. other (ap shard_of (sym e))));
}

pub same_local : (key : ℕ) → IsLocal key (λ map. map)
same_local key = record { alike = λ a b k same. same; others = λ a k other. refl }

module _ (s t : SeqState) (key : ℕ) (may : Map → Map) (has : HasShards (seat_of s))
    (change : MayChange (shard_of key) may (seat_of s) (seat_of t)) where
  other_part : (whole : Map) → GivesWhole (seat_of s) whole → (shard : ℕ) → shard < shards → shard ≢ shard_of key → GivesPart (seat_of t) whole shard
  other_part whole gives shard small differs =
      let p = gives.each shard small in
      record {
        part = p.part;
        gives = others_give (seat_of s) (seat_of t) (shard_of key) may (seat_law s) (shard_below key) change shard p.part differs
            (has.each shard small) p.gives;
        same = p.same;
      }

  -- where it was done, the dictionary is what is made of the map
  pub turned : (made : Map → Map) → IsLocal key made → Changes (shard_of key) made (seat_of s) (seat_of t) → (whole : Map)
      → GivesWhole (seat_of s) whole → GivesWhole (seat_of t) (made whole)
  turned made local done whole gives = record {
    each = λ shard small. elim (cases_eq shard (shard_of key)) as (λ _. GivesPart (seat_of t) (made whole) shard) [
      | inl same ↦
          let p = gives.each (shard_of key) (shard_below key) in
          subst (GivesPart (seat_of t) (made whole)) (sym same) (record {
            part = made p.part;
            gives = done.gives p.part p.gives;
            same = λ k is. local.alike p.part whole k (p.same k is);
          })
      | inr differs ↦
          let p = other_part whole gives shard small differs in
          record { part = p.part; gives = p.gives; same = λ k is. p.same k is ∙ sym (local.others whole k (λ e. differs (sym is ∙ e))) }
    ];
  }

-- a delete that found nothing
pub was_absent : (key : ℕ) (v w : View) → Deletes key false v w → (map : Map) → GivesWhole v map → map key ≡ None
was_absent key v w told map gives =
    let p = gives.each (shard_of key) (shard_below key) in
    sym (p.same key refl) ∙ is_none (p.part key) (λ some. false≢true ((told.tells p.part p.gives).1 some)) where
      is_none : (o : Option (List ℕ)) → (o ≢ None → ⊥) → o ≡ None
      is_none None not = refl
      is_none (Some value) not = absurd (not (λ e. absurd (cc)))
