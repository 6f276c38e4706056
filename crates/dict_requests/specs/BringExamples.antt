-- Worked examples: how a bring may end, and how many superblocks a table takes.
use Rattle.std.specs.Prelude.{◌≡◌, ◌≢◌, ℕ, ◌+◌, ◌*◌, [], ◌∷◌, None, Some, Contains, cond, nat_eq, refl}
use Rattle.std.proofs.lemmas.Bool.{cond-false, ne_eqb}
use Rattle.std.proofs.Common.{arith, ap, sym, subst, inl, inr, ◌∙◌}
use Rattle.heap_model.specs.declared.block.Block.{Block}
use Rattle.heap_model.specs.Geometry.{root_word}
use Rattle.heap_model.specs.Blocks.{IsIn}
use Rattle.heap_model.proofs.MemberLemmas.{head_or_rest, in_head, in_none}
use Rattle.heap_model.proofs.ReachLemmas.{closure_least, not_null}
use Rattle.heap_seat.specs.Examples.{look_with, seat_with}
use Rattle.heap_seat.specs.View.{View}
use Rattle.heap_seat.specs.Words.{in_root, KeepsWord, MayRead}
use Rattle.dict_model.specs.Shards.{Map, is_empty, has_table}
use Rattle.dict_requests.specs.Maps.{IsMapIn}
use Rattle.dict_requests.specs.Moving.{MayBring, TableTakes, for_none, for_table}
use Rattle.dict_requests.specs.Reached.{MayReach}
use Rattle.dict_requests.specs.MovingExamples.{node, other, stored, seeing, one_of, root_is}

-- the root is null, and loads see another link and another key of the node
abbrev head_stored : View
head_stored = record (seeing 0 0 0 0) { volatile = λ word. Some (cond (nat_eq word 1100) 5 (cond (nat_eq word 1101) 9 (stored 0 0 word))) }

head_root : (root value : ℕ) → Contains (2 ∷ []) root → MayRead head_stored (root_word root) value → value ≡ 0
head_root root value c read = one_of (subst (λ r. MayRead head_stored (root_word r) value) (root_is root c) read)

head_reaches : (root : ℕ) (b : Block) (kind : ℕ) → MayReach head_stored root b kind → ⊥
head_reaches root = closure_least (λ b kind. ⊥) (λ b kind start. not_null start.value (8 * b.first_word) start.leads.1
    (head_root root start.value start.owned start.read))
    (λ a b from kind reached has link. has)

head_keeps : (word : ℕ) → word ≢ 1100 → word ≢ 1101 → KeepsWord (seeing 0 0 0 0) head_stored word
head_keeps word link key = record {
  volatile = λ value seen.
      ap (λ n. Some n) (cond-false (nat_eq word 1100) 5 (cond (nat_eq word 1101) 9 (stored 0 0 word)) (ne_eqb word 1100 link)
      ∙ cond-false (nat_eq word 1101) 9 (stored 0 0 word) (ne_eqb word 1101 key)) ∙ seen;
  durable = λ value may. inr may;
}

no_keys_in : (map : Map) → IsMapIn (seeing 0 0 0 0) (stored 0 0) 2 map → (key : ℕ) → map key ≡ None
no_keys_in map (is_empty null none) = none
no_keys_in map (has_table table nodes has chains is) = absurd (not_null 0 (8 * table.first_word) has.leads_there.1 refl)

-- a bring may end so, whatever it does to the map
brings_head : (after : Map → Map) → MayBring node 2 after (seeing 0 0 0 0) head_stored
brings_head after = record {
  either = λ map gives. record {
    each = λ image mixes.
        inl (is_empty (head_root 2 (image 42) (in_head 2 []) (mixes.each 42 (in_root 2 42 (in_head 2 []) refl)))
        (no_keys_in map (gives.each (stored 0 0) (record { each = λ word own. inl refl }))));
  };
  only = record {
    roots = λ root value owned read. inl (head_root root value owned read);
    links = λ root a from position kind value reached link read. absurd (head_reaches root a from reached);
    alone = λ shard root b kind last below differs one two. head_reaches shard b kind one;
  };
  table = record { root = λ x owned seen some. seen };
  others = record {
    roots = refl;
    kinds = refl;
    root_words = λ root owned differs. absurd (differs (root_is root owned));
    blocks = λ a h differs unreached. (
      h,
      λ word inside. elim (head_or_rest node a (other ∷ []) h) as (λ _. KeepsWord (seeing 0 0 0 0) head_stored word) [
        | inl same ↦ absurd (differs (sym same))
        | inr rest ↦ elim (head_or_rest other a [] rest) as (λ _. KeepsWord (seeing 0 0 0 0) head_stored word) [
          | inl same ↦ let first = ap (λ (x : Block). x.first_word) same in let from = inside.from in
              head_keeps word (λ e. omega arith) (λ e. omega arith)
          | inr none ↦ absurd (in_none a none)
        ]
      ],
    );
  };
  stays = in_head node (other ∷ []);
  value = λ word inside behind.
      head_keeps word (λ e. behind (record { from = omega arith; until = omega arith }))
      (λ e. behind (record { from = omega arith; until = omega arith }));
}

-- none ends with its node freed, nor with another value stored to it
brings_not : (after : Map → Map) → (MayBring node 2 after (seeing 0 0 0 0) (record (seeing 0 0 0 0) { held = other ∷ [] }) → ⊥)
    × (MayBring node 2 after (seeing 0 0 0 0) (seeing 0 0 7 7) → ⊥)
brings_not after = (
  λ may. elim (head_or_rest other node [] may.stays) as (λ _. ⊥) [
    | inl same ↦ let e = ap (λ (b : Block). b.first_word) same in
        omega arith
    | inr none ↦ in_none node none
  ],
  λ may.
      let inside : IsIn node 1103 = record { from = omega arith; until = omega arith } in
      let keeps : KeepsWord (seeing 0 0 0 0) (seeing 0 0 7 7) 1103 = may.value 1103 inside (λ head. let until = head.until in omega arith) in
      differs 483937 25185 (omega arith) (keeps.volatile 25185 refl),
) where
  differs : (x y : ℕ) → x ≢ y → Some x ≡ Some y → ⊥
  differs x y other same = other (cc)

-- a table takes one superblock where the root is null, and none where it is known to be set
abbrev with_root : ℕ → ℕ → View
with_root root taken = record (seat_with (look_with 0 0) 7) { volatile = λ word. Some root; taken = taken }

takes_table : TableTakes 0 (with_root 0 1) (with_root 0 2) × TableTakes 0 (with_root 5 1) (with_root 5 1)
takes_table = (for_table (λ x seen. cc) (omega arith), for_none refl)

takes_not : (root more : ℕ) → root ≢ 0 → TableTakes 0 (with_root root 1) (with_root root (2 + more)) → ⊥
takes_not root more some (for_none same) = omega (arith, same)
takes_not root more some (for_table null few) = some (null root refl)

takes_not_two : (root : ℕ) → TableTakes 0 (with_root root 1) (with_root root 3) → ⊥
takes_not_two root (for_none same) = omega (arith, same)
takes_not_two root (for_table null few) = omega (arith, few)
