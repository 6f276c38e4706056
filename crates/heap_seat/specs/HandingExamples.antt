-- Worked examples by computation: what an offer and an accept leave, and what is known of a block on its way.
use Rattle.std.specs.Prelude.{◌≡◌, ◌≢◌, ℕ, List, [], ◌∷◌, None, Some, nat_eq, cond, Contains, refl}
use Rattle.std.proofs.Common.{arith, ap, sym, inl, inr, ne_eqb, ◌∙◌}
use Rattle.heap_model.specs.declared.block.Block.{Block}
use Rattle.heap_model.specs.Blocks.{IsIn}
use Rattle.heap_model.proofs.MemberLemmas.{head_or_rest, in_head, in_none, in_rest}
use Rattle.heap_seat.specs.Examples.{look_with, seat_with}
use Rattle.heap_seat.specs.Handing.{Accepts, ComesWith, Contents, GoesWith, Offers}
use Rattle.heap_seat.specs.View.{View}
use Rattle.heap_seat.specs.Words.{IsDurable, IsOwn, in_block, in_root}

-- a block of 2 words, which goes from seat to seat
abbrev sent : Block
sent = record { first_word = 1000; words = 2 }

-- its neighbour, which stays
abbrev other : Block
other = record { first_word = 1002; words = 2 }

-- a third block
abbrev third : Block
third = record { first_word = 1004; words = 2 }

-- a seat with root 2, which holds these blocks; of each word loads see 9 and a crash leaves 5, and the neighbour's first word is pending
abbrev holding : List Block → ℕ → View
holding held next = record (seat_with (look_with 0 0) next) {
  held = held;
  roots = 2 ∷ [];
  volatile = λ word. Some 9;
  durable = λ word. Some 5;
  pending = 1002 ∷ [];
}

-- the seat with the block that is sent
abbrev with_it : ℕ → View
with_it next = holding (sent ∷ other ∷ []) next

-- the seat without it
abbrev without_it : ℕ → View
without_it next = holding (other ∷ []) next

-- what the lists hold
only_other : (a : Block) → Contains (other ∷ []) a → other ≡ a
only_other a c = elim (head_or_rest other a [] c) as (λ _. other ≡ a) [ inl same ↦ same | inr none ↦ absurd (in_none a none) ]

no_sent : Contains (other ∷ []) sent → ⊥
no_sent c = let e = ap (λ (b : Block). b.first_word) (only_other sent c) in omega arith

no_third : Contains (sent ∷ other ∷ []) third → ⊥
no_third c = elim (head_or_rest sent third (other ∷ []) c) as (λ _. ⊥) [
  | inl same ↦ let e = ap (λ (b : Block). b.first_word) same in omega arith
  | inr rest ↦ let e = ap (λ (b : Block). b.first_word) (only_other third rest) in omega arith
]

-- words of the two blocks
own_word : {held : List Block} → Contains held other → IsOwn held (2 ∷ []) 1002
own_word c = in_block other 1002 c (record { from = omega arith; until = omega arith })

first_in : IsIn sent 1000
first_in = record { from = omega arith; until = omega arith }

behind : (word : ℕ) → IsOwn (other ∷ []) (2 ∷ []) word → word ≢ 1000
behind word (in_block b w c within) same = let e = ap (λ (a : Block). a.first_word) (only_other b c) in let from = within.from in omega (arith, same)
behind word (in_root i w c is) same = elim (head_or_rest 2 i [] c) as (λ _. ⊥) [ inl two ↦ omega (arith, two, is, same) | inr none ↦ in_none i none ]

-- no value is both
nine_or_five : {v : View} {word : ℕ} → v.volatile word ≡ Some 9 → v.durable word ≡ Some 5 → IsDurable v word → ⊥
nine_or_five nine five durable = let seen = durable.seen in let left = durable.left in absurd (cc)

-- the block goes, and all else stays
goes : Offers sent (with_it 7) (without_it 8)
goes = record {
  runs = record { ran = refl; running = refl; drew = omega arith; below = omega arith };
  blocks = record {
    new = no_sent;
    has = in_head sent (other ∷ []);
    keeps = λ a c. in_rest sent a (other ∷ []) c;
    only = λ a c. elim (head_or_rest sent a (other ∷ []) c) [ inl same ↦ inl (sym same) | inr rest ↦ inr rest ];
    roots = refl;
  };
  words = λ word own. record { volatile = λ value is. is; durable = λ value may. inr may };
  pending = λ word own was. inl was;
}

-- no offer: by no ticket; where the block is held still, or another is held no more, or one is held that was not; where the roots are others
goes_not : (Offers sent (with_it 7) (without_it 7) → ⊥) × (Offers sent (with_it 7) (with_it 8) → ⊥) × (Offers sent (with_it 7) (holding [] 8) → ⊥)
    × (Offers sent (with_it 7) (holding (third ∷ other ∷ []) 8) → ⊥) × (Offers sent (with_it 7) (record (without_it 8) { roots = 3 ∷ [] }) → ⊥)
goes_not = (
  λ offers. let drew = offers.runs.drew in omega arith,
  λ offers. offers.blocks.new (in_head sent (other ∷ [])),
  λ offers. elim (offers.blocks.only other (in_rest sent other (other ∷ []) (in_head other []))) as (λ _. ⊥) [
    | inl same ↦ let e = ap (λ (b : Block). b.first_word) same in omega arith
    | inr none ↦ in_none other none
  ],
  λ offers. no_third (offers.blocks.keeps third (in_head third (other ∷ []))),
  λ offers. let e : 2 ∷ [] ≡ 3 ∷ [] = offers.blocks.roots in absurd (cc),
)

-- a word that is left is stored to
abbrev stores_other : View
stores_other = record (without_it 8) { volatile = λ word. cond (nat_eq word 1002) (Some 8) (Some 9) }

-- what is kept of it is none of the two
abbrev keeps_neither : View
keeps_neither = record (without_it 8) { durable = λ word. cond (nat_eq word 1002) (Some 8) (Some 5) }

-- neither is an offer, nor one that loses a pending write-back of it
stores_not : (Offers sent (with_it 7) stores_other → ⊥) × (Offers sent (with_it 7) keeps_neither → ⊥)
    × (Offers sent (with_it 7) (record (without_it 8) { pending = [] }) → ⊥)
stores_not = (
  λ offers. let e : Some 8 ≡ Some 9 = (offers.words 1002 (own_word (in_head other []))).volatile 9 refl in absurd (cc),
  λ offers. elim ((offers.words 1002 (own_word (in_head other []))).durable 8 refl) as
      (λ _. ⊥) [ inl seen ↦ omega (arith, seen) | inr left ↦ omega (arith, left) ],
  λ offers. elim (offers.pending 1002 (own_word (in_head other [])) (in_head 1002 [])) as (λ _. ⊥) [
    | inl none ↦ in_none 1002 none
    | inr durable ↦ nine_or_five refl refl durable
  ],
)

-- of the words that went nothing need be known
forgets : Offers sent (with_it 7) (record (without_it 8) { volatile = λ word. cond (nat_eq word 1000) None (Some 9) })
forgets = record {
  runs = record { ran = refl; running = refl; drew = omega arith; below = omega arith };
  blocks = record { new = no_sent; has = goes.blocks.has; keeps = goes.blocks.keeps; only = goes.blocks.only; roots = refl };
  words = λ word own. record { volatile = λ value is. at_other word own value is; durable = λ value may. inr may };
  pending = λ word own was. inl was;
} where
  at_other : (word : ℕ) → IsOwn (other ∷ []) (2 ∷ []) word → (value : ℕ) → Some 9 ≡ Some value → cond (nat_eq word 1000) None (Some 9) ≡ Some value
  at_other word own value is = ap (λ t. cond t None (Some 9)) (ne_eqb word 1000 (behind word own)) ∙ is

-- the block comes, and all else stays
comes : Accepts sent (without_it 7) (with_it 8)
comes = record {
  runs = record { ran = refl; running = refl; drew = omega arith; below = omega arith };
  blocks = record { new = no_sent; has = goes.blocks.has; keeps = goes.blocks.keeps; only = goes.blocks.only; roots = refl };
  words = λ word own. record { volatile = λ value is. is; durable = λ value may. inr may };
  pending = λ word own was. inl was;
}

-- no accept: of a seat that stops; where the block was held before, or is not held now; where another is lost, or comes
-- too; where the roots are others
comes_not : (Accepts sent (without_it 7) (record (with_it 8) { stopped = Some 7 }) → ⊥) × (Accepts sent (with_it 7) (with_it 8) → ⊥)
    × (Accepts sent (without_it 7) (without_it 8) → ⊥)
    × (Accepts sent (without_it 7) (holding (sent ∷ []) 8) → ⊥) × (Accepts sent (without_it 7) (holding (sent ∷ third ∷ other ∷ []) 8) → ⊥)
    × (Accepts sent (without_it 7) (record (with_it 8) { roots = [] }) → ⊥)
comes_not = (
  λ accepts. let e : Some 7 ≡ None = accepts.runs.running in absurd (cc),
  λ accepts. accepts.blocks.new (in_head sent (other ∷ [])),
  λ accepts. no_sent accepts.blocks.has,
  λ accepts. elim (head_or_rest sent other [] (accepts.blocks.keeps other (in_head other []))) as (λ _. ⊥) [
    | inl same ↦ let e = ap (λ (b : Block). b.first_word) same in omega arith
    | inr none ↦ in_none other none
  ],
  λ accepts. elim (accepts.blocks.only third (in_rest sent third (third ∷ other ∷ []) (in_head third (other ∷ [])))) as (λ _. ⊥) [
    | inl same ↦ let e = ap (λ (b : Block). b.first_word) same in omega arith
    | inr rest ↦ let e = ap (λ (b : Block). b.first_word) (only_other third rest) in omega arith
  ],
  λ accepts. let e : [] ≡ 2 ∷ [] = accepts.blocks.roots in absurd (cc),
)

-- nor where a word of the seat's is stored to, or a pending write-back of it is lost
accepts_not : (Accepts sent (without_it 7) (record (with_it 8) { volatile = λ word. cond (nat_eq word 1002) (Some 8) (Some 9) }) → ⊥)
    × (Accepts sent (without_it 7) (record (with_it 8) { pending = [] }) → ⊥)
accepts_not = (
  λ accepts. let e : Some 8 ≡ Some 9 = (accepts.words 1002 (own_word (in_head other []))).volatile 9 refl in absurd (cc),
  λ accepts. elim (accepts.pending 1002 (own_word (in_head other [])) (in_head 1002 [])) as (λ _. ⊥) [
    | inl none ↦ in_none 1002 none
    | inr durable ↦ nine_or_five refl refl durable
  ],
)

-- the block goes with both values, or with that which loads saw where chance has settled it; neither with another
-- value, nor with none of what loads saw
abbrev known_as : ℕ → ℕ → Contents
known_as seen left = record { volatile = λ word. Some seen; durable = λ word. Some left }

goes_with : GoesWith sent (known_as 9 5) (with_it 7) × GoesWith sent (known_as 9 9) (with_it 7)
goes_with = (
  record { words = λ word within. record { volatile = λ value is. is; durable = λ value may. inr may } },
  record { words = λ word within. record { volatile = λ value is. is; durable = λ value may. inl may } },
)

goes_not_with : (GoesWith sent (known_as 8 5) (with_it 7) → ⊥) × (GoesWith sent (known_as 9 8) (with_it 7) → ⊥)
    × (GoesWith sent (record (known_as 9 5) { volatile = λ word. None }) (with_it 7) → ⊥)
goes_not_with = (
  λ goes. let e : Some 8 ≡ Some 9 = (goes.words 1000 first_in).volatile 9 refl in absurd (cc),
  λ goes. elim ((goes.words 1000 first_in).durable 8 refl) as (λ _. ⊥) [ inl seen ↦ omega (arith, seen) | inr left ↦ omega (arith, left) ],
  λ goes. let e : None ≡ Some 9 = (goes.words 1000 first_in).volatile 9 refl in absurd (cc),
)

-- what comes is what went, both values
comes_with : ComesWith sent (known_as 9 5) (with_it 8) × (ComesWith sent (known_as 8 5) (with_it 8) → ⊥)
    × (ComesWith sent (known_as 9 9) (with_it 8) → ⊥)
comes_with = (
  record { volatile = λ word within. refl; durable = λ word within. refl },
  λ comes. let e : Some 9 ≡ Some 8 = comes.volatile 1000 first_in in absurd (cc),
  λ comes. let e : Some 5 ≡ Some 9 = comes.durable 1000 first_in in absurd (cc),
)
