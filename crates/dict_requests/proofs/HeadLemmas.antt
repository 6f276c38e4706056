-- What stores to the link and the key of a loose block leave: it is a node behind them, and new to the seat without it.
use Rattle.std.proofs.Common.{◌≡◌, ℕ, ◌≤◌, ◌⊎◌, inl, inr, List, Contains, subst, sym, arith}
use Rattle.std.proofs.lemmas.Bool.{cases_eq}
use Rattle.heap_model.specs.declared.block.Block.{Block}
use Rattle.heap_model.specs.Blocks.{IsIn}
use Rattle.heap_seat.specs.View.{View}
use Rattle.heap_seat.specs.Words.{in_block}
use Rattle.heap_seat.specs.Sound.{IsSeat}
use Rattle.dict_requests.specs.Quiet.{Grown}
use Rattle.dict_requests.specs.Moving.{IsNodeOf, head_of}
use Rattle.dict_requests.specs.Nodes.{StoresWithin, HasNode, WritesHead}
use Rattle.dict_requests.proofs.MovedLemmas.{node_kept}
use Rattle.dict_requests.proofs.WithoutLemmas.{without, but_keeps}
use Rattle.dict_requests.proofs.LooseLemmas.{same_first, less_gone, less_own, less_outside, less_grown}

module _ (n : Block) (v : View) (seat : IsSeat v) (held : Contains v.held n) (small : ℕ) (u : View) (room : 3 ≤ n.words)
    (within : StoresWithin (head_of n) small v u) where
  in_head_of : (word : ℕ) → IsIn (head_of n) word → IsIn n word
  in_head_of word inside = record { from = inside.from; until = let until = inside.until in omega arith }

  pub grown_head : Grown (without n v) u
  grown_head = less_grown n v seat held u (λ c h. subst (λ (bs : List Block). Contains bs c) (sym within.held) h) within.roots
      (λ word own out. within.outside word own (λ inside. out (in_head_of word inside)))

  pub node_behind : (value : List ℕ) → IsNodeOf v n value → IsNodeOf u n value
  node_behind value node = node_kept v u n value
      (λ word inside behind. within.outside word (in_block n word held inside) (λ head. let until = head.until in omega arith)) node

  pub head_node : (key next : ℕ) (value : List ℕ) → IsNodeOf v n value → WritesHead n key next v u → HasNode n key next value (without n v) u
  head_node key next value node writes = record {
    new = less_gone n v seat held;
    held = subst (λ (bs : List Block). Contains bs n) (sym within.held) held;
    only = λ a h.
        let was : Contains v.held a = subst (λ (bs : List Block). Contains bs a) within.held h in
        elim (cases_eq a.first_word n.first_word) as (λ _. (a ≡ n) ⊎ Contains (without n v).held a) [
          | inl e ↦ inl (same_first n v seat held a was e)
          | inr other ↦ inr (but_keeps n.first_word v.held a was other)
        ];
    settles = record {
      each = λ word own pending. writes.settles word (less_own n v seat held word own)
          (λ inside. less_outside n v seat held word own (in_head_of word inside)) pending;
    };
    node = node_behind value node;
    next_is = writes.next_is;
    key_is = writes.key_is;
  }
