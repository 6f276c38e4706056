-- A seat that gives some of its held blocks and roots to a new seat keeps the heap sound.
use Rattle.std.proofs.Common.{◌≡◌, ℕ, ◌+◌, ◌<◌, Bool, not, List, [], ◌∷◌, ◌++◌, replicate, get_or, set, length, refl, ap, sym, subst, ◌∙◌, arith}
use Rattle.std.proofs.lemmas.List.{get_or_default}
use Rattle.heap_model.specs.Geometry.{lists, superblock_of}
use Rattle.heap_model.specs.Words.{large_info}
use Rattle.heap_model.specs.Counting.{times, total}
use Rattle.core_model.specs.Memory.{Memory, memory_of, anchor, info, next}
use Rattle.core_model.specs.View.{Setup, View, LastLook, no_batch, one_if_some, of_class, times_raw, times_classed, times_large, times_block}
use Rattle.core_model.specs.Opening.{unlooked}
use Rattle.core_model.specs.Splitting.{Choice, others, chosen, chosen_spans, chosen_lists, remaining, new_seat, given_off}
use Rattle.core_model.specs.Sound.{Tally, tally_of, IsInShape, IsSetUp, ClaimsOf, HasClaims, BlocksOf, HasBlocks, Knows, KnowsWords, IsTicketDrawn, HasTickets, HasLost, times_parked, empties, Good, Sound}
use Rattle.core_model.proofs.TotalLemmas.{total_set, each_set}
use Rattle.core_model.proofs.EventStepLemmas.{IsSeat, seat_at}
use Rattle.core_model.proofs.OwnLemmas.{length_only}
use Rattle.core_model.proofs.QuietLemmas.{not_there, none_drawn}
use Rattle.core_model.proofs.OpenCountLemmas.{empty_at, no_walk}
use Rattle.core_model.proofs.SpanLemmas as spans
use Rattle.core_model.proofs.ChosenLemmas.{total_behind, spans_both, lists_both, spans_count, spans_less, spans_in, lists_less, chosen_both, length_lists, each_behind}

module _ (k : Setup) (m : Memory) (views : List View) (i : ℕ) (v : View) (below_i : i < length views) (at : get_or views i v ≡ v)
    (good : Good k m views) (c : Choice) where
  seat : IsSeat k m good.shape v
  seat = seat_at k m views good i v below_i at

  abbrev a : View
  a = remaining c v

  abbrev b : View
  b = given_off c v

  abbrev views' : List View
  views' = set views i a ++ b ∷ []

  -- each share of the seat is dealt out
  dealt : (f : View → ℕ) → f a + f b ≡ f v → total f views' ≡ total f views
  dealt f share = let t = total_behind f (set views i a) b in let s = total_set f views i v a below_i at in omega arith

  tally : tally_of views' ≡ tally_of views
  tally = λ j. record {
    raw = λ d. (dealt (times_raw d) (omega arith)) j;
    classed = λ d. (dealt (λ (x : View). times_classed d x.classed) (omega arith)) j;
    large = λ d. (dealt (λ (x : View). times_large d x.large) (spans_both c.spans d v.large)) j;
    blocks = λ n. (dealt (times_block n) (let s = lists_both c.blocks n v.small in let z = no_blocks n in omega arith)) j;
  } where
    no_blocks : (n : ℕ) → total (times n) (replicate lists []) ≡ 0
    no_blocks n = refl

  claims_of : (test : ℕ → Bool) → HasClaims (info m) (anchor m) v.raw v.split v.cutting v.classed (chosen_spans test v.large)
  claims_of test = let x = seat.claims in record {
    is_raw = x.is_raw;
    is_split = x.is_split;
    is_cutting = x.is_cutting;
    is_classed = x.is_classed;
    is_large = λ d some. let same = spans_count test d v.large some in
        subst (λ n. (info m d ≡ large_info n) × ((e : ℕ) → d < e → e < d + n → info m e ≡ 0)) (sym same) (x.is_large d (omega arith));
    is_part = λ d some. x.is_part d (let l = spans_less test d v.large in omega arith);
    some = λ span there. x.some span (spans_in test v.large span there);
  }

  claims_new : HasClaims (info m) (anchor m) [] [] [] [] (chosen_spans c.spans v.large)
  claims_new = let x = claims_of c.spans in record {
    is_raw = λ d some. absurd (omega (arith, some));
    is_split = λ d some. absurd (omega (arith, some));
    is_cutting = λ d some. absurd (omega (arith, some));
    is_classed = λ d some. absurd (omega (arith, some));
    is_large = x.is_large;
    is_part = x.is_part;
    some = x.some;
  }

  held_of : (test : ℕ → Bool) (class n : ℕ) → 0 < times n (of_class (chosen_lists test v.small) class)
      → info m (superblock_of v.setup.capacity n) ≡ class
  held_of test class n some = seat.blocks.held class n (let l = lists_less test n class v.small in omega arith)

  blocks_rest : HasBlocks v.setup.capacity (info m) (next m) (chosen_lists (λ x. not (c.blocks x)) v.small) v.caches v.batch
  blocks_rest = let s = seat.blocks in record {
    held = held_of (λ x. not (c.blocks x));
    cached = s.cached;
    batched = s.batched;
    cache_linked = s.cache_linked;
    batch_linked = s.batch_linked;
  }

  blocks_new : HasBlocks v.setup.capacity (info m) (next m) (chosen_lists c.blocks v.small) (replicate lists []) no_batch
  blocks_new = record {
    held = held_of c.blocks;
    cached = λ class n some. absurd (let z = empty_at lists class n in omega arith);
    batched = λ n some. absurd (omega (arith, some));
    cache_linked = λ class. no_walk (next m) (get_or (replicate lists []) class []) (λ n. empty_at lists class n);
    batch_linked = tt;
  }

  set_up_rest : IsSetUp k a
  set_up_rest = let s = seat.set_up in record {
    setup = s.setup;
    roots = λ n own. s.roots n (let both = chosen_both c.roots n v.roots in omega arith);
    small = length_lists (others c).blocks v.small ∙ s.small;
    caches = s.caches;
    looks = s.looks;
    volatile = length_only (record v {
      small = chosen_lists (others c).blocks v.small;
      large = chosen_spans (others c).spans v.large;
      roots = chosen (others c).roots v.roots;
    }) 0 v.volatile ∙ s.volatile;
    durable = length_only (record v {
      small = chosen_lists (others c).blocks v.small;
      large = chosen_spans (others c).spans v.large;
      roots = chosen (others c).roots v.roots;
    }) 0 v.durable ∙ s.durable;
  }

  set_up_new : IsSetUp k b
  set_up_new = let s = seat.set_up in record {
    setup = s.setup;
    roots = λ n own. s.roots n (let both = chosen_both c.roots n v.roots in omega arith);
    small = length_lists c.blocks v.small ∙ s.small;
    caches = refl;
    looks = s.looks;
    volatile = length_only (new_seat c v) 0 v.volatile ∙ s.volatile;
    durable = length_only (new_seat c v) 0 v.durable ∙ s.durable;
  }

  knows_rest : Knows k.capacity m good.shape a
  knows_rest = let s = seat.knows in record {
    seen_head = s.seen_head;
    seen_used = s.seen_used;
    looked = s.looked;
    seen_anchor = s.seen_anchor;
    seen_empty = s.seen_empty;
    floor = s.floor;
  }

  knows_new : Knows k.capacity m good.shape b
  knows_new = record {
    seen_head = λ e. absurd (not_there e);
    seen_used = λ e. absurd (not_there e);
    looked = (let t = good.adds.taken in let s = ap (λ (x : Setup). x.used) seat.set_up.setup in omega arith);
    seen_anchor = λ e. absurd (not_there e);
    seen_empty = λ e. absurd (not_there e);
    floor = seat.knows.floor;
  }

  tickets_rest : HasTickets k.budget m.drawn a
  tickets_rest = let t = seat.tickets in record {
    ticket = t.ticket;
    last = t.last;
    used_look = t.used_look;
    head_looks = t.head_looks;
    counts = t.counts;
    state = t.state;
    looked_then = t.looked_then;
    gives = t.gives;
    cuts = t.cuts;
  }

  tickets_new : HasTickets k.budget m.drawn b
  tickets_new = record {
    ticket = none_drawn m.drawn;
    last = none_drawn m.drawn;
    used_look = none_drawn m.drawn;
    head_looks = λ list is. subst (λ (l : LastLook). IsTicketDrawn m.drawn l.ticket)
        (get_or_default v.head_looks list v.used_look (unlooked v.setup.used) (let e = seat.set_up.looks in omega arith))
        (seat.tickets.head_looks list is);
    counts = omega arith;
    state = record {
      stopping = λ n e. absurd (let z = ap one_if_some e in omega (arith, z));
      in_hand = λ e. absurd (not_there e);
      going = λ _ e. absurd (not_there e);
    };
    looked_then = (omega arith, omega arith);
    gives = omega arith;
    cuts = omega arith;
  }

  wins_same : total (λ (x : View). x.wins) views' ≡ total (λ (x : View). x.wins) views
  wins_same = dealt (λ (x : View). x.wins) (omega arith)

  pub split_seat : Good k m views'
  split_seat = record {
    small = good.small;
    shape = good.shape;
    shaped = subst (IsInShape k.capacity m good.shape) (sym tally) good.shaped;
    set_up = each_behind (set views i a) b (IsSetUp k) (each_set views i a (IsSetUp k) below_i
        (λ j u other l e. good.set_up j u l e) set_up_rest) set_up_new;
    claims = each_behind (set views i a) b (ClaimsOf m) (each_set views i a (ClaimsOf m) below_i (λ j u other l e. good.claims j u l e)
        (claims_of (λ x. not (c.spans x)))) claims_new;
    blocks = each_behind (set views i a) b (BlocksOf m) (each_set views i a (BlocksOf m) below_i
        (λ j u other l e. good.blocks j u l e) blocks_rest) blocks_new;
    knows = each_behind (set views i a) b (Knows k.capacity m good.shape)
        (each_set views i a (Knows k.capacity m good.shape) below_i (λ j u other l e. good.knows j u l e) knows_rest) knows_new;
    words = each_behind (set views i a) b (KnowsWords k.capacity m)
        (each_set views i a (KnowsWords k.capacity m) below_i (λ j u other l e. good.words j u l e)
        (spans.words_after k m views i v below_i at good (record v {
          small = chosen_lists (others c).blocks v.small;
          large = chosen_spans (others c).spans v.large;
          roots = chosen (others c).roots v.roots;
        }) refl refl refl))
        (spans.words_after k m views i v below_i at good (new_seat c v) refl refl refl);
    tickets = each_behind (set views i a) b (HasTickets k.budget m.drawn)
        (each_set views i a (HasTickets k.budget m.drawn) below_i (λ j u other l e. good.tickets j u l e) tickets_rest) tickets_new;
    adds = (let x = good.adds in let drawn = dealt (λ (y : View). y.draws) (omega arith) in
        let tickets = dealt (λ (y : View). one_if_some y.ticket) (omega arith) in
        let stopped = dealt (λ (y : View). one_if_some y.stopped) (omega arith) in let taken = dealt (λ (y : View). y.taken) (omega arith) in
        let p = x.draws in let q = x.pops in let r = x.budget in let s = x.stopped in let t = x.taken in
        record {
          draws = omega arith;
          pops = omega arith;
          budget = omega arith;
          stopped = omega arith;
          taken = omega arith;
          roots = λ n. let old = x.roots n in let same = dealt (λ (y : View). times n y.roots) (chosen_both c.roots n v.roots) in omega arith;
        });
    lost = each_behind (set views i a) b (HasLost m views') (each_set views i a (HasLost m views') below_i
        (λ j u other l e. let old = good.lost j u l e in let w = wins_same in omega arith) (let old = good.lost i v below_i at in
        let w = wins_same in omega arith)) (omega arith);
    moves = (let old = good.moves in let moves = dealt (λ (y : View). y.moves) (omega arith) in
        let gives = dealt (λ (y : View). y.gives) (omega arith) in
        let same = ap (λ (t : Tally). empties k.capacity (anchor m) (times_parked good.shape t)) tally in omega arith);
  }

-- the same of the words of the table
pub split_sound : (k : Setup) (words : List ℕ) (views : List View) (i : ℕ) (v : View) → i < length views → get_or views i v ≡ v
    → Sound k words views → (c : Choice) → Sound k words (set views i (remaining c v) ++ given_off c v ∷ [])
split_sound k words views i v below at sound c = record {
  some = sound.some;
  long = sound.long;
  fixed = sound.fixed;
  capacity = sound.capacity;
  used = sound.used;
  good = split_seat k (memory_of k.capacity words) views i v below at sound.good c;
}
