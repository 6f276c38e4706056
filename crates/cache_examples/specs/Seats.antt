-- The seats of the examples: of a heap of two superblocks, by class 20, of whose blocks a superblock has four.
use Rattle.std.proofs.Common.{◌≡◌, ◌≤◌, ℕ, ◌+◌, ◌-◌, List, [], ◌∷◌, None, Some, inl, refl, ap, set, arith}
use Rattle.heap_model.specs.Sizes.{blocks_of, class_sizes, words_of_class}
use Rattle.heap_seat.specs.declared.fault.Looks.{Looks}
use Rattle.core_model.specs.Effects.{class_blocks}
use Rattle.core_model.specs.Examples.{idle}
use Rattle.core_model.specs.View.{LastLook, View, no_batch, role}
use Rattle.seat_costs.specs.Costs.{Costs}
use Rattle.seat_costs.specs.Rows.{Passes, head_look, next_of}

pub four_blocks : blocks_of 20 ≡ 4
unfolding blocks_of class_sizes
four_blocks = refl

-- those of the two superblocks
pub these_blocks : class_blocks 2 20 0 ∷ class_blocks 2 20 1 ∷ [] ≡ (1080 ∷ 2872 ∷ 4664 ∷ 6456 ∷ []) ∷ (9272 ∷ 11064 ∷ 12856 ∷ 14648 ∷ []) ∷ []
unfolding blocks_of class_sizes words_of_class
these_blocks = refl

-- before a call: four tickets were drawn, 0 to 3, and nothing is held, free or claimed
abbrev pub before : View
before = record idle { ticket = None; setup = record idle.setup { budget = 1000 } }

-- a look that gave the word, by the ticket, when no exchange had been won and no superblock taken
abbrev pub look_at : ℕ → ℕ → LastLook
look_at word ticket = record { word = word; ticket = Some ticket; wins = 0; taken = 0 }

-- last looks at the list of class 20 and at that of the free ones
abbrev pub heads : LastLook → LastLook → List LastLook
heads class_look free_look = set (set before.head_looks 20 class_look) 0 free_look

-- behind a call that drew tickets 4 to 7, with these last looks at the two lists and at the mark
abbrev pub with_looks : LastLook → LastLook → LastLook → View
with_looks class_look free_look used_look = record before {
  last_ticket = Some 7;
  draws = 8;
  head_looks = heads class_look free_look;
  used_look = used_look;
}

-- so many cached blocks of class 20
abbrev pub with_cached : List ℕ → View → View
with_cached blocks v = record v { caches = set v.caches 20 blocks }

-- and these held ones
abbrev pub with_held : List ℕ → View → View
with_held blocks v = record v { small = set v.small 20 blocks }

-- both lists empty, and two superblocks taken of two
abbrev pub all_taken : Looks
all_taken = record { class_head = 0; free_head = 0; used = 2 }

-- so many draws, exchanges that were won and batches that were given later
abbrev pub later : ℕ → ℕ → ℕ → View → View
later draws wins gives v = record v {
  draws = v.draws + draws;
  last_ticket = Some (next_of v + draws - 1);
  wins = v.wins + wins;
  gives = v.gives + gives;
}

-- all but its parts, what it has seen of anchors and lists, and what is known of its words
abbrev pub counts_of : View → View
counts_of v = record v {
  small = [];
  large = [];
  caches = [];
  batch = no_batch;
  raw = [];
  split = [];
  cutting = [];
  classed = [];
  volatile = [];
  durable = [];
}

-- what that passes as
pub passed : (costs : Costs) (draws wins gives : ℕ) (v w : View) → counts_of w ≡ counts_of (later draws wins gives v) → 1 ≤ draws
    → draws + costs.credit ≤ costs.draws → wins + costs.refund ≤ costs.wins → gives ≤ costs.gives → Passes costs v w
passed costs draws wins gives v w same some few_draws few_wins few_gives =
    let e1 = ap (λ (u : View). u.draws) same in
    let e2 = ap (λ (u : View). u.wins) same in
    let e3 = ap (λ (u : View). u.losses) same in
    let e4 = ap (λ (u : View). u.gives) same in
    let e5 = ap (λ (u : View). u.moves) same in
    let e6 = ap (λ (u : View). u.cuts) same in
    let e7 = ap (λ (u : View). u.taken) same in
    let e8 : next_of w ≡ next_of v + draws - 1 + 1 = ap next_of same in
    let e9 = ap (λ (u : View). u.floor) same in record {
      setup = ap (λ (u : View). u.setup) same;
      roots = ap (λ (u : View). u.roots) same;
      role_is = ap role same;
      floor = omega arith;
      next = omega arith;
      tickets = omega arith;
      more = record {
        draws = omega arith;
        wins = omega arith;
        losses = omega arith;
        gives = omega arith;
        moves = omega arith;
        cuts = omega arith;
        taken = omega arith;
      };
      most = record { draws = omega arith; wins = omega arith; gives = omega arith; cuts = omega arith; taken = omega arith; moves = omega arith };
      looks = record {
        used = inl (ap (λ (u : View). u.used_look) same);
        heads = λ list. inl (ap (λ (u : View). head_look u list) same);
        no_less = let e10 = ap (λ (u : View). u.used_look.word) same in let e11 = ap (λ (u : View). u.used_look.taken) same in omega arith;
      };
    }
