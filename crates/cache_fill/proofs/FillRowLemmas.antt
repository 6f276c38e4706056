-- Rows of a filling, and looks by the last ticket.
use Rattle.std.proofs.Common.{◌≡◌, ◌<◌, ◌≤◌, ◌+◌, ◌-◌, ℕ, cond, List, ◌∷◌, length, Option, None, Some, refl, ap, sym, ◌∙◌, eq-eqb, arith}
use Rattle.heap_model.specs.Geometry.{lists}
use Rattle.heap_model.specs.Sizes.{blocks_of}
use Rattle.core_model.specs.Effects.{without_claim}
use Rattle.core_model.specs.View.{LastLook, View}
use Rattle.heap_rule.specs.Seated.{SeatView}
use Rattle.heap_rule.specs.Tickets.{after_ticket}
use Rattle.heap_table.specs.Plays.{HasSoundState}
use Rattle.cache_fill.specs.Refills.{IsLook, fill_costs}
use Rattle.superblock_lists.specs.Pops.{looked}
use Rattle.seat_costs.specs.Costs.{Costs, IsWithin, no_costs}
use Rattle.seat_costs.specs.Rows.{Row, ViewRow, next_of, parts}
use Rattle.seat_costs.proofs.RowLemmas.{row_moves, row_within, view_row_then, view_row_within}

-- a row in which nothing was won or taken
pub nothing_won : {a : Costs} (v w : View) → w.wins ≡ v.wins → w.taken ≡ v.taken → ViewRow a v w → ViewRow (record a { wins = a.refund; taken = 0 }) v w
nothing_won v w wins taken p = record {
  passes = record {
    setup = p.passes.setup;
    roots = p.passes.roots;
    role_is = p.passes.role_is;
    floor = p.passes.floor;
    next = p.passes.next;
    tickets = p.passes.tickets;
    more = p.passes.more;
    most = let m = p.passes.most in record {
      draws = m.draws;
      wins = (let more = p.passes.more.moves in omega arith);
      gives = m.gives;
      cuts = m.cuts;
      taken = omega arith;
      moves = m.moves;
    };
    looks = p.passes.looks;
  };
  small = p.small;
  large = p.large;
  words = p.words;
}

-- a row behind superblocks that were moved
pub fill_then : {draws wins : ℕ} (v t w : View) → ViewRow (fill_costs 0 0 v t) v t → ViewRow (fill_costs draws wins t w) t w
    → ViewRow (fill_costs draws wins v w) v w
fill_then {draws} {wins} v t w p q = view_row_within (fill_costs draws wins v w) v w
    (record {
      draws = omega arith;
      wins = omega arith;
      gives = omega arith;
      cuts = omega arith;
      taken = omega arith;
      moves = let a = p.passes.more.moves in let b = q.passes.more.moves in omega arith;
    })
    (view_row_then v t w p q)

-- a row that costs no more than a refill may, but for what it moves
pub refill_row : {a : Costs} (class : ℕ) (v w : SeatView) → IsWithin (record a { moves = 0 })
    (record no_costs { draws = blocks_of class + 11; wins = 2; cuts = 1; taken = 1 }) → Row a v w
    → Row (record no_costs { draws = blocks_of class + 11; wins = 2; cuts = 1; taken = 1; moves = w.view.moves - v.view.moves }) v w
refill_row class v w less p = row_within (record no_costs {
  draws = blocks_of class + 11;
  wins = 2;
  cuts = 1;
  taken = 1;
  moves = w.view.moves - v.view.moves;
}) v w
    (record { draws = less.draws; wins = less.wins; gives = less.gives; cuts = less.cuts; taken = less.taken; moves = omega arith }) (row_moves v w p)

-- the look by the last ticket
pub looked_is : (w : View) (look : LastLook) (word n : ℕ) → look ≡ looked word w → n < next_of w → (is : IsLook look word w) × (n ≤ is.ticket)
    × (next_of w ≡ is.ticket + 1)
looked_is w look word n same later = by_last w.last_ticket refl where
  by_last : (last : Option ℕ) → w.last_ticket ≡ last → (is : IsLook look word w) × (n ≤ is.ticket) × (next_of w ≡ is.ticket + 1)
  by_last None none = absurd (let z = ap after_ticket none in omega arith)
  by_last (Some ticket) some = let z = ap after_ticket some in (
    record {
      ticket = ticket;
      by = ap (λ (l : LastLook). l.ticket) same ∙ some;
      word_is = ap (λ (l : LastLook). l.word) same;
      wins = ap (λ (l : LastLook). l.wins) same;
      taken = ap (λ (l : LastLook). l.taken) same;
    },
    omega arith,
    z,
  )

-- of a view with as many wins and superblocks taken
abbrev pub look_later : (before now : LastLook) (word : ℕ) (v w : View) → now ≡ before → w.wins ≡ v.wins → w.taken ≡ v.taken
    → IsLook before word v → IsLook now word w
look_later before now word v w same wins taken p = record {
  ticket = p.ticket;
  by = ap (λ (l : LastLook). l.ticket) same ∙ p.by;
  word_is = ap (λ (l : LastLook). l.word) same ∙ p.word_is;
  wins = ap (λ (l : LastLook). l.wins) same ∙ p.wins ∙ sym wins;
  taken = ap (λ (l : LastLook). l.taken) same ∙ p.taken ∙ sym taken;
}

pub looks_long : (w : View) → HasSoundState w → length w.head_looks ≡ lists
looks_long w has = (has.sound.good.set_up has.seat w has.below has.at).looks

-- the claims without the one that was added
pub added_off : (v : View) (d class : ℕ) (caches : List (List ℕ)) → record (parts v) {
  caches = caches;
  classed = without_claim d (record { descriptor = d; class = class } ∷ v.classed);
} ≡ record (parts v) { caches = caches }
added_off v d class caches = ap (λ test. record (parts v) {
  caches = caches;
  classed = cond test v.classed (record { descriptor = d; class = class } ∷ without_claim d v.classed);
}) (eq-eqb d d refl)
