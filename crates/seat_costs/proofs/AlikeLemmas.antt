-- Rows to views that differ in little: in nothing that rows speak of, in what is recorded of words, or in counts.
use Rattle.std.proofs.Common.{◌≡◌, ◌≤◌, ℕ, zero, suc, ◌+◌, max, inl, get_or, List, [], Option, None, refl, ap, sym, subst, ◌∙◌, arith}
use Rattle.core_model.specs.Effects.{claimed, drew, lost, trimmed, won}
use Rattle.core_model.specs.View.{LastLook, Role, role, Setup, Span, View, no_batch}
use Rattle.seat_costs.specs.Costs.{Costs, NoneFalls, RisesBy, no_costs, one_draw, one_loss, one_win, one_give, one_move}
use Rattle.seat_costs.specs.Rows.{Passes, ViewRow, after_ticket, next_of}
use Rattle.seat_costs.specs.Words.{IsHeldWord, KeepsWord}
use Rattle.seat_costs.proofs.RowLemmas.{row_holds, view_row_then, view_row_within}
use Rattle.seat_costs.proofs.WordLemmas.{owns_held, trimmed_word, word_same, word_then}

-- what rows speak of in a view, but for held blocks and what is recorded
pub record Standing : Type 0 where
  setup : Setup
  roots : List ℕ
  used_look : LastLook
  head_looks : List LastLook
  floor : ℕ
  last_ticket : Option ℕ
  taken : ℕ
  draws : ℕ
  cuts : ℕ
  wins : ℕ
  losses : ℕ
  gives : ℕ
  moves : ℕ
  role_of : Role

abbrev pub standing : View → Standing
standing v = record {
  setup = v.setup;
  roots = v.roots;
  used_look = v.used_look;
  head_looks = v.head_looks;
  floor = v.floor;
  last_ticket = v.last_ticket;
  taken = v.taken;
  draws = v.draws;
  cuts = v.cuts;
  wins = v.wins;
  losses = v.losses;
  gives = v.gives;
  moves = v.moves;
  role_of = role v;
}

-- with the held blocks; and with what is recorded too
abbrev pub holding : View → Standing × List (List ℕ) × List Span
holding v = (standing v, v.small, v.large)

abbrev pub recording : View → Standing × List (List ℕ) × List Span × List (Option ℕ) × List (Option ℕ)
recording v = (standing v, v.small, v.large, v.volatile, v.durable)

-- a view that has no more than this
abbrev plain : Standing → View
plain s = record {
  setup = s.setup;
  small = [];
  large = [];
  roots = s.roots;
  caches = [];
  batch = no_batch;
  raw = [];
  split = [];
  cutting = [];
  classed = [];
  seen_used = None;
  seen_head = None;
  seen_link = None;
  seen_anchor = None;
  used_look = s.used_look;
  head_looks = s.head_looks;
  volatile = [];
  durable = [];
  floor = s.floor;
  ticket = None;
  last_ticket = s.last_ticket;
  stopped = None;
  lost_to = 0;
  taken = s.taken;
  draws = s.draws;
  cuts = s.cuts;
  wins = s.wins;
  losses = s.losses;
  gives = s.gives;
  moves = s.moves;
  carries = s.role_of.carries;
  offers = s.role_of.offers;
  accepts = s.role_of.accepts;
}

to_plain : {a : Costs} (v w : View) → Passes a v w → Passes a v (plain (standing w))
to_plain v w p = record {
  setup = p.setup;
  roots = p.roots;
  role_is = p.role_is;
  floor = p.floor;
  next = p.next;
  tickets = p.tickets;
  more = record {
    draws = p.more.draws;
    wins = p.more.wins;
    losses = p.more.losses;
    gives = p.more.gives;
    moves = p.more.moves;
    cuts = p.more.cuts;
    taken = p.more.taken;
  };
  most = record { draws = p.most.draws; wins = p.most.wins; gives = p.most.gives; cuts = p.most.cuts; taken = p.most.taken; moves = p.most.moves };
  looks = record { used = p.looks.used; heads = p.looks.heads; no_less = p.looks.no_less };
}

from_plain : {a : Costs} (v w : View) → Passes a v (plain (standing w)) → Passes a v w
from_plain v w p = record {
  setup = p.setup;
  roots = p.roots;
  role_is = p.role_is;
  floor = p.floor;
  next = p.next;
  tickets = p.tickets;
  more = record {
    draws = p.more.draws;
    wins = p.more.wins;
    losses = p.more.losses;
    gives = p.more.gives;
    moves = p.more.moves;
    cuts = p.more.cuts;
    taken = p.more.taken;
  };
  most = record { draws = p.most.draws; wins = p.most.wins; gives = p.most.gives; cuts = p.most.cuts; taken = p.most.taken; moves = p.most.moves };
  looks = record { used = p.looks.used; heads = p.looks.heads; no_less = p.looks.no_less };
}

pub passes_alike : {a : Costs} (v u w : View) → standing w ≡ standing u → Passes a v u → Passes a v w
passes_alike {a} v u w same p = from_plain v w (subst (λ (s : Standing). Passes a v (plain s)) (sym same) (to_plain v u p))

-- a view that may differ in what is recorded
pub row_words : {a : Costs} (v u w : View) → holding w ≡ holding u → ((k : ℕ) → IsHeldWord v k → KeepsWord u w k) → ViewRow a v u → ViewRow a v w
row_words v u w same words p = record {
  passes = passes_alike v u w (ap (λ h. h.0) same) p.passes;
  small = ap (λ h. h.1) same ∙ p.small;
  large = ap (λ h. h.2) same ∙ p.large;
  words = λ k held. word_then v u w k (p.words k held) (words k held);
}

-- one that differs in nothing that rows speak of
pub row_alike : {a : Costs} (v u w : View) → recording w ≡ recording u → ViewRow a v u → ViewRow a v w
row_alike v u w same p = row_words v u w (ap (λ r. (r.0, r.1, r.2)) same)
    (λ k held. word_same u w k (ap (λ r. get_or r.3 k None) same) (ap (λ r. get_or r.4 k None) same)) p

-- by an equation of the views
pub row_as : {a : Costs} (u v w : View) → w ≡ v → ViewRow a u v → ViewRow a u w
row_as {a} u v w same = subst (ViewRow a u) (sym same)

-- a view that differs in counts, and in the floor, which doesn't fall
abbrev pub counted : View → View → Standing
counted v w = record (standing v) {
  floor = w.floor;
  taken = w.taken;
  draws = w.draws;
  cuts = w.cuts;
  wins = w.wins;
  losses = w.losses;
  gives = w.gives;
  moves = w.moves;
}

pub passes_counted : {a : Costs} (v w : View) → standing w ≡ counted v w → v.floor ≤ w.floor → w.draws ≤ v.draws → NoneFalls v w → RisesBy a v w
    → Passes a v w
passes_counted v w same floor few more most = record {
  setup = ap (λ (s : Standing). s.setup) same;
  roots = ap (λ (s : Standing). s.roots) same;
  role_is = ap (λ (s : Standing). s.role_of) same;
  floor = floor;
  next = let e = ap (λ (s : Standing). after_ticket s.last_ticket) same in omega arith;
  tickets = let e = ap (λ (s : Standing). after_ticket s.last_ticket) same in omega arith;
  more = more;
  most = most;
  looks = record {
    used = inl (ap (λ (s : Standing). s.used_look) same);
    heads = λ list. inl (ap (λ (s : Standing). get_or s.head_looks list s.used_look) same);
    no_less = let a = ap (λ (s : Standing). s.used_look.word) same in let b = ap (λ (s : Standing). s.used_look.taken) same in omega arith;
  };
}

pub row_counted : {a : Costs} (v w : View) → recording w ≡ (counted v w, v.small, v.large, v.volatile, v.durable) → v.floor ≤ w.floor
    → w.draws ≤ v.draws → NoneFalls v w → RisesBy a v w → ViewRow a v w
row_counted v w same floor few more most = record {
  passes = passes_counted v w (ap (λ r. r.0) same) floor few more most;
  small = ap (λ r. r.1) same;
  large = ap (λ r. r.2) same;
  words = λ k held. word_same v w k (ap (λ r. get_or r.3 k None) same) (ap (λ r. get_or r.4 k None) same);
}

-- what exchanges count
falls_none : (v w : View) → v.draws ≤ w.draws → v.wins ≤ w.wins → v.losses ≤ w.losses → v.gives ≤ w.gives → v.moves ≤ w.moves → v.cuts ≤ w.cuts
    → v.taken ≤ w.taken → NoneFalls v w
falls_none v w draws wins losses gives moves cuts taken = record {
  draws = draws;
  wins = wins;
  losses = losses;
  gives = gives;
  moves = moves;
  cuts = cuts;
  taken = taken;
}

pub lost_row : (v : View) (found : ℕ) → ViewRow one_loss v (lost v found)
lost_row v found = row_counted v (lost v found) refl (omega arith) (omega arith)
    (falls_none v (lost v found) (omega arith) (omega arith) (omega arith) (omega arith) (omega arith) (omega arith) (omega arith))
    (record { draws = omega arith; wins = omega arith; gives = omega arith; cuts = omega arith; taken = omega arith; moves = omega arith })

pub won_row : (v : View) → ViewRow one_win v (won v)
won_row v = row_counted v (won v) refl (omega arith) (omega arith)
    (falls_none v (won v) (omega arith) (omega arith) (omega arith) (omega arith) (omega arith) (omega arith) (omega arith))
    (record { draws = omega arith; wins = omega arith; gives = omega arith; cuts = omega arith; taken = omega arith; moves = omega arith })

pub gave_row : (v : View) → ViewRow one_give v (record (won v) { gives = v.gives + 1 })
gave_row v = let w : View = record (won v) { gives = v.gives + 1 } in
    row_counted v w refl (omega arith) (omega arith) (falls_none v w (omega arith) (omega arith) (omega arith) (omega arith) (omega arith)
    (omega arith) (omega arith))
    (record { draws = omega arith; wins = omega arith; gives = omega arith; cuts = omega arith; taken = omega arith; moves = omega arith })

pub moved_row : (v : View) → ViewRow one_move v (record (won v) { moves = v.moves + 1 })
moved_row v = let w : View = record (won v) { moves = v.moves + 1 } in
    row_counted v w refl (omega arith) (omega arith) (falls_none v w (omega arith) (omega arith) (omega arith) (omega arith) (omega arith)
    (omega arith) (omega arith))
    (record { draws = omega arith; wins = omega arith; gives = omega arith; cuts = omega arith; taken = omega arith; moves = omega arith })

pub took_row : (v : View) (n : ℕ) → ViewRow (record one_win { taken = n }) v (record (won v) { taken = v.taken + n })
took_row v n = let w : View = record (won v) { taken = v.taken + n } in
    row_counted v w refl (omega arith) (omega arith) (falls_none v w (omega arith) (omega arith) (omega arith) (omega arith) (omega arith)
    (omega arith) (omega arith))
    (record { draws = omega arith; wins = omega arith; gives = omega arith; cuts = omega arith; taken = omega arith; moves = omega arith })

pub cut_row : (v : View) → ViewRow (record no_costs { cuts = 1 }) v (record v { cuts = v.cuts + 1 })
cut_row v = let w : View = record v { cuts = v.cuts + 1 } in
    row_counted v w refl (omega arith) (omega arith) (falls_none v w (omega arith) (omega arith) (omega arith) (omega arith) (omega arith)
    (omega arith) (omega arith))
    (record { draws = omega arith; wins = omega arith; gives = omega arith; cuts = omega arith; taken = omega arith; moves = omega arith })

pub raised_row : (v : View) (floor : ℕ) → v.floor ≤ floor → ViewRow no_costs v (record v { floor = floor })
raised_row v floor less = let w : View = record v { floor = floor } in
    row_counted v w refl less (omega arith) (falls_none v w (omega arith) (omega arith) (omega arith) (omega arith) (omega arith) (omega arith)
    (omega arith))
    (record { draws = omega arith; wins = omega arith; gives = omega arith; cuts = omega arith; taken = omega arith; moves = omega arith })

-- what is done at no cost
pub then_none : {a : Costs} (u v w : View) → ViewRow a u v → ViewRow no_costs v w → ViewRow a u w
then_none {a} u v w p q = view_row_within a u w (record {
  draws = omega arith;
  wins = omega arith;
  gives = omega arith;
  cuts = omega arith;
  taken = omega arith;
  moves = omega arith;
}) (view_row_then u v w p q)

-- words that are not own any more are forgotten
pub trimmed_row : {a : Costs} (v u : View) → ViewRow a v u → ViewRow a v (trimmed u)
trimmed_row v u p = row_words v u (trimmed u) refl (λ k held. trimmed_word u k (owns_held u k (row_holds v u p k held))) p

-- a descriptor more
pub claimed_row : {a : Costs} (list d : ℕ) (v u : View) → ViewRow a v u → ViewRow a v (claimed u d list)
claimed_row zero d v u p = row_alike v (record u { floor = max u.floor (d + 1) }) (claimed u d zero) refl
    (then_none v u (record u { floor = max u.floor (d + 1) }) p (raised_row u (max u.floor (d + 1)) (omega arith)))
claimed_row (suc class) d v u p = row_alike v (record u { floor = max u.floor (d + 1) }) (claimed u d (suc class)) refl
    (then_none v u (record u { floor = max u.floor (d + 1) }) p (raised_row u (max u.floor (d + 1)) (omega arith)))

-- a ticket
pub drew_row : (v : View) (ticket : ℕ) → next_of v ≤ ticket → ViewRow one_draw v (drew v ticket)
drew_row v ticket later = record {
  passes = record {
    setup = refl;
    roots = refl;
    role_is = refl;
    floor = omega arith;
    next = omega arith;
    tickets = omega arith;
    more = falls_none v (drew v ticket) (omega arith) (omega arith) (omega arith) (omega arith) (omega arith) (omega arith) (omega arith);
    most = record { draws = omega arith; wins = omega arith; gives = omega arith; cuts = omega arith; taken = omega arith; moves = omega arith };
    looks = record { used = inl refl; heads = λ list. inl refl; no_less = omega arith };
  };
  small = refl;
  large = refl;
  words = λ k held. word_same v (drew v ticket) k refl refl;
}
