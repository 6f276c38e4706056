-- Worked examples of cells, and of steps on the mark of taken superblocks.
use Rattle.std.specs.Prelude.{◌≡◌, ℕ, cond, nat_eq, [], ◌∷◌, replicate, None, Some, refl, get_or}
use Rattle.core_model.specs.declared.event.Event.TheVariants.{Tick, LookUsed, TakeFresh, KeepUsed, LookHead}
use Rattle.core_model.specs.Cells.{Cell, used_cell, head_cell, info_cell, anchor_cell, link_cell, root_cell, data_cell, no_cell, cell_at}
use Rattle.core_model.specs.Memory.{Memory}
use Rattle.core_model.specs.View.{Setup, View, LastLook, no_batch, known}
use Rattle.core_model.specs.Effects.{left_there, learn_fresh}
use Rattle.core_model.specs.ViewAfter.{view_after}
use Rattle.core_model.specs.Steps.{seat_after}

-- word indices and cells
pub at_mark : cell_at 2 8 ≡ used_cell
at_mark = refl

pub at_head : cell_at 2 20 ≡ head_cell 4
at_head = refl

pub at_root : cell_at 2 41 ≡ root_cell 1
at_root = refl

pub at_info : cell_at 2 1072 ≡ info_cell 1
at_info = refl

pub at_anchor : cell_at 2 1065 ≡ anchor_cell 0
at_anchor = refl

pub at_nothing : cell_at 2 1067 ≡ no_cell
at_nothing = refl

pub at_block : cell_at 2 1080 ≡ data_cell 1080
at_block = refl

-- a heap of two superblocks, of which one has been taken
abbrev pub setup : Setup
setup = record { capacity = 2; budget = 10; seats = 2; used = 1; opened = [] }

-- nothing was looked at yet
abbrev pub unread : LastLook
unread = record { word = 1; ticket = None; wins = 0; taken = 0 }

-- nothing is the seat's own but a ticket
abbrev pub idle : View
idle = record {
  setup = setup;
  small = replicate 21 [];
  large = [];
  roots = [];
  caches = replicate 21 [];
  batch = no_batch;
  raw = [];
  split = [];
  cutting = [];
  classed = [];
  seen_used = None;
  seen_head = None;
  seen_link = None;
  seen_anchor = None;
  used_look = unread;
  head_looks = replicate 21 unread;
  volatile = [];
  durable = [];
  floor = 1;
  ticket = Some 3;
  last_ticket = Some 3;
  stopped = None;
  lost_to = 0;
  taken = 0;
  draws = 4;
  cuts = 0;
  wins = 0;
  losses = 0;
  gives = 0;
  moves = 0;
  carries = 0;
  offers = 0;
  accepts = 0;
}

-- one superblock was taken; the free list has it, and was popped once
abbrev values : Cell → ℕ
values used_cell = 1
values (head_cell list) = cond (nat_eq list 0) 16777217 0
values (info_cell d) = 0
values (anchor_cell d) = 0
values (link_cell d) = 0
values (root_cell i) = 0
values (data_cell word) = 0
values no_cell = 0

-- each word has these values, volatile and durable, and four tickets were drawn
abbrev pub memory : Memory
memory = record { volatile = values; durable = values; drawn = 4 }

-- a draw below the budget, and one at it, which stops the seat
pub draws : (view_after memory idle (Tick None) 4).ticket ≡ Some 4
draws = refl

pub stops : (view_after memory idle (Tick None) 10).stopped ≡ Some 10
stops = refl

pub counts_draw : (view_after memory idle (Tick None) 10).draws ≡ 5
counts_draw = refl

-- looks, which use up the ticket
pub looks_at_used : (seat_after memory idle LookUsed).seen_used ≡ Some 1
looks_at_used = refl

pub used_up_at_used : (seat_after memory idle LookUsed).ticket ≡ None
used_up_at_used = refl

pub used_up_at_head : (seat_after memory idle (LookHead 0)).ticket ≡ None
used_up_at_head = refl

pub looks_at_head : (seat_after memory idle (LookHead 0)).seen_head ≡ Some (record { of = 0; word = 16777217 })
looks_at_head = refl

-- a last look has the word, the ticket, and the counts by then; other lists' looks stay
abbrev counted : View
counted = record idle { wins = 2; taken = 1 }

pub looked_at_used : (seat_after memory counted LookUsed).used_look ≡ record { word = 1; ticket = Some 3; wins = 2; taken = 1 }
looked_at_used = refl

pub looked_at_head : get_or (seat_after memory counted (LookHead 0)).head_looks 0 unread ≡ record {
  word = 16777217;
  ticket = Some 3;
  wins = 2;
  taken = 1;
}
looked_at_head = refl

pub looked_at_no_other : get_or (seat_after memory counted (LookHead 0)).head_looks 20 unread ≡ unread
looked_at_no_other = refl

-- the mark is taken further where it is as it was seen, and not where another was seen
abbrev pub saw_used : ℕ → View
saw_used n = record idle { seen_used = Some n }

pub takes : left_there memory (saw_used 1) (TakeFresh 1) 1 ≡ 2
takes = refl

pub has_taken : (seat_after memory (saw_used 1) (TakeFresh 1)).raw ≡ 1 ∷ []
has_taken = refl

pub loses_take : left_there memory (saw_used 0) (TakeFresh 1) 1 ≡ 1
loses_take = refl

pub has_won : (seat_after memory (saw_used 1) (TakeFresh 1)).wins ≡ 1
has_won = refl

pub has_lost : (seat_after memory (saw_used 0) (TakeFresh 1)).losses ≡ 1
has_lost = refl

pub has_lost_to : (seat_after memory (saw_used 0) (TakeFresh 1)).lost_to ≡ 1
has_lost_to = refl

-- a mark that was taken further is seen as it was left
pub sees_taken : (seat_after memory (saw_used 1) (TakeFresh 1)).seen_used ≡ Some 2
sees_taken = refl

-- it is known to be durable as far as it was seen, and does not fall where less was seen
pub keeps_used : (seat_after memory (saw_used 2) KeepUsed).floor ≡ 2
keeps_used = refl

pub keeps_no_less : left_there memory (saw_used 0) KeepUsed 1 ≡ 1
keeps_no_less = refl

pub keeps_more : left_there memory (saw_used 2) KeepUsed 1 ≡ 2
keeps_more = refl

pub used_up_at_keep : (seat_after memory (saw_used 2) KeepUsed).ticket ≡ None
used_up_at_keep = refl

-- info, anchor and link of each descriptor that was taken are known to be 0, and no other
pub fresh_info : known (learn_fresh (replicate 1080 None) 1 1) (info_cell 1) ≡ Some 0
fresh_info = refl

pub fresh_anchor : known (learn_fresh (replicate 1080 None) 1 1) (anchor_cell 1) ≡ Some 0
fresh_anchor = refl

pub fresh_link : known (learn_fresh (replicate 1080 None) 1 1) (link_cell 1) ≡ Some 0
fresh_link = refl

pub fresh_alone : known (learn_fresh (replicate 1080 None) 1 1) (info_cell 0) ≡ None
fresh_alone = refl

-- as what loads see, and as what is durable
abbrev unknown : View
unknown = record (saw_used 1) { volatile = replicate 1080 None; durable = replicate 1080 None }

pub fresh_now : known (seat_after memory unknown (TakeFresh 1)).volatile (link_cell 1) ≡ Some 0
fresh_now = refl

pub fresh_durable : known (seat_after memory unknown (TakeFresh 1)).durable (link_cell 1) ≡ Some 0
fresh_durable = refl
