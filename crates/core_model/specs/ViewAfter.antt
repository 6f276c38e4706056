-- The view of a seat after each step, with what a draw does besides.
use Rattle.std.specs.Prelude.{ℕ, ◌+◌, true, cond, nat_eq, nat_lt, max, [], ◌∷◌, ◌++◌, set, Option, None, Some}
use Rattle.heap_model.specs.Geometry.{superblock_of}
use Rattle.heap_model.specs.Words.{head_first}
use Rattle.heap_model.specs.Counting.{without}
use Rattle.core_model.specs.declared.event.Event.{Event}
use Rattle.core_model.specs.declared.event.Event.TheVariants.{Tick, Load, Store, Settle, LookUsed, TakeFresh, KeepUsed, LookHead, LookLink, Pop, Push, LookAnchor, TakeAll, Give}
use Rattle.core_model.specs.declared.event.Shift.{Shift}
use Rattle.core_model.specs.declared.event.Shift.TheVariants.{Cut, Alloc, Free, Lift, Large, Split}
use Rattle.core_model.specs.Cells.{cell_at}
use Rattle.core_model.specs.Memory.{Memory, info}
use Rattle.core_model.specs.View.{View, of_class}
use Rattle.core_model.specs.Effects.{trimmed, class_blocks, cleared, first_of, rest_of, without_range, without_span, steps, span_count, drew, stopped, used_up, learn, stored, look, seen, taken_fresh, lost, seen_word, popped, before, pushed, taken_all, given}

-- after superblock d was cut: its blocks are the cache of its class
abbrev pub after_cut : Memory → View → ℕ → View
after_cut m v d = trimmed (record v {
  caches = set v.caches (info m d) (class_blocks v.setup.capacity (info m d) d);
  cutting = without d v.cutting;
  seen_anchor = cleared d 1 v.seen_anchor;
  cuts = v.cuts + 1;
})

-- after the first cached block of the class was allocated
abbrev pub after_alloc : View → ℕ → View
after_alloc v class = record v {
  small = set v.small class (first_of (of_class v.caches class) ∷ of_class v.small class);
  caches = set v.caches class (rest_of (of_class v.caches class));
}

-- after the block was freed: it is the first of its cache
abbrev pub after_free : View → ℕ → ℕ → View
after_free v class block = record v {
  small = set v.small class (without block (of_class v.small class));
  caches = set v.caches class (block ∷ of_class v.caches class);
}

-- after the first cached block of the class went behind the batch
abbrev pub after_lift : View → ℕ → View
after_lift v class = record v {
  caches = set v.caches class (rest_of (of_class v.caches class));
  batch = record {
    descriptor = superblock_of v.setup.capacity (first_of (of_class v.caches class));
    class = class;
    blocks = v.batch.blocks ++ first_of (of_class v.caches class) ∷ [];
    linked = true;
  };
}

-- after the n superblocks from d on became a large block
abbrev pub after_large : View → ℕ → ℕ → View
after_large v d n = trimmed (record v {
  large = record { first = d; count = n } ∷ v.large;
  raw = without_range d n v.raw;
  split = without_range d n v.split;
  seen_anchor = cleared d n v.seen_anchor;
})

-- after the large block that begins in d was split into superblocks of its own
abbrev pub after_split : View → ℕ → View
after_split v d = record v {
  large = without_span d v.large;
  split = v.split ++ steps d 1 (span_count d v.large);
  seen_anchor = cleared d (span_count d v.large) v.seen_anchor;
  floor = max v.floor (d + span_count d v.large);
}

-- the view after what a draw does besides
abbrev pub shifted : Memory → View → Option Shift → View
shifted m v None = v
shifted m v (Some (Cut d)) = after_cut m v d
shifted m v (Some (Alloc class)) = after_alloc v class
shifted m v (Some (Free block)) = after_free v (info m (superblock_of v.setup.capacity block)) block
shifted m v (Some (Lift class)) = after_lift v class
shifted m v (Some (Large d n)) = after_large v d n
shifted m v (Some (Split block)) = after_split v (superblock_of v.setup.capacity block)

-- the seat's view after it
abbrev pub view_after : Memory → View → Event → ℕ → View
view_after m v (Tick shift) found = cond (nat_lt found v.setup.budget) (shifted m (drew v found) shift) (stopped v found)
view_after m v (Load word) found = record (used_up v) { volatile = learn v.volatile word found }
view_after m v (Store word value) found = stored (record (used_up v) {
  volatile =
      learn v.volatile word value;
}) (cell_at v.setup.capacity word) value
view_after m v (Settle word) found = record v {
  volatile = learn v.volatile word (m.volatile (cell_at v.setup.capacity word));
  durable = learn v.durable word (m.volatile (cell_at v.setup.capacity word));
}
view_after m v LookUsed found = record (used_up v) { seen_used = Some found; used_look = look v found }
view_after m v (TakeFresh n) found = cond (nat_eq found (seen v.seen_used)) (taken_fresh v n) (record (lost v found) { seen_used = None })
view_after m v KeepUsed found = record (used_up v) { floor = max v.floor (seen v.seen_used) }
view_after m v (LookHead list) found = record (used_up v) {
  seen_head = Some (record { of = list; word = found });
  seen_link = None;
  head_looks = set v.head_looks list (look v found);
}
view_after m v LookLink found = record (used_up v) { seen_link = Some found }
view_after m v Pop found = cond (nat_eq found (seen_word v.seen_head)) (popped v (before (head_first (seen_word v.seen_head))))
    (record (lost v found) { seen_head = None })
view_after m v (Push d) found = cond (nat_eq found (seen_word v.seen_head)) (pushed v d) (record (lost v found) { seen_head = None })
view_after m v (LookAnchor d) found = record (used_up v) { seen_anchor = Some (record { of = d; word = found }) }
view_after m v (TakeAll d) found = cond (nat_eq found (seen_word v.seen_anchor)) (taken_all m v d)
    (record (lost v found) { seen_anchor = None })
view_after m v (Give d) found = cond (nat_eq found (seen_word v.seen_anchor)) (given v d) (record (lost v found) { seen_anchor = None })
