use Rattle.std.proofs.Common.{◌≡◌, ℕ, ◌+◌, ◌<◌, List, Contains, inl, inr, refl, Some, subst, sym, ◌∙◌, arith}
use Rattle.std.proofs.lemmas.Result.{err_from_is_err_and}
use Rattle.heap_model.specs.declared.block.Block.{Block}
use Rattle.heap_model.specs.Geometry.{root_word}
use Rattle.heap_seat.specs.Words.{IsOwn, in_block, in_root, MayHaveStored}
use Rattle.heap_seat.specs.Tickets.{Runs}
use Rattle.heap_seat.proofs.RowLemmas.{row_then, row_small, runs_then, same_refusals_then}
use Rattle.dict_model.specs.Nodes.{shard_of, table_bytes}
use Rattle.dict_requests.specs.Trails.{IsDurableAt}
use Rattle.dict_requests.proofs.GrownLemmas.{grown_keeps, grown_then}
use Rattle.dict_requests.proofs.TrailLemmas.{settles}
use Rattle.dict_requests.proofs.ChangeLemmas.{change_none}
use Rattle.dict_requests.proofs.MakeLemmas.{grown_within, refusals_within, made_row}
use Rattle.dict_requests.proofs.DeleteLemmas.{shard_below}
use Rattle.dict_requests.proofs.TableLemmas.{table_size, table_left, table_gives, table_reached, table_all, table_missing}
use Rattle.dict_requests.proofs.TurnedDownLemmas.{turned_down}
use Rattle.dict_requests.proofs.table.make_table.Goals as goal

pub returns-in_err-table-clause-crash : goal.returns-in_err-table-clause-crash
returns-in_err-table-clause-crash g c =
    let view = g.H.HeapSeat.view in
    let v = view c.args.seat.now in
    let u = view c.alloc.new.self in
    let shard = shard_of c.args.key in
    λ after. change_none shard after v u (grown_keeps v u c.in_err-table.ensures.unchanged) c.alloc.ensures.counted.goes_on.kinds
    (g.met.H.HeapSeat.seat c.alloc.new.self) c.requires.shard.only

pub clear-requires-clause-size : goal.clear-requires-clause-size
clear-requires-clause-size g c =
    let view = g.H.HeapSeat.view in
    let v = view c.args.seat.now in
    let u = view c.alloc.new.self in
    let shard = shard_of c.args.key in
    table_size c.in_ok-table.table.words c.in_ok-table.ensures.ok.size

pub returns-in_err-clear-clause-crash : goal.returns-in_err-clear-clause-crash
returns-in_err-clear-clause-crash g c =
    let view = g.H.HeapSeat.view in
    let v = view c.args.seat.now in
    let u = view c.alloc.new.self in
    let shard = shard_of c.args.key in
    let t = view c.clear.new.seat in
    let grown_t = grown_within 1024 c.in_ok-table.table v u t (g.met.H.HeapSeat.seat c.alloc.new.self)
    c.in_ok-table.ensures.ok 256 c.clear.ensures.within in
    λ after. change_none shard after v t grown_t (c.clear.ensures.within.calls.goes_on.kinds ∙ c.alloc.ensures.counted.goes_on.kinds)
    (g.met.H.HeapSeat.seat c.clear.new.seat) c.requires.shard.only

pub returns-in_err-clear-clause-calls : goal.returns-in_err-clear-clause-calls
returns-in_err-clear-clause-calls g c =
    let view = g.H.HeapSeat.view in
    let v = view c.args.seat.now in
    let u = view c.alloc.new.self in
    let shard = shard_of c.args.key in
    let t = view c.clear.new.seat in
    let grown_t = grown_within 1024 c.in_ok-table.table v u t (g.met.H.HeapSeat.seat c.alloc.new.self)
    c.in_ok-table.ensures.ok 256 c.clear.ensures.within in
    made_row 1024 256 260 v u t (omega arith) c.alloc.ensures.counted c.clear.ensures.within.calls

pub returns-in_err-fence-clause-crash : goal.returns-in_err-fence-clause-crash
returns-in_err-fence-clause-crash g c =
    let view = g.H.HeapSeat.view in
    let v = view c.args.seat.now in
    let u = view c.alloc.new.self in
    let shard = shard_of c.args.key in
    let t = view c.clear.new.seat in
    let grown_t = grown_within 1024 c.in_ok-table.table v u t (g.met.H.HeapSeat.seat c.alloc.new.self)
    c.in_ok-table.ensures.ok 256 c.clear.ensures.within in
    let s = view c.fence.new.self in
    let grown_s = grown_then v t s grown_t (grown_keeps t s c.fence.ensures.unchanged) in
    λ after. change_none shard after v s grown_s (c.fence.ensures.counted.goes_on.kinds ∙ c.clear.ensures.within.calls.goes_on.kinds
    ∙ c.alloc.ensures.counted.goes_on.kinds) (g.met.H.HeapSeat.seat c.fence.new.self) c.requires.shard.only

pub returns-in_err-fence-clause-calls : goal.returns-in_err-fence-clause-calls
returns-in_err-fence-clause-calls g c =
    let view = g.H.HeapSeat.view in
    let v = view c.args.seat.now in
    let u = view c.alloc.new.self in
    let shard = shard_of c.args.key in
    let t = view c.clear.new.seat in
    let grown_t = grown_within 1024 c.in_ok-table.table v u t (g.met.H.HeapSeat.seat c.alloc.new.self)
    c.in_ok-table.ensures.ok 256 c.clear.ensures.within in
    let s = view c.fence.new.self in
    let grown_s = grown_then v t s grown_t (grown_keeps t s c.fence.ensures.unchanged) in
    made_row 1024 257 260 v u s (omega arith) c.alloc.ensures.counted
    (row_then 256 0 0 1 0 0 u t s c.clear.ensures.within.calls (row_small t s c.fence.ensures.counted))

pub overflow_mul-table : goal.overflow_mul-table
overflow_mul-table g c =
    let short = ((g.met.H.HeapSeat.seat c.alloc.new.self).placed c.in_ok-table.table c.in_ok-table.ensures.ok.blocks.has).short in omega arith

pub encode-requires : goal.encode-requires
encode-requires g c =
    let short = ((g.met.H.HeapSeat.seat c.alloc.new.self).placed c.in_ok-table.table c.in_ok-table.ensures.ok.blocks.has).short in omega arith

pub returns-in_err-persist-clause-crash : goal.returns-in_err-persist-clause-crash
returns-in_err-persist-clause-crash g c =
    let view = g.H.HeapSeat.view in
    let v = view c.args.seat.now in
    let u = view c.alloc.new.self in
    let shard = shard_of c.args.key in
    let t = view c.clear.new.seat in
    let grown_t = grown_within 1024 c.in_ok-table.table v u t (g.met.H.HeapSeat.seat c.alloc.new.self)
    c.in_ok-table.ensures.ok 256 c.clear.ensures.within in
    let s = view c.fence.new.self in
    let grown_s = grown_then v t s grown_t (grown_keeps t s c.fence.ensures.unchanged) in
    let w = view c.persist.new.heap in
    let table = c.in_ok-table.table in
    let size = table_size table.words c.in_ok-table.ensures.ok.size in
    let held_t : Contains t.held table = subst (λ (bs : List Block). Contains bs table)
    (sym c.clear.ensures.within.held) c.in_ok-table.ensures.ok.blocks.has in
    let held_s : Contains s.held table = subst (λ (bs : List Block). Contains bs table) (sym c.fence.ensures.unchanged.held) held_t in
    let nulls : (i : ℕ) → i < 128 → IsDurableAt s (table.first_word + i) 0 = λ i below.
    let own : IsOwn t.held t.roots (table.first_word + i) = in_block table (table.first_word + i) held_t
    (record { from = omega arith; until = omega arith }) in
    settles t s (table.first_word + i) 0 own (c.fence.ensures.unchanged.words (table.first_word + i) own)
    (record { each = c.in_ok-fence.ensures.ok.durable }) (c.in_ok-clear.ensures.ok.nulls i below) in
    let may = subst (λ (i : ℕ). MayHaveStored (root_word i) c.encode.result s w) c.shard_of.ensures c.persist.ensures.crash in
    λ after. table_left v s w (g.met.H.HeapSeat.seat c.fence.new.self)
    (g.met.H.HeapSeat.seat c.persist.new.heap) grown_s c.requires.shard.only shard c.encode.result table
    (shard_below c.args.key) c.requires.shard.owned
    held_s c.in_ok-table.ensures.ok.blocks.new size nulls c.encode.ensures.tagged may c.requires.none.empty
    (c.fence.ensures.counted.goes_on.kinds ∙ c.clear.ensures.within.calls.goes_on.kinds
    ∙ c.alloc.ensures.counted.goes_on.kinds) c.persist.ensures.calls.goes_on.kinds c.requires.none.root.seen after

pub returns-clause-crash : goal.returns-clause-crash
returns-clause-crash g c =
    let view = g.H.HeapSeat.view in
    let v = view c.args.seat.now in
    let u = view c.alloc.new.self in
    let shard = shard_of c.args.key in
    let t = view c.clear.new.seat in
    let grown_t = grown_within 1024 c.in_ok-table.table v u t (g.met.H.HeapSeat.seat c.alloc.new.self)
    c.in_ok-table.ensures.ok 256 c.clear.ensures.within in
    let s = view c.fence.new.self in
    let grown_s = grown_then v t s grown_t (grown_keeps t s c.fence.ensures.unchanged) in
    let w = view c.persist.new.heap in
    let table = c.in_ok-table.table in
    let size = table_size table.words c.in_ok-table.ensures.ok.size in
    let held_t : Contains t.held table = subst (λ (bs : List Block). Contains bs table)
    (sym c.clear.ensures.within.held) c.in_ok-table.ensures.ok.blocks.has in
    let held_s : Contains s.held table = subst (λ (bs : List Block). Contains bs table) (sym c.fence.ensures.unchanged.held) held_t in
    let nulls : (i : ℕ) → i < 128 → IsDurableAt s (table.first_word + i) 0 = λ i below.
    let own : IsOwn t.held t.roots (table.first_word + i) = in_block table (table.first_word + i) held_t
    (record { from = omega arith; until = omega arith }) in
    settles t s (table.first_word + i) 0 own (c.fence.ensures.unchanged.words (table.first_word + i) own)
    (record { each = c.in_ok-fence.ensures.ok.durable }) (c.in_ok-clear.ensures.ok.nulls i below) in
    let may = subst (λ (i : ℕ). MayHaveStored (root_word i) c.encode.result s w) c.shard_of.ensures c.persist.ensures.crash in
    λ after. table_left v s w (g.met.H.HeapSeat.seat c.fence.new.self)
    (g.met.H.HeapSeat.seat c.persist.new.heap) grown_s c.requires.shard.only shard c.encode.result table
    (shard_below c.args.key) c.requires.shard.owned
    held_s c.in_ok-table.ensures.ok.blocks.new size nulls c.encode.ensures.tagged may c.requires.none.empty
    (c.fence.ensures.counted.goes_on.kinds ∙ c.clear.ensures.within.calls.goes_on.kinds
    ∙ c.alloc.ensures.counted.goes_on.kinds) c.persist.ensures.calls.goes_on.kinds c.requires.none.root.seen after

pub returns-in_err-persist-clause-calls : goal.returns-in_err-persist-clause-calls
returns-in_err-persist-clause-calls g c =
    let view = g.H.HeapSeat.view in
    let v = view c.args.seat.now in
    let u = view c.alloc.new.self in
    let shard = shard_of c.args.key in
    let t = view c.clear.new.seat in
    let grown_t = grown_within 1024 c.in_ok-table.table v u t (g.met.H.HeapSeat.seat c.alloc.new.self)
    c.in_ok-table.ensures.ok 256 c.clear.ensures.within in
    let s = view c.fence.new.self in
    let grown_s = grown_then v t s grown_t (grown_keeps t s c.fence.ensures.unchanged) in
    let w = view c.persist.new.heap in
    made_row 1024 260 260 v u w (omega arith) c.alloc.ensures.counted
    (row_then 257 0 0 3 0 0 u s w (row_then 256 0 0 1 0 0 u t s c.clear.ensures.within.calls (row_small t s c.fence.ensures.counted))
    c.persist.ensures.calls)

pub returns-clause-ok : goal.returns-clause-ok
returns-clause-ok g c =
    let view = g.H.HeapSeat.view in
    let v = view c.args.seat.now in
    let u = view c.alloc.new.self in
    let shard = shard_of c.args.key in
    let t = view c.clear.new.seat in
    let grown_t = grown_within 1024 c.in_ok-table.table v u t (g.met.H.HeapSeat.seat c.alloc.new.self)
    c.in_ok-table.ensures.ok 256 c.clear.ensures.within in
    let s = view c.fence.new.self in
    let grown_s = grown_then v t s grown_t (grown_keeps t s c.fence.ensures.unchanged) in
    let w = view c.persist.new.heap in
    let table = c.in_ok-table.table in
    let size = table_size table.words c.in_ok-table.ensures.ok.size in
    let held_t : Contains t.held table = subst (λ (bs : List Block). Contains bs table)
    (sym c.clear.ensures.within.held) c.in_ok-table.ensures.ok.blocks.has in
    let held_s : Contains s.held table = subst (λ (bs : List Block). Contains bs table) (sym c.fence.ensures.unchanged.held) held_t in
    let nulls : (i : ℕ) → i < 128 → IsDurableAt s (table.first_word + i) 0 = λ i below.
    let own : IsOwn t.held t.roots (table.first_word + i) = in_block table (table.first_word + i) held_t
    (record { from = omega arith; until = omega arith }) in
    settles t s (table.first_word + i) 0 own (c.fence.ensures.unchanged.words (table.first_word + i) own)
    (record { each = c.in_ok-fence.ensures.ok.durable }) (c.in_ok-clear.ensures.ok.nulls i below) in
    let may = subst (λ (i : ℕ). MayHaveStored (root_word i) c.encode.result s w) c.shard_of.ensures c.persist.ensures.crash in
    let gives = table_gives v s w (g.met.H.HeapSeat.seat c.fence.new.self)
    (g.met.H.HeapSeat.seat c.persist.new.heap) grown_s c.requires.shard.only shard c.encode.result table
    (shard_below c.args.key) c.requires.shard.owned
    held_s c.in_ok-table.ensures.ok.blocks.new size nulls c.encode.ensures.tagged may c.requires.none.empty
    (c.fence.ensures.counted.goes_on.kinds ∙ c.clear.ensures.within.calls.goes_on.kinds
    ∙ c.alloc.ensures.counted.goes_on.kinds) c.persist.ensures.calls.goes_on.kinds in
    let settled : IsDurableAt w (root_word shard) c.encode.result =
    subst (λ (i : ℕ). IsDurableAt w (root_word i) c.encode.result) c.shard_of.ensures
    (record { seen = c.in_ok-persist.ensures.ok; left = c.in_ok-persist.ensures.durable }) in
    let runs_t : Runs v t = elim c.in_ok-clear.ensures.ok.done as (λ _. Runs v t) [
      | inl same ↦ subst (Runs v) (sym same) c.in_ok-table.ensures.ok.runs
      | inr done ↦ runs_then v u t c.in_ok-table.ensures.ok.runs done.runs
    ] in
    record {
      runs = runs_then v s w (runs_then v t s runs_t c.in_ok-fence.ensures.ok.runs) c.in_ok-persist.ensures.runs;
      missing = table_missing v w c.args.key c.encode.result table (g.met.H.HeapSeat.seat c.persist.new.heap)
          (subst (λ (rs : List ℕ). Contains rs shard) (sym (may.roots ∙ grown_s.roots)) c.requires.shard.owned)
          (subst (λ (bs : List Block). Contains bs table) (sym may.held) held_s) size c.encode.ensures.tagged settled c.requires.shard.map
          (gives c.requires.shard.map c.requires.shard.gives)
          (c.requires.none.empty c.requires.shard.map c.requires.shard.gives);
      gives = gives;
      reached = table_reached v s w (g.met.H.HeapSeat.seat c.fence.new.self)
          (g.met.H.HeapSeat.seat c.persist.new.heap) grown_s c.requires.shard.only shard c.encode.result table
          (shard_below c.args.key) c.requires.shard.owned
          held_s c.in_ok-table.ensures.ok.blocks.new size nulls c.encode.ensures.tagged may c.requires.none.empty
          (c.fence.ensures.counted.goes_on.kinds ∙ c.clear.ensures.within.calls.goes_on.kinds
          ∙ c.alloc.ensures.counted.goes_on.kinds) c.persist.ensures.calls.goes_on.kinds;
      refusals = same_refusals_then v s w
          (same_refusals_then v t s (refusals_within 1024 table v u t (g.met.H.HeapSeat.seat c.alloc.new.self)
          c.in_ok-table.ensures.ok 256 c.clear.ensures.within) c.fence.ensures.counted.refusals)
          c.persist.ensures.refusals;
    }

pub returns-clause-exact : goal.returns-clause-exact
returns-clause-exact g c =
    let view = g.H.HeapSeat.view in
    let v = view c.args.seat.now in
    let u = view c.alloc.new.self in
    let shard = shard_of c.args.key in
    let t = view c.clear.new.seat in
    let grown_t = grown_within 1024 c.in_ok-table.table v u t (g.met.H.HeapSeat.seat c.alloc.new.self)
    c.in_ok-table.ensures.ok 256 c.clear.ensures.within in
    let s = view c.fence.new.self in
    let grown_s = grown_then v t s grown_t (grown_keeps t s c.fence.ensures.unchanged) in
    let w = view c.persist.new.heap in
    let table = c.in_ok-table.table in
    let size = table_size table.words c.in_ok-table.ensures.ok.size in
    let held_t : Contains t.held table = subst (λ (bs : List Block). Contains bs table)
    (sym c.clear.ensures.within.held) c.in_ok-table.ensures.ok.blocks.has in
    let held_s : Contains s.held table = subst (λ (bs : List Block). Contains bs table) (sym c.fence.ensures.unchanged.held) held_t in
    let nulls : (i : ℕ) → i < 128 → IsDurableAt s (table.first_word + i) 0 = λ i below.
    let own : IsOwn t.held t.roots (table.first_word + i) = in_block table (table.first_word + i) held_t
    (record { from = omega arith; until = omega arith }) in
    settles t s (table.first_word + i) 0 own (c.fence.ensures.unchanged.words (table.first_word + i) own)
    (record { each = c.in_ok-fence.ensures.ok.durable }) (c.in_ok-clear.ensures.ok.nulls i below) in
    let may = subst (λ (i : ℕ). MayHaveStored (root_word i) c.encode.result s w) c.shard_of.ensures c.persist.ensures.crash in
    let null = (grown_s.words (root_word shard) (in_root shard (root_word shard) c.requires.shard.owned refl)).volatile 0 c.requires.none.root.seen in
    let seen = subst (λ (i : ℕ). w.volatile (root_word i) ≡ Some c.encode.result) c.shard_of.ensures c.in_ok-persist.ensures.ok in
    table_all v s w (g.met.H.HeapSeat.seat c.fence.new.self) (g.met.H.HeapSeat.seat c.persist.new.heap)
    grown_s c.requires.shard.only shard c.encode.result table (shard_below c.args.key) c.requires.shard.owned
    held_s c.in_ok-table.ensures.ok.blocks.new size nulls c.encode.ensures.tagged may c.requires.none.empty
    (c.fence.ensures.counted.goes_on.kinds ∙ c.clear.ensures.within.calls.goes_on.kinds
    ∙ c.alloc.ensures.counted.goes_on.kinds) c.persist.ensures.calls.goes_on.kinds null seen
    (λ a h. c.in_ok-table.ensures.ok.blocks.only a (subst (λ (bs : List Block). Contains bs a) c.clear.ensures.within.held
    (subst (λ (bs : List Block). Contains bs a) c.fence.ensures.unchanged.held h)))

pub returns-in_err-table-clause-none : goal.returns-in_err-table-clause-none
returns-in_err-table-clause-none g c =
    let heap = g.H.HeapSeat in
    let p = err_from_is_err_and c.from_residual.result c.from_residual.ensures.1 in
    rw (p.1, p.2)
    (λ looks is. turned_down heap.keeps heap.has_none g.met.H.HeapSeat.keeps_none table_bytes looks c.args.seat.now c.alloc.new.self
    (c.in_err-table.ensures.none looks is))
