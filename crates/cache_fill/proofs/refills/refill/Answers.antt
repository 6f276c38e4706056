use Rattle.std.proofs.Common.{subst, refl, arith}
use Rattle.seat_costs.specs.Costs.{no_costs}
use Rattle.seat_costs.specs.Rows.{Row}
use Rattle.seat_costs.proofs.AskedLemmas.{asked_then}
use Rattle.seat_costs.proofs.RowLemmas.{row_moves, row_then, row_within}
use Rattle.cache_fill.specs.Refills.{FillsFrom, Finds, HasFound, IsNoneOfClass, IsNothingFree, fill_costs}
use Rattle.cache_fill.proofs.RefillLemmas.{cut_fills, nothing_left, order_cut, order_full, order_uncut}
use Rattle.cache_fill.proofs.ClassFillLemmas.{empty_class_row}
use Rattle.cache_fill.proofs.FillRowLemmas.{refill_row}
use Rattle.cache_fill.proofs.refills.refill.Goals as goal

pub returns-in_err-d-clause-row : goal.returns-in_err-d-clause-row
returns-in_err-d-clause-row g c = let v = c.args.seat.now in let t = c.fill_from_class.new.seat in let x = c.find_superblock.new.seat in
    let first = empty_class_row c.args.class.number c.in-Empty.head v t c.in_ok-fill_from_class.field-0 c.in-Empty.is
    c.in_ok-fill_from_class.ensures.done c.fill_from_class.ensures.row in
    refill_row c.args.class.number v x (record {
      draws = omega arith;
      wins = omega arith;
      gives = omega arith;
      cuts = omega arith;
      taken = omega arith;
      moves = omega arith;
    }) (row_then v t x first c.find_superblock.ensures.row)

pub returns-in_err-cut-in-Got-clause-row : goal.returns-in_err-cut-in-Got-clause-row
returns-in_err-cut-in-Got-clause-row g c = let v = c.args.seat.now in let t = c.fill_from_class.new.seat in
    let x = c.find_superblock.new.seat in let w = c.cut.new.seat in
    let first = empty_class_row c.args.class.number c.in-Empty.head v t c.in_ok-fill_from_class.field-0 c.in-Empty.is
    c.in_ok-fill_from_class.ensures.done c.fill_from_class.ensures.row in
    refill_row c.args.class.number v w (record {
      draws = omega arith;
      wins = omega arith;
      gives = omega arith;
      cuts = omega arith;
      taken = omega arith;
      moves = omega arith;
    }) (row_then v x w (row_then v t x first c.find_superblock.ensures.row) c.cut.ensures.row)

pub returns-in_ok-cut-in-Got-clause-row : goal.returns-in_ok-cut-in-Got-clause-row
returns-in_ok-cut-in-Got-clause-row g c = let v = c.args.seat.now in let t = c.fill_from_class.new.seat in let x = c.find_superblock.new.seat in
    let w = c.cut.new.seat in
    let first = empty_class_row c.args.class.number c.in-Empty.head v t c.in_ok-fill_from_class.field-0 c.in-Empty.is
    c.in_ok-fill_from_class.ensures.done c.fill_from_class.ensures.row in
    refill_row c.args.class.number v w (record {
      draws = omega arith;
      wins = omega arith;
      gives = omega arith;
      cuts = omega arith;
      taken = omega arith;
      moves = omega arith;
    }) (row_then v x w (row_then v t x first c.find_superblock.ensures.row) c.cut.ensures.row)

pub returns-in_ok-cut-in-Got-clause-done : goal.returns-in_ok-cut-in-Got-clause-done
returns-in_ok-cut-in-Got-clause-done g c = let v = c.args.seat.now.view in let t = c.fill_from_class.new.seat.view in
    let x = c.find_superblock.new.seat.view in
    let none : IsNoneOfClass c.args.class.number c.in-Empty.head v t =
    subst (λ from. FillsFrom c.args.class.number from v t) c.in-Empty.is c.in_ok-fill_from_class.ensures.done in
    let found : HasFound c.in-Got.d t x = subst (λ found. Finds found t x) c.in-Got.is c.in_ok-d.ensures.done in
    cut_fills v t x c.args.class.number c.in-Empty.head c.in-Got.d c.requires.idle none found c.cut.new.seat.view c.args.class.is
    c.in_ok-cut-in-Got.ensures.cut

pub returns-in-Nothing-clause-done : goal.returns-in-Nothing-clause-done
returns-in-Nothing-clause-done g c = let v = c.args.seat.now.view in let t = c.fill_from_class.new.seat.view in
    let w = c.find_superblock.new.seat.view in
    let none : IsNoneOfClass c.args.class.number c.in-Empty.head v t =
    subst (λ from. FillsFrom c.args.class.number from v t) c.in-Empty.is c.in_ok-fill_from_class.ensures.done in
    let nothing : IsNothingFree c.in-Nothing.free_head c.in-Nothing.used t w =
    subst (λ found. Finds found t w) c.in-Nothing.is c.in_ok-d.ensures.done in
    nothing_left v t w c.args.class.number c.in-Empty.head c.in-Nothing.free_head c.in-Nothing.used c.args.class.is none nothing

pub returns-in-Nothing-clause-light : goal.returns-in-Nothing-clause-light
returns-in-Nothing-clause-light g c = let v = c.args.seat.now in let t = c.fill_from_class.new.seat in let w = c.find_superblock.new.seat in λ same.
    let nothing : IsNothingFree c.in-Nothing.free_head c.in-Nothing.used t.view w.view =
    subst (λ found. Finds found t.view w.view) c.in-Nothing.is c.in_ok-d.ensures.done in
    let first = empty_class_row c.args.class.number c.in-Empty.head v t c.in_ok-fill_from_class.field-0 c.in-Empty.is
    c.in_ok-fill_from_class.ensures.done c.fill_from_class.ensures.row in
    let second : Row (record no_costs { draws = 6 }) t w = record { view = nothing.row; marks = c.find_superblock.ensures.row.marks } in
    row_within (fill_costs 9 2 v.view w.view) v w (record {
      draws = omega arith;
      wins = omega arith;
      gives = omega arith;
      cuts = omega arith;
      taken = omega arith;
      moves = omega arith;
    }) (row_moves v w (row_then v t w first second))

pub returns-in-Nothing-clause-row : goal.returns-in-Nothing-clause-row
returns-in-Nothing-clause-row g c = let v = c.args.seat.now in let t = c.fill_from_class.new.seat in let w = c.find_superblock.new.seat in
    let first = empty_class_row c.args.class.number c.in-Empty.head v t c.in_ok-fill_from_class.field-0 c.in-Empty.is
    c.in_ok-fill_from_class.ensures.done c.fill_from_class.ensures.row in
    refill_row c.args.class.number v w (record {
      draws = omega arith;
      wins = omega arith;
      gives = omega arith;
      cuts = omega arith;
      taken = omega arith;
      moves = omega arith;
    }) (row_then v t w first c.find_superblock.ensures.row)

pub returns-in-Filled-clause-order : goal.returns-in-Filled-clause-order
returns-in-Filled-clause-order g c = let v = c.args.seat.now.view in let w = c.fill_from_class.new.seat.view in
    order_uncut c.args.class.number v w refl refl c.fill_from_class.ensures.row.view

pub returns-in_ok-cut-in-Got-clause-order : goal.returns-in_ok-cut-in-Got-clause-order
returns-in_ok-cut-in-Got-clause-order g c = let v = c.args.seat.now.view in let t = c.fill_from_class.new.seat.view in
    let x = c.find_superblock.new.seat.view in let w = c.cut.new.seat.view in
    let none : IsNoneOfClass c.args.class.number c.in-Empty.head v t =
    subst (λ from. FillsFrom c.args.class.number from v t) c.in-Empty.is c.in_ok-fill_from_class.ensures.done in
    order_cut c.args.class.number c.in-Empty.head v t x w none c.in_ok-cut-in-Got.ensures.cut.looks c.cut.ensures.row.view
    c.find_superblock.ensures.row.view c.args.class.is (subst (λ found. Finds found t x) c.in-Got.is c.in_ok-d.ensures.done).wins
    c.in_ok-d.ensures.fresh c.in_ok-d.ensures.others
    (let a = none.row.passes.more.cuts in let b = c.find_superblock.ensures.row.view.passes.more.cuts in
    let now = c.in_ok-cut-in-Got.ensures.counted in omega (arith, a, b, now))

pub returns-in-Nothing-clause-order : goal.returns-in-Nothing-clause-order
returns-in-Nothing-clause-order g c = let v = c.args.seat.now.view in let t = c.fill_from_class.new.seat.view in
    let w = c.find_superblock.new.seat.view in
    let none : IsNoneOfClass c.args.class.number c.in-Empty.head v t =
    subst (λ from. FillsFrom c.args.class.number from v t) c.in-Empty.is c.in_ok-fill_from_class.ensures.done in
    let nothing : IsNothingFree c.in-Nothing.free_head c.in-Nothing.used t w =
    subst (λ found. Finds found t w) c.in-Nothing.is c.in_ok-d.ensures.done in
    order_full c.args.class.number _ v w (nothing_left v t w c.args.class.number c.in-Empty.head c.in-Nothing.free_head c.in-Nothing.used
    c.args.class.is none nothing)

pub returns-in_err-d-clause-asked : goal.returns-in_err-d-clause-asked
returns-in_err-d-clause-asked g c = asked_then c.fill_from_class.ensures.asked c.find_superblock.ensures.asked

pub returns-in_err-cut-in-Got-clause-asked : goal.returns-in_err-cut-in-Got-clause-asked
returns-in_err-cut-in-Got-clause-asked g c = asked_then (asked_then c.fill_from_class.ensures.asked c.find_superblock.ensures.asked) c.cut.ensures.asked

pub returns-in_ok-cut-in-Got-clause-asked : goal.returns-in_ok-cut-in-Got-clause-asked
returns-in_ok-cut-in-Got-clause-asked g c = asked_then (asked_then c.fill_from_class.ensures.asked c.find_superblock.ensures.asked) c.cut.ensures.asked

pub returns-in-Nothing-clause-asked : goal.returns-in-Nothing-clause-asked
returns-in-Nothing-clause-asked g c = asked_then c.fill_from_class.ensures.asked c.find_superblock.ensures.asked
