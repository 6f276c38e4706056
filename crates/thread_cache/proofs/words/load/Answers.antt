use Rattle.std.proofs.Common.{ap}
use Rattle.core_model.specs.View.{View}
use Rattle.seat_costs.proofs.AskedLemmas.{settled_then}
use Rattle.seat_costs.proofs.RowLemmas.{row_of, row_then}
use Rattle.seat_costs.proofs.StoreLemmas.{load_row}
use Rattle.thread_cache.proofs.OwnLemmas.{runs_drew, loaded}
use Rattle.thread_cache.proofs.words.load.Goals as goal

pub returns-clause-loaded : goal.returns-clause-loaded
returns-clause-loaded g c =
    loaded c.args.seat.now.view c.draw.new.seat.view c.args.word c.in_ok-draw.ensures.drawn c.requires.own c.load_word.new.self.view
    c.load_word.result c.load_word.ensures.event

pub returns-clause-row : goal.returns-clause-row
returns-clause-row g c = row_then c.args.seat.now c.draw.new.seat c.load_word.new.self c.draw.ensures.row
    (row_of c.draw.new.seat c.load_word.new.self c.load_word.ensures.stores
    (load_row c.args.word c.draw.new.seat.view c.load_word.new.self.view c.load_word.result c.load_word.ensures.event))

pub returns-clause-drew : goal.returns-clause-drew
returns-clause-drew g c = runs_drew c.args.seat.now.view c.load_word.new.self.view (returns-clause-loaded g c).runs

pub returns-clause-early : goal.returns-clause-early
returns-clause-early g c = λ going. settled_then (c.draw.ensures.early going) (ap (λ (x : View). x.durable) c.load_word.ensures.event.after)
