use Rattle.std.proofs.Common.{◌≡◌, ◌+◌, ◌<◌, None, ap, sym, subst, ◌∙◌, arith}
use Rattle.heap_model.specs.Geometry.{image_words, largest_capacity_fits}
use Rattle.heap_table.specs.AtTable.{LearnsOwn}
use Rattle.heap_table.specs.SeatViews.{view_in}
use Rattle.heap_rule.specs.Fences.{SettlesOwn}
use Rattle.heap_rule.specs.Seated.{SeatView}
use Rattle.heap_rule.proofs.AgreeLemmas.{agree_put, agreed, learned_only, stood_only, only_then, only_parts, only_seat}
use Rattle.seat_index.proofs.OwnedViews.{quiet}
use Rattle.heap_rule.proofs.seat.Seat.agrees.Goals as goal

pub overflow_add-place : goal.overflow_add-place
overflow_add-place c =
    let below = subst (λ (s : SeatView). c.args.word < image_words s.view.setup.capacity) (sym c.self.view_is) c.requires.inside in
    let small = c.self.invariant.seat.kept.has.sound.good.small in let fits = largest_capacity_fits in
    let same = c.self.invariant.seat.capacity_is in let long = c.length.ensures in omega arith

pub stands-requires-clause-put : goal.stands-requires-clause-put
stands-requires-clause-put c = agree_put (view_in c.self.inside.table_seat.me.0)
    (view_in c.learn_own-value.new.seat.me.0) c.args.word c.learn_own-value.result (c.length.result + c.args.word)
    (subst (λ (s : SeatView). s.view.stopped ≡ None) (sym c.self.view_is) c.requires.going) c.learn_own-value.ensures.at.has
    (ap (λ n. n + c.args.word) (c.length.ensures ∙ ap image_words c.self.invariant.seat.capacity_is)) c.learn_own-value.ensures.learned

pub invariant_of-self : goal.invariant_of-self
invariant_of-self c =
    let only = only_then (view_in c.self.inside.table_seat.me.0) (view_in c.learn_own-value.new.seat.me.0) (view_in c.stands.new.seat.me.0)
    (learned_only (view_in c.self.inside.table_seat.me.0) (view_in c.learn_own-value.new.seat.me.0)
    c.args.word c.learn_own-value.result c.learn_own-value.ensures.learned)
    (stood_only c.stands.result (view_in c.learn_own-value.new.seat.me.0)
    (view_in c.stands.new.seat.me.0) c.args.word c.stands.ensures.there c.stands.ensures.other) in record {
      seat = only_seat c.self.inside.table_seat.me c.stands.new.seat.me c.self.inside.notes c.self.inside.geometry.capacity c.args.shared.now
          c.stands.new.seat.table_id c.self.invariant.seat c.stands.ensures.at only;
      marks_long = c.self.invariant.marks_long;
      own = quiet c.self.inside.owned (view_in c.self.inside.table_seat.me.0) (view_in c.stands.new.seat.me.0)
          (only_parts (view_in c.self.inside.table_seat.me.0) (view_in c.stands.new.seat.me.0) only) c.self.invariant.own;
    }

pub returns-clause-agrees : goal.returns-clause-agrees
returns-clause-agrees c = λ is. subst (λ (s : SeatView). SettlesOwn c.args.word s
    (record {
      table = c.stands.new.seat.table_id;
      view = view_in c.stands.new.seat.me.0;
      stores = c.self.inside.recent;
      marks = c.self.inside.pending;
    })) c.self.view_is
    (agreed (record {
      table = c.self.inside.table_seat.table_id;
      view = view_in c.self.inside.table_seat.me.0;
      stores = c.self.inside.recent;
      marks = c.self.inside.pending;
    }) (record {
      table = c.stands.new.seat.table_id;
      view = view_in c.stands.new.seat.me.0;
      stores = c.self.inside.recent;
      marks = c.self.inside.pending;
    })
    (view_in c.learn_own-value.new.seat.me.0) c.args.word c.learn_own-value.result
    (subst (λ (s : SeatView). s.view.stopped ≡ None) (sym c.self.view_is) c.requires.going) c.learn_own-value.ensures.learned
    (c.stands.ensures.there is))

pub returns-clause-differs : goal.returns-clause-differs
returns-clause-differs c = λ is. (
  c.learn_own-value.result,
  subst (λ v. LearnsOwn c.args.word c.learn_own-value.result c.args.self.now.view v) (sym (c.stands.ensures.other is))
      (subst (λ (s : SeatView). LearnsOwn c.args.word c.learn_own-value.result s.view (view_in c.learn_own-value.new.seat.me.0))
      c.self.view_is c.learn_own-value.ensures.learned),
)
