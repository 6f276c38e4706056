use Rattle.std.proofs.Common.{ap, subst, sym, ◌∙◌, Contains, OnOk}
use Rattle.core_model.specs.View.{View, role}
use Rattle.seat_model.specs.CacheState.{held_blocks}
use Rattle.seat_model.proofs.HeldLemmas.{held_is}
use Rattle.first_threads.specs.Working.{IsQuiet}
use Rattle.first_threads.proofs.threads.work.Goals as goal

pub build-chain-requires : goal.build-chain-requires
build-chain-requires c = subst (λ (v : View). Contains v.roots c.args.root) (sym c.new-seat.ensures.state.view) c.requires.root_is

pub returns : goal.returns
returns c =
    let new = c.new-seat.ensures.state in
    let kept = c.build-chain.ensures.kept.heap in
    let back = c.into_seat-seat.ensures in
    let of = c.requires.of in
    record {
      seat = record {
        table = back.table ∙ kept.0 ∙ new.table ∙ of.table;
        setup = ap (λ (v : View). v.setup) back.view ∙ kept.1.setup ∙ ap (λ (v : View). v.setup) new.view ∙ of.setup;
      };
      role_is = ap role back.view ∙ kept.2 ∙ ap role new.view ∙ c.requires.role_is;
      held = λ b tells. held_is c.into_seat-seat.result.view c.recall_soundness.ensures b
          (subst (λ (v : View). Contains (held_blocks v) b) (sym back.view) (c.build-chain.ensures.held b tells));
      quiet = subst (λ (v : View). OnOk c.build-chain.result (IsQuiet v)) (sym back.view) c.build-chain.ensures.quiet;
    }
