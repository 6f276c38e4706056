use Rattle.std.proofs.Common.{◌-◌, ◌%◌, get_or, ap, sym, ◌∙◌, arith}
use Rattle.seat_state.specs.Superblocks.{usage_for, no_superblock}
use Rattle.seat_state.proofs.DecisionLemmas.{refused}
use Rattle.seat_state.proofs.WordLemmas.{entry_there}
use Rattle.crash_core.proofs.SplitSteps.{split_before, split_inside, split_there}
use Rattle.crash_core.proofs.StandingLemmas.{seat_is}
use Rattle.crash_core.proofs.spans.may_split.Goals as goal

pub returns-then-block-start : goal.returns-then-block-start
returns-then-block-start c = λ k views v keeps below at. refused
    (split_before c.args.core.now k views c.args.seat v (entry_there c.args.core.now.seats.items c.args.seat c.requires.seat).0 keeps below at
    (seat_is c.requires.seat (entry_there c.args.core.now.seats.items c.args.seat c.requires.seat).1) c.args.block
    (let e = c.start-start.ensures in let f = c.if-block-start.true in omega arith))

pub returns : goal.returns
returns c = λ k views v keeps below at. split_there c.args.core.now k views c.args.seat v
    (entry_there c.args.core.now.seats.items c.args.seat c.requires.seat).0 keeps below at
    (seat_is c.requires.seat (entry_there c.args.core.now.seats.items c.args.seat c.requires.seat).1) c.args.block
    (let e = c.start-start.ensures in let f = c.if-block-start.false in omega arith)
    (let e = c.start-start.ensures in let f = c.if-block-start-ne0.false in
    ap (λ n. (c.args.block - n) % 8192) (sym e) ∙ f) c.usage.result c.large_count.result
    (c.usage.ensures ∙ ap (λ d. usage_for c.args.seat (get_or c.args.core.now.superblocks.items d no_superblock)) c.superblock_of.ensures)
    c.large_count.ensures

pub returns-then-block-start-ne0 : goal.returns-then-block-start-ne0
returns-then-block-start-ne0 c = λ k views v keeps below at. refused
    (split_inside c.args.core.now k views c.args.seat v (entry_there c.args.core.now.seats.items c.args.seat c.requires.seat).0 keeps below at
    (seat_is c.requires.seat (entry_there c.args.core.now.seats.items c.args.seat c.requires.seat).1) c.args.block
    (λ e. c.if-block-start-ne0.true (ap (λ n. (c.args.block - n) % 8192) c.start-start.ensures ∙ e)))
