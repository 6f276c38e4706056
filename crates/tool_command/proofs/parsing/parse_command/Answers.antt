use Rattle.std.proofs.Common.{◌≡◌, ◌∙◌, ap, rules, codes, List, ℕ, Some}
use Rattle.tool_command.proofs.CommandLemmas.{usage_format, usage_show, usage_drain, usage_gen, usage_run, usage_rebuild, usage_replay, usage_conservative, usage_count}
use Rattle.tool_command.proofs.parsing.parse_command.Goals as goal

pub returns-then-eq-clause-err : goal.returns-then-eq-clause-err
returns-then-eq-clause-err c is =
    let word : c.args.command.now ≡ codes "format" = search rules in
    usage_format _ (c.requires ∙ ap (λ (w : List ℕ). Some w) word) (λ image capacity asks. c.parse_format.ensures.err is asks.taken.faultless)

pub returns-then-eq-2-clause-err : goal.returns-then-eq-2-clause-err
returns-then-eq-2-clause-err c is =
    let word : c.args.command.now ≡ codes "show" = search rules in
    usage_show _ (c.requires ∙ ap (λ (w : List ℕ). Some w) word) (λ image with_map in_parallel asks. c.parse_show.ensures.err is asks.taken.faultless)

pub returns-then-eq-3-clause-err : goal.returns-then-eq-3-clause-err
returns-then-eq-3-clause-err c is =
    let word : c.args.command.now ≡ codes "drain" = search rules in
    usage_drain _ (c.requires ∙ ap (λ (w : List ℕ). Some w) word) (λ image class asks. c.parse_drain.ensures.err is asks.taken.faultless)

pub returns-then-eq-4-clause-err : goal.returns-then-eq-4-clause-err
returns-then-eq-4-clause-err c is =
    let word : c.args.command.now ≡ codes "gen" = search rules in
    usage_gen _ (c.requires ∙ ap (λ (w : List ℕ). Some w) word) (λ requests seed asks. c.parse_gen.ensures.err is asks.taken.faultless)

pub returns-then-eq-5-clause-err : goal.returns-then-eq-5-clause-err
returns-then-eq-5-clause-err c is =
    let word : c.args.command.now ≡ codes "run" = search rules in
    usage_run _ (c.requires ∙ ap (λ (w : List ℕ). Some w) word) (λ image options asks. c.parse_run.ensures.err is asks.taken.faultless)

pub returns-then-eq-6-clause-err : goal.returns-then-eq-6-clause-err
returns-then-eq-6-clause-err c is =
    let word : c.args.command.now ≡ codes "rebuild" = search rules in
    usage_rebuild _ (c.requires ∙ ap (λ (w : List ℕ). Some w) word) (λ image budget seed asks. c.parse_rebuild.ensures.err is asks.taken.faultless)

pub returns-then-eq-7-clause-err : goal.returns-then-eq-7-clause-err
returns-then-eq-7-clause-err c is =
    let word : c.args.command.now ≡ codes "replay" = search rules in
    usage_replay _ (c.requires ∙ ap (λ (w : List ℕ). Some w) word) (λ image seed asks. c.parse_replay.ensures.err is asks.taken.faultless)

pub returns-then-eq-8-clause-err : goal.returns-then-eq-8-clause-err
returns-then-eq-8-clause-err c is =
    let word : c.args.command.now ≡ codes "conservative" = search rules in
    usage_conservative _ (c.requires ∙ ap (λ (w : List ℕ). Some w) word)
    (λ image with_map asks. c.parse_conservative.ensures.err is asks.taken.faultless)

pub returns-then-eq-9-clause-err : goal.returns-then-eq-9-clause-err
returns-then-eq-9-clause-err c is =
    let word : c.args.command.now ≡ codes "count" = search rules in
    usage_count _ (c.requires ∙ ap (λ (w : List ℕ). Some w) word) (λ image with_map asks. c.parse_count.ensures.err is asks.taken.faultless)
