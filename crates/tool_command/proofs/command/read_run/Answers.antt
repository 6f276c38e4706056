use Rattle.std.proofs.Common.{◌≡◌, ◌∙◌, arith}
use Rattle.image_run.specs.Running.{options_of}
use Rattle.tool_command.proofs.CommandLemmas.{text_is, number_is, number_or_is, flag_is}
use Rattle.tool_command.proofs.TakenLemmas.{run_asked}
use Rattle.tool_command.proofs.command.read_run.Goals as goal

pub text_of-image-requires : goal.text_of-image-requires
text_of-image-requires c =
    let asked = run_asked c.requires.0 c.requires.1 in
    (asked.0, rw c.requires.2.rows_are asked.2.named)

pub number_of-workers-requires : goal.number_of-workers-requires
number_of-workers-requires c =
    let asked = run_asked c.requires.0 c.requires.1 in
    (asked.1.workers, rw c.requires.2.rows_are asked.2.by, omega (arith, asked.2.few))

pub number_or-budget-requires : goal.number_or-budget-requires
number_or-budget-requires c =
    let asked = run_asked c.requires.0 c.requires.1 in
    (asked.1.budget, rw c.requires.2.rows_are asked.2.within, omega (arith, asked.2.below))

pub number_or-seed-requires : goal.number_or-seed-requires
number_or-seed-requires c =
    let asked = run_asked c.requires.0 c.requires.1 in
    (asked.1.seed, rw c.requires.2.rows_are asked.2.seeded, asked.2.fits)

pub new-requires-clause-some : goal.new-requires-clause-some
new-requires-clause-some c =
    let asked = run_asked c.requires.0 c.requires.1 in
    let same = number_is _ _ _ c.requires.2 _ _ _ c.number_of-workers.ensures asked.2.by in
    omega (arith, same, asked.2.some)

pub new-requires-clause-few : goal.new-requires-clause-few
new-requires-clause-few c =
    let asked = run_asked c.requires.0 c.requires.1 in
    let same = number_is _ _ _ c.requires.2 _ _ _ c.number_of-workers.ensures asked.2.by in
    omega (arith, same, asked.2.few)

pub new-requires-clause-below : goal.new-requires-clause-below
new-requires-clause-below c =
    let asked = run_asked c.requires.0 c.requires.1 in
    let same = number_or_is _ _ _ c.requires.2 _ _ _ _ c.number_or-budget.ensures asked.2.within in
    omega (arith, same, asked.2.below)

pub returns : goal.returns
returns c words taken matched =
    let asked = run_asked words taken in
    let told = c.telling-options.ensures in
    let named = text_is _ words _ matched _ _ _ c.text_of-image.ensures asked.2.named in
    let by = told.same.0 ∙ c.new.ensures.workers ∙ number_is _ words _ matched _ _ _ c.number_of-workers.ensures asked.2.by in
    let within = told.same.1 ∙ c.new.ensures.budget ∙ number_or_is _ words _ matched _ _ _ _ c.number_or-budget.ensures asked.2.within in
    let seeded = told.same.2 ∙ c.new.ensures.seed ∙ number_or_is _ words _ matched _ _ _ _ c.number_or-seed.ensures asked.2.seeded in
    let summed = told.sum ∙ flag_is _ words _ matched _ _ _ c.has_flag-sum.ensures asked.2.summed in
    let mapped = told.map ∙ flag_is _ words _ matched _ _ _ c.has_flag-map.ensures asked.2.mapped in
    let same : options_of c.telling-options.result ≡ asked.1 =
    λ i. record { workers = by i; budget = within i; seed = seeded i; with_sum = summed i; with_map = mapped i } in
    rw (named, same) asked.2
