use Rattle.std.proofs.Common.{◌≡◌, false, slice_index, subst}
use Rattle.dict_model.specs.Links.{shards}
use Rattle.dictionary.specs.Reading.{AreMaps}
use Rattle.run_model.specs.Runs.{answered, LeavesMaps}
use Rattle.worker_run.specs.Said.{requests_of, replies_of}
use Rattle.shared_run.specs.Following.{FollowMapsOf}
use Rattle.shared_run.proofs.FollowLemmas.{maps_left, there_only}
use Rattle.shared_run.proofs.run.run_trace.Goals as goal

pub returns-clause-answers : goal.returns-clause-answers
returns-clause-answers g c =
    let o = c.in_ok-outcome.outcome in
    let is = c.in_ok-outcome.ensures.worked in
    c.what_the_workers_answered.ensures.order c.args.mapped.words c.args.mapped.held c.args.workers c.args.budget
    (requests_of c.args.requests.now) (replies_of o.replies.items) o.stopped is.0 is.1 o.image.items is.2

pub returns-clause-stops : goal.returns-clause-stops
returns-clause-stops g c =
    let o = c.in_ok-outcome.outcome in
    let is = c.in_ok-outcome.ensures.worked in
    c.what_the_workers_spent.ensures.stops c.args.mapped.words c.args.mapped.held c.args.workers c.args.budget (requests_of c.args.requests.now)
    (replies_of o.replies.items) o.stopped is.0 is.1 o.image.items is.2

pub returns-clause-replies : goal.returns-clause-replies
returns-clause-replies g c =
    let o = c.in_ok-outcome.outcome in
    let is = c.in_ok-outcome.ensures.worked in
    c.what_the_workers_answered.ensures.replies c.args.mapped.words c.args.mapped.held c.args.workers c.args.budget
    (requests_of c.args.requests.now) (replies_of o.replies.items) o.stopped is.0 is.1 o.image.items is.2

pub returns-clause-full : goal.returns-clause-full
returns-clause-full g c =
    let o = c.in_ok-outcome.outcome in
    let is = c.in_ok-outcome.ensures.worked in
    c.what_the_workers_spent.ensures.full c.args.mapped.words c.args.mapped.held c.args.workers c.args.budget (requests_of c.args.requests.now)
    (replies_of o.replies.items) o.stopped is.0 is.1 o.image.items is.2

pub returns-clause-maps : goal.returns-clause-maps
returns-clause-maps g c =
    let o = c.in_ok-outcome.outcome in
    let is = c.in_ok-outcome.ensures.worked in
    c.what_the_workers_answered.ensures.maps c.args.mapped.words c.args.mapped.held c.args.workers c.args.budget
    (requests_of c.args.requests.now) (replies_of o.replies.items) o.stopped is.0 is.1 o.image.items is.2

pub returns-clause-header : goal.returns-clause-header
returns-clause-header g c =
    let o = c.in_ok-outcome.outcome in
    let is = c.in_ok-outcome.ensures.worked in
    c.what_the_workers_left.ensures.header c.args.mapped.words c.args.mapped.held c.args.workers c.args.budget (requests_of c.args.requests.now)
    (replies_of o.replies.items) o.stopped is.0 is.1 o.image.items is.2

pub returns-clause-others : goal.returns-clause-others
returns-clause-others g c =
    let o = c.in_ok-outcome.outcome in
    let is = c.in_ok-outcome.ensures.worked in
    c.what_the_workers_left.ensures.others c.args.mapped.words c.args.mapped.held c.args.workers c.args.budget (requests_of c.args.requests.now)
    (replies_of o.replies.items) o.stopped is.0 is.1 o.image.items is.2

pub returns-clause-used : goal.returns-clause-used
returns-clause-used g c =
    let o = c.in_ok-outcome.outcome in
    let is = c.in_ok-outcome.ensures.worked in
    c.what_the_workers_spent.ensures.used c.args.mapped.words c.args.mapped.held c.args.workers c.args.budget (requests_of c.args.requests.now)
    (replies_of o.replies.items) o.stopped is.0 is.1 o.image.items is.2

pub returns-clause-state : goal.returns-clause-state
returns-clause-state g c =
    let o = c.in_ok-outcome.outcome in
    let is = c.in_ok-outcome.ensures.worked in
    c.what_the_workers_left.ensures.state c.args.mapped.words c.args.mapped.held c.args.workers c.args.budget (requests_of c.args.requests.now)
    (replies_of o.replies.items) o.stopped is.0 is.1 o.image.items is.2

pub returns-clause-orderly : goal.returns-clause-orderly
returns-clause-orderly g c =
    let o = c.in_ok-outcome.outcome in
    let is = c.in_ok-outcome.ensures.worked in
    c.what_the_workers_left.ensures.orderly c.args.mapped.words c.args.mapped.held c.args.workers c.args.budget
    (requests_of c.args.requests.now) (replies_of o.replies.items) o.stopped is.0 is.1 o.image.items is.2

pub returns-clause-shards : goal.returns-clause-shards
returns-clause-shards g c =
    let o = c.in_ok-outcome.outcome in
    let is = c.in_ok-outcome.ensures.worked in
    let image = slice_index c.args.mapped.words in
    let left = slice_index o.image.items in
    let lines = requests_of c.args.requests.now in
    let told = replies_of o.replies.items in
    let leaves = c.what_the_workers_answered.ensures.maps c.args.mapped.words c.args.mapped.held c.args.workers c.args.budget lines told
    o.stopped is.0 is.1 o.image.items is.2 in
    there_only o.maps (λ new. FollowMapsOf image (answered lines told) new.items) (λ new. AreMaps left shards new.items) (o.stopped ≡ false)
    c.in_ok-outcome.ensures.known c.in_ok-outcome.ensures.after
    (λ going new after. maps_left image left c.args.workers lines told after.old new.items c.requires.dictionary.maps
    (subst (λ stopped. LeavesMaps image c.args.workers lines told stopped left) going leaves) after.were after.after)
