use Rattle.std.proofs.Common.{List, take, subst, arith}
use Rattle.std.proofs.lemmas.List.{take_all}
use Rattle.std.proofs.lemmas.Result.{on_ok_weaker}
use Rattle.run_model.specs.Runs.{answered}
use Rattle.worker_run.specs.Said.{Line, Told, requests_of, replies_of}
use Rattle.shared_run.proofs.FollowLemmas.{HaveFollowed, follow_next, followed_all}
use Rattle.shared_run.proofs.follow.follow.Goals as goal

pub loop-i-preserved : goal.loop-i-preserved
loop-i-preserved c =
    follow_next c.args.requests.now c.args.replies.now c.loop-i.i c.index-requests-i.result c.index-replies-i.result c.requires.long
    c.loop-i-test.true c.index-requests-i.is c.index-replies-i.is
    c.args.maps.now.items c.loop-i.maps.items c.follow_one.new.maps.items c.loop-i.moved.items c.follow_one.new.moved.items c.requires.shards
    c.loop-i.invariant c.in_ok-follow_one.ensures.maps c.in_ok-follow_one.ensures.moved

pub returns : goal.returns
returns c =
    let lines = c.args.requests.now in
    let told = c.args.replies.now in
    let i = c.loop-i.i in
    let asked = take_all i lines (omega arith) in
    let heard = take_all i told (let long = c.requires.long in omega arith) in
    let first = c.args.maps.now.items in
    let now = c.loop-i.maps.items in
    let moved = c.loop-i.moved.items in
    let so_far = subst (λ (qs : List Line). HaveFollowed (answered (requests_of qs) (replies_of told)) first now moved) asked
    (subst (λ (rs : List Told). HaveFollowed (answered (requests_of (take i lines)) (replies_of rs)) first now moved) heard c.loop-i.invariant) in
    on_ok_weaker c.arrive.result (followed_all (answered (requests_of lines) (replies_of told)) first now c.arrive.new.maps.items moved so_far)
    c.arrive.ensures
