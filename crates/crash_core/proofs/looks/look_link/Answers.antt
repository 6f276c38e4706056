use Rattle.std.proofs.Common.{◌≡◌, ◌∙◌, ◌-◌, get_or, ap, sym, subst, arith}
use Rattle.heap_model.specs.Geometry.{link_word}
use Rattle.seat_state.proofs.WordLemmas.{entry_there}
use Rattle.crash_core.proofs.KeptFacts.{first_below}
use Rattle.crash_core.proofs.LookSteps.{no_link, empty_list, look_link}
use Rattle.crash_core.proofs.looks.look_link.Goals as goal
use Rattle.crash_core.proofs.StandingLemmas.{seat_is}

pub returns-in_default : goal.returns-in_default
returns-in_default c = λ k views v keeps below at going ticket.
    no_link c.args.core.now k views c.args.seat v c.index-notes.result.now keeps below at
    (seat_is c.requires.seat (sym c.index-notes.ensures)) going c.in_default.is

pub returns-then-first-eq0 : goal.returns-then-first-eq0
returns-then-first-eq0 c = λ k views v keeps below at going ticket.
    empty_list c.args.core.now k views c.args.seat v c.index-notes.result.now keeps below at
    (seat_is c.requires.seat (sym c.index-notes.ensures)) going c.in-Some.head c.in-Some.is (sym c.head_first-first.ensures ∙ c.if-first-eq0.true)

pub link-requires : goal.link-requires
link-requires c = let r = c.requires.core in let here = entry_there r.views c.args.seat (let n = r.keeps.seats in omega arith) in
    let f = first_below c.args.core.now r.setup r.views c.args.seat here.0 c.index-notes.result.now r.keeps (let n = r.keeps.seats in
    omega arith) here.1 (seat_is c.requires.seat (sym c.index-notes.ensures)) c.in-Some.head c.in-Some.is
    (subst (λ n. n ≡ 0 → ⊥) c.head_first-first.ensures c.if-first-eq0.false) in let e = c.head_first-first.ensures in omega arith

pub index-word-requires : goal.index-word-requires
index-word-requires c = let r = c.requires.core in let here = entry_there r.views c.args.seat (let n = r.keeps.seats in omega arith) in
    let f = first_below c.args.core.now r.setup r.views c.args.seat here.0 c.index-notes.result.now r.keeps (let n = r.keeps.seats in
    omega arith) here.1 (seat_is c.requires.seat (sym c.index-notes.ensures)) c.in-Some.head c.in-Some.is
    (subst (λ n. n ≡ 0 → ⊥) c.head_first-first.ensures c.if-first-eq0.false) in let h = c.head_first-first.ensures in
    let l = r.keeps.sound.long in let cap = r.keeps.capacity in let e = c.link.ensures in omega arith

pub returns : goal.returns
returns c = λ k views v keeps below at going ticket.
    look_link c.args.core.now k views c.args.seat v c.index-notes.result.now keeps below at
    (seat_is c.requires.seat (sym c.index-notes.ensures)) going ticket c.in-Some.head c.in-Some.is
    (subst (λ n. n ≡ 0 → ⊥) c.head_first-first.ensures c.if-first-eq0.false) c.index-word.result.now
    (c.index-word.ensures ∙ ap (λ n. get_or c.args.core.now.words.items n c.index-word.result.now) (c.link.ensures
    ∙ ap (λ n. link_word (n - 1)) c.head_first-first.ensures))
