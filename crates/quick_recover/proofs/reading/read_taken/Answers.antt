use Rattle.std.proofs.Common.{◌+◌, ◌++◌, slice_index, ap, sym, subst, ◌∙◌, arith}
use Rattle.std.specs.Prelude.{MatchOption}
use Rattle.quick_recover.specs.Anchored.{IsDisorderly, IsReadAs, AreRead}
use Rattle.quick_recover.proofs.TakenLemmas.{read_none, read_next, read_all}
use Rattle.quick_recover.proofs.reading.read_taken.Goals as goal

pub loop-d-init : goal.loop-d-init
loop-d-init c = read_none (slice_index c.args.words.now) c.new-held.result.items c.new-roles.result.items c.new-held.ensures.items
    c.new-roles.ensures.items

pub loop-d-preserved : goal.loop-d-preserved
loop-d-preserved c =
    let image = slice_index c.args.words.now in
    let survey = c.in-Some.survey in
    let read = subst (λ o. MatchOption o (IsDisorderly image) (IsReadAs image c.loop-d.d)) c.in-Some.is c.in_ok-survey.ensures.ok in
    let next = read_next image c.loop-d.d c.loop-d.end c.loop-d.held.items c.loop-d.roles.items survey c.loop-d.invariant read in
    let held = c.in_ok-extend_from_slice.ensures.items ∙ ap (λ xs. c.loop-d.held.items ++ xs) c.deref.ensures.value in
    subst (λ hs. AreRead image (c.loop-d.d + 1) survey.end hs c.push.new.self.items) (sym held)
    (subst (AreRead image (c.loop-d.d + 1) survey.end (c.loop-d.held.items ++ survey.held.items)) (sym c.in_ok-push.ensures.items) next)

pub returns : goal.returns
returns c = record {
  ok = read_all (slice_index c.args.words.now) c.loop-d.d c.loop-d.end c.loop-d.held.items c.loop-d.roles.items c.args.free.now
      (let past = c.loop-d-test.false in let used = c.requires.readable.used_is in
      omega arith) c.requires.listed c.requires.untouched c.loop-d.invariant;
}
