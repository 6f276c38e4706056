use Rattle.std.proofs.Common.{ℕ, ◌*◌, Some, List, length, slice_index, subst}
use Rattle.std.specs.Prelude.{MatchOption}
use Rattle.heap_recover.specs.declared.taken.Found.{Found}
use Rattle.quick_recover.specs.Anchored.{IsDisorderly, TellsAll}
use Rattle.quick_recover.proofs.OpenLemmas.{opened_quick}
use Rattle.quick_recover.proofs.open.quick_open_current.Goals as goal

pub trace_current-requires-in-None-clause-disorderly : goal.trace_current-requires-in-None-clause-disorderly
trace_current-requires-in-None-clause-disorderly g c =
    let image = slice_index c.deref.result.now in
    let told = subst (λ (l : List ℕ). IsDisorderly (slice_index l)) c.deref.ensures.value
    (subst (λ o. MatchOption o (IsDisorderly image) (λ (f : Found). TellsAll image f.held.items f.roles.items))
    c.in-None.is c.in_ok-found.ensures.ok) in
    told.never (Some g.F.Filter.KINDS) (8 * length c.args.words.items)

pub returns-in-None-clause-sure : goal.returns-in-None-clause-sure
returns-in-None-clause-sure g c =
    let image = slice_index c.deref.result.now in
    let told = subst (λ (l : List ℕ). IsDisorderly (slice_index l)) c.deref.ensures.value
    (subst (λ o. MatchOption o (IsDisorderly image) (λ (f : Found). TellsAll image f.held.items f.roles.items))
    c.in-None.is c.in_ok-found.ensures.ok) in
    λ orderly. absurd (told.never (Some g.F.Filter.KINDS) (8 * length c.args.words.items) orderly)

pub returns-in_ok-recovered-in-Some-clause-ok : goal.returns-in_ok-recovered-in-Some-clause-ok
returns-in_ok-recovered-in-Some-clause-ok g c =
    let image = slice_index c.deref.result.now in
    let found = c.in-Some.found in
    let told = subst (λ (l : List ℕ). TellsAll (slice_index l) found.held.items found.roles.items) c.deref.ensures.value
    (subst (λ o. MatchOption o (IsDisorderly image) (λ (f : Found). TellsAll image f.held.items f.roles.items))
    c.in-Some.is c.in_ok-found.ensures.ok) in
    opened_quick (Some g.F.Filter.KINDS) c.args.words.items (g.F.Filter.links_of c.args.filter.now)
    found.held.items found.roles.items c.in_ok-recovered-in-Some.recovered
    c.requires.formed c.requires.below (c.requires.closed.0 c.if-not-closed.false) told c.in_ok-recovered-in-Some.ensures.ok
