use Rattle.std.proofs.Common.{ap, rules, ◌∙◌}
use Rattle.std.proofs.lemmas.List.Sorted.{All-permutation}
use Rattle.std.proofs.lemmas.List.Sorted.{IsNonDecreasingBy-from_sort_by_key}
use Rattle.parcel_queue.specs.Account.{Account}
use Rattle.seat_parcels.specs.declared.parcel.Parcel.{Parcel}
use Rattle.seat_parcels.specs.Parcels.{IsParcelOf}
use Rattle.seat_parcels.proofs.CollectLemmas.{all_came}
use Rattle.seat_parcels.proofs.collecting.collect.Goals as goal

pub returns-clause-all : goal.returns-clause-all
returns-clause-all g c =
    let taken = c.take_all.ensures.taken in
    let parts = ap (λ (a : Account Parcel). a.parts) taken.account ∙ c.requires.parts in
    all_came _ c.args.pass.now.account c.take_all.new.pass.account c.args.kept.items c.take_all.new.into.items c.sort_by_key.new.self.items
    c.requires.taken taken
    (c.in_ok-take_all.ensures.all parts) c.sort_by_key.ensures.permutation

pub returns-clause-order : goal.returns-clause-order
returns-clause-order g c = IsNonDecreasingBy-from_sort_by_key (λ (p : Parcel). p.number) _ c.in_ok-sort_by_key.ensures.sorted (λ a r q k. search rules)

pub returns-clause-each : goal.returns-clause-each
returns-clause-each g c = All-permutation (IsParcelOf g.J.HeapOf.table) _ _ c.sort_by_key.ensures.permutation
    (c.in_ok-take_all.ensures.facts c.requires.kept)
