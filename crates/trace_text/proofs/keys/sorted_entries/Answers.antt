use Rattle.std.proofs.Common.{◌≡◌, ℕ, List, take_all, ap, ◌∙◌, subst, arith, rules}
use Rattle.std.specs.Prelude.{map}
use Rattle.std.specs.List.{flat_map}
use Rattle.std.specs.List.Sorted.{IsPermutation}
use Rattle.std.specs.BTreeMap.{BTreeMap}
use Rattle.std.proofs.lemmas.List.Sorted.{IsPermutation-map, IsNonDecreasingBy-from_sort_by_key}
use denote.Ref.{Bor}
use Rattle.trace_text.specs.Shown.{shown}
use Rattle.trace_text.proofs.KeyLemmas.{ascending_shown}
use Rattle.trace_text.proofs.keys.sorted_entries.Goals as goal

pub returns : goal.returns
returns c =
    let all : map shown c.loop-keys.entries.items ≡ flat_map (λ (m : BTreeMap ℕ (List ℕ)). m.entries) c.args.maps.now =
    c.loop-keys.invariant ∙ ap (λ (ms : List (BTreeMap ℕ (List ℕ))). flat_map (λ (m : BTreeMap ℕ (List ℕ)). m.entries) ms)
    (take_all c.loop-keys.keys-index c.args.maps.now (omega arith)) in
    record {
      ok = record {
        all = subst (λ (es : List (ℕ × List ℕ)). IsPermutation es (map shown c.sort_by_key.new.self.items)) all
            (IsPermutation-map shown c.loop-keys.entries.items c.sort_by_key.new.self.items c.sort_by_key.ensures.permutation);
        ascending = let h = IsNonDecreasingBy-from_sort_by_key (λ (e : ℕ × Bor (List ℕ)). e.0)
            c.sort_by_key.new.self.items c.in_ok-sort_by_key.ensures.sorted (λ a r q k. search rules) in ascending_shown c.sort_by_key.new.self.items h;
      };
    }
