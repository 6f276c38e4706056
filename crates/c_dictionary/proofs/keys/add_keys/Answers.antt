use Rattle.std.proofs.Common.{rules, ℕ, List, ◌||◌, Bool, Bor, sym, ap, ◌∙◌}
use Rattle.std.specs.BTreeSet.{contains}
use Rattle.std.specs.Set.{is_member}
use Rattle.std.specs.Ordering.{nat_cmp, eq_by_cmp}
use Rattle.std.proofs.lemmas.Iterator.Adapters.{fact_from_extend}
use Rattle.std.proofs.lemmas.Iterator.Consumers.{YieldsList-from_rest}
use Rattle.c_dictionary.proofs.keys.add_keys.Goals as goal

pub returns : goal.returns
returns c = fact_from_extend (λ (x : Bor ℕ). x.now) c.extend.result c.extend.ensures.ran
    (λ it b. YieldsList-from_rest c.keys.result (search rules)) (λ xs e h. record {
      each = λ q. h.0 q ∙ ap (λ (l : List ℕ). contains nat_cmp c.args.keys.now q || is_member (eq_by_cmp nat_cmp) l q) e
          ∙ ap (λ (b : Bool). contains nat_cmp c.args.keys.now q || b) (sym (c.keys.ensures.has q));
    })
