use Rattle.std.proofs.Common.{◌≡◌, ℕ, List, length, slice_index, ap, sym, subst, ◌∙◌, refl, arith}
use Rattle.heap_model.specs.declared.block.Block.{Block}
use Rattle.heap_model.specs.Geometry.{largest_capacity_fits}
use Rattle.heap_model.specs.Blocks.{layout_of}
use Rattle.heap_model.specs.Recovered.{IsFreeSuperblock, AreAscending}
use Rattle.heap_model.specs.Rest.{IsReady}
use Rattle.heap_recover.specs.Roles.{IsMember}
use Rattle.heap_recover.proofs.AscendingLemmas.{ascending_same}
use Rattle.heap_recover.proofs.KeptLemmas.{written_back}
use Rattle.heap_at_rest.specs.Orderly.{IsHeldByAnchors}
use Rattle.quick_recover.specs.Reopened.{IsReopened}
use Rattle.quick_recover.proofs.RestLemmas.{reopened_ready}
use Rattle.quick_recover.proofs.ReopenLemmas.{free_of}
use Rattle.quick_recover.proofs.reopen.reopen.Goals as goal

pub members-requires : goal.members-requires
members-requires c =
    let long = c.requires.told.have.long in
    let used = c.requires.formed.used in
    let small = c.requires.formed.small in
    omega (arith, largest_capacity_fits, ap length c.deref-2.ensures.value)

pub new-requires : goal.new-requires
new-requires c =
    let words = c.write_words.new.words in
    let left = subst (λ (l : List ℕ). IsReopened (slice_index l) (slice_index words) (IsHeldByAnchors (slice_index l)))
    c.deref_mut.ensures.value c.in_ok-write_words.ensures.ok in
    let kept = c.write_words.auto.words in
    let all : c.args.words.len ≡ length words = let long = c.args.words.ok.0 in omega (arith, ap length c.deref_mut.ensures.value) in
    let held = c.args.found.held.items in
    subst (λ ws. IsReady ws held) (sym (written_back words c.args.words.items c.args.words.len all))
    (reopened_ready c.args.words.items words held c.args.found.roles.items c.requires.formed
    (omega (arith, ap length c.deref_mut.ensures.value)) c.requires.told.have c.requires.told.in_order left)

pub returns : goal.returns
returns c =
    let old = slice_index c.args.words.items in
    let words = c.write_words.new.words in
    let roles = c.args.found.roles.items in
    let reopened = subst (λ (l : List ℕ). IsReopened (slice_index l) (slice_index words) (IsHeldByAnchors (slice_index l)))
    c.deref_mut.ensures.value c.in_ok-write_words.ensures.ok in
    let kept = c.write_words.auto.words in
    let all : c.args.words.len ≡ length words = let long = c.args.words.ok.0 in omega (arith, ap length c.deref_mut.ensures.value) in
    let same_length : length words ≡ length c.args.words.items = omega (arith, ap length c.deref_mut.ensures.value) in
    let left = c.new.ensures.words ∙ written_back words c.args.words.items c.args.words.len all in
    record {
      ok = record {
        held = subst (λ hs. AreAscending (λ (b : Block). b.first_word) (IsHeldByAnchors old) hs) (sym c.new.ensures.held) c.requires.told.in_order;
        free = ascending_same (λ d. d) (IsMember roles 0) (IsFreeSuperblock (layout_of old) (IsHeldByAnchors old)) c.in_ok-free.free.items
            (λ d. (free_of old roles c.requires.told.have d).0) (λ d. (free_of old roles c.requires.told.have d).1)
            (subst (λ rs. AreAscending (λ d. d) (IsMember rs 0) c.in_ok-free.free.items) c.deref-2.ensures.value c.in_ok-free.ensures.ok);
        was = refl;
        long = ap length left ∙ same_length;
        reopened = subst (λ ws. IsReopened old (slice_index ws) (IsHeldByAnchors old)) (sym left) reopened;
      };
    }
