use Rattle.std.proofs.Common.{◌≡◌, ℕ, List, length, slice_index, ap, sym, subst, ◌∙◌, arith}
use Rattle.heap_model.specs.declared.block.Block.{Block}
use Rattle.heap_model.specs.Geometry.{largest_capacity_fits}
use Rattle.heap_model.specs.Header.{used_of}
use Rattle.heap_model.specs.Blocks.{layout_of}
use Rattle.heap_model.specs.Recovered.{IsFreeSuperblock, AreAscending}
use Rattle.heap_model.specs.Recovery.{IsRecovered}
use Rattle.heap_model.specs.Rest.{IsReady}
use Rattle.heap_at_rest.proofs.ReadyLemmas.{ready_left}
use Rattle.heap_recover.specs.Marked.{IsMarked}
use Rattle.heap_recover.specs.Roles.{IsMember}
use Rattle.heap_recover.specs.Rebuilt.{IsRebuild}
use Rattle.heap_recover.proofs.AscendingLemmas.{ascending_same}
use Rattle.heap_recover.proofs.KeptLemmas.{written_back}
use Rattle.heap_recover.proofs.recovery.keep_marked.Goals as goal

pub members-requires : goal.members-requires
members-requires g c =
    let long = c.in_ok-found.ensures.ok.long ∙ ap (λ (l : List ℕ). used_of (slice_index l)) c.deref_mut.ensures.value in
    let used = c.requires.formed.used in
    let small = c.requires.formed.small in
    omega (arith, largest_capacity_fits, ap length c.deref.ensures.value)

pub new-requires : goal.new-requires
new-requires g c =
    let words = c.rebuild.new.words in
    let rebuilt = subst (λ (l : List ℕ). IsRebuild (slice_index l) (slice_index words) (IsMarked c.args.marks.now.pairs)
    c.in_ok-found.found.held.items c.in_ok-found.found.roles.items) c.deref_mut.ensures.value c.in_ok-found.ensures.ok in
    let all : c.args.words.len ≡ length words = let long = c.args.words.ok.0 in let kept = c.rebuild.auto.words in
    omega (arith, ap length c.deref_mut.ensures.value) in
    let held = c.in_ok-found.found.held.items in
    let kept = c.rebuild.auto.words in
    subst (λ ws. IsReady ws held) (sym (written_back words c.args.words.items c.args.words.len all))
    (ready_left c.args.words.items words (IsMarked c.args.marks.now.pairs) held c.requires.formed
    (omega (arith, ap length c.deref_mut.ensures.value))
    c.requires.keeps.each rebuilt.in_order rebuilt.recovered)

pub returns : goal.returns
returns g c =
    let old = slice_index c.args.words.items in
    let words = c.rebuild.new.words in
    let rebuilt = subst (λ (l : List ℕ). IsRebuild (slice_index l) (slice_index words) (IsMarked c.args.marks.now.pairs)
    c.in_ok-found.found.held.items c.in_ok-found.found.roles.items) c.deref_mut.ensures.value c.in_ok-found.ensures.ok in
    let all : c.args.words.len ≡ length words = let long = c.args.words.ok.0 in let kept = c.rebuild.auto.words in
    omega (arith, ap length c.deref_mut.ensures.value) in
    let same_length : length words ≡ length c.args.words.items = let kept = c.rebuild.auto.words in
    omega (arith, ap length c.deref_mut.ensures.value) in
    let left = c.new.ensures.words ∙ written_back words c.args.words.items c.args.words.len all in
    record {
      ok = record {
        held = subst (λ hs. AreAscending (λ (b : Block). b.first_word) (IsMarked c.args.marks.now.pairs) hs) (sym c.new.ensures.held) rebuilt.in_order;
        free = ascending_same (λ d. d) (IsMember c.in_ok-found.found.roles.items 0)
            (IsFreeSuperblock (layout_of old) (IsMarked c.args.marks.now.pairs)) c.in_ok-free.free.items
            (λ d. (rebuilt.free d).0) (λ d. (rebuilt.free d).1)
            (subst (λ rs. AreAscending (λ d. d) (IsMember rs 0) c.in_ok-free.free.items) c.deref.ensures.value c.in_ok-free.ensures.ok);
        was = (λ is. c.requires.closed.0 (c.was.ensures.0 is), λ is. c.was.ensures.1 (c.requires.closed.1 is));
        long = ap length left ∙ same_length;
        recovered = subst (λ ws. IsRecovered old (slice_index ws) (IsMarked c.args.marks.now.pairs)) (sym left) rebuilt.recovered;
      };
    }
