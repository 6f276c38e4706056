-- The list of pages has room for a page that isn't on it, and lists each page with a mark.
use Rattle.std.proofs.Common.{◌≡◌, ◌≢◌, ℕ, ◌<◌, ◌*◌, ◌/◌, Bool, List, false, get_or, length, refl, subst, sym, arith}
use Rattle.line_memory.specs.Marks.{CoversGroups}
use Rattle.line_memory.proofs.MarkLemmas.{cover_line, has_room, page_within, marked_first, read_is}
use Rattle.line_memory.proofs.pending.Pending.mark_line.Goals as goal

pub push_reserved-requires : goal.push_reserved-requires
push_reserved-requires c =
    let h = c.self.invariant.1 in
    let l : 8 * c.args.line < length c.self.inside.marks = rw c.self.view_is c.requires in
    let within = page_within c.self.inside.marks _ _ _ (c.args.line / 512) h (omega arith) in
    let off = read_is _ _ _ _ within c.index.ensures c.if-not-index.true in
    rw c.self.inside.pages.ok.0 (has_room c.self.inside.marks _ _ _ (c.args.line / 512) h within off)

pub invariant_of-self : goal.invariant_of-self
invariant_of-self c =
    let h = c.self.invariant.1 in
    let l : 8 * c.args.line < length c.self.inside.marks = rw c.self.view_is c.requires in
    let inside : 4096 * (c.args.line / 512) < length c.self.inside.marks = omega arith in
    let within = page_within c.self.inside.marks _ _ _ (c.args.line / 512) h inside in
    let off = read_is _ _ _ _ within c.index.ensures c.if-not-index.true in
    let p = c.push_reserved.ensures in
    let same : (k : ℕ) → k / 4096 ≢ c.args.line / 512 → get_or c.set_eight.new.self k false ≡ get_or c.self.inside.marks k false =
    λ k other. c.set_eight.ensures.others k (λ here. other (omega (arith, here))) in (
      subst (λ (gs : List Bool). CoversGroups c.set_eight.new.self gs) (sym c.set.ensures)
          (cover_line c.self.inside.marks c.set_eight.new.self c.self.inside.groups c.args.line c.self.invariant.0 c.set_eight.ensures.len l
          c.set_eight.ensures.others),
      marked_first c.self.inside.marks c.self.inside.marks c.set_eight.new.self _ _ _ _ _ (c.args.line / 512) h
          refl c.set_eight.ensures.len same off inside (omega (arith, p.capacity)) p.items,
    )
