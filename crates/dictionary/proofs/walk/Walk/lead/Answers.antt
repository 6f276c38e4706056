use Rattle.std.proofs.Common.{slice_index, rules}
use Rattle.std.proofs.lemmas.Bool.{iff_false}
use Rattle.heap_model.specs.Header.{kinds_of}
use Rattle.heap_model.specs.Blocks.{layout_of, IsBlock}
use Rattle.dict_model.specs.Links.{dict_links}
use Rattle.dictionary.proofs.LeadLemmas.{beside_astray, leads_alone}
use Rattle.dictionary.proofs.walk.Walk.lead.Goals as goal

pub returns-then-is_reached_beside : goal.returns-then-is_reached_beside
returns-then-is_reached_beside c =
    beside_astray (slice_index c.args.self.now.scan.words.now) c.args.self.now.shard c.args.word c.in-To.block c.in-To.ensures
    (λ b. IsBlock (layout_of (slice_index c.args.self.now.scan.words.now)) b)
    ((c.is_reached_beside.ensures (slice_index c.args.self.now.scan.words.now)
    (kinds_of (slice_index c.args.self.now.scan.words.now)) dict_links c.requires.origins_are c.in-To.ensures.names.block).0 (search rules))

pub returns-else-is_reached_beside : goal.returns-else-is_reached_beside
returns-else-is_reached_beside c = (
  leads_alone (slice_index c.args.self.now.scan.words.now) c.args.self.now.shard c.args.word c.in-To.block c.in-To.ensures
      (iff_false (c.is_reached_beside.ensures (slice_index c.args.self.now.scan.words.now)
      (kinds_of (slice_index c.args.self.now.scan.words.now)) dict_links c.requires.origins_are c.in-To.ensures.names.block)
      c.if-is_reached_beside.false),
  c.in-To.ensures.names.block,
)
