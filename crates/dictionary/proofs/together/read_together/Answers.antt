use Rattle.std.proofs.Common.{◌≡◌, ◌<◌, ◌+◌, ◌++◌, ◌∷◌, [], ℕ, List, All, Contains, length, set, slice_index, sym, subst, ◌∙◌, arith}
use Rattle.std.specs.BTreeMap.{get}
use Rattle.std.specs.Ordering.{nat_cmp}
use Rattle.std.proofs.lemmas.List.{nil_from_length, length-set}
use Rattle.std.proofs.lemmas.List.Elements.{All-head, All-rest, All-same, All-push}
use Rattle.dict_model.specs.Nodes.{buckets}
use Rattle.dict_model.specs.Shards.{LeadsAlone}
use Rattle.dict_model.proofs.ShardLemmas.{alone_once}
use Rattle.dictionary.proofs.LeadLemmas.{lies_in}
use Rattle.dictionary.proofs.WalkLemmas.{no_key}
use Rattle.dictionary.proofs.TogetherLemmas.{links_begin, unread_begin, links_inside, IsMapAlong, along_begins, along_ends, along_null, along_step, astray_no_map, met_no_map}
use Rattle.dictionary.proofs.together.read_together.Goals as goal

pub loop-bucket-preserved : goal.loop-bucket-preserved
loop-bucket-preserved c =
    let was = c.loop-bucket.invariant in
    let items : c.push_back_reserved.new.self.items ≡ c.loop-bucket.unread.items ++ c.loop-bucket.bucket ∷ [] = c.push_back_reserved.ensures.items in
    let below = c.loop-bucket-test.true in
    let long = was.long in
    record {
      empty = was.empty;
      first = links_begin c.loop-bucket.links c.args.table.first_word c.loop-bucket.bucket (omega arith) was.first;
      all = subst (λ (bs : List ℕ). (k : ℕ) → k < c.loop-bucket.bucket + 1 → Contains bs k) (sym items)
          (unread_begin c.loop-bucket.unread.items c.loop-bucket.bucket was.all);
      ordered = was.ordered;
      few = All-same (λ k. k < buckets) c.push_back_reserved.new.self.items (c.loop-bucket.unread.items ++ c.loop-bucket.bucket ∷ []) items
          (All-push (λ k. k < buckets) c.loop-bucket.unread.items c.loop-bucket.bucket was.few (omega arith));
      long = length-set c.loop-bucket.links c.loop-bucket.bucket (c.args.table.first_word + c.loop-bucket.bucket) ∙ long;
      count = let more = c.push_back_reserved.ensures.len in let count = was.count in omega arith;
      room = let same = c.push_back_reserved.ensures.capacity in let room = was.room in omega arith;
    }

pub loop-bucket-2-init : goal.loop-bucket-2-init
loop-bucket-2-init c =
    let was = c.loop-bucket.invariant in
    let all : c.loop-bucket.bucket ≡ buckets = omega arith in
    let lies = lies_in c.args.walk.now.scan.words.now c.args.walk.now.scan.directory.now c.args.walk.now.origins.now c.args.table
    c.requires.read c.requires.table.leads_there.0.names.block in
    let size = c.requires.table.size in
    record {
      along = along_begins (LeadsAlone (slice_index c.args.walk.now.scan.words.now) c.args.walk.now.shard)
          (slice_index c.args.walk.now.scan.words.now) c.args.walk.now.shard c.args.table
          c.loop-bucket.links c.loop-bucket.unread.items (get nat_cmp c.new-map.result) (λ k below. was.first k (omega arith))
          (λ k below. was.all k (omega arith))
          (no_key c.new-map.result was.empty);
      ordered = was.ordered;
      few = was.few;
      inside = λ k below. let is = was.first k (omega arith) in omega arith;
      long = was.long;
      count = let count = was.count in omega arith;
      room = was.room;
    }

pub loop-bucket-2-preserved-in-Null : goal.loop-bucket-2-preserved-in-Null
loop-bucket-2-preserved-in-Null c =
    let was = c.loop-bucket-2.invariant in
    let items : c.loop-bucket-2.unread.items ≡ c.in-Some.bucket ∷ c.pop_front.new.self.items = c.in-Some.ensures.items in
    record {
      along = along_null (LeadsAlone (slice_index c.args.walk.now.scan.words.now) c.args.walk.now.shard)
          (slice_index c.args.walk.now.scan.words.now) c.args.walk.now.shard c.args.table c.in-Some.bucket
          c.loop-bucket-2.links c.pop_front.new.self.items (get nat_cmp c.loop-bucket-2.map) c.in-Null.ensures
          (subst (λ bs. IsMapAlong (LeadsAlone (slice_index c.args.walk.now.scan.words.now) c.args.walk.now.shard)
          (slice_index c.args.walk.now.scan.words.now) c.args.walk.now.shard c.args.table
          c.loop-bucket-2.links bs (get nat_cmp c.loop-bucket-2.map)) items was.along);
      ordered = was.ordered;
      few = All-rest (λ k. k < buckets) c.in-Some.bucket c.pop_front.new.self.items c.loop-bucket-2.unread.items items was.few;
      inside = was.inside;
      long = was.long;
      count = let fewer = c.in-Some.ensures.cases in let count = was.count in omega arith;
      room = let same = c.in-Some.ensures.capacity in let room = was.room in omega arith;
    }

pub loop-bucket-2-preserved : goal.loop-bucket-2-preserved
loop-bucket-2-preserved c =
    let was = c.loop-bucket-2.invariant in
    let items : c.loop-bucket-2.unread.items ≡ c.in-Some.bucket ∷ c.pop_front.new.self.items = c.in-Some.ensures.items in
    let more : c.push_back_reserved-in-To.new.self.items ≡ c.pop_front.new.self.items ++ c.in-Some.bucket ∷ [] =
    c.push_back_reserved-in-To.ensures.items in
    let below : c.in-Some.bucket < buckets = All-head (λ k. k < buckets) c.in-Some.bucket c.pop_front.new.self.items
    (subst (λ bs. All (λ k. k < buckets) bs) items was.few) in
    let long = was.long in
    let lies = lies_in c.args.walk.now.scan.words.now c.args.walk.now.scan.directory.now c.args.walk.now.origins.now c.in-To.node
    c.requires.read c.in-To.ensures.0.0.0.names.block in
    let fits = c.in-To.ensures.1.fits in
    record {
      along = subst (λ bs. IsMapAlong (LeadsAlone (slice_index c.args.walk.now.scan.words.now) c.args.walk.now.shard)
          (slice_index c.args.walk.now.scan.words.now) c.args.walk.now.shard c.args.table
          (set c.loop-bucket-2.links c.in-Some.bucket c.in-To.node.first_word) bs (get nat_cmp c.add.new.map)) (sym more)
          (along_step (LeadsAlone (slice_index c.args.walk.now.scan.words.now) c.args.walk.now.shard)
          (slice_index c.args.walk.now.scan.words.now) c.args.walk.now.shard c.args.table c.in-Some.bucket
          c.loop-bucket-2.links c.pop_front.new.self.items c.loop-bucket-2.map c.add.new.map c.in-To.node
          (subst (λ bs. IsMapAlong (LeadsAlone (slice_index c.args.walk.now.scan.words.now) c.args.walk.now.shard)
          (slice_index c.args.walk.now.scan.words.now) c.args.walk.now.shard c.args.table
          c.loop-bucket-2.links bs (get nat_cmp c.loop-bucket-2.map)) items was.along)
          below (omega arith) c.in-To.ensures.0 c.in-To.ensures.1 (c.in_ok-add-in-To.ensures.new c.if-not-branch.false));
      ordered = c.in_ok-add-in-To.ensures.ordered;
      few = All-same (λ k. k < buckets) c.push_back_reserved-in-To.new.self.items (c.pop_front.new.self.items ++ c.in-Some.bucket ∷ []) more
          (All-push (λ k. k < buckets) c.pop_front.new.self.items c.in-Some.bucket
          (All-rest (λ k. k < buckets) c.in-Some.bucket c.pop_front.new.self.items c.loop-bucket-2.unread.items items was.few) below);
      inside = links_inside c.loop-bucket-2.links c.in-Some.bucket c.in-To.node.first_word (length c.args.walk.now.scan.words.now) (omega arith)
          (omega arith) was.inside;
      long = length-set c.loop-bucket-2.links c.in-Some.bucket c.in-To.node.first_word ∙ long;
      count = let fewer = c.in-Some.ensures.cases in let one = c.push_back_reserved-in-To.ensures.len in let count = was.count in omega arith;
      room = let same = c.in-Some.ensures.capacity in let again = c.push_back_reserved-in-To.ensures.capacity in let room = was.room in omega arith;
    }

pub returns-clause-map : goal.returns-clause-map
returns-clause-map c =
    let items : c.loop-bucket-2.unread.items ≡ [] = c.in_default.ensures.items
    ∙ nil_from_length c.pop_front.new.self.items (let ok = c.pop_front.new.self.ok in let none = c.in_default.ensures.cases.1 in omega arith) in
    along_ends (LeadsAlone (slice_index c.args.walk.now.scan.words.now) c.args.walk.now.shard)
    (slice_index c.args.walk.now.scan.words.now) c.args.walk.now.shard c.args.table
    c.loop-bucket-2.links (get nat_cmp c.loop-bucket-2.map) c.requires.table
    (subst (λ bs. IsMapAlong (LeadsAlone (slice_index c.args.walk.now.scan.words.now) c.args.walk.now.shard)
    (slice_index c.args.walk.now.scan.words.now) c.args.walk.now.shard c.args.table
    c.loop-bucket-2.links bs (get nat_cmp c.loop-bucket-2.map)) items c.loop-bucket-2.invariant.along)

pub returns-in-Astray-clause-none : goal.returns-in-Astray-clause-none
returns-in-Astray-clause-none c = λ none map is.
    let was = c.loop-bucket-2.invariant in
    let image = slice_index c.args.walk.now.scan.words.now in
    let shard = c.args.walk.now.shard in
    let items : c.loop-bucket-2.unread.items ≡ c.in-Some.bucket ∷ c.pop_front.new.self.items = c.in-Some.ensures.items in
    let below : c.in-Some.bucket < buckets = All-head (λ k. k < buckets) c.in-Some.bucket c.pop_front.new.self.items
    (subst (λ bs. All (λ k. k < buckets) bs) items was.few) in
    astray_no_map (LeadsAlone image shard) image shard c.args.table
    (alone_once image shard) c.in-Some.bucket c.loop-bucket-2.links c.loop-bucket-2.unread.items (get nat_cmp c.loop-bucket-2.map)
    c.requires.table below was.along c.in-Astray.ensures map is

pub returns-then-not-branch-clause-none : goal.returns-then-not-branch-clause-none
returns-then-not-branch-clause-none c = λ none map is.
    let was = c.loop-bucket-2.invariant in
    let image = slice_index c.args.walk.now.scan.words.now in
    let shard = c.args.walk.now.shard in
    let items : c.loop-bucket-2.unread.items ≡ c.in-Some.bucket ∷ c.pop_front.new.self.items = c.in-Some.ensures.items in
    let below : c.in-Some.bucket < buckets = All-head (λ k. k < buckets) c.in-Some.bucket c.pop_front.new.self.items
    (subst (λ bs. All (λ k. k < buckets) bs) items was.few) in
    met_no_map (LeadsAlone image shard) image shard c.args.table (alone_once image shard)
    c.in-Some.bucket c.loop-bucket-2.links c.loop-bucket-2.unread.items (get nat_cmp c.loop-bucket-2.map)
    c.requires.table below was.along c.in-To.node c.in-To.ensures.0 c.in-To.ensures.1 (c.in_ok-add-in-To.ensures.known c.if-not-branch.true) map is
