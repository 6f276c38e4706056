use Rattle.std.proofs.Common.{◌≡◌, ◌-◌, ◌/◌, refl, ap, sym, subst, ◌∙◌, arith}
use Rattle.heap_model.specs.Geometry.{start_word, largest_capacity_fits, superblock_of}
use Rattle.heap_model.specs.Sizes.{IsClass, words_of_class}
use Rattle.seat_state.proofs.WordLemmas.{entry_is}
use Rattle.seat_index.proofs.OwnedReads.{block_kept, block_there}
use Rattle.seat_index.proofs.owned.Owned.block_words.Goals as goal

pub superblock_of-d-requires : goal.superblock_of-d-requires
superblock_of-d-requires c = let index = c.requires.1 in
    let h = block_kept c.requires.0 index.has c.args.self.now index.own c.requires.2.0
    (superblock_of c.requires.0.setup.capacity c.requires.2.0.first_word) c.requires.2.1 refl in
    let f = h.from in let k = index.capacity_is in let a = c.requires.2.2 in omega arith

pub index-requires : goal.index-requires
index-requires c = let index = c.requires.1 in
    let h = block_kept c.requires.0 index.has c.args.self.now index.own c.requires.2.0 c.superblock_of-d.result c.requires.2.1
    (c.superblock_of-d.ensures ∙ ap (λ n. (c.args.first_word - start_word n 0) / 8192) index.capacity_is
    ∙ ap (λ n. (n - start_word c.requires.0.setup.capacity 0) / 8192) c.requires.2.2) in
    let b = h.below in let l = index.own.ownerships_long in omega arith

pub overflow_mul-result : goal.overflow_mul-result
overflow_mul-result c = let index = c.requires.1 in
    let h = block_there c.requires.0 index.has c.args.self.now index.own c.requires.2.0
    c.superblock_of-d.result c.count-count.result c.index.result.now c.requires.2.1
    (c.superblock_of-d.ensures ∙ ap (λ n. (c.args.first_word - start_word n 0) / 8192) index.capacity_is
    ∙ ap (λ n. (n - start_word c.requires.0.setup.capacity 0) / 8192) c.requires.2.2)
    (λ less. c.index.ensures) c.count-count.ensures in let f = h.few in let small = index.has.sound.good.small in
    let fits = largest_capacity_fits in omega arith

pub returns-then-count-gt0 : goal.returns-then-count-gt0
returns-then-count-gt0 c = λ v index b held at. let h = block_there v index.has c.args.self.now index.own b
    c.superblock_of-d.result c.count-count.result c.index.result.now held
    (c.superblock_of-d.ensures ∙ ap (λ n. (c.args.first_word - start_word n 0) / 8192) index.capacity_is
    ∙ ap (λ n. (n - start_word v.setup.capacity 0) / 8192) at)
    (λ less. c.index.ensures) c.count-count.ensures in h.large (let t = c.if-count-gt0.true in omega arith)

pub index-class-requires : goal.index-class-requires
index-class-requires c = let index = c.requires.1 in
    let h = block_kept c.requires.0 index.has c.args.self.now index.own c.requires.2.0 c.superblock_of-d.result c.requires.2.1
    (c.superblock_of-d.ensures ∙ ap (λ n. (c.args.first_word - start_word n 0) / 8192) index.capacity_is
    ∙ ap (λ n. (n - start_word c.requires.0.setup.capacity 0) / 8192) c.requires.2.2) in
    let b = h.below in let l = index.own.classes_long in omega arith

pub overflow_cast-class : goal.overflow_cast-class
overflow_cast-class c = let index = c.requires.1 in
    let h = block_there c.requires.0 index.has c.args.self.now index.own c.requires.2.0
    c.superblock_of-d.result c.count-count.result c.index.result.now c.requires.2.1
    (c.superblock_of-d.ensures ∙ ap (λ n. (c.args.first_word - start_word n 0) / 8192) index.capacity_is
    ∙ ap (λ n. (n - start_word c.requires.0.setup.capacity 0) / 8192) c.requires.2.2)
    (λ less. c.index.ensures) c.count-count.ensures in let z : c.count-count.result ≡ 0 = (let t = c.if-count-gt0.false in omega arith) in
    let kept = (c.index-class.ensures ∙ entry_is c.args.self.now.classes.items c.superblock_of-d.result c.index-class.result.now 0
    (let l = index.own.classes_long in let b = h.below in omega arith)) in
    let is : IsClass c.index-class.result.now = subst IsClass (sym kept) (h.small z).1 in let l = is.last in omega arith

pub new-requires : goal.new-requires
new-requires c = let index = c.requires.1 in
    let h = block_there c.requires.0 index.has c.args.self.now index.own c.requires.2.0
    c.superblock_of-d.result c.count-count.result c.index.result.now c.requires.2.1
    (c.superblock_of-d.ensures ∙ ap (λ n. (c.args.first_word - start_word n 0) / 8192) index.capacity_is
    ∙ ap (λ n. (n - start_word c.requires.0.setup.capacity 0) / 8192) c.requires.2.2)
    (λ less. c.index.ensures) c.count-count.ensures in let z : c.count-count.result ≡ 0 = (let t = c.if-count-gt0.false in omega arith) in
    let kept = (c.index-class.ensures ∙ entry_is c.args.self.now.classes.items c.superblock_of-d.result c.index-class.result.now 0
    (let l = index.own.classes_long in let b = h.below in omega arith)) in
    let is : IsClass c.index-class.result.now = subst IsClass (sym kept) (h.small z).1 in let l = is.last in omega arith

pub returns : goal.returns
returns c = λ v index b held at. let h = block_there v index.has c.args.self.now index.own b
    c.superblock_of-d.result c.count-count.result c.index.result.now held
    (c.superblock_of-d.ensures ∙ ap (λ n. (c.args.first_word - start_word n 0) / 8192) index.capacity_is
    ∙ ap (λ n. (n - start_word v.setup.capacity 0) / 8192) at)
    (λ less. c.index.ensures) c.count-count.ensures in let z : c.count-count.result ≡ 0 = (let t = c.if-count-gt0.false in omega arith) in
    let kept = (c.index-class.ensures ∙ entry_is c.args.self.now.classes.items c.superblock_of-d.result c.index-class.result.now 0
    (let l = index.own.classes_long in let b = h.below in omega arith)) in
    (h.small z).0 ∙ ap words_of_class (sym kept) ∙ sym (c.block_words.ensures.words ∙ ap words_of_class c.new.ensures)
