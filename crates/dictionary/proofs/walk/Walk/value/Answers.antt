use Rattle.std.proofs.Common.{◌≡◌, ◌+◌, ◌/◌, ◌≤◌, ℕ, List, length, take, sym, subst, ◌∙◌, ap, arith}
use Rattle.dictionary.proofs.LeadLemmas.{lies_in, value_lies, value_read}
use Rattle.dictionary.proofs.walk.Walk.value.Goals as goal

pub overflow_add-from : goal.overflow_add-from
overflow_add-from c =
    let lies = lies_in c.args.self.now.scan.words.now c.args.self.now.scan.directory.now c.args.self.now.origins.now c.args.block
    c.requires.read c.requires.block in omega arith

pub overflow_add-words : goal.overflow_add-words
overflow_add-words c =
    let lies = lies_in c.args.self.now.scan.words.now c.args.self.now.scan.directory.now c.args.self.now.origins.now c.args.block
    c.requires.read c.requires.block in
    let room = (value_lies c.word-length.result c.args.block.words c.args.block.first_word (length c.args.self.now.scan.words.now)
    (subst (λ n. 3 + (n + 7) / 8 ≤ c.args.block.words) (sym c.word-length.ensures) c.requires.fits) lies.0 lies.1).0 in
    omega arith

pub overflow_add-words-2 : goal.overflow_add-words-2
overflow_add-words-2 c =
    let lies = lies_in c.args.self.now.scan.words.now c.args.self.now.scan.directory.now c.args.self.now.origins.now c.args.block
    c.requires.read c.requires.block in
    let room = (value_lies c.word-length.result c.args.block.words c.args.block.first_word (length c.args.self.now.scan.words.now)
    (subst (λ n. 3 + (n + 7) / 8 ≤ c.args.block.words) (sym c.word-length.ensures) c.requires.fits) lies.0 lies.1).1 in
    omega arith

pub offset_bounds-self-from : goal.offset_bounds-self-from
offset_bounds-self-from c =
    let lies = lies_in c.args.self.now.scan.words.now c.args.self.now.scan.directory.now c.args.self.now.origins.now c.args.block
    c.requires.read c.requires.block in
    let fits = c.requires.fits in omega arith

pub slice_bounds-words-end : goal.slice_bounds-words-end
slice_bounds-words-end c =
    let lies = lies_in c.args.self.now.scan.words.now c.args.self.now.scan.directory.now c.args.self.now.origins.now c.args.block
    c.requires.read c.requires.block in
    (value_lies c.word-length.result c.args.block.words c.args.block.first_word (length c.args.self.now.scan.words.now)
    (subst (λ n. 3 + (n + 7) / 8 ≤ c.args.block.words) (sym c.word-length.ensures) c.requires.fits) lies.0 lies.1).1

pub returns : goal.returns
returns c =
    let lies = lies_in c.args.self.now.scan.words.now c.args.self.now.scan.directory.now c.args.self.now.origins.now c.args.block
    c.requires.read c.requires.block in
    let room = (value_lies c.word-length.result c.args.block.words c.args.block.first_word (length c.args.self.now.scan.words.now)
    (subst (λ n. 3 + (n + 7) / 8 ≤ c.args.block.words) (sym c.word-length.ensures) c.requires.fits) lies.0 lies.1).1 in
    let bytes : c.into_vec-bytes.result.items ≡ c.in_ok-words_to_bytes.field-0 = c.into_vec-bytes.ensures in
    record {
      ok = c.from_vec.ensures ∙ c.truncate.ensures.items
          ∙ ap (λ (bs : List ℕ). take c.word-length.result bs) (bytes ∙ c.in_ok-words_to_bytes.ensures.ok)
          ∙ value_read c.args.self.now.scan.words.now c.args.block c.word-length.result c.word-length.ensures room;
    }
