use Rattle.std.proofs.Common.{◌≡◌, ℕ, ◌+◌, ◌-◌, ◌*◌, List, take, drop, length, ap, sym, subst, ◌∙◌, arith}
use Rattle.std.proofs.lemmas.List.{take_all, length-drop}
use Rattle.byteorder.specs.Endian.{little_number}
use Rattle.region_header.proofs.WordBytes.{AreFirstWords, one_word_more, all_words}
use Rattle.region_header.proofs.conversions.bytes_to_words.Goals as goal

pub loop-i-init : goal.loop-i-init
loop-i-init c = (record { count = ap length c.in_ok-words.ensures.items; word = λ k below. absurd (omega arith) }, c.in_ok-words.ensures.capacity)

pub push_reserved-requires : goal.push_reserved-requires
push_reserved-requires c = let first = c.loop-i.invariant.0.count in let room = c.loop-i.invariant.1 in omega arith

pub loop-i-preserved : goal.loop-i-preserved
loop-i-preserved c =
    let rest : List ℕ = drop (8 * c.loop-i.i) c.args.bytes.now in
    let whole : take (length c.args.bytes.now - 8 * c.loop-i.i) rest ≡ rest =
    take_all (length c.args.bytes.now - 8 * c.loop-i.i) rest (let long = length-drop (8 * c.loop-i.i) c.args.bytes.now in omega arith) in
    let more = one_word_more c.args.bytes.now c.loop-i.words.items c.loop-i.i c.read_u64.result c.loop-i.invariant.0 (c.read_u64.ensures
    ∙ ap (little_number 8) whole) in
    let same = c.push_reserved.ensures.capacity in
    let room = c.loop-i.invariant.1 in
    (subst (λ words. AreFirstWords c.args.bytes.now words (c.loop-i.i + 1)) (sym c.push_reserved.ensures.items) more, omega arith)

pub returns : goal.returns
returns c = record { ok = all_words c.args.bytes.now c.loop-i.words.items c.loop-i.i (let whole = c.requires in omega arith) c.loop-i.invariant.0 }
