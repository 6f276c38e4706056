use Rattle.std.proofs.Common.{◌≡◌, ◌+◌, ◌/◌, length, take, arith}
use Rattle.std.proofs.lemmas.List.{length-take-le}
use Rattle.dict_model.specs.Nodes.{shard_of, bucket_of}
use Rattle.dict_requests.proofs.QuietLemmas.{quiet_call}
use Rattle.dict_requests.proofs.ReadLemmas.{node_fits, quiet_read, value_read}
use Rattle.dict_requests.proofs.reading.read_value.Goals as goal

pub returns-in_err-length-clause-quiet : goal.returns-in_err-length-clause-quiet
returns-in_err-length-clause-quiet g c =
    let view = g.H.HeapSeat.view in
    record {
      small = 1;
      quiet = quiet_call (view c.args.seat.now) (view c.load.new.self) c.load.ensures.unchanged c.load.ensures.counted;
      few = λ image completes. omega arith;
    }

pub read_words-requires-clause-room : goal.read_words-requires-clause-room
read_words-requires-clause-room g c =
    let view = g.H.HeapSeat.view in
    let fits = node_fits c.args.node c.in_ok-length.length (view c.args.seat.now)
    (view c.load.new.self) c.requires.held c.requires.room c.load.ensures.unchanged c.in_ok-length.ensures.ok
    (shard_of c.args.key) (bucket_of c.args.key) c.requires.node in
    let room = fits.0 in
    let cut : length (take c.min-count.result c.args.out.now) ≡ c.min-count.result = length-take-le c.min-count.result c.args.out.now (omega arith) in
    omega arith

pub read_words-requires-clause-short : goal.read_words-requires-clause-short
read_words-requires-clause-short g c =
    let view = g.H.HeapSeat.view in
    let fits = node_fits c.args.node c.in_ok-length.length (view c.args.seat.now)
    (view c.load.new.self) c.requires.held c.requires.room c.load.ensures.unchanged c.in_ok-length.ensures.ok
    (shard_of c.args.key) (bucket_of c.args.key) c.requires.node in
    let short = fits.1 in
    let cut : length (take c.min-count.result c.args.out.now) ≡ c.min-count.result = length-take-le c.min-count.result c.args.out.now (omega arith) in
    omega arith

pub returns-in_err-read_words-clause-quiet : goal.returns-in_err-read_words-clause-quiet
returns-in_err-read_words-clause-quiet g c =
    let view = g.H.HeapSeat.view in
    let v = view c.args.seat.now in
    let u = view c.load.new.self in
    let cut : length (take c.min-count.result c.args.out.now) ≡ c.min-count.result = length-take-le c.min-count.result c.args.out.now (omega arith) in
    quiet_read c.args.node c.in_ok-length.length v u c.requires.held c.requires.room c.load.ensures.unchanged c.in_ok-length.ensures.ok
    (view c.read_words.new.seat)
    c.read_words.ensures.quiet.unchanged ((length (take c.min-count.result c.args.out.now) + 7) / 8) (omega arith)
    (quiet_call v u c.load.ensures.unchanged c.load.ensures.counted) c.read_words.ensures.quiet

pub returns-clause-quiet : goal.returns-clause-quiet
returns-clause-quiet g c =
    let view = g.H.HeapSeat.view in
    let v = view c.args.seat.now in
    let u = view c.load.new.self in
    let cut : length (take c.min-count.result c.args.out.now) ≡ c.min-count.result = length-take-le c.min-count.result c.args.out.now (omega arith) in
    quiet_read c.args.node c.in_ok-length.length v u c.requires.held c.requires.room c.load.ensures.unchanged c.in_ok-length.ensures.ok
    (view c.read_words.new.seat)
    c.read_words.ensures.quiet.unchanged ((length (take c.min-count.result c.args.out.now) + 7) / 8) (omega arith)
    (quiet_call v u c.load.ensures.unchanged c.load.ensures.counted) c.read_words.ensures.quiet

pub returns-clause-ok : goal.returns-clause-ok
returns-clause-ok g c =
    let view = g.H.HeapSeat.view in
    let v = view c.args.seat.now in
    let u = view c.load.new.self in
    let fits = node_fits c.args.node c.in_ok-length.length v u c.requires.held c.requires.room c.load.ensures.unchanged c.in_ok-length.ensures.ok
    (shard_of c.args.key) (bucket_of c.args.key) c.requires.node in
    value_read c.args.node c.in_ok-length.length v u c.requires.held c.requires.room c.load.ensures.unchanged c.in_ok-length.ensures.ok
    (view c.read_words.new.seat)
    c.read_words.ensures.quiet.unchanged c.min-count.result c.args.out.now c.read_words.new.out fits.0 (omega arith) c.in_ok-read_words.ensures.ok
