-- What the source had left, and a run of the trace that this was.
use Rattle.std.proofs.Common.{◌≡◌, ℕ, ◌≤◌, ◌<◌, List, ◌++◌, ◌+◌, length, slice_index, Option, Some, None, IfSome, IsSomeAnd, inl, inr, refl, sym, subst, arith, length-append}
use Rattle.std.proofs.lemmas.List.{append-nil}
use Rattle.heap_model.specs.declared.block.Block.{Block}
use Rattle.heap_model.specs.Geometry.{capacity_word}
use Rattle.heap_model.specs.Recovery.{in_header}
use Rattle.worker_run.specs.Said.{Line, requests_of}
use Rattle.image_run.specs.Running.{Options, RunsRequests, RunAsks}
use Rattle.image_run.proofs.CarryLemmas.{runs_carried}
use Rattle.tool_ports.specs.Contents.{Contents}
use Rattle.tool_ports.specs.Left.{left_before, IsAtEnd, Gives}
use Rattle.tool_run.specs.Asking.{NamedRunAsks}
use Rattle.tool_run.specs.Inside.{IsTraceLeft}
use Rattle.tool_run.specs.Making.{HasLeft, HasTrace, HasTooMuch, RunsTrace, image_in, longest_trace}
use Rattle.tool_run.specs.Recovering.{IsMapped}

-- what holds of what a source has left, where it tells
pub of_left : (P : List ℕ → Type 0) (left : Option (List ℕ)) (all : List ℕ) → left ≡ Some all → IfSome left P → P all
of_left P left all is holds = subst (λ (o : Option (List ℕ)). IfSome o P) is holds

-- bytes that were read to the end are all that there was
read_all_left : (bytes : List ℕ) (now : Option (List ℕ)) → IsAtEnd now → HasLeft (left_before bytes now) bytes
read_all_left bytes None end = tt
read_all_left bytes (Some rest) end = subst (λ (l : List ℕ). bytes ++ l ≡ bytes) (sym end) (append-nil bytes)

pub trace_read : (old now : Option (List ℕ)) (bytes : List ℕ) → old ≡ left_before bytes now → IsAtEnd now → length bytes ≤ longest_trace
    → HasTrace old bytes
trace_read old now bytes is end short = record {
  all = subst (λ (o : Option (List ℕ)). HasLeft o bytes) (sym is) (read_all_left bytes now end);
  short = short;
}

-- a source that gave more than the longest trace had more
gave_more : (bytes : List ℕ) (now : Option (List ℕ)) → longest_trace < length bytes → HasTooMuch (left_before bytes now)
gave_more bytes None more = tt
gave_more bytes (Some rest) more = let long = length-append bytes rest in omega arith

pub gave_too_much : (old now : Option (List ℕ)) → Gives (longest_trace + 1) old now → HasTooMuch old
gave_too_much old now gives =
    let counted = gives.counted in
    subst HasTooMuch (sym gives.given) (gave_more gives.bytes now (omega arith))

-- a run over what recovery makes of a named image is one over that image
pub runs_trace : (contents : Contents) (left : Option (List ℕ)) (name words : List ℕ) (held : List Block) → IsMapped contents name words held
    → (lines : List Line) → IsTraceLeft left lines
    → (options : Options) (put : Option (List ℕ)) (text : List ℕ) → IsSomeAnd put
    (λ image. RunsRequests (slice_index words) (requests_of lines) options image text)
    → RunsTrace contents left name options put text
runs_trace contents left name words held heap lines trace options None text runs = absurd runs
runs_trace contents left name words held heap lines trace options (Some image) text runs = record {
  mapped = heap.image;
  trace = trace.trace;
  has_trace = trace.has_trace;
  lines = lines;
  lines_are = trace.lines_are;
  image = image;
  put_is = refl;
  runs = runs_carried (image_in heap.image.bytes) (slice_index words) heap.to heap.maps heap.are (requests_of lines) options image text runs;
}

-- a run over that heap asks its chances what one over the image asks
pub run_asks : {C One : Type 0} (seed_gives : C → ℕ → C → Type 0) (chance_gives : C → ℕ → One → C → Type 0) (word_gives : C → ℕ → C → Type 0)
    (contents : Contents) (name words : List ℕ) (held : List Block) → IsMapped contents name words held
    → (options : Options) (old new : C) (put : Option (List ℕ))
    → IsSomeAnd put (λ image. RunAsks seed_gives chance_gives word_gives (slice_index words) options image old new)
    → NamedRunAsks seed_gives chance_gives word_gives contents name options old new put
run_asks seed_gives chance_gives word_gives contents name words held is options old new None asks = absurd asks
run_asks seed_gives chance_gives word_gives contents name words held is options old new (Some image) asks = record {
  bytes = is.image.bytes;
  is_there = is.image.is_there;
  image = image;
  put_is = refl;
  asks = record {
    begun = asks.begun;
    anew = asks.anew;
    stopped = asks.stopped;
    left = asks.left;
    put_is = asks.put_is;
    state = asks.state;
    asked = rw (sym (is.to.recovered.same capacity_word (in_header capacity_word (inr (inr (inl refl)))))) asks.asked;
  };
}
