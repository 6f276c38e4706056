-- How quiet calls go together.
use Rattle.std.proofs.Common.{ℕ, ◌+◌, ◌≤◌, inl, refl, arith}
use Rattle.heap_seat.specs.View.{View, word_of}
use Rattle.heap_seat.specs.declared.spot.Spot.{Spot}
use Rattle.heap_seat.specs.Words.{IsOwn, IsOwnSpot, KeepsOwn}
use Rattle.heap_seat.specs.Calls.{IsSmallCall, Loads, WritesBack}
use Rattle.heap_seat.proofs.CallerLemmas.{keeps_own_then, own_same, own_spot, spot_written}
use Rattle.heap_seat.proofs.RowLemmas.{row_none, row_then, row_more, row_small, runs_then, same_refusals_then}
use Rattle.dict_requests.specs.Trails.{IsSettling}
use Rattle.dict_requests.specs.Quiet.{IsQuiet, GoesPending, FollowsLink}
use Rattle.dict_requests.proofs.GrownLemmas.{keeps_none}
use Rattle.dict_requests.proofs.TrailLemmas.{settling_stays}

pub quiet_call : (v w : View) → KeepsOwn v w → IsSmallCall v w → IsQuiet 1 v w
quiet_call v w keeps call = record { unchanged = keeps; calls = row_small v w call; refusals = call.refusals }

pub quiet_then : (a b n : ℕ) (v u w : View) → a + b ≤ n → IsQuiet a v u → IsQuiet b u w → IsQuiet n v w
quiet_then a b n v u w few p q = record {
  unchanged = keeps_own_then v u w p.unchanged q.unchanged;
  calls = row_more (a + b) 0 0 n 0 0 v w few (omega arith) (omega arith) (row_then a 0 0 b 0 0 v u w p.calls q.calls);
  refusals = same_refusals_then v u w p.refusals q.refusals;
}

pub quiet_none : (v : View) → IsQuiet 0 v v
quiet_none v = record {
  unchanged = record { held = refl; roots = refl; words = λ word own. keeps_none v word };
  calls = row_none v;
  refusals = record { count = refl; bytes = refl; looks = refl };
}

pub goes_then : (v u w : View) → GoesPending v u → GoesPending u w → GoesPending v w
goes_then v u w a b = record { runs = runs_then v u w a.runs b.runs; pending = λ other h. b.pending other (a.pending other h) }

-- a word that is settling is so after quiet calls
pub still_settling : (v w : View) (word value : ℕ) → IsOwn v.held v.roots word → KeepsOwn v w → GoesPending v w → IsSettling v word value
    → IsSettling w word value
still_settling v w word value own keeps goes settling = settling_stays v w word value (keeps.words word own) (λ h. inl (goes.pending word h)) settling

-- a link that is loaded and then written back
pub follows : (s : Spot) (word : ℕ) (v u w : View) → IsOwnSpot v s → Loads (word_of s) word v u → KeepsOwn v u → WritesBack s u w → KeepsOwn u w
    → FollowsLink (word_of s) word v w
follows s word v u w own loads keeps writes keeps' = record {
  goes = record { runs = runs_then v u w loads.runs writes.runs; pending = λ other h. writes.pending other (loads.pending other h) };
  settling = record {
    seen = (keeps'.words (word_of s) (own_same v u (word_of s) keeps.held keeps.roots (own_spot v s own))).volatile word loads.seen;
    coming = inl (writes.line (word_of s) (spot_written v s own));
  };
}
