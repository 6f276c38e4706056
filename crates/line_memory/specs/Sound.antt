-- The words of a memory are sound at every moment.
use Rattle.std.specs.Prelude.{◌≡◌, ℕ, ◌+◌, ◌≤◌, Option, None, Some, if◌then◌else◌}
use Rattle.std.specs.Option.{is_some}
use Rattle.std.proofs.Common.{arith}
use Rattle.line_memory.specs.View.{IsSound}
use Rattle.line_memory.specs.LinesView.{lines_view}
use Rattle.line_memory.specs.Marked.{is_marked_within, marked_words-only}
use Rattle.line_memory.specs.declared.lines.Lines.{Lines}

-- the tickets drawn: those allowed, and the one at which it stopped
abbrev tickets : Option ℕ → ℕ → ℕ
tickets stopped allowed = allowed + (if is_some stopped then 1 else 0)

-- a running memory has drawn the tickets that it allowed
running : (stopped : Option ℕ) (allowed budget : ℕ) → allowed ≤ budget → stopped ≡ None → tickets stopped allowed ≤ budget
running None allowed budget l e = omega arith
running (Some t) allowed budget l e = absurd (cc)

-- a memory that has stopped has drawn one more
one_more : (stopped : Option ℕ) (allowed t : ℕ) → allowed ≡ t → stopped ≡ Some t → tickets stopped allowed ≡ t + 1
one_more None allowed t a e = absurd (cc)
one_more (Some s) allowed t a e = omega arith

-- each memory is sound
pub lines_sound : (l : Lines) → IsSound (lines_view l)
lines_sound l =
    record {
      lengths = l.lengths;
      pending_within = λ word h.
          let m = is_marked_within l.pending word (marked_words-only l.pending word h) in
          omega (arith, l.marks);
      recent_within = l.recent_within;
      recent_few = l.recent_few;
      running = running l.stopped l.allowed l.budget l.running;
      stopping = l.stopping;
      last_ticket = λ ticket e. one_more l.stopped l.allowed ticket (l.last_ticket ticket e) e;
    }
