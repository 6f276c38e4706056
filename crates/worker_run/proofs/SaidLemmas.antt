-- The values of a trace that was read are short.
use Rattle.std.proofs.Common.{◌≡◌, ℕ, ◌≤◌, inl, inr, List, [], ◌∷◌, length, Contains, subst, ap, arith}
use Rattle.heap_model.proofs.MemberLemmas.{in_none, head_or_rest}
use Rattle.dict_model.specs.Nodes.{largest_value}
use Rattle.dict_model.specs.Requests.{Request}
use Rattle.trace_text.specs.Trace.{IsLine, AreLines}
use Rattle.trace_text.specs.declared.request.Request.TheVariants.{Put, Get, Del, Move}
use Rattle.worker_run.specs.Said.{Line, request_of, requests_of, IsShort, ValuesAreShort}

line_short : (text : List ℕ) (line : Line) → IsLine text line → IsShort (request_of line)
line_short text (Put key value) is = elim is.value_is as (λ _. length value ≤ largest_value) [
  | inl empty ↦ let none : length value ≡ 0 = ap length empty.1 in omega arith
  | inr some ↦ some.2
]
line_short text (Get key) is = tt
line_short text (Del key) is = tt
line_short text (Move key to) is = tt

each_short : (texts : List (List ℕ)) (lines : List Line) → AreLines texts lines → (request : Request) → Contains (requests_of lines) request
    → IsShort request
each_short [] [] are request h = absurd (in_none request h)
each_short [] (line ∷ lines) are request h = absurd are
each_short (text ∷ texts) [] are request h = absurd are
each_short (text ∷ texts) (line ∷ lines) are request h = elim (head_or_rest (request_of line) request (requests_of lines) h) as (λ _. IsShort request) [
  | inl same ↦ subst IsShort same (line_short text line are.0)
  | inr later ↦ each_short texts lines are.1 request later
]

pub lines_short : (texts : List (List ℕ)) (lines : List Line) → AreLines texts lines → ValuesAreShort (requests_of lines)
lines_short texts lines are = record { each = each_short texts lines are }
