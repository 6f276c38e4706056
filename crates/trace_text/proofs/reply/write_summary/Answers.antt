use Rattle.std.proofs.Common.{◌≡◌, ◌++◌, [], ◌∷◌, codes, length, count_by}
use Rattle.std.specs.String.{string_bytes}
use Rattle.trace_text.specs.Replies.{is_ok, is_none, is_value, is_full, is_unanswered, counted}
use Rattle.trace_text.proofs.ReplyLemmas.{seven_parts}
use Rattle.trace_text.proofs.reply.write_summary.Goals as goal

pub returns : goal.returns
returns c =
    let n = c.of-counts.ensures in
    let e1 : string_bytes c.write_count.new.text ≡ string_bytes c.args.text.now ++ counted (codes "requests ") (length c.args.replies.now) =
    c.in_ok-write_count.ensures.ok in
    let e2 : string_bytes c.write_count-2.new.text ≡ string_bytes c.write_count.new.text ++ counted (codes " ok ") (count_by is_ok c.args.replies.now) =
    rw (← n.ok) c.in_ok-write_count-2.ensures.ok in
    let e3 : string_bytes c.write_count-3.new.text ≡ string_bytes c.write_count-2.new.text ++ counted (codes " none ")
    (count_by is_none c.args.replies.now) =
    rw (← n.none) c.in_ok-write_count-3.ensures.ok in
    let e4 : string_bytes c.write_count-4.new.text ≡ string_bytes c.write_count-3.new.text ++ counted (codes " value ")
    (count_by is_value c.args.replies.now) =
    rw (← n.value) c.in_ok-write_count-4.ensures.ok in
    let e5 : string_bytes c.write_count-5.new.text ≡ string_bytes c.write_count-4.new.text ++ counted (codes " full ")
    (count_by is_full c.args.replies.now) =
    rw (← n.full) c.in_ok-write_count-5.ensures.ok in
    let e6 : string_bytes c.write_count-6.new.text ≡ string_bytes c.write_count-5.new.text ++ counted (codes " unanswered ")
    (count_by is_unanswered c.args.replies.now) =
    rw (← n.unanswered) c.in_ok-write_count-6.ensures.ok in
    record {
      ok = seven_parts (string_bytes c.args.text.now) _ _ _ _ _ _ _ _ _ _ _ _ e1 e2 e3 e4 e5 e6 c.push_str.result
          (string_bytes c.push_str.new.self) (10 ∷ [])
          c.push_str.ensures.bytes;
    }
