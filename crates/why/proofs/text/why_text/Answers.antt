use native.Mathlib.Omega.{arith}
use Rattle.why.proofs.ReplyLaws.{told_said, unread_said}
use Rattle.why.proofs.text.why_text.Goals as goal

pub returns-in-Ok : goal.returns-in-Ok
returns-in-Ok c =
    told_said _ _ _ _ c.new-text.ensures _ c.in-Ok.explained c.in-Ok.ensures c.put_answer.ensures.added c.put_calls.ensures

pub returns-in-Err : goal.returns-in-Err
returns-in-Err c =
    unread_said _ _ _ _ c.new-text.ensures c.in-Err.why _ c.in-Err.ensures (omega arith) c.put_pair.ensures.added
