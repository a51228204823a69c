-- What flattening answers and leaves (RULES, "How a charstring runs", "Refusals").
use Rattle.std.specs.Prelude.{ℕ, Option, Result, Ok, Err, cond, List, leb, length}
use Rattle.number.specs.Answer.{Values, Answer, accepted, refused, alone, at_token, needing_at, because, number_in, mapped, Outcome, leaving, Ready, into}
use Rattle.number.specs.declared.Operand.{Operand}
use Rattle.index.specs.Formed.{formation, reason_of, reason_at}
use Rattle.reading.specs.Rules.{Rules}
use Rattle.reading.specs.Reading.{Ending, back, ended, stopped, Run, struck, tokens, original}
use Rattle.reading.specs.Flat.{flat}
use Rattle.reading.specs.declared.refusal.Refusal.{Refusal}
use Rattle.reading.specs.declared.refusal.Refusal.TheVariants.{BudgetSpent, BytesLacking, TooManyOperands, UnknownOperator}
use Rattle.reading.specs.declared.refusal.Refusal.TheVariants.{NoIndex, IndexNotLast, NoEntry, TooDeep, TooManyHints, Composite, OperandsAtMask, NoEndchar}
use Rattle.reading.specs.declared.refusal.Stopped.{Stopped}
use Rattle.reading.specs.declared.refusal.Stopped.TheVariants.{At, Alone}
use Rattle.reading.specs.declared.answer.Flat.{Flat}
use Rattle.reading.specs.declared.answer.FlattenError.{FlattenError}
use Rattle.reading.specs.declared.answer.FlattenError.TheVariants.{BadGlobals, BadLocals, Refused, NoRoom}

pub record Flattening : Type 0 where
  pub size : ℕ
  pub tokens : ℕ
  pub advance : Option Operand

-- ---- the answer of a run, and what it leaves in the room

abbrev pub flat_of : Run → List ℕ
flat_of r = flat (struck r.state.shown)

-- the flat string; its length, the tokens and the advance width
abbrev pub flat_ready : Run → Ready Flattening
flat_ready r =
    let n = length (flat_of r) in
    record { bytes = flat_of r; told = record { size = n; tokens = tokens r; advance = r.state.left.advance }; short = needing_at n (tokens r) }

-- what comes with a charstring's refusal: the tokens with 3 to 12, and nothing with a later number
abbrev pub comes_with : ℕ → ℕ → Values
comes_with k t = cond (leb k 12) (at_token t) alone

-- by how a run ended: 16 where it came to its end without an endchar that the rules want
unfoldable pub ready_by : Rules → Run → Ending → Answer (Ready Flattening)
ready_by rules r back = cond rules.finished (refused 16 (comes_with 16 (tokens r))) (accepted (flat_ready r))
ready_by rules r ended = accepted (flat_ready r)
ready_by rules r (stopped k) = refused k (comes_with k (tokens r))

-- and so the rules judge a run
unfoldable pub judged : Rules → Run → Answer (Ready Flattening)
judged rules r = ready_by rules r r.how

abbrev pub told_in : Answer (Ready Flattening) → Answer Flattening
told_in = mapped (λ (x : Ready Flattening). x.told)

-- the verdict on it, whatever the room
unfoldable pub verdict : Rules → Run → Answer Flattening
verdict rules r = told_in (judged rules r)

-- and with room
unfoldable pub outcome : Rules → List ℕ → Run → Outcome (Answer Flattening)
outcome rules out r = into out (judged rules r)

-- ---- flattening: both lists are looked at first

-- refused with k unless the list is well formed, and its own refusal is the reason; with what such an answer leaves
unfoldable pub list_gate : {A : Type 0} → (Answer Flattening → A) → ℕ → Answer ℕ → A → A
list_gate left k (accepted n) then = then
list_gate left k (refused j v) then = left (refused k (because j v))

-- the room as lent
abbrev pub room_as_lent : List ℕ → Answer Flattening → Outcome (Answer Flattening)
room_as_lent out x = leaving x out

unfoldable pub flattening : Rules → List ℕ → List ℕ → List ℕ → ℕ → List ℕ → Outcome (Answer Flattening)
flattening rules cs globals locals budget out =
    list_gate (room_as_lent out) 1 (formation rules.width globals)
    (list_gate (room_as_lent out) 2 (formation rules.width locals)
    (outcome rules out (original rules cs globals locals budget)))

-- ---- what the enums say

abbrev pub number_of : Refusal → ℕ
number_of BudgetSpent = 3
number_of BytesLacking = 4
number_of TooManyOperands = 5
number_of UnknownOperator = 6
number_of NoIndex = 7
number_of IndexNotLast = 8
number_of NoEntry = 9
number_of TooDeep = 10
number_of TooManyHints = 11
number_of Composite = 12
number_of OperandsAtMask = 15
number_of NoEndchar = 16

-- a charstring's refusal: its number, and what comes with it
abbrev pub stop_number : Stopped → ℕ
stop_number (At k t) = number_of k
stop_number (Alone k) = number_of k

abbrev pub stop_values : Stopped → Values
stop_values (At k t) = at_token t
stop_values (Alone k) = alone

abbrev pub flattened : Result Flat FlattenError → Answer Flattening
flattened (Ok x) = accepted (record { size = x.length; tokens = x.tokens; advance = x.advance })
flattened (Err (BadGlobals f)) = refused 1 (because (reason_of f) (reason_at f))
flattened (Err (BadLocals f)) = refused 2 (because (reason_of f) (reason_at f))
flattened (Err (Refused w)) = refused (stop_number w) (stop_values w)
flattened (Err (NoRoom n t)) = refused 13 (needing_at n t)

-- the number of a refusal
abbrev pub flatten_refusal : FlattenError → ℕ
flatten_refusal e = number_in (flattened (Err e))
