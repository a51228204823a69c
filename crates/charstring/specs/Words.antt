-- What the code holds, in the reading's words.
use Rattle.std.specs.Prelude.{◌≡◌, Option, Some, None, Result, Ok, Err, Bool, true, false, cond, List, [], ◌∷◌, ℕ, zero, suc, ◌-◌, ◌/◌}
use Rattle.std.specs.Prelude.{◌%◌, ◌^◌}
use Rattle.std.specs.Prelude.{◌≤◌, ◌<◌, eqb, leb, ltb, pos, get_or, drop}
use Rattle.number.specs.Answer.{Answer, accepted, refused, alone}
use Rattle.number.specs.Signed.{signed}
use Rattle.number.specs.Call.{callee}
use Rattle.number.specs.Number.{Number as NumberAt, charstring_rows, read_by}
use Rattle.number.specs.Operand.{operand_as}
use Rattle.number.specs.declared.Operand.{Operand}
use Rattle.number.specs.declared.Operand.TheVariants.{Integer}
use Rattle.index.specs.Index.{Place, place}
use Rattle.reading.specs.Tokens.{number, operator, Cut, token, lacking}
use Rattle.reading.specs.Rules.{Rules}
use Rattle.reading.specs.Lists.{Entry, present, absent}
use Rattle.reading.specs.Reading.{admitted}
use Rattle.reading.specs.Answers.{number_of}
use Rattle.reading.specs.declared.refusal.Refusal.{Refusal}
use Rattle.reading.specs.declared.refusal.Refusal.TheVariants.{BytesLacking}
use Rattle.charstring.specs.declared.advance.Settled.{Settled}
use Rattle.charstring.specs.declared.advance.Settled.TheVariants.{Open, Default as NoWidth, Word}
use Rattle.charstring.specs.declared.state.State.{State}
use Rattle.charstring.specs.declared.token.Token.{Token}
use Rattle.charstring.specs.declared.token.Token.TheVariants.{Number, Operator}
use Rattle.charstring.specs.declared.subroutines.Target.{Target}

-- ---- a token that was cut

abbrev pub cut_of : List ℕ → Result Token Refusal → Cut
cut_of cs (Ok (Number next o)) = token (number o) (drop next cs)
cut_of cs (Ok (Operator next p)) = token (operator p) (drop next cs)
cut_of cs (Err k) = lacking

-- it ends after it starts, and within the string
abbrev pub Ahead : ℕ → ℕ → Result Token Refusal → Type 0
Ahead i n (Ok (Number next o)) = (i < next) × (next ≤ n)
Ahead i n (Ok (Operator next p)) = (i < next) × (next ≤ n)
Ahead i n (Err k) = k ≡ BytesLacking

-- ---- operands as words

unfoldable pub operand_in : Answer NumberAt → Operand
operand_in (accepted n) = n.operand
operand_in (refused k v) = Integer (pos 0)

-- the number that starts with these two bytes, which has one of them or both
unfoldable pub short_of : ℕ → ℕ → Operand
short_of b x = operand_in (read_by charstring_rows (b ∷ x ∷ []))

-- the operand that a word holds
unfoldable pub unpack_of : ℕ → Operand
unpack_of w =
    cond (ltb w 65536) (short_of (w % 256) (w / 256)) (operand_as (leb 8589934592 w) (signed (2 ^ 31) (w % 4294967296)))

-- the operands of the first n words, the latest first
unfoldable pub stack_of : List ℕ → ℕ → List Operand
stack_of l zero = []
stack_of l (suc n) = unpack_of (get_or l n 0) ∷ stack_of l n

-- the advance width by two numbers: 2 for the one that the word holds
abbrev pub said_by : ℕ → ℕ → Option Operand
said_by n w = cond (eqb n 2) (Some (unpack_of w)) None

-- and as an operator settles it
abbrev pub settled_as : Settled → Option Operand
settled_as Open = None
settled_as NoWidth = None
settled_as (Word w) = Some (unpack_of w)

abbrev pub is_settled : Settled → Bool
is_settled Open = false
is_settled NoWidth = true
is_settled (Word w) = true

-- and as the state holds it
abbrev pub held_by : State → Option Operand
held_by s = settled_as s.settled

-- ---- the entry that a call enters

abbrev pub as_entry : Answer Place → Entry Place
as_entry (accepted p) = present p
as_entry (refused n v) = absent

-- 9, 10, 8 in the reading's own order; `tail` counts the operands that stand last in the flat string
abbrev pub enterable : ℕ → ℕ → Answer Place → Answer Place
enterable levels tail x = admitted levels (ltb 0 tail) (as_entry x)

-- 7, or 9 for the number, before that
unfoldable pub aim_by : ℕ → List ℕ → ℕ → ℕ → Answer ℕ → Answer Place
aim_by w list levels tail (refused n v) = refused n alone
aim_by w list levels tail (accepted k) = enterable levels tail (place w list k)

unfoldable pub aimed : Rules → List ℕ → ℕ → Operand → ℕ → ℕ → Answer Place
aimed rules list count o levels tail = aim_by rules.width list levels tail (callee rules.exact count o)

abbrev pub target_of : Result Target Refusal → Answer Place
target_of (Ok t) = accepted (record { start = t.from; size = t.to - t.from })
target_of (Err k) = refused (number_of k) alone

-- an entry that is entered lies within the list
abbrev pub Inside : ℕ → Result Target Refusal → Type 0
Inside n (Ok t) = (t.from ≤ t.to) × (t.to ≤ n)
Inside n (Err k) = Unit {0}

-- and has the number that its index names
abbrev pub Names : Answer ℕ → Result Target Refusal → Type 0
Names x (Ok t) = x ≡ accepted t.entry
Names x (Err k) = Unit {0}
