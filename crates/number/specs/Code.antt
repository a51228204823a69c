-- What the private functions of src promise each other. No public contract cites this file.
use Rattle.std.specs.Prelude.{Option, Some, None, ℕ, ◌+◌, Bool, true, false, cond, List, ◌++◌, ltb, pos, length, drop}
use Rattle.number.specs.Answer.{Answer, accepted, refused, alone, Outcome, sized, into}
use Rattle.number.specs.Call.{nearest, counts}
use Rattle.number.specs.Number.{Found, row, no_row, operand_by}
use Rattle.number.specs.Written.{bytes}
use Rattle.number.specs.declared.Operand.TheVariants.{Integer}
use Rattle.number.specs.declared.Operand.{Operand}
use Rattle.number.specs.declared.write.Form.{Form}

-- ---- reading: what is asked of a first byte

unfoldable pub after_of : Found → Option ℕ
after_of (row r) = Some r.after
after_of no_row = None

unfoldable pub width_of : Found → ℕ
width_of (row r) = r.after
width_of no_row = 0

unfoldable pub operand_of : Found → ℕ → ℕ → Operand
operand_of (row r) b v = operand_by r b v
operand_of no_row b v = Integer (pos 0)

-- ---- writing: whether a form was stored, and what is left in the room

pub record Kept : Type 0 where
  pub done : Bool
  pub left : List ℕ

abbrev pub kept : Bool → List ℕ → Kept
kept t l = record { done = t; left = l }

unfoldable pub store_form : Form → List ℕ → Kept
store_form f out = cond (ltb f.after (length out)) (kept true (bytes f ++ drop (f.after + 1) out)) (kept false out)

-- what storing a form answers and leaves
unfoldable pub form_stored : Form → List ℕ → Outcome (Answer ℕ)
form_stored f out = into out (accepted (sized (bytes f)))

-- ---- calling: a magnitude

-- how many units of 65536 m counts as, or 7
unfoldable pub units : Bool → ℕ → Answer ℕ
units exact m = cond (counts exact m) (accepted (nearest m)) (refused 7 alone)

abbrev pub part_of : Option ℕ → Answer ℕ
part_of (Some q) = accepted q
part_of None = refused 7 alone
