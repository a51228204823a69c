-- Numbers written (RULES, "Numbers"): in the first row of the table that has the operand, and so in the shortest form (`shortest` of RoundTripLaws.antt).
use Rattle.std.specs.Prelude.{◌≡◌, Option, Some, None, Result, Ok, Err, ℕ, ◌+◌, ◌-◌, ◌*◌, ◌/◌, ◌%◌, ◌^◌, Bool, true, false}
use Rattle.std.specs.Prelude.{cond, not}
use Rattle.std.specs.Prelude.{◌&&◌, List, [], ◌∷◌, ℤ, pos, nat_abs, ◌+ℤ◌}
use Rattle.std.specs.Int.Signed.{le_z}
use Rattle.number.specs.Answer.{Answer, number_in, accepted, refused, alone, needing, mapped, Outcome, sized, into}
use Rattle.number.specs.BigEndian.{bytes_of}
use Rattle.number.specs.Signed.{unsigned}
use Rattle.number.specs.Number.{Value, near, above, below, twos, Row, rows_of}
use Rattle.number.specs.Operand.{is_fixed, value_in}
use Rattle.number.specs.declared.Operand.TheVariants.{Integer}
use Rattle.number.specs.declared.Operand.{Operand}
use Rattle.number.specs.declared.write.Form.{Form}
use Rattle.number.specs.declared.write.NoRoom.{NoRoom}
use Rattle.number.specs.declared.write.WriteError.{WriteError}
use Rattle.number.specs.declared.write.WriteError.TheVariants.{NoRoom as Short, Outside}

abbrev pub integer : ℤ → Operand
integer z = Integer z

abbrev pub same : Bool → Bool → Bool
same true b = b
same false b = not b

-- whether a row has an operand: of its kind, from its lowest to its highest value
abbrev pub has : Row → Operand → Bool
has r o = same r.fixed (is_fixed o) && (le_z r.low (value_in o) && le_z (value_in o) r.high)

-- a first byte, and `after` bytes of a number behind it
abbrev pub form : ℕ → ℕ → ℕ → Form
form b k v = record { first = b; after = k; rest = v }

-- a value in two bytes, d past 108 from zero
abbrev pub pair : Row → ℕ → Form
pair r d = form (r.first + d / 256) r.after (d % 256)

-- the form that a row gives a value it has
unfoldable pub form_by : Value → Row → ℤ → Form
form_by near r z = form (nat_abs (z +ℤ pos 139)) r.after 0
form_by above r z = pair r (nat_abs z - 108)
form_by below r z = pair r (nat_abs z - 108)
form_by twos r z = form r.first r.after (unsigned (2 ^ (8 * r.after - 1)) z)

-- the form that a table gives an operand, or 17
unfoldable pub spell : List Row → Operand → Answer Form
spell [] o = refused 17 alone
spell (r ∷ rs) o = cond (has r o) (accepted (form_by r.value r (value_in o))) (spell rs o)

unfoldable pub bytes : Form → List ℕ
bytes f = f.first ∷ bytes_of f.after f.rest

-- the bytes that an operand is written in; none where no row has it
unfoldable pub bytes_by : Answer Form → List ℕ
bytes_by (accepted f) = bytes f
bytes_by (refused n v) = []

-- the bytes that a table gives an operand
unfoldable pub spelling : List Row → Operand → List ℕ
spelling rows o = bytes_by (spell rows o)

-- a row of the table has the operand
pub record Spellable (dict : Bool) (o : Operand) : Type 0 where
  pub form : Form
  pub is : accepted form ≡ spell (rows_of dict) o

-- what writing an operand answers and leaves
unfoldable pub write : List Row → Operand → List ℕ → Outcome (Answer ℕ)
write rows o out = into out (mapped (λ (f : Form). sized (bytes f)) (spell rows o))

-- what a form and writing answer
abbrev pub coded : Option Form → Answer Form
coded (Some f) = accepted f
coded None = refused 17 alone

abbrev pub number_written : Result ℕ WriteError → Answer ℕ
number_written (Ok n) = accepted n
number_written (Err (Short n)) = refused 13 (needing n)
number_written (Err Outside) = refused 17 alone

abbrev pub integer_written : Result ℕ NoRoom → Answer ℕ
integer_written (Ok n) = accepted n
integer_written (Err e) = refused 13 (needing e.0)

-- the numbers of the refusals
abbrev pub number_refusal : WriteError → ℕ
number_refusal e = number_in (number_written (Err e))

abbrev pub integer_refusal : NoRoom → ℕ
integer_refusal e = number_in (integer_written (Err e))
