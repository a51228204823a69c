-- The numbers of charstrings and DICTs (TN5176, section 4, Table 3; TN5177, section 3.2, Table 1; RULES, "Numbers"): a table of data, and its reader.
use Rattle.std.specs.Prelude.{Result, Ok, Err, ℕ, ◌+◌, ◌-◌, ◌*◌, ◌^◌, Bool, true, false, cond, ◌&&◌, List, [], ◌∷◌, ◌++◌, ℤ}
use Rattle.std.specs.Prelude.{pos, neg_ℤ, length, get_or, leb, ltb, eqb}
use Rattle.std.proofs.Math.IntN.{sub_ℕ}
use Rattle.number.specs.Answer.{Answer, accepted, refused, alone, number_in}
use Rattle.number.specs.BigEndian.{be_at}
use Rattle.number.specs.Signed.{signed}
use Rattle.number.specs.Operand.{operand_as}
use Rattle.number.specs.declared.Operand.{Operand}
use Rattle.number.specs.declared.read.ReadError.{ReadError}
use Rattle.number.specs.declared.read.ReadError.TheVariants.{Lacking, NoNumber}

-- How a value goes by the first byte b and by the number v that the bytes after it are:
pub data Value : Type 0 where
  near : Value  -- b - 139
  above : Value  -- (b - first) * 256 + v + 108
  below : Value  -- -(b - first) * 256 - v - 108
  twos : Value  -- v, in two's complement

-- A row: first bytes from `first` to `last`, then `after` bytes; an integer, or a Fixed; the values from `low` to `high`.
pub record Row : Type 0 where
  pub first : ℕ
  pub last : ℕ
  pub after : ℕ
  pub fixed : Bool
  pub value : Value
  pub low : ℤ
  pub high : ℤ

abbrev minus : ℕ → ℤ
minus n = neg_ℤ (pos n)

abbrev pub row32 : Row
row32 = record { first = 32; last = 246; after = 0; fixed = false; value = near; low = minus 107; high = pos 107 }

abbrev pub row247 : Row
row247 = record { first = 247; last = 250; after = 1; fixed = false; value = above; low = pos 108; high = pos 1131 }

abbrev pub row251 : Row
row251 = record { first = 251; last = 254; after = 1; fixed = false; value = below; low = minus 1131; high = minus 108 }

abbrev pub row28 : Row
row28 = record { first = 28; last = 28; after = 2; fixed = false; value = twos; low = minus 32768; high = pos 32767 }

abbrev pub row29 : Row
row29 = record { first = 29; last = 29; after = 4; fixed = false; value = twos; low = minus 2147483648; high = pos 2147483647 }

abbrev pub row255 : Row
row255 = record { first = 255; last = 255; after = 4; fixed = true; value = twos; low = minus 2147483648; high = pos 2147483647 }

-- the integers that a charstring and a DICT share, the shortest first
unfoldable pub integer_rows : List Row
integer_rows = row32 ∷ row247 ∷ row251 ∷ row28 ∷ []

-- a DICT has 29 besides, and a charstring 255
abbrev pub last_row : Bool → Row
last_row true = row29
last_row false = row255

-- the table of a DICT (true) or of a charstring (false)
unfoldable pub rows_of : Bool → List Row
rows_of dict = integer_rows ++ (last_row dict ∷ [])

abbrev pub charstring_rows : List Row
charstring_rows = rows_of false

abbrev pub dict_rows : List Row
dict_rows = rows_of true

-- ---- reading

pub data Found : Type 0 where
  row : Row → Found
  no_row : Found

-- whether the first byte b is on a row
abbrev pub on : ℕ → Row → Bool
on b r = leb r.first b && leb b r.last

-- the row of the first byte b
unfoldable pub row_of : ℕ → List Row → Found
row_of b [] = no_row
row_of b (r ∷ rs) = cond (on b r) (row r) (row_of b rs)

-- how far from zero a value of two bytes is
abbrev pub pair_of : ℕ → ℕ → ℕ → ℕ
pair_of first b v = (b - first) * 256 + v + 108

unfoldable pub value_by : Value → Row → ℕ → ℕ → ℤ
value_by near r b v = sub_ℕ b 139
value_by above r b v = pos (pair_of r.first b v)
value_by below r b v = neg_ℤ (pos (pair_of r.first b v))
value_by twos r b v = signed (2 ^ (8 * r.after - 1)) v

abbrev pub operand_by : Row → ℕ → ℕ → Operand
operand_by r b v = operand_as r.fixed (value_by r.value r b v)

-- A number that was read: the operand, and how many bytes it is.
pub record Number : Type 0 where
  pub operand : Operand
  pub width : ℕ

-- the number at the start of s, whose first byte has the row given
unfoldable pub number_by : Found → List ℕ → Answer Number
number_by no_row s = refused 6 alone
number_by (row r) s =
    cond (ltb r.after (length s))
    (accepted (record { operand = operand_by r (get_or s 0 0) (be_at s 1 r.after); width = r.after + 1 }))
    (refused 4 alone)

-- the number at the start of s
unfoldable pub read_by : List Row → List ℕ → Answer Number
read_by rows s = cond (eqb (length s) 0) (refused 4 alone) (number_by (row_of (get_or s 0 0) rows) s)

-- what reading a number answers
abbrev pub number_read : Result (Operand × ℕ) ReadError → Answer Number
number_read (Ok x) = accepted (record { operand = x.0; width = x.1 })
number_read (Err Lacking) = refused 4 alone
number_read (Err NoNumber) = refused 6 alone

-- the number of a refusal
abbrev pub read_refusal : ReadError → ℕ
read_refusal e = number_in (number_read (Err e))
