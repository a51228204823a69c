-- Bytes cut into tokens: a number, or an operator with its escape byte (TN5177, 3.1, 3.2; RULES, "Tokens and items"). What a mask takes is not known here.
use Rattle.std.specs.Prelude.{ℕ, ◌<◌, cond, List, [], ◌∷◌, get_or, drop, eqb}
use Rattle.number.specs.Answer.{Answer, accepted, refused}
use Rattle.number.specs.Number.{Number, charstring_rows, read_by}
use Rattle.number.specs.declared.Operand.{Operand}
use Rattle.reading.specs.declared.operator.Operator.{Operator}
use Rattle.reading.specs.declared.operator.Operator.TheVariants.{OneByte, TwoByte}

-- the numbers of a list are bytes
abbrev pub Bytes : List ℕ → Type 0
Bytes s = (i : ℕ) → get_or s i 0 < 256

pub data Token : Type 0 where
  number : Operand → Token
  operator : Operator → Token

-- a token and the bytes behind it, or bytes are lacking
pub data Cut : Type 0 where
  token : Token → List ℕ → Cut
  lacking : Cut

-- the operator of the byte behind the escape byte
unfoldable pub escaped_at : List ℕ → Cut
escaped_at [] = lacking
escaped_at (b ∷ s) = token (operator (TwoByte b)) s

-- the operator at the start of bytes: 12 is the escape byte
unfoldable pub operator_at : List ℕ → Cut
operator_at [] = lacking
operator_at (b ∷ s) = cond (eqb b 12) (escaped_at s) (token (operator (OneByte b)) s)

-- a byte that starts no number, which is number reading's refusal 6, is an operator's
unfoldable pub cut_by : List ℕ → Answer Number → Cut
cut_by s (accepted x) = token (number x.operand) (drop x.width s)
cut_by s (refused n v) = cond (eqb n 6) (operator_at s) lacking

-- the token at the start of s
unfoldable pub cut : List ℕ → Cut
cut s = cut_by s (read_by charstring_rows s)
