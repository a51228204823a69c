-- An operand's kind and value.
use Rattle.std.specs.Prelude.{ℕ, ℤ, Bool, true, false, List, ◌++◌, codes}
use Rattle.std.specs.Fmt.{signed_decimal}
use Rattle.number.specs.declared.Operand.{Operand}
use Rattle.number.specs.declared.Operand.TheVariants.{Integer, Fixed}

abbrev pub is_fixed : Operand → Bool
is_fixed (Integer z) = false
is_fixed (Fixed z) = true

-- an integer, or how many 65536ths a Fixed is
abbrev pub value_in : Operand → ℤ
value_in (Integer z) = z
value_in (Fixed z) = z

-- an operand by its kind and value
abbrev pub operand_as : Bool → ℤ → Operand
operand_as false z = Integer z
operand_as true z = Fixed z

-- what is printed of an operand: `5`, or `327680/65536`
abbrev pub shown : Operand → List ℕ
shown (Integer z) = signed_decimal z
shown (Fixed z) = signed_decimal z ++ codes "/65536"
