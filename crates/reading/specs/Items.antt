-- Items, which a flat string is made of, and what they leave behind: the operands that wait, the hints, the mask length and the advance
-- width (RULES, "How a charstring runs", "The advance width"; TN5177, sections 4 and 4.3).
use Rattle.std.specs.Prelude.{ℕ, ◌+◌, ◌/◌, ◌%◌, Bool, true, false, cond, ◌&&◌, List, [], ◌∷◌, length, drop, eqb, ltb}
use Rattle.std.specs.Prelude.{Option, Some, None}
use Rattle.number.specs.declared.Operand.{Operand}
use Rattle.reading.specs.Rules.{Rules}
use Rattle.reading.specs.declared.operator.Operator.{Operator}
use Rattle.reading.specs.declared.operator.Takes.{Takes}
use Rattle.reading.specs.declared.operator.Takes.TheVariants.{Pairs, UpTo, All}
use Rattle.reading.specs.declared.operator.Kind.{Kind}
use Rattle.reading.specs.declared.operator.Kind.TheVariants.{Stem, Clear, Mask, Call, Return, End, Unknown}

-- an operand, an operator, or a mask operator with its bytes
pub data Item : Type 0 where
  operand : Operand → Item
  bare : Operator → Item
  masked : Operator → List ℕ → Item

pub record Left : Type 0 where
  pub operands : List Operand  -- the latest first
  pub hints : ℕ
  pub mask : ℕ  -- the mask length, which is 0 until a mask fixes it
  pub settled : Bool  -- whether an operator that clears the stack was there, which settles the advance width
  pub advance : Option Operand

abbrev pub nothing : Left
nothing = record { operands = []; hints = 0; mask = 0; settled = false; advance = None }

-- ---- operands, hints and masks

abbrev pub holding : List Operand → Left → Left
holding ops x = record { operands = ops; hints = x.hints; mask = x.mask; settled = x.settled; advance = x.advance }

abbrev pub pushed : Operand → Left → Left
pushed o x = holding (o ∷ x.operands) x

abbrev pub popped : Left → Left
popped x = holding (drop 1 x.operands) x

abbrev pub cleared : Left → Left
cleared x = holding [] x

-- two operands declare a hint
abbrev pub hints_with : Left → ℕ
hints_with x = x.hints + length x.operands / 2

abbrev pub counted : Left → Left
counted x = record { operands = []; hints = hints_with x; mask = x.mask; settled = x.settled; advance = x.advance }

abbrev pub first_mask : Left → Left
first_mask x = record { operands = []; hints = hints_with x; mask = (hints_with x + 7) / 8; settled = x.settled; advance = x.advance }

-- while the length is 0 a mask counts hints as a stem does, and fixes it; afterwards it changes nothing, and the operands stay
abbrev pub at_mask : Left → Left
at_mask x = cond (eqb x.mask 0) (first_mask x) x

-- whether operands wait at a mask whose length is fixed, against the rules
abbrev pub left_over : Rules → Left → Bool
left_over rules x = rules.clean && (ltb 0 x.mask && ltb 0 (length x.operands))

-- ---- the advance width

-- whether n operands are more than an operator takes itself
abbrev pub spare : Takes → ℕ → Bool
spare Pairs n = eqb (n % 2) 1
spare (UpTo k) n = ltb k n
spare All n = false

-- the bottom one of the operands that wait
unfoldable pub bottom : List Operand → Option Operand
bottom [] = None
bottom (o ∷ []) = Some o
bottom (o ∷ p ∷ ops) = bottom (p ∷ ops)

abbrev pub said : Takes → List Operand → Option Operand
said takes ops = cond (spare takes (length ops)) (bottom ops) None

-- what y is behind an operator that found x: the first one settles the width, and a later one lets it be
abbrev pub settling : Takes → Left → Left → Left
settling takes x y =
    record {
      operands = y.operands;
      hints = y.hints;
      mask = y.mask;
      settled = true;
      advance = cond x.settled x.advance (said takes x.operands);
    }

-- ---- items

-- what an operator leaves, by its kind and by how many operands it takes
unfoldable pub by_kind : Takes → Kind → Left → Left
by_kind takes Stem x = settling takes x (counted x)
by_kind takes Clear x = settling takes x (cleared x)
by_kind takes Mask x = settling takes x (at_mask x)
by_kind takes (Call which) x = popped x
by_kind takes Return x = x
by_kind takes End x = settling takes x x
by_kind takes Unknown x = x

-- what an item leaves of what was there
unfoldable pub leaves : Rules → Item → Left → Left
leaves rules (operand o) x = pushed o x
leaves rules (bare p) x = by_kind (rules.takes p) (rules.kind p) x
leaves rules (masked p m) x = settling (rules.takes p) x (at_mask x)

-- of items of which the latest stands first
unfoldable pub left_by : Rules → List Item → Left
left_by rules [] = nothing
left_by rules (i ∷ f) = leaves rules i (left_by rules f)

-- the advance width that they say
abbrev pub advance_in : Rules → List Item → Option Operand
advance_in rules f = (left_by rules f).advance
