-- The advance width by its place in a flat string, without a state that is settled: the operands that stand before the first operator are that
-- operator's, and where they are more than it takes, the first of them is the width. The table of what operators take is that of Rules.antt.
use Rattle.std.specs.Prelude.{Option, None, Bool, true, false, cond, List, [], ◌∷◌}
use Rattle.number.specs.declared.Operand.{Operand}
use Rattle.reading.specs.Rules.{Rules}
use Rattle.reading.specs.Items.{Item, operand, bare, masked, said}
use Rattle.reading.specs.declared.operator.Operator.{Operator}

-- whether no operator stands among the items
unfoldable pub no_operator : List Item → Bool
no_operator [] = true
no_operator (operand o ∷ f) = no_operator f
no_operator (bare p ∷ f) = false
no_operator (masked p m ∷ f) = false

-- the operands behind the last operator
unfoldable pub last_operands : List Item → List Operand
last_operands [] = []
last_operands (operand o ∷ f) = o ∷ last_operands f
last_operands (bare p ∷ f) = []
last_operands (masked p m ∷ f) = []

-- what items say up to an operator p that stands behind f, where those before it say w
abbrev pub noted_at : Rules → Operator → List Item → Option Operand → Option Operand
noted_at rules p f w = cond (no_operator f) (said (rules.takes p) (last_operands f)) w

unfoldable pub noted : Rules → List Item → Option Operand
noted rules [] = None
noted rules (operand o ∷ f) = noted rules f
noted rules (bare p ∷ f) = noted_at rules p f (noted rules f)
noted rules (masked p m ∷ f) = noted_at rules p f (noted rules f)
