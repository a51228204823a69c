-- The flat string (RULES, "Tokens and items", "How a charstring runs"; TN5177, section 3): its bytes, and its reading straight through.
use Rattle.std.specs.Prelude.{ℕ, zero, suc, Bool, true, false, cond, List, [], ◌∷◌, ◌++◌, length, take, drop}
use Rattle.number.specs.Number.{charstring_rows}
use Rattle.number.specs.Written.{spelling}
use Rattle.reading.specs.Rules.{Rules}
use Rattle.reading.specs.Tokens.{number, operator, Cut, token, lacking, cut}
use Rattle.reading.specs.Items.{Item, operand, bare, masked, at_mask, left_by}
use Rattle.reading.specs.declared.operator.Operator.{Operator}
use Rattle.reading.specs.declared.operator.Operator.TheVariants.{OneByte, TwoByte}
use Rattle.reading.specs.declared.operator.Kind.{Kind}
use Rattle.reading.specs.declared.operator.Kind.TheVariants.{Stem, Clear, Mask, Call, Return, End, Unknown}

-- ---- items spelled

abbrev pub operator_bytes : Operator → List ℕ
operator_bytes (OneByte b) = b ∷ []
operator_bytes (TwoByte b) = 12 ∷ b ∷ []

-- an integer in its shortest form, a Fixed in five bytes
unfoldable pub spelled : Item → List ℕ
spelled (operand o) = spelling charstring_rows o
spelled (bare p) = operator_bytes p
spelled (masked p m) = operator_bytes p ++ m

-- the bytes of items of which the latest stands first
unfoldable pub flat : List Item → List ℕ
flat [] = []
flat (i ∷ f) = flat f ++ spelled i

-- ---- bytes read straight through: calls and returns are shown as the operators that they are, and nothing is followed

-- what is shown, the latest first, and the bytes that cannot be cut
pub record Straight : Type 0 where
  pub items : List Item
  pub rest : List ℕ

abbrev pub is_mask : Kind → Bool
is_mask Mask = true
is_mask Stem = false
is_mask Clear = false
is_mask (Call which) = false
is_mask Return = false
is_mask End = false
is_mask Unknown = false

-- an operator that is shown behind the items f, with the bytes of a mask
abbrev pub shown_behind : Rules → List Item → Operator → List ℕ → Straight
shown_behind rules f p rest =
    let n = (at_mask (left_by rules f)).mask in
    cond (is_mask (rules.kind p))
    (record { items = masked p (take n rest) ∷ f; rest = drop n rest })
    (record { items = bare p ∷ f; rest = rest })

module _ (rules : Rules) where
  unfoldable pub behind : (List Item → List ℕ → Straight) → List Item → List ℕ → Cut → Straight
  behind on f bytes lacking = record { items = f; rest = bytes }
  behind on f bytes (token (number o) rest) = on (operand o ∷ f) rest
  behind on f bytes (token (operator p) rest) = let x = shown_behind rules f p rest in on x.items x.rest

  unfoldable pub straight_from : ℕ → List Item → List ℕ → Straight
  straight_from zero f bytes = record { items = f; rest = bytes }
  straight_from (suc fuel) f [] = record { items = f; rest = [] }
  straight_from (suc fuel) f (b ∷ bs) = behind (λ g more. straight_from fuel g more) f (b ∷ bs) (cut (b ∷ bs))

  -- bytes from the start
  unfoldable pub straight : List ℕ → Straight
  straight bytes = straight_from (length bytes) [] bytes
