-- Hint masks by TN5177 alone (section 4.3), not by RULES: a stem operator declares a hint for every two operands before it; operands that wait at the
-- first mask are vertical stems whose operator was left out; and a mask has a bit for each hint declared, in whole bytes.
use Rattle.std.specs.Prelude.{ℕ, suc, ◌+◌, ◌/◌, ◌≡◌, Bool, true, false, cond, List, [], ◌∷◌, length, eqb}
use Rattle.reading.specs.Rules.{Rules}
use Rattle.reading.specs.Items.{Item, operand, bare, masked}
use Rattle.reading.specs.declared.operator.Kind.{Kind}
use Rattle.reading.specs.declared.operator.Kind.TheVariants.{Stem, Clear, Mask, Call, Return, End, Unknown}

abbrev pub is_stem : Kind → Bool
is_stem Stem = true
is_stem Clear = false
is_stem Mask = false
is_stem (Call which) = false
is_stem Return = false
is_stem End = false
is_stem Unknown = false

-- how many operands stand behind the last operator
unfoldable pub waiting : List Item → ℕ
waiting [] = 0
waiting (operand o ∷ f) = suc (waiting f)
waiting (bare p ∷ f) = 0
waiting (masked p m ∷ f) = 0

-- whether a mask with bytes stands among the items
unfoldable pub has_mask : List Item → Bool
has_mask [] = false
has_mask (operand o ∷ f) = has_mask f
has_mask (bare p ∷ f) = has_mask f
has_mask (masked p m ∷ f) = cond (eqb (length m) 0) (has_mask f) true

-- the hints that items declare
unfoldable pub declared : Rules → List Item → ℕ
declared rules [] = 0
declared rules (operand o ∷ f) = declared rules f
declared rules (bare p ∷ f) = cond (is_stem (rules.kind p)) (declared rules f + waiting f / 2) (declared rules f)
declared rules (masked p m ∷ f) = cond (has_mask f) (declared rules f) (declared rules f + waiting f / 2)

-- how many bytes a mask has that stands behind the items f
unfoldable pub mask_bytes : Rules → List Item → ℕ
mask_bytes rules f = (cond (has_mask f) (declared rules f) (declared rules f + waiting f / 2) + 7) / 8

-- no operand waits at a mask behind one with bytes: only before it may they, as stems
abbrev pub CleanMasks : List Item → Type 0
CleanMasks [] = Unit {0}
CleanMasks (operand o ∷ f) = CleanMasks f
CleanMasks (bare p ∷ f) = CleanMasks f
CleanMasks (masked p m ∷ f) = (has_mask f ≡ true → waiting f ≡ 0) × CleanMasks f

-- TN5177 has all stems before the first mask: no stem operator behind a mask with bytes
abbrev pub StemsFirst : Rules → List Item → Type 0
StemsFirst rules [] = Unit {0}
StemsFirst rules (operand o ∷ f) = StemsFirst rules f
StemsFirst rules (bare p ∷ f) = (is_stem (rules.kind p) ≡ true → has_mask f ≡ false) × StemsFirst rules f
StemsFirst rules (masked p m ∷ f) = StemsFirst rules f

-- each mask has as many bytes as the note says
abbrev pub ByNote : Rules → List Item → Type 0
ByNote rules [] = Unit {0}
ByNote rules (operand o ∷ f) = ByNote rules f
ByNote rules (bare p ∷ f) = ByNote rules f
ByNote rules (masked p m ∷ f) = (length m ≡ mask_bytes rules f) × ByNote rules f
