-- Valid items, which a flat string is made of: what a run leaves once calls and returns are struck out, and the invariant behind demand 3.
use Rattle.std.specs.Prelude.{◌≡◌, false, List, [], ◌∷◌, ◌++◌, ℕ, ◌<◌, ◌≤◌, length, drop}
use Rattle.number.specs.Written.{Spellable}
use Rattle.number.specs.declared.Operand.{Operand}
use Rattle.reading.specs.Rules.{Rules}
use Rattle.reading.specs.Lists.{Lists, present, listed}
use Rattle.reading.specs.Tokens.{operator, token, cut, Bytes}
use Rattle.reading.specs.Items.{Item, operand, bare, masked, counted, at_mask, left_over, left_by}
use Rattle.reading.specs.Reading.{Shown, item, call, return, struck, State, Ending, back, ended, stopped}
use Rattle.reading.specs.Flat.{operator_bytes}
use Rattle.reading.specs.declared.operator.Operator.{Operator}
use Rattle.reading.specs.declared.operator.Which.{Which}
use Rattle.reading.specs.declared.operator.Kind.TheVariants.{Stem, Clear, Mask, End}

-- the entries of both lists are bytes
abbrev pub ByteLists : Lists → Type 0
ByteLists lists = (which : Which) (k : ℕ) (body : List ℕ) → (listed lists which).entry k ≡ present body → Bytes body

-- an operator is cut from its own bytes, whatever follows
abbrev pub Cuttable : Operator → Type 0
Cuttable p = (rest : List ℕ) → cut (operator_bytes p ++ rest) ≡ token (operator p) rest

-- ---- valid items, of which the latest stands first

pub data Valid (rules : Rules) : List Item → Type 0 where
  none : Valid rules []
  number_behind : (o : Operand) (f : List Item) → Spellable false o → length (left_by rules f).operands < rules.operands → Valid rules f
      → Valid rules (operand o ∷ f)
  stem_behind : (p : Operator) (f : List Item) → Cuttable p → rules.kind p ≡ Stem → (counted (left_by rules f)).hints ≤ rules.hints → Valid rules f
      → Valid rules (bare p ∷ f)
  clear_behind : (p : Operator) (f : List Item) → Cuttable p → rules.kind p ≡ Clear → Valid rules f → Valid rules (bare p ∷ f)
  mask_behind : (p : Operator) (m : List ℕ) (f : List Item) → Cuttable p → rules.kind p ≡ Mask → left_over rules (left_by rules f) ≡ false
      → (at_mask (left_by rules f)).hints ≤ rules.hints → length m ≡ (at_mask (left_by rules f)).mask → Valid rules f
      → Valid rules (masked p m ∷ f)

-- what a run leaves that came to its end, by how: valid items, or an endchar behind them
pub data Whole (rules : Rules) : Ending → List Item → Type 0 where
  open_ended : (f : List Item) → Valid rules f → Whole rules back f
  end_behind : (p : Operator) (f : List Item) → Cuttable p → rules.kind p ≡ End → length (left_by rules f).operands < 4 → Valid rules f
      → Whole rules ended (bare p ∷ f)

-- each call struck out the operand that it took
abbrev pub Taken : List Shown → Type 0
Taken [] = Unit {0}
Taken (item i ∷ h) = Taken h
Taken (call c ∷ h) = (struck h ≡ operand c.index ∷ drop 1 (struck h)) × Taken h
Taken (return ∷ h) = Taken h

-- ---- the invariant

pub record Good (rules : Rules) (s : State) : Type 0 where
  pub agree : left_by rules (struck s.shown) ≡ s.left
  pub valid : Valid rules (struck s.shown)
  pub taken : Taken s.shown

pub record Ended (rules : Rules) (s : State) : Type 0 where
  pub agree : left_by rules (struck s.shown) ≡ s.left
  pub whole : Whole rules ended (struck s.shown)
  pub taken : Taken s.shown

abbrev pub Ends : Rules → Ending → State → Type 0
Ends rules back s = Good rules s
Ends rules ended s = Ended rules s
Ends rules (stopped n) s = Good rules s
