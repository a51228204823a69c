-- The call-following reading: what a charstring with its two lists means (TN5177; RULES, "How a charstring runs").
-- Below, rest is the bytes that are still to be read, and s the state before a token, which a refusal keeps.
use Rattle.std.specs.Prelude.{ℕ, zero, suc, ◌+◌, ◌-◌, Bool, true, false, cond, List, [], ◌∷◌, length, take, drop, eqb, leb, ltb}
use Rattle.number.specs.Answer.{Answer, accepted, refused, alone}
use Rattle.number.specs.Call.{callee}
use Rattle.number.specs.declared.Operand.{Operand}
use Rattle.reading.specs.Rules.{Rules}
use Rattle.reading.specs.Lists.{Lists, Subrs, Entry, present, absent, listed, lists_of}
use Rattle.reading.specs.Tokens.{number, operator, Cut, token, lacking, cut}
use Rattle.reading.specs.Items.{Item, operand, bare, masked, Left, nothing, popped, counted, at_mask, left_over, leaves}
use Rattle.reading.specs.declared.operator.Operator.{Operator}
use Rattle.reading.specs.declared.operator.Which.{Which}
use Rattle.reading.specs.declared.operator.Kind.{Kind}
use Rattle.reading.specs.declared.operator.Kind.TheVariants.{Stem, Clear, Mask, Call, Return, End, Unknown}

-- ---- what a reading shows: one for each token, the latest first

-- a call: the list and the entry that it enters, where its operator stands in the caller, and the operand that it takes
pub record Entering : Type 0 where
  pub list : Which
  pub entry : ℕ
  pub at : ℕ
  pub index : Operand

pub data Shown : Type 0 where
  item : Item → Shown
  call : Entering → Shown
  return : Shown

-- the items that are left once the calls, their index operands and the returns are struck out
unfoldable pub struck : List Shown → List Item
struck [] = []
struck (item i ∷ h) = i ∷ struck h
struck (call c ∷ h) = drop 1 (struck h)
struck (return ∷ h) = struck h

pub record State : Type 0 where
  pub left : Left
  pub shown : List Shown
  pub within : List Entering  -- the calls that are open, the innermost first

abbrev pub start : State
start = record { left = nothing; shown = []; within = [] }

-- ---- how a reading ends

-- back to the caller, by running out or by a return; all ended, by endchar; or refused, with a number
pub data Ending : Type 0 where
  back : Ending
  ended : Ending
  stopped : ℕ → Ending

-- a run that comes to its end: no token of it was refused
abbrev pub Accepted : Ending → Type 0
Accepted back = Unit {0}
Accepted ended = Unit {0}
Accepted (stopped n) = ⊥

pub record Run : Type 0 where
  pub how : Ending
  pub state : State

-- the tokens run: 3 is given before a token is begun, and any other refusal counts the token that it refuses
unfoldable pub tokens_by : ℕ → Ending → ℕ
tokens_by n back = n
tokens_by n ended = n
tokens_by n (stopped k) = cond (eqb k 3) n (n + 1)

abbrev pub tokens : Run → ℕ
tokens r = tokens_by (length r.state.shown) r.how

-- ---- one token

-- it ends the string; it leads on to the bytes behind it; or it leads to a subroutine's bytes first, and then to those
pub data Step : Type 0 where
  halt : Ending → State → Step
  go : List ℕ → State → Step
  enter : List ℕ → List ℕ → State → Step

abbrev pub refuse : ℕ → State → Step
refuse n s = halt (stopped n) s

-- the states behind an item, within an entry, behind a return, and back in the caller
abbrev pub shows : Rules → Item → State → State
shows rules i s = record { left = leaves rules i s.left; shown = item i ∷ s.shown; within = s.within }

abbrev pub called : Entering → State → State
called c s = record { left = popped s.left; shown = call c ∷ s.shown; within = c ∷ s.within }

abbrev pub returned : State → State
returned s = record { left = s.left; shown = return ∷ s.shown; within = s.within }

abbrev pub closed : State → State
closed s = record { left = s.left; shown = s.shown; within = drop 1 s.within }

-- whether the last item is an operand; it is then the one on top of the stack (`index_is_last` of ValidLaws.antt)
unfoldable pub ends_in_operand : List Item → Bool
ends_in_operand [] = false
ends_in_operand (operand o ∷ f) = true
ends_in_operand (bare p ∷ f) = false
ends_in_operand (masked p m ∷ f) = false

module _ (rules : Rules) (rest : List ℕ) (s : State) where
  -- 11 where the hints would pass their limit
  abbrev hinted : Left → Step → Step
  hinted x then = cond (leb x.hints rules.hints) then (refuse 11 s)

  unfoldable pub on_number : Operand → Step
  on_number o = cond (ltb (length s.left.operands) rules.operands) (go rest (shows rules (operand o) s)) (refuse 5 s)

  unfoldable pub on_stem : Operator → Step
  on_stem p = hinted (counted s.left) (go rest (shows rules (bare p) s))

  unfoldable pub on_mask : Operator → Step
  on_mask p =
      let x = at_mask s.left in
      let n = x.mask in
      cond (left_over rules s.left) (refuse 15 s)
      (hinted x
      (cond (leb n (length rest)) (go (drop n rest) (shows rules (masked p (take n rest)) s)) (refuse 4 s)))

  unfoldable pub on_end : Operator → Step
  on_end p = cond (ltb (length s.left.operands) 4) (halt ended (shows rules (bare p) s)) (refuse 12 s)

-- Whether a call enters: 9 where its entry is absent, 10 where no level is left, 8 where its index does not stand last in the flat string.
unfoldable pub admitted : {A : Type 0} → ℕ → Bool → Entry A → Answer A
admitted levels last absent = refused 9 alone
admitted levels last (present x) = cond (eqb levels 0) (refused 10 alone) (cond last (accepted x) (refused 8 alone))

unfoldable pub on_entry : List ℕ → State → Entering → Answer (List ℕ) → Step
on_entry rest s c (refused n v) = refuse n s
on_entry rest s c (accepted body) = enter body rest (called c s)

module _ (levels : ℕ) (rest : List ℕ) (s : State) where
  module _ (which : Which) (list : Subrs) (at : ℕ) where
    -- 7, or 9 for a number that is not below the count
    unfoldable pub on_index : Operand → Answer ℕ → Step
    on_index o (refused n v) = refuse n s
    on_index o (accepted k) =
        on_entry rest s (record { list = which; entry = k; at = at; index = o }) (admitted levels (ends_in_operand (struck s.shown)) (list.entry k))

    unfoldable pub on_call : Bool → List Operand → Step
    on_call exact [] = refuse 7 s
    on_call exact (o ∷ ops) = on_index o (callee exact list.count o)

module _ (rules : Rules) (lists : Lists) (levels at : ℕ) where
  unfoldable pub on_operator : List ℕ → State → Operator → Kind → Step
  on_operator rest s p Stem = on_stem rules rest s p
  on_operator rest s p Clear = go rest (shows rules (bare p) s)
  on_operator rest s p Mask = on_mask rules rest s p
  on_operator rest s p (Call which) = on_call levels rest s which (listed lists which) at rules.exact s.left.operands
  on_operator rest s p Return = halt back (returned s)
  on_operator rest s p End = on_end rules rest s p
  on_operator rest s p Unknown = refuse 6 s

  unfoldable pub on_cut : State → Cut → Step
  on_cut s lacking = refuse 4 s
  on_cut s (token (number o) rest) = on_number rules rest s o
  on_cut s (token (operator p) rest) = on_operator rest s p (rules.kind p)

-- the token at the start of bytes, which stands at `at`
unfoldable pub on_token : Rules → Lists → ℕ → ℕ → ℕ → List ℕ → State → Step
on_token rules lists budget levels at bytes s =
    cond (ltb (length s.shown) budget) (on_cut rules lists levels at s (cut bytes)) (refuse 3 s)

-- ---- a string

unfoldable pub resume : (State → Run) → Run → Ending → Run
resume on r back = on (closed r.state)
resume on r ended = r
resume on r (stopped n) = r

unfoldable pub after : (List ℕ → State → Run) → (List ℕ → State → Run) → Step → Run
after on below (halt e s) = record { how = e; state = s }
after on below (go rest s) = on rest s
after on below (enter body rest s) = let r : Run = below body s in resume (on rest) r r.how

module _ (rules : Rules) (lists : Lists) (budget : ℕ) where
  -- The tokens of a string of `size` bytes, of which rest are left; `below` runs a subroutine. Each token takes a byte at least, so that as
  -- much fuel as there are bytes is enough (`fuel_enough` of RunLaws.antt).
  unfoldable pub tokens_of : ℕ → (List ℕ → State → Run) → ℕ → ℕ → List ℕ → State → Run
  tokens_of levels below size zero rest s = record { how = back; state = s }
  tokens_of levels below size (suc fuel) [] s = record { how = back; state = s }
  tokens_of levels below size (suc fuel) (b ∷ bs) s =
      after (λ more t. tokens_of levels below size fuel more t) below
      (on_token rules lists budget levels (size - length (b ∷ bs)) (b ∷ bs) s)

  -- a string, with so many levels of calls left below it; at none a call is refused before it is followed
  unfoldable pub read : ℕ → List ℕ → State → Run
  read zero cs s = tokens_of zero (λ body t. record { how = stopped 10; state = t }) (length cs) (length cs) cs s
  read (suc levels) cs s = tokens_of (suc levels) (λ body t. read levels body t) (length cs) (length cs) cs s

  -- a charstring, from the start
  unfoldable pub reading : List ℕ → Run
  reading cs = read rules.levels cs start

-- the reading of a charstring whose lists are these bytes
abbrev pub original : Rules → List ℕ → List ℕ → List ℕ → ℕ → Run
original rules cs globals locals budget = reading rules (lists_of rules.width globals locals) budget cs
