-- The entry that a call enters. Assumes nothing.
use mathlib.Core.Path.{◌≡◌, subst}
use mathlib.Core.List.{List}
use Rattle.std.specs.Prelude.{Result}
use Rattle.reading.specs.declared.refusal.Refusal.{Refusal}
use Prim.Native.Nat.{ℕ, ◌+◌, ◌-◌}
use native.Mathlib.Nat.{add-sub_cancel_left}
use native.Mathlib.Omega.{arith}
use borrow.Author.Tests.{eq-eqb, ne_eqb, lt-ltb, le-ltb}
use Rattle.number.specs.Answer.{Values, Answer, accepted, refused, alone}
use Rattle.number.specs.Call.{callee}
use Rattle.number.specs.declared.Operand.{Operand}
use Rattle.index.specs.Index.{Place, place}
use Rattle.index.specs.Index.{lies}
use Rattle.reading.specs.Rules.{Rules}
use Rattle.reading.specs.Reading.{admitted}
use Rattle.charstring.specs.Words.{enterable, aim_by, aimed, Names}
use Rattle.charstring.specs.declared.subroutines.Target.{Target}

-- ---- an entry

pub no_entry : (levels tail n : ℕ) (v : Values) (x : Answer Place) → refused n v ≡ x → refused 9 alone ≡ enterable levels tail x
unfolding admitted
no_entry levels tail n v x e = rw (← e)

module _ (levels tail : ℕ) (start size : ℕ) (x : Answer Place) (e : lies start size ≡ x) where
  pub too_deep : levels ≡ 0 → refused 10 alone ≡ enterable levels tail x
  unfolding admitted
  too_deep h = rw (← e, eq-eqb levels 0 h)

  pub not_last : (levels ≡ 0 → ⊥) → tail ≡ 0 → refused 8 alone ≡ enterable levels tail x
  unfolding admitted
  not_last h k = rw (← e, ne_eqb levels 0 h, le-ltb 0 tail (omega arith))

  pub entered : (levels ≡ 0 → ⊥) → (tail ≡ 0 → ⊥) → accepted (record { start = start; size = start + size - start }) ≡ enterable levels tail x
  unfolding admitted
  entered h k = rw (← e, ne_eqb levels 0 h, lt-ltb 0 tail (omega arith), add-sub_cancel_left start size)

-- ---- the callee

module _ (rules : Rules) (list : List ℕ) (count : ℕ) (o : Operand) (levels tail : ℕ) where
  pub aimed_entry : (k : ℕ) → accepted k ≡ callee rules.exact count o → {x : Answer Place}
      → x ≡ enterable levels tail (place rules.width list k)
      → x ≡ aimed rules list count o levels tail
  unfolding aimed aim_by
  aimed_entry k e f = rw (← e) f

  pub aimed_none : (n : ℕ) → refused n alone ≡ callee rules.exact count o → refused n alone ≡ aimed rules list count o levels tail
  unfolding aimed aim_by
  aimed_none n e = rw (← e)

-- the entry's number is the callee's
pub names_as : (x y : Answer ℕ) (r : Result Target Refusal) → x ≡ y → Names x r → Names y r
names_as x y r e n = subst (λ (z : Answer ℕ). Names z r) e n
