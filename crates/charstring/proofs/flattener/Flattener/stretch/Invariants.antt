use Prim.Native.Nat.{◌-◌}
use lib.ListN.{length}
use Rattle.charstring.proofs.StretchLaws.{Kept}
use Rattle.charstring.proofs.flattener.Flattener.stretch.Given as goal

abbrev pub invariant-loop-next : goal.invariant-loop-next
invariant-loop-next l = Kept l.cs l.initial.self l.initial.i l.self l.i

abbrev pub decreases-loop-next : goal.decreases-loop-next
decreases-loop-next l = length l.cs - l.i
