use Prim.Native.Nat.{◌-◌}
use lib.ListN.{length}
use Rattle.charstring.proofs.LoopLaws.{Kept}
use Rattle.charstring.proofs.flattener.Flattener.+run.Given as goal

abbrev pub decreases-run : goal.decreases-run
decreases-run l = l.levels

abbrev pub invariant-loop-how : goal.invariant-loop-how
invariant-loop-how l = Kept l.cs l.levels l.initial.self l.self l.i

abbrev pub decreases-loop-how : goal.decreases-loop-how
decreases-loop-how l = length l.cs - l.i
