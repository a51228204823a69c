use Rattle.std.proofs.Common.{◌≡◌}
use Rattle.cases.proofs.output.Output.put_shown.Given as goal

abbrev pub invariant-loop-bytes : goal.invariant-loop-bytes
invariant-loop-bytes g l = l.bytes-iterator.size ≡ 64
