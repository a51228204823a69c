use Rattle.std.proofs.Common.{◌≡◌}
use Rattle.flatten.proofs.answer.write_hex.Given as goal

abbrev pub invariant-loop-bytes : goal.invariant-loop-bytes
invariant-loop-bytes g l = l.bytes-iterator.size ≡ 2048
