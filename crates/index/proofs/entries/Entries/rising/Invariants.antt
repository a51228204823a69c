use mathlib.Core.Path.{◌≡◌}
use Prim.Native.Nat.{◌+◌, ◌*◌}
use Rattle.number.specs.BigEndian.{be_at}
use Rattle.index.specs.Index.{width_of}
use Rattle.index.specs.Code.{Rising}
use Rattle.index.proofs.entries.Entries.rising.Given as goal

abbrev pub invariant-loop-pair : goal.invariant-loop-pair
invariant-loop-pair l = record {
  place : l.at ≡ width_of l.self.offsets.width + 1 + 2 * l.pair * l.size;
  word : l.first ≡ be_at l.bytes (width_of l.self.offsets.width + 1 + 2 * l.pair * l.size) 4;
  rise : Rising (width_of l.self.offsets.width) l.bytes (2 * l.pair);
}
