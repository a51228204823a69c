use mathlib.Core.Path.{◌≡◌}
use Rattle.index.specs.Index.{width_of}
use Rattle.index.specs.Code.{offset_of, Passed}
use Rattle.index.proofs.entries.Entries.first_bad.Given as goal

abbrev pub invariant-loop-i : goal.invariant-loop-i
invariant-loop-i l = record {
  at : l.before ≡ offset_of (width_of l.self.offsets.width) l.self.offsets.bytes.now l.i;
  passed : Passed (width_of l.self.offsets.width) l.self.offsets.bytes.now l.count l.i;
}
