-- `index::entries::Entries::first_bad` meets its contract. Assumes nothing.
use Rattle.std.proofs.Common.{arith}
use Rattle.index.proofs.FormedLaws.{passed_one}
use Rattle.index.proofs.entries.Entries.first_bad.Goals as goal

pub loop-i-preserved : goal.loop-i-preserved
loop-i-preserved c =
    let v = c.loop-i.invariant in
    record {
      at = c.at-after.ensures;
      passed = passed_one _ _ c.args.self.now.full v.passed (omega arith) v.at c.at-after.ensures c.at-last.ensures (omega arith) (omega arith);
    }
