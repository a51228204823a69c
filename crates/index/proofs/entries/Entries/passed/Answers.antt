-- `index::entries::Entries::passed` meets its contract. Assumes nothing.
use Rattle.std.proofs.Common.{arith}
use Rattle.index.proofs.FormedLaws.{passed_up}
use Rattle.index.proofs.entries.Entries.passed.Goals as goal

pub returns : goal.returns
returns c = passed_up _ _ c.args.self.now.full c.requires _ c.rising-risen.ensures.at_most c.rising-risen.ensures.rise (omega arith)
