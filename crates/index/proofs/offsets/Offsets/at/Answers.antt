-- `index::offsets::Offsets::at` meets its contract. Assumes nothing.
use Rattle.std.proofs.Common.{ℕ, ap, ◌∙◌}
use lib.Bits.{bit_and}
use Rattle.index.specs.Index.{offset}
use Rattle.index.proofs.OffsetLaws.{offset_low}
use Rattle.index.proofs.offsets.Offsets.at.Goals as goal

pub returns-clause-value : goal.returns-clause-value
returns-clause-value c =
    let a = c.args.self.now in
    ap (λ (x : ℕ). bit_and x c.mask_of.result) c.word.ensures.value
    ∙ offset_low _ a.bytes.now c.word.ensures.bytes c.args.i c.bytes.ensures.at_least c.mask_of.ensures
    ∙ ap (λ (w : ℕ). offset w a.bytes.now a.size c.args.i) c.bytes.ensures.value
