-- `index::entries::Entries::rising` meets its contract. Assumes nothing.
use Rattle.std.proofs.Common.{ap, ◌∙◌, ℕ, ◌+◌, ◌*◌, ◌≤◌, length, arith}
use Rattle.number.specs.BigEndian.{be_at}
use Rattle.index.specs.Index.{width_of}
use Rattle.index.proofs.OffsetLaws.{pair_there, pair_on, pair_next, pair_rises}
use Rattle.index.proofs.entries.Entries.rising.Goals as goal
use Rattle.index.proofs.entries.Entries.rising.Goals.{In-loop-pair}

-- the words of a turn are there
there : (c : In-loop-pair) → let o = c.args.self.now.offsets in c.loop-pair.at + 2 * o.size + 4 ≤ length o.bytes.now
there c =
    let e = c.args.self.now in
    let o = e.offsets in
    let here = pair_there (width_of o.width) o.bytes.now o.size c.loop-pair.pair e.full.head e.sized (omega arith) in
    omega (arith, c.loop-pair.invariant.place, here)

pub word-second-requires : goal.word-second-requires
word-second-requires c = omega (arith, there c)

pub word-third-requires : goal.word-third-requires
word-third-requires c = omega (arith, there (goal.at.word-third-requires c).In-loop-pair)

pub loop-pair-preserved : goal.loop-pair-preserved
loop-pair-preserved c =
    let e = c.args.self.now in
    let o = e.offsets in
    let v = c.loop-pair.invariant in
    let p = c.loop-pair.pair in
    let word : ℕ → ℕ = λ x. be_at o.bytes.now x 4 in
    let second = c.word-second.ensures.value ∙ ap (λ (x : ℕ). word (x + o.size)) v.place in
    let third = c.word-third.ensures.value ∙ ap (λ (x : ℕ). word (x + 2 * o.size)) v.place in
    let rises = pair_rises (width_of o.width) o.bytes.now o.size p third c.word-third.ensures.bytes e.full.head e.sized in
    record {
      place = ap (λ (x : ℕ). x + 2 * o.size) v.place ∙ pair_on (width_of o.width) o.bytes.now o.size p;
      word = pair_next (width_of o.width) o.bytes.now o.size p third;
      rise = rises v.word second (omega arith) (omega arith) v.rise;
    }
