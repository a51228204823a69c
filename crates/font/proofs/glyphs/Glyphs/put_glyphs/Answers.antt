-- `Glyphs::put_glyphs` meets its contract. Assumes nothing.
use Rattle.std.specs.Prelude.{◌+◌, ◌*◌, ◌≤◌, length}
use Rattle.std.proofs.Common.{◌∙◌, arith}
use Rattle.index_writing.proofs.WritingLaws.{stored, offset_past, offset_room}
use Rattle.font.specs.Glyphs.{asked_of}
use Rattle.font.proofs.FontLaws.{before_none, before_next, before_all}
use Rattle.font.proofs.PassLaws.{ahead_first, ahead_turn, ahead_last}
use Rattle.font.proofs.glyphs.Glyphs.put_glyphs.Goals as goal
use Rattle.font.proofs.glyphs.Glyphs.put_glyphs.Goals.{At-loop-i}

-- there is room for one offset more
inside : (c : At-loop-i) → c.loop-i.at + c.args.size ≤ length c.loop-i.out
inside c =
    offset_room 2 c.loop-i.i c.args.size c.loop-i.at c.loop-i.invariant.at_is c.loop-i.auto.i-end (omega (arith, c.loop-i.auto.out, c.requires.long))

pub loop-i-init : goal.loop-i-init
loop-i-init c =
    let glyph = asked_of c.args.self.now in
    record {
      at_is = omega arith;
      offset_is = omega (arith, before_none glyph);
      left = ahead_first glyph c.args.size c.args.self.now.many c.args.out.now;
    }

pub put_run-offset-requires-clause-fits : goal.put_run-offset-requires-clause-fits
put_run-offset-requires-clause-fits c =
    let glyph = asked_of c.args.self.now in
    let i = c.loop-i.i in
    let more = c.loop-i-test.true in
    let all = before_all glyph i c.args.self.now.many more in
    rw c.from.ensures
    (record {
      is = c.requires.ran i more;
      small = omega (arith, all, c.requires.short);
      room = omega (arith, all, c.loop-i.invariant.offset_is, c.requires.long, c.write_be.auto.out, c.loop-i.auto.out);
    })

pub overflow_add-at : goal.overflow_add-at
overflow_add-at c =
    omega (arith, inside (goal.at.overflow_add-at c).At-loop-i)

pub loop-i-preserved : goal.loop-i-preserved
loop-i-preserved c =
    let a = c.args in
    let n = a.self.now.many in
    let glyph = asked_of a.self.now in
    let l = c.loop-i in
    let more = c.loop-i-test.true in
    let begun = rw c.from.ensures at c.put_run-offset.ensures in
    let all = before_all glyph l.i n more in
    record {
      at_is = offset_past 2 l.i a.size l.at l.invariant.at_is;
      offset_is = omega (arith, begun.told, before_next glyph l.i, l.invariant.offset_is);
      left = ahead_turn glyph a.size l.i n l.at l.offset (2 + (n + 1) * a.size + l.offset) l.out c.write_be.new.out
          c.put_run-offset.new.out c.put_run-offset.result more l.invariant.at_is (omega (arith, l.invariant.offset_is))
          (omega (arith, all, l.invariant.offset_is, c.requires.long, l.auto.out))
          (stored _ _ _ _ _ _ c.write_be.ensures c.requires.four (inside (goal.at.loop-i-preserved c).At-loop-i)) begun
          ∙ l.invariant.left;
    }

pub returns : goal.returns
returns c =
    let a = c.args in
    let l = c.loop-i in
    ahead_last (asked_of a.self.now) a.size l.i a.self.now.many l.at l.offset l.out c.write_be-2.new.out (omega (arith, l.auto.i-end))
    (l.auto.out ∙ c.requires.long) (stored _ _ _ _ _ _ c.write_be-2.ensures c.requires.four (inside (goal.at.returns c).At-loop-i))
    ∙ l.invariant.left
