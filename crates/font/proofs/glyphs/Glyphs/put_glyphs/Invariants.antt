use Rattle.std.proofs.Common.{◌≡◌, ◌+◌, ◌-◌, ◌*◌}
use Rattle.std.specs.Prelude.{take}
use Rattle.index.specs.Index.{data_start}
use Rattle.font.specs.Code.{before, filled}
use Rattle.font.specs.Glyphs.{asked_of}
use Rattle.font.proofs.PassLaws.{ahead}
use Rattle.font.proofs.glyphs.Glyphs.put_glyphs.Given as goal

abbrev pub invariant-loop-i : goal.invariant-loop-i
invariant-loop-i l =
    let glyph = asked_of l.self in
    let n = l.self.many in
    record {
      at_is : l.at ≡ 3 + l.i * l.size;
      offset_is : l.offset ≡ before glyph l.i + 1;
      left : ahead glyph l.size l.i (n - l.i) l.at l.offset (take (data_start 2 n l.size + before glyph l.i) l.out) ≡ filled glyph n l.size l.initial.out;
    }
