use Rattle.std.proofs.Common.{◌≡◌}
use Rattle.font.specs.Code.{before, Ran, Kept}
use Rattle.font.specs.Glyphs.{asked_of}
use Rattle.font.proofs.glyphs.Glyphs.measure_all.Given as goal

abbrev pub invariant-loop-i : goal.invariant-loop-i
invariant-loop-i l =
    let glyph = asked_of l.self in
    record { ran : Ran glyph l.i; sum_is : l.sum ≡ before glyph l.i; kept : Kept glyph l.i l.lengths l.joined }
