-- No refusal has the number 0, which is an answer's.
use Rattle.std.specs.Prelude.{◌<◌}
use Rattle.std.proofs.Math.Dec.{lit<}
use Rattle.reading.specs.Refuse.{stop_some}
use Rattle.font.specs.Font.{font_refusal}
use Rattle.font.specs.declared.error.FontError.{FontError}
use Rattle.font.specs.declared.error.FontError.TheVariants.{BadGlobals, BadLocals, BadCharstrings, TooMany, NoGlyph, Refused, TooLong, NoRoom}

pub font_some : (e : FontError) → 0 < font_refusal e
font_some (BadGlobals f) = lit< tt
font_some (BadLocals f) = lit< tt
font_some (BadCharstrings f) = lit< tt
font_some TooMany = lit< tt
font_some (NoGlyph i) = lit< tt
font_some (Refused i w) = stop_some w
font_some TooLong = lit< tt
font_some (NoRoom n) = lit< tt
