-- What the program makes of any bytes: of a font part (RULES, "Font parts"), which the crate `part` cuts, and of what is none.
use Rattle.std.specs.Prelude.{ℕ, Bool, true, false, List, Result, Ok, Err}
use Rattle.number.specs.Answer.{Answer, Outcome, leaving}
use Rattle.reading.specs.Rules.{Rules}
use Rattle.reading.specs.Answers.{Flattening, flattened, flattening}
use Rattle.font.specs.Font.{font_flattened, flatten_font}
use Rattle.part.specs.Part.{Parts, headless as cut_headless, says as cut_says, parts, parts_of}
use Rattle.part.specs.declared.cut.NoPart.{NoPart}
use Rattle.part.specs.declared.cut.NoPart.TheVariants.{Headless, Says}
use Rattle.flatten.specs.declared.flattening.Answer.{Answer as Flattened}
use Rattle.flatten.specs.declared.flattening.Answer.TheVariants.{Glyph, Font}

-- What is told of the bytes: an answer of flattening, a charstring's or a whole font's; no font part, for the lengths are not all there; or none,
-- for by its lengths it would have so many bytes.
pub data Told : Type 0 where
  answered : Answer Flattening → Told
  answered_font : Answer ℕ → Told
  headless : Told
  says : ℕ → Told

abbrev pub telling : {A : Type 0} → (A → Told) → Outcome A → Outcome Told
telling f o = leaving (f o.answer) o.left

-- what is told of three parts: of a charstring and its lists, or, where it is asked for, of a whole font's
unfoldable pub told_of : Bool → Rules → ℕ → List ℕ → List ℕ → List ℕ → List ℕ → Outcome Told
told_of false rules budget room cs globals locals = telling answered (flattening rules cs globals locals budget room)
told_of true rules budget room charstrings globals locals = telling answered_font (flatten_font rules charstrings globals locals budget room)

-- what cut bytes come to, and what is left in the room, by what is told of three parts
unfoldable pub part_by : (List ℕ → List ℕ → List ℕ → Outcome Told) → List ℕ → Parts → Outcome Told
part_by told room cut_headless = leaving headless room
part_by told room (cut_says n) = leaving (says n) room
part_by told room (parts strings globals locals) = told strings globals locals

-- and what any bytes come to
abbrev pub part_of : (List ℕ → List ℕ → List ℕ → Outcome Told) → List ℕ → List ℕ → Outcome Told
part_of told s room = part_by told room (parts_of s)

abbrev pub answer_told : Flattened → Told
answer_told (Glyph f) = answered (flattened f)
answer_told (Font f) = answered_font (font_flattened f)

abbrev pub told_by : Result Flattened NoPart → Told
told_by (Ok a) = answer_told a
told_by (Err Headless) = headless
told_by (Err (Says n)) = says n
