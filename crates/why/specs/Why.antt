-- What the program `why` prints for the bytes that it reads (RULES, "Font parts"): why a charstring is refused, in lines of ASCII.
use Rattle.std.specs.Prelude.{ℕ, cond, List, [], ◌∷◌, ◌++◌, leb, length}
use Rattle.number.specs.Answer.{Answer, accepted, refused, alone, needing_at, tokens_or}
use Rattle.reading.specs.Rules.{rules_of}
use Rattle.reading.specs.Reading.{Entering}
use Rattle.reading.specs.Answers.{Flattening}
use Rattle.reading.specs.Explained.{Explanation, without_calls, explanation}
use Rattle.reading.specs.declared.rules.Profile.TheVariants.{Plain}
use Rattle.reading.specs.declared.operator.Which.{Which}
use Rattle.reading.specs.declared.operator.Which.TheVariants.{Local, Global}
use Rattle.part.specs.Part.{Parts, headless, says, parts, parts_of}
use Rattle.why.specs.Decimal.{decimal}

-- ---- what is told

-- an accepted charstring in a room of 65,536 bytes: a longer flat string is 13
unfoldable pub roomed : Flattening → Answer Flattening
roomed x = cond (leb x.size 65536) (accepted x) (refused 13 (needing_at x.size x.tokens))

-- no calls come with either
unfoldable pub room_by : Answer Flattening → List Entering → Explanation
room_by (accepted x) calls = without_calls (roomed x)
room_by (refused k v) calls = record { answer = refused k v; calls = calls }

-- of a charstring and its lists: by the plain rules, with a budget of a million tokens
abbrev pub why_of : List ℕ → List ℕ → List ℕ → Explanation
why_of cs globals locals = let x = explanation (rules_of Plain) cs globals locals 1000000 in room_by x.answer x.calls

-- of cut bytes: 28 for what is no font part
unfoldable pub why_cut : Parts → Explanation
why_cut headless = without_calls (refused 28 alone)
why_cut (says n) = without_calls (refused 28 alone)
why_cut (parts cs globals locals) = why_of cs globals locals

-- of any bytes: 27 for more than 65,536 of them, before anything else
unfoldable pub why : List ℕ → Explanation
why s = cond (leb (length s) 65536) (why_cut (parts_of s)) (without_calls (refused 27 alone))

-- ---- as lines

-- two numbers, a space between them, and the line's end
unfoldable pub pair_line : ℕ → ℕ → List ℕ
pair_line a b = decimal a ++ (32 ∷ decimal b ++ (10 ∷ []))

-- `0`; or the refusal and its token, which is 0 where none comes with it
unfoldable pub answer_line : Answer Flattening → List ℕ
answer_line (accepted x) = 48 ∷ 10 ∷ []
answer_line (refused k v) = pair_line k (tokens_or 0 v)

-- `L` or `G`
abbrev pub list_letter : Which → ℕ
list_letter Local = 76
list_letter Global = 71

-- a line for each call: its list, the number of its entry, and where its operator stands in the caller
unfoldable pub call_lines : List Entering → List ℕ
call_lines [] = []
call_lines (c ∷ calls) = list_letter c.list ∷ 32 ∷ pair_line c.entry c.at ++ call_lines calls

abbrev pub said_of : Explanation → List ℕ
said_of x = answer_line x.answer ++ call_lines x.calls

unfoldable pub said : List ℕ → List ℕ
said s = said_of (why s)
