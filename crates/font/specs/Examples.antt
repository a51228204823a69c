-- Worked examples of glyphs of a font (RULES, "A whole font" and "Glyphs of a font"), proved by the definitions. Assumes nothing.
use Rattle.std.specs.Prelude.{◌≡◌, refl, List, [], ◌∷◌, ◌++◌, ℕ, length, drop, replicate}
use Rattle.number.specs.Answer.{Values, alone, at_token, needing, at_entry, because, at_glyph, Answer, accepted, refused, Outcome, leaving, into}
use Rattle.number.specs.BigEndian.{be_at, bytes_of}
use Rattle.number.specs.Signed.{signed, unsigned}
use Rattle.number.specs.Number.{integer_rows, rows_of, row_of, value_by, number_by, read_by}
use Rattle.number.specs.Written.{form_by, spell, bytes, bytes_by, spelling}
use Rattle.number.specs.Call.{bit_length, counts, call_index, entry_of, biased, callee}
use Rattle.index.specs.Index.{offset, by_last, by_size, by_count, extent, place_by, place_in, place, bytes_by as part_bytes, part}
use Rattle.index.specs.Formed.{unless, entries_from, formed_by, formation}
use Rattle.index_writing.specs.Writing.{total, size_for, offsets, behind_count, index_bytes, index_of}
use Rattle.reading.specs.Rules.{Rules, byte_kind, escaped_kind, kind_by, byte_takes, type2_takes, plain, strict}
use Rattle.reading.specs.Lists.{count_in, entry_by, subrs_of, lists_of}
use Rattle.reading.specs.Tokens.{escaped_at, operator_at, cut_by, cut}
use Rattle.reading.specs.Items.{bottom, by_kind, leaves}
use Rattle.reading.specs.Reading.{struck, tokens_by, ends_in_operand, admitted, on_number, on_stem, on_mask, on_end, on_entry}
use Rattle.reading.specs.Reading.{on_index, on_call, on_operator, on_cut, on_token, resume, after, tokens_of, read, reading}
use Rattle.reading.specs.Flat.{spelled, flat}
use Rattle.reading.specs.Answers.{ready_by, judged}
use Rattle.font.specs.Font.{Choice, every, these, flat_in, within, decided, all_from, chosen, lengths_of, joined_of, indexed}
use Rattle.font.specs.Font.{if_formed, font_by, flat_glyphs, flatten_glyphs}

-- what a row expects: an INDEX, or a refusal and what comes with it
pub data Expected : Type 0 where
  gives : List ℕ → Expected
  refuses : ℕ → Values → Expected

pub record Row : Type 0 where
  pub choice : ℕ → Choice
  pub charstrings : List ℕ
  pub globals : List ℕ
  pub locals : List ℕ
  pub rules : Rules
  pub budget : ℕ
  pub room : ℕ
  pub expected : Expected

-- the room is lent full of A5
abbrev pub lent : Row → List ℕ
lent r = replicate r.room 0xA5

unfoldable pub expected_by : List ℕ → Expected → Outcome (Answer ℕ)
expected_by out (gives b) = leaving (accepted (length b)) (b ++ drop (length b) out)
expected_by out (refuses n v) = leaving (refused n v) out

abbrev pub Holds : Row → Type 0
Holds r = flatten_glyphs r.rules r.choice r.charstrings r.globals r.locals r.budget (lent r) ≡ expected_by (lent r) r.expected

abbrev pub All : List Row → Type 0
All [] = Unit {0}
All (r ∷ rs) = Holds r × All rs

-- ---- the rows

abbrev none : List ℕ
none = 0x00 ∷ 0x00 ∷ []

-- the list L of RULES, "Examples"
abbrev L : List ℕ
L = 0x00 ∷ 0x01 ∷ 0x01 ∷ 0x01 ∷ 0x05 ∷ 0x8C ∷ 0x8D ∷ 0x15 ∷ 0x0B ∷ []

-- all glyphs, without a global list
abbrev all : List ℕ → List ℕ → Rules → ℕ → ℕ → Expected → Row
all charstrings locals rules budget room e =
    record { choice = every; charstrings = charstrings; globals = none; locals = locals; rules = rules; budget = budget; room = room; expected = e }

-- ample room
abbrev row : List ℕ → List ℕ → ℕ → Expected → Row
row charstrings locals budget e = all charstrings locals plain budget 12 e

-- an endchar
abbrev one : List ℕ
one = 0x00 ∷ 0x01 ∷ 0x01 ∷ 0x01 ∷ 0x02 ∷ 0x0E ∷ []

-- `20 0A 0E`, which calls the entry of L, and an empty string
abbrev two : List ℕ
two = 0x00 ∷ 0x02 ∷ 0x01 ∷ 0x01 ∷ 0x04 ∷ 0x04 ∷ 0x20 ∷ 0x0A ∷ 0x0E ∷ []

abbrev flat_two : List ℕ
flat_two = 0x00 ∷ 0x02 ∷ 0x01 ∷ 0x01 ∷ 0x05 ∷ 0x05 ∷ 0x8C ∷ 0x8D ∷ 0x15 ∷ 0x0E ∷ []

-- an endchar, an operator that there is not, and an endchar; or a call without an index
abbrev three : List ℕ
three = 0x00 ∷ 0x03 ∷ 0x01 ∷ 0x01 ∷ 0x02 ∷ 0x03 ∷ 0x04 ∷ 0x0E ∷ 0x00 ∷ 0x0E ∷ []

abbrev three_bad : List ℕ
three_bad = 0x00 ∷ 0x03 ∷ 0x01 ∷ 0x01 ∷ 0x02 ∷ 0x03 ∷ 0x04 ∷ 0x0E ∷ 0x00 ∷ 0x0A ∷ []

-- three glyphs of two tokens each
abbrev short : List ℕ
short = 0x00 ∷ 0x03 ∷ 0x01 ∷ 0x01 ∷ 0x03 ∷ 0x05 ∷ 0x07 ∷ 0x8B ∷ 0x0E ∷ 0x8B ∷ 0x0E ∷ 0x8B ∷ 0x0E ∷ []

-- an INDEX of three entries, of which the second's offsets descend; the first is an operator that there is not
abbrev descending : List ℕ
descending = 0x00 ∷ 0x03 ∷ 0x01 ∷ 0x01 ∷ 0x03 ∷ 0x02 ∷ 0x03 ∷ 0x00 ∷ 0x00 ∷ []

-- an endchar, and a glyph whose second mask comes with an operand
abbrev waiting : List ℕ
waiting =
    0x00 ∷ 0x02 ∷ 0x01 ∷ 0x01 ∷ 0x02 ∷ 0x0A ∷ 0x0E ∷ 0x8B ∷ 0x8C ∷ 0x13 ∷ 0x80 ∷ 0x8B ∷ 0x13 ∷ 0x80 ∷ 0x0E ∷ []

abbrev with_lists : List ℕ → List ℕ → List ℕ → Expected → Row
with_lists charstrings globals locals e =
    record { choice = every; charstrings = charstrings; globals = globals; locals = locals; rules = plain; budget = 1000; room = 12; expected = e }

abbrev pub rows : List Row
rows =
    -- no glyphs; one
    row none none 0 (gives none)
    ∷ row one none 1 (gives one)
    -- a call followed, and an empty glyph; the result is itself; offsets wider than they need be
    ∷ row two L 1000 (gives flat_two)
    ∷ row flat_two none 1000 (gives flat_two)
    ∷ row (0x00 ∷ 0x01 ∷ 0x02 ∷ 0x00 ∷ 0x01 ∷ 0x00 ∷ 0x02 ∷ 0x0E ∷ []) none 1 (gives one)
    -- bytes behind the INDEX are ignored
    ∷ row (two ++ (0x00 ∷ 0x00 ∷ [])) L 1000 (gives flat_two)
    -- a glyph that is refused, with its number; of two the first decides
    ∷ row three none 1000 (refuses 6 (at_glyph 1 (at_token 1)))
    ∷ row three_bad none 1000 (refuses 6 (at_glyph 1 (at_token 1)))
    -- each glyph has the whole budget
    ∷ all short none plain 2 13 (gives short)
    ∷ all short none plain 1 13 (refuses 3 (at_glyph 0 (at_token 1)))
    -- room for all of it but a byte
    ∷ all two L plain 1000 9 (refuses 13 (needing 10))
    ∷ all two L plain 1000 10 (gives flat_two)
    -- 1 before 2, 2 before 26, 26 before a glyph's own; each with its reason
    ∷ with_lists descending [] descending (refuses 1 (because 20 alone))
    ∷ with_lists descending none (0x00 ∷ 0x01 ∷ 0x05 ∷ []) (refuses 2 (because 21 alone))
    ∷ with_lists descending none none (refuses 26 (because 41 (at_entry 1)))
    ∷ with_lists [] none none (refuses 26 (because 20 alone))
    -- a glyph's own before 13
    ∷ all three none plain 1000 0 (refuses 6 (at_glyph 1 (at_token 1)))
    ∷ []

abbrev pub rows_in_strict : List Row
rows_in_strict =
    -- 15 of a glyph comes with its number alone, in strict
    all waiting none strict 1000 24 (refuses 15 (at_glyph 1 alone))
    ∷ all waiting none plain 1000 24 (gives waiting)
    -- and so does 16, also before 13
    ∷ all two L strict 1000 0 (refuses 16 (at_glyph 1 alone))
    ∷ all short none strict 1000 13 (gives short)
    ∷ []

-- of two glyphs, of which the first calls the entry of L and the second is an endchar, those that are numbered
abbrev pair : List ℕ
pair = 0x00 ∷ 0x02 ∷ 0x01 ∷ 0x01 ∷ 0x04 ∷ 0x05 ∷ 0x20 ∷ 0x0A ∷ 0x0E ∷ 0x0E ∷ []

abbrev ask : List ℕ → ℕ → Expected → Row
ask numbers room e =
    record { choice = these numbers; charstrings = pair; globals = none; locals = L; rules = plain; budget = 1000; room = room; expected = e }

-- and of an endchar, an operator that there is not, and an endchar or a call without an index
abbrev ask_three : List ℕ → List ℕ → Expected → Row
ask_three charstrings numbers e =
    record { choice = these numbers; charstrings = charstrings; globals = none; locals = none; rules = plain; budget = 1000; room = 12; expected = e }

abbrev pub rows_of_numbers : List Row
rows_of_numbers =
    -- no numbers: the count alone; one; all in order
    ask [] 2 (gives none)
    ∷ ask (1 ∷ []) 6 (gives one)
    ∷ ask (0 ∷ 1 ∷ []) 20 (gives (0x00 ∷ 0x02 ∷ 0x01 ∷ 0x01 ∷ 0x05 ∷ 0x06 ∷ 0x8C ∷ 0x8D ∷ 0x15 ∷ 0x0E ∷ 0x0E ∷ []))
    -- descending; a repeat stands as often as it is asked for
    ∷ ask (1 ∷ 0 ∷ []) 20 (gives (0x00 ∷ 0x02 ∷ 0x01 ∷ 0x01 ∷ 0x02 ∷ 0x06 ∷ 0x0E ∷ 0x8C ∷ 0x8D ∷ 0x15 ∷ 0x0E ∷ []))
    ∷ ask (1 ∷ 1 ∷ 1 ∷ []) 20 (gives (0x00 ∷ 0x03 ∷ 0x01 ∷ 0x01 ∷ 0x02 ∷ 0x03 ∷ 0x04 ∷ 0x0E ∷ 0x0E ∷ 0x0E ∷ []))
    -- the last glyph, and one past it, with its place
    ∷ ask (0 ∷ 2 ∷ []) 20 (refuses 25 (at_glyph 1 alone))
    ∷ ask (4294967295 ∷ []) 20 (refuses 25 (at_glyph 0 alone))
    -- room for all of it but a byte
    ∷ ask (1 ∷ 0 ∷ []) 10 (refuses 13 (needing 11))
    ∷ ask (1 ∷ 0 ∷ []) 11 (gives (0x00 ∷ 0x02 ∷ 0x01 ∷ 0x01 ∷ 0x02 ∷ 0x06 ∷ 0x0E ∷ 0x8C ∷ 0x8D ∷ 0x15 ∷ 0x0E ∷ []))
    -- a refused glyph that is not asked for; where it is, its place comes with its refusal
    ∷ ask_three three (2 ∷ 0 ∷ []) (gives (0x00 ∷ 0x02 ∷ 0x01 ∷ 0x01 ∷ 0x02 ∷ 0x03 ∷ 0x0E ∷ 0x0E ∷ []))
    ∷ ask_three three (2 ∷ 0 ∷ 1 ∷ []) (refuses 6 (at_glyph 2 (at_token 1)))
    -- of two the earlier place decides, also where one is past the last glyph
    ∷ ask_three three_bad (2 ∷ 1 ∷ []) (refuses 7 (at_glyph 0 (at_token 1)))
    ∷ ask_three three_bad (1 ∷ 2 ∷ []) (refuses 6 (at_glyph 0 (at_token 1)))
    ∷ ask_three three (3 ∷ 1 ∷ []) (refuses 25 (at_glyph 0 alone))
    ∷ ask_three three (1 ∷ 3 ∷ []) (refuses 6 (at_glyph 0 (at_token 1)))
    -- 26 before 25
    ∷ ask_three descending (7 ∷ []) (refuses 26 (because 41 (at_entry 1)))
    ∷ []

-- 22 before 25, and behind 26; and as many as a count holds
abbrev pub rows_of_many : List Row
rows_of_many =
    ask (replicate 65536 2) 20 (refuses 22 alone)
    ∷ ask_three descending (replicate 65536 0) (refuses 26 (because 41 (at_entry 1)))
    ∷ ask (replicate 65535 2) 20 (refuses 25 (at_glyph 0 alone))
    ∷ []

pub rows_hold : All rows × All rows_in_strict × All rows_of_numbers × All rows_of_many
unfolding expected_by into ready_by judged flat_in within decided all_from chosen lengths_of joined_of indexed if_formed font_by flat_glyphs flatten_glyphs
    total size_for offsets behind_count index_bytes index_of
    be_at bytes_of signed unsigned integer_rows rows_of row_of value_by number_by read_by form_by spell bytes bytes_by spelling
    bit_length counts call_index entry_of biased callee
    offset by_last by_size by_count extent place_by place_in place part_bytes part unless entries_from formed_by formation
    byte_kind escaped_kind kind_by byte_takes type2_takes bottom by_kind leaves count_in entry_by subrs_of lists_of escaped_at operator_at cut_by cut
    struck tokens_by ends_in_operand admitted on_number on_stem on_mask on_end on_entry on_index on_call on_operator on_cut on_token
    resume after tokens_of read reading spelled flat
rows_hold = (
  (refl, (refl, (refl, (refl, (refl, (refl, (refl, (refl, (refl, (refl, (refl, (refl, (refl, (refl, (refl, (refl, (refl, tt))))))))))))))))),
  (refl, (refl, (refl, (refl, tt)))),
  (refl, (refl, (refl, (refl, (refl, (refl, (refl, (refl, (refl, (refl, (refl, (refl, (refl, (refl, (refl, (refl, tt)))))))))))))))),
  (refl, (refl, (refl, tt))),
)
