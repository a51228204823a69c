-- Worked examples of why a charstring is refused (RULES, "Why a charstring is refused"), proved as one list.
use Rattle.std.specs.Prelude.{◌≡◌, refl, None, false, List, [], ◌∷◌, ◌++◌, ℕ, zero, suc, ◌+◌, ◌/◌, length, replicate}
use Rattle.number.specs.Answer.{Answer, accepted, refused, alone, at_token, at_entry, because}
use Rattle.number.specs.BigEndian.{be_at, bytes_of}
use Rattle.number.specs.Signed.{signed, unsigned}
use Rattle.number.specs.Number.{integer_rows, rows_of, row_of as number_row, value_by, number_by, read_by}
use Rattle.number.specs.Written.{form_by, spell, bytes, bytes_by, spelling}
use Rattle.number.specs.Call.{bit_length, counts, call_index, entry_of, biased, callee}
use Rattle.index.specs.Index.{offset, by_last, by_size, by_count, extent, place_by, place_in, place, bytes_by as part_bytes, part}
use Rattle.index.specs.Formed.{unless, entries_from, formed_by, formation}
use Rattle.reading.specs.Rules.{Rules, byte_kind, escaped_kind, kind_by, type2, byte_takes, type2_takes, plain, strict}
use Rattle.reading.specs.Lists.{count_in, entry_by, subrs_of, lists_of}
use Rattle.reading.specs.Tokens.{escaped_at, operator_at, cut_by, cut}
use Rattle.reading.specs.Items.{bottom, by_kind, leaves}
use Rattle.reading.specs.Reading.{struck, tokens_by, ends_in_operand, admitted, on_number, on_stem, on_mask, on_end, on_entry}
use Rattle.reading.specs.Reading.{on_index, on_call, on_operator, on_cut, on_token, resume, after, tokens_of, read, reading}
use Rattle.reading.specs.Flat.{spelled, flat}
use Rattle.reading.specs.Answers.{Flattening, ready_by, judged, verdict, list_gate}
use Rattle.reading.specs.Explained.{open_by, explanation, call_words, words_left, explaining}
use Rattle.reading.specs.Rows.{none, L, only, behind_mask}

-- ---- a row: what is lent, the answer, how many calls are open, and the words as left

pub record Row : Type 0 where
  pub charstring : List ℕ
  pub globals : List ℕ
  pub locals : List ℕ
  pub rules : Rules
  pub budget : ℕ
  pub lent : List ℕ
  pub answer : Answer Flattening
  pub calls : ℕ
  pub left : List ℕ

abbrev pub Holds : Row → Type 0
Holds r =
    explaining r.rules r.charstring r.globals r.locals r.budget r.lent
    ≡ record { answer = r.answer; calls = r.calls; words = r.left }

abbrev pub All : List Row → Type 0
All [] = Unit {0}
All (r ∷ rs) = Holds r × All rs

-- seven words that nobody stores
abbrev seven : List ℕ
seven = 91 ∷ 92 ∷ 93 ∷ 94 ∷ 95 ∷ 96 ∷ 97 ∷ []

-- an answer, and these words of calls, before the seven as lent
abbrev row : Rules → ℕ → List ℕ → List ℕ → List ℕ → Answer Flattening → List ℕ → Row
row rules budget cs globals locals answer words =
    record {
      charstring = cs;
      globals = globals;
      locals = locals;
      rules = rules;
      budget = budget;
      lent = replicate (length words) 0xA5 ++ seven;
      answer = answer;
      calls = length words / 3;
      left = words ++ seven;
    }

-- plain, without global subroutines
abbrev tells : List ℕ → List ℕ → ℕ → ℕ → List ℕ → Row
tells cs locals k t words = row plain 1000 cs none locals (refused k (at_token t)) words

-- two entries
abbrev both : List ℕ → List ℕ → List ℕ
both a b = 0x00 ∷ 0x02 ∷ 0x01 ∷ 0x01 ∷ (length a + 1) ∷ (length a + length b + 1) ∷ (a ++ b)

-- ---- each refusal of a run, in the charstring, in a subroutine, and in one that a subroutine calls

-- so many levels of calls, five operands and one hint
abbrev up_to : ℕ → Rules
up_to n = record { operands = 5; levels = n; hints = 1; exact = false; clean = false; finished = false; width = 2; kind = type2; takes = type2_takes }

-- a string that is refused with k at its token t: no level is left below it, or one where `more` is 1
abbrev thrice : ℕ → ℕ → ℕ → List ℕ → ℕ → List Row
thrice more budget k bad t =
    row (up_to more) budget bad none (only bad) (refused k (at_token t)) []
    ∷ row (up_to (1 + more)) (budget + 2) (0x20 ∷ 0x0A ∷ []) none (only bad) (refused k (at_token (t + 2))) (0 ∷ 0 ∷ 1 ∷ [])
    ∷ row (up_to (2 + more)) (budget + 6) (0x20 ∷ 0x0A ∷ []) none (both (0x8B ∷ 0x05 ∷ 0x21 ∷ 0x0A ∷ []) bad)
    (refused k (at_token (t + 6))) (0 ∷ 0 ∷ 1 ∷ 0 ∷ 1 ∷ 3 ∷ [])
    ∷ []

abbrev pub refusals : List Row
refusals =
    thrice 0 0 3 (0x8B ∷ []) 0
    ++ thrice 0 100 4 (0x1C ∷ 0x00 ∷ []) 1
    ++ thrice 0 100 5 (replicate 6 0x8B) 6
    ++ thrice 0 100 6 (0x00 ∷ []) 1
    ++ thrice 0 100 11 (replicate 4 0x8B ++ (0x01 ∷ [])) 5
    ++ thrice 0 100 12 (replicate 4 0x8B ++ (0x0E ∷ [])) 5

-- a refused call is not among the calls
abbrev pub refused_calls : List Row
refused_calls =
    thrice 0 100 7 (0x0A ∷ []) 1
    ++ thrice 0 100 9 (0x8B ∷ 0x0A ∷ []) 2
    ++ thrice 0 100 10 (0x20 ∷ 0x0A ∷ []) 2
    ++ thrice 1 100 8 (behind_mask (0x20 ∷ [])) 7

-- ---- which calls, and where

abbrev pub places : List Row
places =
    -- document 02's
    tells (0x20 ∷ 0x0A ∷ []) (only (0x00 ∷ [])) 6 3 (0 ∷ 0 ∷ 1 ∷ [])
    -- the operator's place, behind an index of one byte, of two, of three and of five, or of a subroutine's; and behind other tokens
    ∷ tells (0xF7 ∷ 0x00 ∷ 0x0A ∷ []) (0x00 ∷ 0xD8 ∷ 0x01 ∷ (replicate 216 0x01 ++ (0x02 ∷ 0x00 ∷ []))) 6 3 (0 ∷ 215 ∷ 2 ∷ [])
    ∷ tells (0x1C ∷ 0xFF ∷ 0x95 ∷ 0x0A ∷ []) (only (0x00 ∷ [])) 6 3 (0 ∷ 0 ∷ 3 ∷ [])
    ∷ tells (0xFF ∷ 0xFF ∷ 0x95 ∷ 0x00 ∷ 0x00 ∷ 0x0A ∷ []) (only (0x00 ∷ [])) 6 3 (0 ∷ 0 ∷ 5 ∷ [])
    ∷ tells (0x20 ∷ 0x0A ∷ 0x0A ∷ []) (both (0x21 ∷ []) (0x00 ∷ [])) 6 5 (0 ∷ 1 ∷ 2 ∷ [])
    ∷ tells (0x8B ∷ 0x05 ∷ 0x0C ∷ 0x23 ∷ 0x20 ∷ 0x0A ∷ []) (only (0x00 ∷ [])) 6 6 (0 ∷ 0 ∷ 5 ∷ [])
    -- a call that is refused is not open, nor is one that came back: behind it, and within another
    ∷ tells (0x21 ∷ 0x0A ∷ []) L 9 2 []
    ∷ tells (0x20 ∷ 0x0A ∷ 0x00 ∷ []) L 6 7 []
    ∷ tells (0x20 ∷ 0x0A ∷ 0x21 ∷ 0x0A ∷ []) (both (0x0B ∷ []) (0x00 ∷ [])) 6 6 (0 ∷ 1 ∷ 3 ∷ [])
    ∷ tells (0x20 ∷ 0x0A ∷ []) (both (0x21 ∷ 0x0A ∷ 0x00 ∷ []) []) 6 5 (0 ∷ 0 ∷ 1 ∷ [])
    -- the second of two that are the same
    ∷ row (up_to 1) 1000 (0x20 ∷ 0x0A ∷ 0x20 ∷ 0x0A ∷ []) none (only (0x8B ∷ 0x8B ∷ 0x8B ∷ [])) (refused 5 (at_token 10)) (0 ∷ 0 ∷ 3 ∷ [])
    -- from list to list
    ∷ row plain 1000 (0x20 ∷ 0x1D ∷ []) (only (0x00 ∷ [])) none (refused 6 (at_token 3)) (1 ∷ 0 ∷ 1 ∷ [])
    ∷ row plain 1000 (0x20 ∷ 0x0A ∷ []) (only (0x8B ∷ 0x05 ∷ 0x21 ∷ 0x0A ∷ [])) (both (0x20 ∷ 0x1D ∷ []) (0x00 ∷ []))
    (refused 6 (at_token 9)) (0 ∷ 0 ∷ 1 ∷ 1 ∷ 0 ∷ 1 ∷ 0 ∷ 1 ∷ 3 ∷ [])
    ∷ []

-- ---- other answers

-- an accepted answer without an advance width
abbrev takes : ℕ → ℕ → Answer Flattening
takes n t = accepted (record { size = n; tokens = t; advance = None })

-- a mask fixes the length, and then an operand waits at another
abbrev late15 : List ℕ
late15 = 0x8B ∷ 0x8C ∷ 0x01 ∷ 0x13 ∷ 0x80 ∷ 0x8B ∷ 0x13 ∷ 0x80 ∷ []

abbrev pub others : List Row
others =
    -- accepted: without a call, behind one, and by endchar within two
    row plain 1000 (0x0E ∷ []) none none (takes 1 1) []
    ∷ row plain 1000 (0x20 ∷ 0x0A ∷ 0x0E ∷ []) none L (takes 4 7) []
    ∷ row strict 1000 (0x20 ∷ 0x0A ∷ []) none (both (0x21 ∷ 0x0A ∷ []) (0x0E ∷ [])) (takes 1 5) []
    -- 15 tells its calls and no tokens; 16 comes once no call is open
    ∷ row strict 1000 late15 none none (refused 15 alone) []
    ∷ row strict 1000 (0x20 ∷ 0x0A ∷ []) none (only late15) (refused 15 alone) (0 ∷ 0 ∷ 1 ∷ [])
    ∷ row strict 1000 [] none none (refused 16 alone) []
    ∷ row strict 1000 (0x20 ∷ 0x0A ∷ []) none L (refused 16 alone) []
    -- 1 and 2, before any call
    ∷ row plain 1000 (0x20 ∷ 0x0A ∷ []) [] (only (0x00 ∷ [])) (refused 1 (because 20 alone)) []
    ∷ row plain 1000 (0x20 ∷ 0x1D ∷ []) (only (0x00 ∷ [])) (0x00 ∷ 0x01 ∷ 0x01 ∷ 0x00 ∷ 0x01 ∷ []) (refused 2 (because 40 (at_entry 0))) []
    ∷ []

-- ---- as many calls as there may be

abbrev times : ℕ → List ℕ → List ℕ
times zero w = []
times (suc n) w = w ++ times n w

abbrev pub deepest : List Row
deepest =
    row plain 1000 (0x20 ∷ 0x0A ∷ []) none (only (0x20 ∷ 0x0A ∷ [])) (refused 10 (at_token 128)) (times 63 (0 ∷ 0 ∷ 1 ∷ []))
    ∷ row strict 1000 (0x20 ∷ 0x0A ∷ []) none (only (0x20 ∷ 0x0A ∷ [])) (refused 10 (at_token 22)) (times 10 (0 ∷ 0 ∷ 1 ∷ []))
    ∷ []

-- ---- the words lent

-- two calls are open, whatever is lent
abbrev lending : List ℕ → List ℕ → Row
lending lent left =
    record {
      charstring = 0x8B ∷ 0x05 ∷ 0x20 ∷ 0x1D ∷ [];
      globals = only (0x21 ∷ 0x0A ∷ []);
      locals = both [] (0x00 ∷ []);
      rules = plain;
      budget = 1000;
      lent = lent;
      answer = refused 6 (at_token 7);
      calls = 2;
      left = left;
    }

-- as many whole calls as there is room for, the outermost, and the rest as lent
abbrev pub lendings : List Row
lendings =
    lending [] []
    ∷ lending (91 ∷ []) (91 ∷ [])
    ∷ lending (91 ∷ 92 ∷ []) (91 ∷ 92 ∷ [])
    ∷ lending (91 ∷ 92 ∷ 93 ∷ []) (1 ∷ 0 ∷ 3 ∷ [])
    ∷ lending (91 ∷ 92 ∷ 93 ∷ 94 ∷ []) (1 ∷ 0 ∷ 3 ∷ 94 ∷ [])
    ∷ lending (91 ∷ 92 ∷ 93 ∷ 94 ∷ 95 ∷ []) (1 ∷ 0 ∷ 3 ∷ 94 ∷ 95 ∷ [])
    ∷ lending (91 ∷ 92 ∷ 93 ∷ 94 ∷ 95 ∷ 96 ∷ []) (1 ∷ 0 ∷ 3 ∷ 0 ∷ 1 ∷ 1 ∷ [])
    ∷ lending (91 ∷ 92 ∷ 93 ∷ 94 ∷ 95 ∷ 96 ∷ 97 ∷ []) (1 ∷ 0 ∷ 3 ∷ 0 ∷ 1 ∷ 1 ∷ 97 ∷ [])
    ∷ []

-- one theorem for all six lists
pub rows_hold : All refusals × All refused_calls × All places × All others × All deepest × All lendings
unfolding ready_by judged verdict list_gate open_by explanation call_words words_left explaining
    be_at bytes_of signed unsigned integer_rows rows_of number_row value_by number_by read_by form_by spell bytes bytes_by spelling
    bit_length counts call_index entry_of biased callee
    offset by_last by_size by_count extent place_by place_in place part_bytes part unless entries_from formed_by formation
    byte_kind escaped_kind kind_by byte_takes type2_takes bottom by_kind leaves count_in entry_by subrs_of lists_of escaped_at operator_at cut_by cut
    struck tokens_by ends_in_operand admitted on_number on_stem on_mask on_end on_entry on_index on_call on_operator on_cut on_token
    resume after tokens_of read reading spelled flat
rows_hold = (
  (refl, (refl, (refl, (refl, (refl, (refl, (refl, (refl, (refl, (refl, (refl, (refl, (refl, (refl, (refl, (refl, (refl, (refl, tt)))))))))))))))))),
  (refl, (refl, (refl, (refl, (refl, (refl, (refl, (refl, (refl, (refl, (refl, (refl, tt)))))))))))),
  (refl, (refl, (refl, (refl, (refl, (refl, (refl, (refl, (refl, (refl, (refl, (refl, (refl, tt))))))))))))),
  (refl, (refl, (refl, (refl, (refl, (refl, (refl, (refl, (refl, tt))))))))),
  (refl, (refl, tt)),
  (refl, (refl, (refl, (refl, (refl, (refl, (refl, (refl, tt)))))))),
)
