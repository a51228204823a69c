-- Worked examples of flattening with rows (RULES, "Which entries a run enters"), proved as one list; and of what refused runs entered.
use Rattle.std.specs.Prelude.{◌≡◌, refl, List, [], ◌∷◌, ℕ, ◌+◌, replicate}
use Rattle.number.specs.Answer.{alone, at_token, needing_at, because, into}
use Rattle.number.specs.BigEndian.{be_at, bytes_of}
use Rattle.number.specs.Signed.{signed, unsigned}
use Rattle.number.specs.Number.{integer_rows, rows_of, row_of as number_row, value_by, number_by, read_by}
use Rattle.number.specs.Written.{form_by, spell, bytes, bytes_by, spelling}
use Rattle.number.specs.Call.{bit_length, counts, call_index, entry_of, biased, callee}
use Rattle.index.specs.Index.{offset, by_last, by_size, by_count, extent, place_by, place_in, place, bytes_by as part_bytes, part}
use Rattle.index.specs.Formed.{unless, entries_from, formed_by, formation}
use Rattle.reading.specs.Rules.{Rules, byte_kind, escaped_kind, kind_by, byte_takes, type2_takes, plain, strict}
use Rattle.reading.specs.Lists.{count_in, entry_by, subrs_of, lists_of}
use Rattle.reading.specs.Tokens.{escaped_at, operator_at, cut_by, cut}
use Rattle.reading.specs.Items.{bottom, by_kind, leaves}
use Rattle.reading.specs.Reading.{struck, tokens_by, ends_in_operand, admitted, on_number, on_stem, on_mask, on_end, on_entry}
use Rattle.reading.specs.Reading.{on_index, on_call, on_operator, on_cut, on_token, resume, after, tokens_of, read, reading, original}
use Rattle.reading.specs.Flat.{spelled, flat}
use Rattle.reading.specs.Answers.{ready_by, judged, outcome, list_gate}
use Rattle.reading.specs.Entered.{entered, bits, bytes_from, row, row_of, Lent, row_left, Marked, marked_by, marking}
use Rattle.reading.specs.Rows.{Expected, gives, refuses, expected_by, none, L, only, shallow, behind_mask}
use Rattle.reading.specs.declared.operator.Which.TheVariants.{Local, Global}

-- ---- a row: what is lent, the answer, and both rows as left

pub record Row : Type 0 where
  pub charstring : List ℕ
  pub globals : List ℕ
  pub locals : List ℕ
  pub rules : Rules
  pub room : ℕ
  pub lent_globals : List ℕ
  pub lent_locals : List ℕ
  pub expected : Expected
  pub left_globals : List ℕ
  pub left_locals : List ℕ

-- the room is lent full of A5
abbrev pub lent : Row → Lent
lent r = record { room = replicate r.room 0xA5; globals = r.lent_globals; locals = r.lent_locals }

abbrev pub left : Row → Marked
left r =
    let x = expected_by (lent r).room r.expected in
    record { answer = x.answer; left = record { room = x.left; globals = r.left_globals; locals = r.left_locals } }

abbrev pub Holds : Row → Type 0
Holds r = marking r.rules r.charstring r.globals r.locals 1000 (lent r) ≡ left r

abbrev pub All : List Row → Type 0
All [] = Unit {0}
All (r ∷ rs) = Holds r × All rs

-- plain, and room for 8 bytes: a charstring, each list with its row as lent, the answer, and the rows as left
abbrev marks : List ℕ → List ℕ → List ℕ → List ℕ → List ℕ → Expected → List ℕ → List ℕ → Row
marks cs globals g locals l e g' l' =
    record {
      charstring = cs;
      globals = globals;
      locals = locals;
      rules = plain;
      room = 8;
      lent_globals = g;
      lent_locals = l;
      expected = e;
      left_globals = g';
      left_locals = l';
    }

-- all as lent
abbrev keeps : Rules → ℕ → List ℕ → List ℕ → List ℕ → List ℕ → List ℕ → Expected → Row
keeps rules room cs globals g locals l e =
    record {
      charstring = cs;
      globals = globals;
      locals = locals;
      rules = rules;
      room = room;
      lent_globals = g;
      lent_locals = l;
      expected = e;
      left_globals = g;
      left_locals = l;
    }

-- n entries, all of them empty; n is from 1 to 255
abbrev hollow : ℕ → List ℕ
hollow n = 0x00 ∷ n ∷ 0x01 ∷ replicate (n + 1) 0x01

-- three entries, of which each but the last calls the next
abbrev three : List ℕ
three = 0x00 ∷ 0x03 ∷ 0x01 ∷ 0x01 ∷ 0x03 ∷ 0x05 ∷ 0x05 ∷ 0x21 ∷ 0x0A ∷ 0x22 ∷ 0x0A ∷ []

-- ---- accepted

abbrev pub marked : List Row
marked =
    -- nothing to enter, and a row that no count needs; nothing entered, and an operand that is no call's index
    marks (0x0E ∷ []) none [] none (0xFF ∷ []) (gives (0x0E ∷ []) 1) [] (0xFF ∷ [])
    ∷ marks (0x0E ∷ []) (hollow 9) (0xFF ∷ 0xFF ∷ []) (hollow 8) (0xFF ∷ []) (gives (0x0E ∷ []) 1) (0x00 ∷ 0x00 ∷ []) (0x00 ∷ [])
    ∷ marks (0x20 ∷ []) none [] L (0xFF ∷ []) (gives (0x20 ∷ []) 1) [] (0x00 ∷ [])
    -- one of one, in a row that is just long enough and in a longer one, which keeps its tail
    ∷ marks (0x20 ∷ 0x0A ∷ 0x0E ∷ []) none [] L (0xFF ∷ []) (gives (0x8C ∷ 0x8D ∷ 0x15 ∷ 0x0E ∷ []) 7) [] (0x01 ∷ [])
    ∷ marks (0x20 ∷ 0x0A ∷ 0x0E ∷ []) none [] L (0xFF ∷ 0xFF ∷ []) (gives (0x8C ∷ 0x8D ∷ 0x15 ∷ 0x0E ∷ []) 7) [] (0x01 ∷ 0xFF ∷ [])
    -- the last of seven, of eight and of nine; the first, and both
    ∷ marks (0x26 ∷ 0x0A ∷ []) none [] (hollow 7) (0xFF ∷ []) (gives [] 2) [] (0x40 ∷ [])
    ∷ marks (0x27 ∷ 0x0A ∷ []) none [] (hollow 8) (0xFF ∷ []) (gives [] 2) [] (0x80 ∷ [])
    ∷ marks (0x28 ∷ 0x0A ∷ []) none [] (hollow 9) (0xFF ∷ 0xFF ∷ 0xFF ∷ []) (gives [] 2) [] (0x00 ∷ 0x01 ∷ 0xFF ∷ [])
    ∷ marks (0x20 ∷ 0x0A ∷ []) none [] (hollow 9) (0xFF ∷ 0xFF ∷ []) (gives [] 2) [] (0x01 ∷ 0x00 ∷ [])
    ∷ marks (0x28 ∷ 0x1D ∷ 0x20 ∷ 0x1D ∷ []) (hollow 9) (0x00 ∷ 0x00 ∷ []) none [] (gives [] 4) (0x01 ∷ 0x01 ∷ []) []
    -- one that is entered twice
    ∷ marks (0x21 ∷ 0x0A ∷ 0x21 ∷ 0x0A ∷ []) none [] (hollow 2) (0xFF ∷ []) (gives [] 4) [] (0x02 ∷ [])
    -- within others: three deep; only by a global that a local calls, and the other way round; one that ends everything
    ∷ marks (0x20 ∷ 0x0A ∷ 0x0E ∷ []) none [] three (0xFF ∷ []) (gives (0x0E ∷ []) 7) [] (0x07 ∷ [])
    ∷ marks (0x20 ∷ 0x0A ∷ []) (hollow 2) (0xFF ∷ []) (only (0x21 ∷ 0x1D ∷ [])) (0xFF ∷ []) (gives [] 4) (0x02 ∷ []) (0x01 ∷ [])
    ∷ marks (0x20 ∷ 0x1D ∷ []) (only (0x21 ∷ 0x0A ∷ [])) (0xFF ∷ []) (hollow 2) (0xFF ∷ []) (gives [] 4) (0x01 ∷ []) (0x02 ∷ [])
    ∷ marks (0x20 ∷ 0x0A ∷ 0x21 ∷ 0x0A ∷ []) none [] (0x00 ∷ 0x02 ∷ 0x01 ∷ 0x01 ∷ 0x02 ∷ 0x02 ∷ 0x0E ∷ []) (0xFF ∷ [])
    (gives (0x0E ∷ []) 3) [] (0x01 ∷ [])
    ∷ []

-- ---- refused

abbrev pub kept : List Row
kept =
    -- behind a call; at a call; for the room; for the end in strict
    keeps plain 8 (0x20 ∷ 0x0A ∷ 0x00 ∷ []) none [] L (0xFF ∷ []) (refuses 6 (at_token 7))
    ∷ keeps plain 8 (0x21 ∷ 0x0A ∷ []) none [] L (0xFF ∷ []) (refuses 9 (at_token 2))
    ∷ keeps plain 3 (0x20 ∷ 0x0A ∷ 0x0E ∷ []) none [] L (0xFF ∷ []) (refuses 13 (needing_at 4 7))
    ∷ keeps strict 8 (0x20 ∷ 0x0A ∷ []) none [] L (0xFF ∷ []) (refuses 16 alone)
    -- 43: a row a byte short, of either list
    ∷ keeps plain 8 (0x0E ∷ []) none [] L [] (refuses 43 alone)
    ∷ keeps plain 8 (0x0E ∷ []) L [] none [] (refuses 43 alone)
    ∷ keeps plain 8 (0x0E ∷ []) L (0xFF ∷ []) (hollow 9) (0xFF ∷ []) (refuses 43 alone)
    ∷ keeps plain 8 (0x0E ∷ []) (hollow 9) (0xFF ∷ []) L (0xFF ∷ 0xFF ∷ []) (refuses 43 alone)
    -- behind 1 and 2, before all that a run says
    ∷ keeps plain 8 (0x0E ∷ []) [] [] L [] (refuses 1 (because 20 alone))
    ∷ keeps plain 8 (0x0E ∷ []) L [] [] [] (refuses 2 (because 20 alone))
    ∷ keeps plain 8 (0x00 ∷ []) none [] L [] (refuses 43 alone)
    ∷ keeps plain 0 (0x0E ∷ []) none [] L [] (refuses 43 alone)
    ∷ keeps strict 8 [] none [] L [] (refuses 43 alone)
    ∷ []

-- ---- what a run entered, accepted or not, as the two rows that it would make

pub record Reached : Type 0 where
  pub charstring : List ℕ
  pub globals : List ℕ
  pub locals : List ℕ
  pub rules : Rules
  pub budget : ℕ
  pub in_globals : List ℕ
  pub in_locals : List ℕ

abbrev pub Reaches : Reached → Type 0
Reaches x =
    let r = original x.rules x.charstring x.globals x.locals x.budget in
    let lists = lists_of x.rules.width x.globals x.locals in
    (row_of lists r Global ≡ x.in_globals) × (row_of lists r Local ≡ x.in_locals)

abbrev pub AllReach : List Reached → Type 0
AllReach [] = Unit {0}
AllReach (x ∷ xs) = Reaches x × AllReach xs

-- L twice
abbrev reaches : Rules → ℕ → List ℕ → List ℕ → List ℕ → Reached
reaches rules budget cs g l =
    record { charstring = cs; globals = L; locals = L; rules = rules; budget = budget; in_globals = g; in_locals = l }

abbrev pub reached : List Reached
reached =
    -- refused behind a call, within one, and for the room
    reaches plain 1000 (0x20 ∷ 0x0A ∷ 0x00 ∷ []) (0x00 ∷ []) (0x01 ∷ [])
    ∷ reaches plain 1000 (0x20 ∷ 0x1D ∷ 0x00 ∷ []) (0x01 ∷ []) (0x00 ∷ [])
    ∷ reaches plain 3 (0x20 ∷ 0x0A ∷ 0x0E ∷ []) (0x00 ∷ []) (0x01 ∷ [])
    -- a refused call enters nothing: 3, 7, 9, 10 and 8
    ∷ reaches plain 1 (0x20 ∷ 0x0A ∷ []) (0x00 ∷ []) (0x00 ∷ [])
    ∷ reaches plain 1000 (0x0A ∷ []) (0x00 ∷ []) (0x00 ∷ [])
    ∷ reaches plain 1000 (0x21 ∷ 0x0A ∷ []) (0x00 ∷ []) (0x00 ∷ [])
    ∷ reaches shallow 1000 (0x20 ∷ 0x0A ∷ []) (0x00 ∷ []) (0x00 ∷ [])
    ∷ reaches plain 1000 (behind_mask (0x20 ∷ [])) (0x00 ∷ []) (0x00 ∷ [])
    -- but what was entered before it
    ∷ reaches plain 1000 (0x20 ∷ 0x1D ∷ 0x21 ∷ 0x0A ∷ []) (0x01 ∷ []) (0x00 ∷ [])
    ∷ []

-- one theorem for all three lists
pub rows_hold : All marked × All kept × AllReach reached
unfolding expected_by into ready_by judged outcome entered bits bytes_from row row_of row_left marked_by list_gate marking
    be_at bytes_of signed unsigned integer_rows rows_of number_row value_by number_by read_by form_by spell bytes bytes_by spelling
    bit_length counts call_index entry_of biased callee
    offset by_last by_size by_count extent place_by place_in place part_bytes part unless entries_from formed_by formation
    byte_kind escaped_kind kind_by byte_takes type2_takes bottom by_kind leaves count_in entry_by subrs_of lists_of escaped_at operator_at cut_by cut
    struck tokens_by ends_in_operand admitted on_number on_stem on_mask on_end on_entry on_index on_call on_operator on_cut on_token
    resume after tokens_of read reading spelled flat
rows_hold = (
  (refl, (refl, (refl, (refl, (refl, (refl, (refl, (refl, (refl, (refl, (refl, (refl, (refl, (refl, (refl, tt))))))))))))))),
  (refl, (refl, (refl, (refl, (refl, (refl, (refl, (refl, (refl, (refl, (refl, (refl, (refl, tt))))))))))))),
  ((refl, refl), ((refl, refl), ((refl, refl), ((refl, refl), ((refl, refl), ((refl, refl), ((refl, refl), ((refl, refl), ((refl, refl), tt))))))))),
)
