-- The starred rows (RULES, "Examples"), proved as one list; and lists of ours: what those rows miss, refusals that compete,
-- masks and the end in strict, a third rule set.
use Rattle.std.specs.Prelude.{◌≡◌, refl, List, [], ◌∷◌, ◌++◌, Bool, true, false, ℕ, ◌+◌, ℤ, pos, negsuc, length, drop, replicate}
use Rattle.std.specs.Prelude.{Some, None}
use Rattle.number.specs.Answer.{Values, alone, at_token, needing_at, at_entry, because, Answer, accepted, refused, Outcome, leaving, into}
use Rattle.number.specs.BigEndian.{be_at, bytes_of}
use Rattle.number.specs.Signed.{signed, unsigned}
use Rattle.number.specs.Number.{integer_rows, rows_of, row_of, value_by, number_by, read_by}
use Rattle.number.specs.Written.{form_by, spell, bytes, bytes_by, spelling}
use Rattle.number.specs.Call.{bit_length, counts, call_index, entry_of, biased, callee}
use Rattle.index.specs.Index.{offset, by_last, by_size, by_count, extent, place_by, place_in, place, bytes_by as part_bytes, part}
use Rattle.index.specs.Formed.{unless, entries_from, formed_by, formation}
use Rattle.index.specs.declared.width.Width.TheVariants.{Four}
use Rattle.reading.specs.Rules.{Rules, byte_kind, escaped_kind, kind_by, type2, byte_takes, type2_takes, plain, strict, meant}
use Rattle.number.specs.Operand.{operand_as}
use Rattle.number.specs.declared.Operand.{Operand}
use Rattle.number.specs.declared.Operand.TheVariants.{Integer}
use Rattle.reading.specs.declared.rules.Rules.{Rules as CodeRules}
use Rattle.reading.specs.Lists.{absent as absent_entry, count_in, entry_by, subrs_of, lists_of}
use Rattle.reading.specs.Tokens.{escaped_at, operator_at, cut_by, cut}
use Rattle.reading.specs.Items.{bottom, by_kind, leaves}
use Rattle.reading.specs.Reading.{struck, tokens_by, ends_in_operand, admitted, on_number, on_stem, on_mask, on_end, on_entry}
use Rattle.reading.specs.Reading.{on_index, on_call, on_operator, on_cut, on_token, resume, after, tokens_of, read, reading}
use Rattle.reading.specs.Flat.{spelled, flat}
use Rattle.reading.specs.Answers.{Flattening, ready_by, judged, outcome, list_gate, flattening}

-- what a row expects: a flat string and its tokens, without an advance width or with one, or a refusal and what comes with it
pub data Expected : Type 0 where
  gives : List ℕ → ℕ → Expected
  says : List ℕ → ℕ → Operand → Expected
  refuses : ℕ → Values → Expected

pub record Row : Type 0 where
  pub charstring : List ℕ
  pub globals : List ℕ
  pub locals : List ℕ
  pub rules : Rules
  pub budget : ℕ
  pub room : ℕ
  pub expected : Expected

-- the room is lent full of A5
abbrev pub lent : Row → List ℕ
lent r = replicate r.room 0xA5

unfoldable pub expected_by : List ℕ → Expected → Outcome (Answer Flattening)
expected_by out (gives f t) = leaving (accepted (record { size = length f; tokens = t; advance = None })) (f ++ drop (length f) out)
expected_by out (says f t o) = leaving (accepted (record { size = length f; tokens = t; advance = Some o })) (f ++ drop (length f) out)
expected_by out (refuses n v) = leaving (refused n v) out

abbrev pub Holds : Row → Type 0
Holds r = flattening r.rules r.charstring r.globals r.locals r.budget (lent r) ≡ expected_by (lent r) r.expected

abbrev pub All : List Row → Type 0
All [] = Unit {0}
All (r ∷ rs) = Holds r × All rs

-- ---- the rows

abbrev pub none : List ℕ
none = 0x00 ∷ 0x00 ∷ []

-- the list L of RULES, "Examples"
abbrev pub L : List ℕ
L = 0x00 ∷ 0x01 ∷ 0x01 ∷ 0x01 ∷ 0x05 ∷ 0x8C ∷ 0x8D ∷ 0x15 ∷ 0x0B ∷ []

-- a list of one entry, which calls itself
abbrev itself : List ℕ
itself = 0x00 ∷ 0x01 ∷ 0x01 ∷ 0x01 ∷ 0x03 ∷ 0x20 ∷ 0x0A ∷ []

-- an integer
abbrev whole : ℕ → Operand
whole n = Integer (pos n)

-- ample budget and room, plain
abbrev row : List ℕ → List ℕ → Expected → Row
row cs locals e = record { charstring = cs; globals = none; locals = locals; rules = plain; budget = 1000; room = 32; expected = e }

abbrev within : Rules → ℕ → ℕ → List ℕ → List ℕ → List ℕ → Expected → Row
within rules budget room cs globals locals e =
    record { charstring = cs; globals = globals; locals = locals; rules = rules; budget = budget; room = room; expected = e }

-- the starred rows in their order, each followed by its second half
abbrev pub starred : List Row
starred =
    row [] none (gives [] 0)
    ∷ row (0x20 ∷ 0x0A ∷ 0x0E ∷ []) L (gives (0x8C ∷ 0x8D ∷ 0x15 ∷ 0x0E ∷ []) 7)
    ∷ within plain 1000 3 (0x20 ∷ 0x0A ∷ 0x0E ∷ []) none L (refuses 13 (needing_at 4 7))
    ∷ row (0xFF ∷ 0xFF ∷ 0x95 ∷ 0x00 ∷ 0x00 ∷ 0x0A ∷ 0x0E ∷ []) L (gives (0x8C ∷ 0x8D ∷ 0x15 ∷ 0x0E ∷ []) 7)
    ∷ row (0x1C ∷ 0x00 ∷ 0x05 ∷ 0x0E ∷ []) none (says (0x90 ∷ 0x0E ∷ []) 2 (whole 5))
    ∷ row (0x0B ∷ 0x00 ∷ []) none (gives [] 1)
    ∷ row (0x21 ∷ 0x20 ∷ 0x0A ∷ 0x0E ∷ [])
    (0x00 ∷ 0x02 ∷ 0x01 ∷ 0x01 ∷ 0x02 ∷ 0x04 ∷ 0x0A ∷ 0x8C ∷ 0x16 ∷ []) (gives (0x8C ∷ 0x16 ∷ 0x0E ∷ []) 7)
    ∷ row (0x20 ∷ 0x0A ∷ 0x00 ∷ []) (0x00 ∷ 0x01 ∷ 0x01 ∷ 0x01 ∷ 0x02 ∷ 0x0E ∷ []) (gives (0x0E ∷ []) 3)
    ∷ row (0x8B ∷ 0x8C ∷ 0x01 ∷ 0x8B ∷ 0x8C ∷ 0x13 ∷ 0x80 ∷ 0x0E ∷ []) none
    (gives (0x8B ∷ 0x8C ∷ 0x01 ∷ 0x8B ∷ 0x8C ∷ 0x13 ∷ 0x80 ∷ 0x0E ∷ []) 7)
    ∷ row (0x13 ∷ 0x0E ∷ []) none (gives (0x13 ∷ 0x0E ∷ []) 2)
    ∷ row (0x8B ∷ 0x8B ∷ 0x8B ∷ 0x8B ∷ 0x0E ∷ []) none (refuses 12 (at_token 5))
    ∷ row (0x8B ∷ 0x8B ∷ 0x8B ∷ 0x0E ∷ []) none (says (0x8B ∷ 0x8B ∷ 0x8B ∷ 0x0E ∷ []) 4 (whole 0))
    ∷ row (0x8B ∷ 0x8C ∷ 0x01 ∷ 0x13 ∷ 0x80 ∷ 0x20 ∷ 0x13 ∷ 0x80 ∷ 0x0A ∷ []) L (refuses 8 (at_token 7))
    ∷ row (0x20 ∷ 0x0A ∷ []) itself (refuses 10 (at_token 128))
    ∷ within plain 127 32 (0x20 ∷ 0x0A ∷ []) none itself (refuses 3 (at_token 127))
    ∷ []

-- sixteen operands, declared as eight hints behind the first mask
abbrev late : List ℕ
late = 0x8B ∷ 0x8C ∷ 0x01 ∷ 0x13 ∷ 0x80 ∷ (replicate 16 0x8B ++ (0x01 ∷ 0x13 ∷ 0x80 ∷ 0x0E ∷ []))

-- a list of ten entries: an endchar, and nine of which each calls the one before it
abbrev chain : List ℕ
chain =
    0x00 ∷ 0x0A ∷ 0x01
    ∷ 0x01 ∷ 0x02 ∷ 0x04 ∷ 0x06 ∷ 0x08 ∷ 0x0A ∷ 0x0C ∷ 0x0E ∷ 0x10 ∷ 0x12 ∷ 0x14
    ∷ 0x0E ∷ 0x20 ∷ 0x0A ∷ 0x21 ∷ 0x0A ∷ 0x22 ∷ 0x0A ∷ 0x23 ∷ 0x0A ∷ 0x24 ∷ 0x0A ∷ 0x25
    ∷ 0x0A ∷ 0x26 ∷ 0x0A ∷ 0x27 ∷ 0x0A ∷ 0x28 ∷ 0x0A ∷ []

-- a list of three entries with these offsets, and three bytes of data
abbrev offsets : ℕ → ℕ → ℕ → ℕ → List ℕ
offsets a b c d = 0x00 ∷ 0x03 ∷ 0x01 ∷ a ∷ b ∷ c ∷ d ∷ 0x0B ∷ 0x0B ∷ 0x0B ∷ []

-- what those rows miss
abbrev pub more : List Row
more =
    -- the mask length stays when later stems come
    row late none (gives late 23)
    -- an index that a subroutine left on the stack
    ∷ row (0x20 ∷ 0x0A ∷ 0x0A ∷ 0x0E ∷ [])
    (0x00 ∷ 0x02 ∷ 0x01 ∷ 0x01 ∷ 0x03 ∷ 0x04 ∷ 0x21 ∷ 0x0B ∷ 0x0B ∷ []) (gives (0x0E ∷ []) 7)
    -- a global call
    ∷ within plain 1000 32 (0x20 ∷ 0x1D ∷ 0x0E ∷ []) L none (gives (0x8C ∷ 0x8D ∷ 0x15 ∷ 0x0E ∷ []) 7)
    -- a call two deep that ends everything
    ∷ row (0x21 ∷ 0x0A ∷ 0x00 ∷ [])
    (0x00 ∷ 0x02 ∷ 0x01 ∷ 0x01 ∷ 0x02 ∷ 0x05 ∷ 0x0E ∷ 0x20 ∷ 0x0A ∷ 0x00 ∷ []) (gives (0x0E ∷ []) 5)
    -- strict: ten levels of calls, and eleven
    ∷ within strict 1000 32 (0x29 ∷ 0x0A ∷ []) none chain (gives (0x0E ∷ []) 21)
    ∷ within strict 1000 32 (0x20 ∷ 0x0A ∷ []) none itself (refuses 10 (at_token 22))
    -- strict: an index that f32 would round
    ∷ within strict 1000 32 (0xFF ∷ 0x01 ∷ 0x2C ∷ 0x00 ∷ 0x01 ∷ 0x0A ∷ []) none L (refuses 7 (at_token 2))
    -- budget 6 is enough where running out is no token, and 5 is not
    ∷ within plain 6 32 (0x20 ∷ 0x0A ∷ []) none L (gives (0x8C ∷ 0x8D ∷ 0x15 ∷ []) 6)
    ∷ within plain 5 32 (0x20 ∷ 0x0A ∷ []) none L (refuses 3 (at_token 5))
    -- a list that is not well formed: unread, the global one first; with a first bad entry, for each reason; emptied by a last offset of 0
    ∷ within plain 0 32 [] [] (offsets 0 2 3 4) (refuses 1 (because 20 alone))
    ∷ within plain 0 32 [] none (0x00 ∷ 0x01 ∷ 0x05 ∷ []) (refuses 2 (because 21 alone))
    ∷ within plain 0 32 [] (offsets 1 2 0 4) (offsets 0 2 3 4) (refuses 1 (because 40 (at_entry 1)))
    ∷ within plain 0 32 [] (offsets 9 5 0 4) none (refuses 1 (because 41 (at_entry 0)))
    ∷ within plain 0 32 [] none (offsets 1 3 2 4) (refuses 2 (because 41 (at_entry 1)))
    ∷ within plain 0 32 [] none (offsets 1 2 5 4) (refuses 2 (because 42 (at_entry 1)))
    ∷ within plain 0 32 [] none (offsets 1 1 1 0) (refuses 2 (because 40 (at_entry 0)))
    ∷ []

-- plain, without a level below the charstring
abbrev pub shallow : Rules
shallow = record { operands = 48; levels = 0; hints = 65535; exact = false; clean = false; finished = false; width = 2; kind = type2; takes = type2_takes }

-- an operand in front of a mask whose length is fixed, and a call behind it: the index does not stand last
abbrev pub behind_mask : List ℕ → List ℕ
behind_mask index = 0x8B ∷ 0x8C ∷ 0x01 ∷ 0x13 ∷ 0x80 ∷ (index ++ (0x13 ∷ 0x80 ∷ 0x0A ∷ []))

abbrev full_stem : List ℕ
full_stem = replicate 48 0x8B ++ (0x01 ∷ [])

-- two refusals compete, and the first in order comes
abbrev pub competing : List Row
competing =
    -- 4 before 5, and 5 for a call's index
    row (replicate 48 0x8B ++ (0x20 ∷ [])) L (refuses 5 (at_token 49))
    ∷ row (replicate 48 0x8B ++ (0x1C ∷ 0x00 ∷ [])) none (refuses 4 (at_token 49))
    -- 7 before 9 and 8; 9 before 8
    ∷ row (behind_mask (0xFF ∷ 0x00 ∷ 0x00 ∷ 0x80 ∷ 0x00 ∷ [])) L (refuses 7 (at_token 7))
    ∷ row (behind_mask (0x8B ∷ [])) L (refuses 9 (at_token 7))
    -- 9 before 10; 10 before 8
    ∷ within shallow 1000 32 (0x8B ∷ 0x0A ∷ []) none L (refuses 9 (at_token 2))
    ∷ within shallow 1000 32 (behind_mask (0x20 ∷ [])) none L (refuses 10 (at_token 7))
    -- strict: 11 before 4 at a mask
    ∷ within strict 1000 32 (full_stem ++ (full_stem ++ (full_stem ++ (full_stem ++ (0x8B ∷ 0x8B ∷ 0x13 ∷ []))))) none none (refuses 11 (at_token 199))
    -- 3 before any of them
    ∷ within plain 48 32 (replicate 48 0x8B ++ (0x1C ∷ 0x00 ∷ [])) none none (refuses 3 (at_token 48))
    ∷ []

-- ---- masks in strict

abbrev strictly : List ℕ → List ℕ → Expected → Row
strictly cs locals e = within strict 1000 32 cs none locals e

-- a mask fixes the length, and then these
abbrev fixed : List ℕ → List ℕ
fixed more = 0x8B ∷ 0x8C ∷ 0x01 ∷ 0x13 ∷ 0x80 ∷ more

abbrev late15 : List ℕ
late15 = fixed (0x8B ∷ 0x13 ∷ 0x80 ∷ 0x0E ∷ [])

abbrev pub masks_in_strict : List Row
masks_in_strict =
    -- 15 alone: at 19 and at 20, with one operand and with 48; plain takes the same
    strictly late15 none (refuses 15 alone)
    ∷ row late15 none (gives late15 7)
    ∷ strictly (fixed (0x8B ∷ 0x14 ∷ 0x80 ∷ [])) none (refuses 15 alone)
    ∷ strictly (fixed (replicate 48 0x8B ++ (0x13 ∷ 0x80 ∷ []))) none (refuses 15 alone)
    -- in a subroutine, and by an operand that one left
    ∷ strictly (fixed (0x20 ∷ 0x0A ∷ 0x0E ∷ []))
    (0x00 ∷ 0x01 ∷ 0x01 ∷ 0x01 ∷ 0x05 ∷ 0x8B ∷ 0x13 ∷ 0x80 ∷ 0x0B ∷ []) (refuses 15 alone)
    ∷ strictly (fixed (0x20 ∷ 0x0A ∷ 0x13 ∷ 0x80 ∷ 0x0E ∷ []))
    (0x00 ∷ 0x01 ∷ 0x01 ∷ 0x01 ∷ 0x03 ∷ 0x8B ∷ 0x0B ∷ []) (refuses 15 alone)
    -- before 4, behind 3, and in place of 8
    ∷ strictly (fixed (0x8B ∷ 0x13 ∷ [])) none (refuses 15 alone)
    ∷ row (fixed (0x8B ∷ 0x13 ∷ [])) none (refuses 4 (at_token 6))
    ∷ within strict 5 32 late15 none none (refuses 3 (at_token 5))
    ∷ within strict 6 32 late15 none none (refuses 15 alone)
    ∷ strictly (behind_mask (0x20 ∷ [])) L (refuses 15 alone)
    -- the first mask takes operands, also behind one without bytes; a later one may come without
    ∷ strictly (0x8B ∷ 0x8C ∷ 0x13 ∷ 0x80 ∷ 0x0E ∷ []) none (gives (0x8B ∷ 0x8C ∷ 0x13 ∷ 0x80 ∷ 0x0E ∷ []) 4)
    ∷ strictly (0x13 ∷ 0x8B ∷ 0x8C ∷ 0x13 ∷ 0x80 ∷ 0x0E ∷ []) none (gives (0x13 ∷ 0x8B ∷ 0x8C ∷ 0x13 ∷ 0x80 ∷ 0x0E ∷ []) 5)
    ∷ strictly (fixed (0x13 ∷ 0x80 ∷ 0x0E ∷ [])) none (gives (fixed (0x13 ∷ 0x80 ∷ 0x0E ∷ [])) 6)
    ∷ []

-- ---- the end in strict

-- a list of one entry
abbrev pub only : List ℕ → List ℕ
only body = 0x00 ∷ 0x01 ∷ 0x01 ∷ 0x01 ∷ (length body + 1) ∷ body

abbrev pub ends_in_strict : List Row
ends_in_strict =
    -- 16 alone: the empty charstring, one that runs out, and one that returns; plain takes the same
    strictly [] none (refuses 16 alone)
    ∷ strictly (0x8B ∷ 0x8C ∷ 0x15 ∷ []) none (refuses 16 alone)
    ∷ row (0x8B ∷ 0x8C ∷ 0x15 ∷ []) none (gives (0x8B ∷ 0x8C ∷ 0x15 ∷ []) 3)
    ∷ strictly (0x0B ∷ 0x0E ∷ []) none (refuses 16 alone)
    ∷ row (0x0B ∷ 0x0E ∷ []) none (gives [] 1)
    -- a subroutine that only returns, and one that runs out: the charstring's own end decides
    ∷ strictly (0x20 ∷ 0x0A ∷ []) L (refuses 16 alone)
    ∷ strictly (0x20 ∷ 0x0A ∷ 0x0E ∷ []) L (gives (0x8C ∷ 0x8D ∷ 0x15 ∷ 0x0E ∷ []) 7)
    ∷ strictly (0x20 ∷ 0x0A ∷ []) (only (0x8C ∷ 0x16 ∷ [])) (refuses 16 alone)
    ∷ strictly (0x20 ∷ 0x0A ∷ 0x0E ∷ []) (only (0x8C ∷ 0x16 ∷ [])) (gives (0x8C ∷ 0x16 ∷ 0x0E ∷ []) 5)
    -- one that ends by endchar
    ∷ strictly (0x20 ∷ 0x0A ∷ []) (only (0x0E ∷ [])) (gives (0x0E ∷ []) 3)
    ∷ strictly (0x20 ∷ 0x0A ∷ 0x0B ∷ []) (only (0x0E ∷ [])) (gives (0x0E ∷ []) 3)
    ∷ []

-- 16 and another compete
abbrev pub ends_in_turn : List Row
ends_in_turn =
    -- before 13, which plain answers
    within strict 1000 0 (0x8B ∷ []) none none (refuses 16 alone)
    ∷ within plain 1000 0 (0x8B ∷ []) none none (refuses 13 (needing_at 1 1))
    ∷ within strict 1000 0 (0x0E ∷ []) none none (refuses 13 (needing_at 1 1))
    -- behind every refusal of the run, and of the lists
    ∷ strictly (0x00 ∷ []) none (refuses 6 (at_token 1))
    ∷ strictly (0x8B ∷ 0x8B ∷ 0x8B ∷ 0x8B ∷ 0x0E ∷ []) none (refuses 12 (at_token 5))
    ∷ within strict 0 32 (0x8B ∷ []) none none (refuses 3 (at_token 0))
    ∷ within strict 1 32 (0x8B ∷ []) none none (refuses 16 alone)
    ∷ within strict 0 32 [] none [] (refuses 2 (because 20 alone))
    ∷ []

-- ---- the advance width

-- a flat string that comes back in so many tokens, without a width, with this one, and with the width 1
abbrev silent : List ℕ → ℕ → Row
silent cs t = row cs none (gives cs t)

abbrev telling : List ℕ → ℕ → Bool → ℤ → Row
telling cs t fixed value = row cs none (says cs t (operand_as fixed value))

abbrev saying : List ℕ → ℕ → Row
saying cs t = telling cs t false (pos 1)

abbrev pub widths_at_stems : List Row
widths_at_stems =
    -- a stem and a mask take pairs
    saying (0x8C ∷ 0x01 ∷ []) 2
    ∷ silent (0x8C ∷ 0x8D ∷ 0x01 ∷ []) 3
    ∷ saying (0x8C ∷ 0x8D ∷ 0x8E ∷ 0x01 ∷ []) 4
    ∷ silent (0x8C ∷ 0x8D ∷ 0x03 ∷ []) 3
    ∷ saying (0x8C ∷ 0x8D ∷ 0x8E ∷ 0x03 ∷ []) 4
    ∷ saying (0x8C ∷ 0x8D ∷ 0x8E ∷ 0x12 ∷ []) 4
    ∷ saying (0x8C ∷ 0x8D ∷ 0x8E ∷ 0x17 ∷ []) 4
    ∷ silent (0x8C ∷ 0x8D ∷ 0x8E ∷ 0x8F ∷ 0x17 ∷ []) 5
    ∷ saying (0x8C ∷ 0x13 ∷ []) 2
    ∷ silent (0x8C ∷ 0x8D ∷ 0x13 ∷ 0x80 ∷ []) 3
    ∷ saying (0x8C ∷ 0x8D ∷ 0x8E ∷ 0x13 ∷ 0x80 ∷ []) 4
    ∷ saying (0x8C ∷ 0x8D ∷ 0x8E ∷ 0x14 ∷ 0x80 ∷ []) 4
    -- the first operator settles it: a mask before any operand, a stem, a mask whose length is fixed later
    ∷ silent (0x13 ∷ 0x8C ∷ 0x0E ∷ []) 3
    ∷ silent (0x13 ∷ 0x8C ∷ 0x13 ∷ []) 3
    ∷ silent (0x8C ∷ 0x8D ∷ 0x01 ∷ 0x8C ∷ 0x8D ∷ 0x8E ∷ 0x03 ∷ []) 7
    ∷ silent (0x8C ∷ 0x8D ∷ 0x13 ∷ 0x80 ∷ 0x8E ∷ 0x13 ∷ 0x80 ∷ 0x0E ∷ []) 6
    ∷ []

abbrev pub widths_at_moves : List Row
widths_at_moves =
    -- rmoveto takes two, hmoveto and vmoveto one, endchar none
    silent (0x8C ∷ 0x15 ∷ []) 2
    ∷ silent (0x8C ∷ 0x8D ∷ 0x15 ∷ []) 3
    ∷ saying (0x8C ∷ 0x8D ∷ 0x8E ∷ 0x15 ∷ []) 4
    ∷ saying (0x8C ∷ 0x8D ∷ 0x8E ∷ 0x8F ∷ 0x15 ∷ []) 5
    ∷ silent (0x16 ∷ []) 1
    ∷ silent (0x8C ∷ 0x16 ∷ []) 2
    ∷ saying (0x8C ∷ 0x8D ∷ 0x16 ∷ []) 3
    ∷ silent (0x04 ∷ []) 1
    ∷ silent (0x8C ∷ 0x04 ∷ []) 2
    ∷ saying (0x8C ∷ 0x8D ∷ 0x04 ∷ []) 3
    ∷ silent (0x0E ∷ []) 1
    ∷ saying (0x8C ∷ 0x0E ∷ []) 2
    ∷ saying (0x8C ∷ 0x8D ∷ 0x8E ∷ 0x0E ∷ []) 4
    -- a later one finds it settled
    ∷ silent (0x8C ∷ 0x8D ∷ 0x15 ∷ 0x8C ∷ 0x8D ∷ 0x8E ∷ 0x15 ∷ []) 7
    ∷ saying (0x8C ∷ 0x8D ∷ 0x8E ∷ 0x15 ∷ 0x8F ∷ 0x8F ∷ 0x8F ∷ 0x15 ∷ []) 8
    ∷ silent (0x8C ∷ 0x8D ∷ 0x15 ∷ 0x8C ∷ 0x0E ∷ []) 5
    ∷ []

abbrev pub other_widths : List Row
other_widths =
    -- another operator that clears the stack came first, one byte or escaped; or none at all
    silent (0x8B ∷ 0x05 ∷ 0x8C ∷ 0x0E ∷ []) 4
    ∷ silent (0x8C ∷ 0x18 ∷ []) 2
    ∷ silent (0x8C ∷ 0x0C ∷ 0x23 ∷ 0x8C ∷ 0x0E ∷ []) 4
    ∷ silent (0x8C ∷ []) 1
    -- a Fixed, by its bits, and an integer below 0
    ∷ telling (0xFF ∷ 0x00 ∷ 0x05 ∷ 0x80 ∷ 0x00 ∷ 0x0E ∷ []) 2 true (pos 360448)
    ∷ telling (0xFF ∷ 0xFF ∷ 0xFF ∷ 0x80 ∷ 0x00 ∷ 0x0E ∷ []) 2 true (negsuc 32767)
    ∷ telling (0x8A ∷ 0x8B ∷ 0x16 ∷ []) 3 false (negsuc 0)
    -- seen through a call; in a subroutine, also without its caller's endchar; left by one; and not a call's index
    ∷ row (0x8C ∷ 0x20 ∷ 0x0A ∷ 0x0E ∷ []) L (says (0x8C ∷ 0x8C ∷ 0x8D ∷ 0x15 ∷ 0x0E ∷ []) 8 (whole 1))
    ∷ row (0x20 ∷ 0x0A ∷ []) (only (0x8C ∷ 0x0E ∷ [])) (says (0x8C ∷ 0x0E ∷ []) 4 (whole 1))
    ∷ row (0x20 ∷ 0x0A ∷ 0x0E ∷ []) (only (0x8C ∷ 0x8D ∷ 0x16 ∷ [])) (says (0x8C ∷ 0x8D ∷ 0x16 ∷ 0x0E ∷ []) 6 (whole 1))
    ∷ row (0x20 ∷ 0x0A ∷ 0x0E ∷ []) (only (0x8C ∷ 0x0B ∷ [])) (says (0x8C ∷ 0x0E ∷ []) 5 (whole 1))
    ∷ row (0x20 ∷ 0x0A ∷ 0x8D ∷ 0x16 ∷ []) (only (0x8C ∷ [])) (says (0x8C ∷ 0x8D ∷ 0x16 ∷ []) 5 (whole 1))
    ∷ row (0x20 ∷ 0x0A ∷ 0x0E ∷ []) L (gives (0x8C ∷ 0x8D ∷ 0x15 ∷ 0x0E ∷ []) 7)
    -- in strict it is the same
    ∷ strictly (0x8C ∷ 0x8D ∷ 0x8E ∷ 0x13 ∷ 0x80 ∷ 0x0E ∷ []) none (says (0x8C ∷ 0x8D ∷ 0x8E ∷ 0x13 ∷ 0x80 ∷ 0x0E ∷ []) 5 (whole 1))
    ∷ []

-- ---- a third rule set

-- no profile's: a value of the code's record, and the runner's proof is over any such value
abbrev pub third : CodeRules
third = record { operands = 513; levels = 10; hints = 96; ends = false; exact = true; clean = false; finished = false; width = Four }

pub third_meant : meant third
    ≡ record { operands = 513; levels = 10; hints = 96; exact = true; clean = false; finished = false; width = 4; kind = kind_by false; takes = type2_takes }
third_meant = refl

abbrev none_wide : List ℕ
none_wide = 0x00 ∷ 0x00 ∷ 0x00 ∷ 0x00 ∷ []

-- L without its return, its count in four bytes
abbrev wide_l : List ℕ
wide_l = 0x00 ∷ 0x00 ∷ 0x00 ∷ 0x01 ∷ 0x01 ∷ 0x01 ∷ 0x04 ∷ 0x8C ∷ 0x8D ∷ 0x15 ∷ []

abbrev by_third : List ℕ → Expected → Row
by_third cs e = within (meant third) 1000 64 cs none_wide wide_l e

abbrev pub thirds : List Row
thirds =
    -- 11 and 14 are no operators, 10 is a local call
    by_third (0x0B ∷ []) (refuses 6 (at_token 1))
    ∷ by_third (0x0E ∷ []) (refuses 6 (at_token 1))
    ∷ by_third (0x20 ∷ 0x0A ∷ 0x05 ∷ []) (gives (0x8C ∷ 0x8D ∷ 0x15 ∷ 0x05 ∷ []) 6)
    -- 49 operands
    ∷ by_third (replicate 49 0x8B ++ (0x05 ∷ [])) (gives (replicate 49 0x8B ++ (0x05 ∷ [])) 50)
    ∷ []

-- one theorem over the reading's definition for all ten lists
pub rows_hold : All starred × All more × All competing × All masks_in_strict × All ends_in_strict × All ends_in_turn
    × All widths_at_stems × All widths_at_moves × All other_widths × All thirds
unfolding expected_by into ready_by judged outcome list_gate flattening
    be_at bytes_of signed unsigned integer_rows rows_of row_of value_by number_by read_by form_by spell bytes bytes_by spelling
    bit_length counts call_index entry_of biased callee
    offset by_last by_size by_count extent place_by place_in place part_bytes part unless entries_from formed_by formation
    byte_kind escaped_kind kind_by byte_takes type2_takes bottom by_kind leaves count_in entry_by subrs_of lists_of escaped_at operator_at cut_by cut
    struck tokens_by ends_in_operand admitted on_number on_stem on_mask on_end on_entry on_index on_call on_operator on_cut on_token
    resume after tokens_of read reading spelled flat
rows_hold = (
  (refl, (refl, (refl, (refl, (refl, (refl, (refl, (refl, (refl, (refl, (refl, (refl, (refl, (refl, (refl, tt))))))))))))))),
  (refl, (refl, (refl, (refl, (refl, (refl, (refl, (refl, (refl, (refl, (refl, (refl, (refl, (refl, (refl, (refl, tt)))))))))))))))),
  (refl, (refl, (refl, (refl, (refl, (refl, (refl, (refl, tt)))))))),
  (refl, (refl, (refl, (refl, (refl, (refl, (refl, (refl, (refl, (refl, (refl, (refl, (refl, (refl, tt)))))))))))))),
  (refl, (refl, (refl, (refl, (refl, (refl, (refl, (refl, (refl, (refl, (refl, tt))))))))))),
  (refl, (refl, (refl, (refl, (refl, (refl, (refl, (refl, tt)))))))),
  (refl, (refl, (refl, (refl, (refl, (refl, (refl, (refl, (refl, (refl, (refl, (refl, (refl, (refl, (refl, (refl, tt)))))))))))))))),
  (refl, (refl, (refl, (refl, (refl, (refl, (refl, (refl, (refl, (refl, (refl, (refl, (refl, (refl, (refl, (refl, tt)))))))))))))))),
  (refl, (refl, (refl, (refl, (refl, (refl, (refl, (refl, (refl, (refl, (refl, (refl, (refl, (refl, tt)))))))))))))),
  (refl, (refl, (refl, (refl, tt)))),
)

-- an entry that is absent, which no well-formed list has, is 9 also where no level is left and the index does not stand last
pub absent_first : (levels : ℕ) (last : Bool) → admitted {A = List ℕ} levels last absent_entry ≡ refused 9 alone
unfolding admitted
absent_first levels last = refl
