-- The written INDEX of RULES, "INDEX", and those at the edges, by the definitions. Assumes nothing.
use Rattle.std.specs.Prelude.{◌≡◌, refl, List, [], ◌∷◌, ℕ}
use Rattle.number.specs.Answer.{accepted, refused, alone, needing, into}
use Rattle.number.specs.BigEndian.{bytes_of}
use Rattle.index_writing.specs.Writing.{wrote}
use Rattle.index_writing.specs.Writing.{total, element, size_for, offsets, behind_count, index_bytes, index_of, write_index}

-- room for eight bytes, and for two
abbrev eight : List ℕ
eight = 9 ∷ 9 ∷ 9 ∷ 9 ∷ 9 ∷ 9 ∷ 9 ∷ 9 ∷ []

abbrev pair : List ℕ
pair = 9 ∷ 9 ∷ []

-- the elements `0E` and empty, with a byte of room to spare and without room; and no elements
pub writes :
    (write_index 2 (1 ∷ 0 ∷ []) (0x0E ∷ []) eight ≡ wrote (accepted 7) (0 ∷ 2 ∷ 1 ∷ 1 ∷ 2 ∷ 2 ∷ 0x0E ∷ 9 ∷ []))
    × (write_index 2 (1 ∷ 0 ∷ []) (0x0E ∷ []) pair ≡ wrote (refused 13 (needing 7)) pair)
    × (write_index 2 [] [] pair ≡ wrote (accepted 2) (0 ∷ 0 ∷ []))
unfolding write_index into index_of index_bytes behind_count offsets size_for total bytes_of
writes = (refl, refl, refl)

-- a last offset of 4294967295 and of one more, with no data; and data without elements
pub refusals :
    (write_index 2 (4294967294 ∷ []) [] pair ≡ wrote (refused 24 alone) pair)
    × (write_index 2 (4294967295 ∷ []) [] pair ≡ wrote (refused 23 alone) pair)
    × (write_index 2 [] (7 ∷ []) pair ≡ wrote (refused 24 alone) pair)
unfolding write_index into index_of total
refusals = (refl, refl, refl)

pub sizes : (size_for 255 ≡ 1) × (size_for 256 ≡ 2) × (size_for 65535 ≡ 2) × (size_for 65536 ≡ 3) × (size_for 16777215 ≡ 3)
    × (size_for 16777216 ≡ 4)
unfolding size_for
sizes = (refl, refl, refl, refl, refl, refl)

pub elements : (element (1 ∷ 0 ∷ []) (0x0E ∷ []) 0 ≡ 0x0E ∷ []) × (element (1 ∷ 0 ∷ []) (0x0E ∷ []) 1 ≡ [])
unfolding element total
elements = (refl, refl)
