-- The INDEXes of RULES, "INDEX", and those at their edges, by the definitions. Assumes nothing.
use Rattle.std.specs.Prelude.{◌≡◌, refl, List, [], ◌∷◌, ℕ}
use Rattle.number.specs.Answer.{accepted, refused, alone, at_entry}
use Rattle.number.specs.BigEndian.{be_at}
use Rattle.index.specs.Index.{offset, by_last, by_size, by_count, extent, place_by, place_in, place, bytes_by, part}
use Rattle.index.specs.Formed.{unless, entries_from, formed_by, formation}
use Rattle.index.specs.Index.{has, lies}

-- the elements `0E` and empty
abbrev pub two : List ℕ
two = 0 ∷ 2 ∷ 1 ∷ 1 ∷ 2 ∷ 2 ∷ 0x0E ∷ []

-- a last offset of 0, though the offsets of entry 0 look present
abbrev pub none : List ℕ
none = 0 ∷ 2 ∷ 1 ∷ 1 ∷ 1 ∷ 0 ∷ []

-- a first offset that is not 1; and an empty entry at the very end
abbrev late : List ℕ
late = 0 ∷ 1 ∷ 1 ∷ 2 ∷ 3 ∷ 0x8C ∷ 0x0B ∷ []

abbrev end : List ℕ
end = 0 ∷ 1 ∷ 1 ∷ 3 ∷ 3 ∷ 0xAA ∷ 0xBB ∷ []

-- offsets of two bytes, of which the second pair descends
abbrev back : List ℕ
back = 0 ∷ 3 ∷ 2 ∷ 0 ∷ 1 ∷ 0 ∷ 3 ∷ 0 ∷ 2 ∷ 0 ∷ 3 ∷ 7 ∷ 8 ∷ 9 ∷ []

-- a count of four bytes
abbrev wide : List ℕ
wide = 0 ∷ 0 ∷ 0 ∷ 1 ∷ 1 ∷ 1 ∷ 2 ∷ 0x0B ∷ []

-- eight bytes behind a count and a size byte, as offsets of each size
abbrev eight : List ℕ
eight = 0 ∷ 1 ∷ 0 ∷ 0x11 ∷ 0x22 ∷ 0x33 ∷ 0x44 ∷ 0x55 ∷ 0x66 ∷ 0x77 ∷ 0x88 ∷ []

pub sizes : (offset 2 eight 1 1 ≡ 0x22) × (offset 2 eight 2 1 ≡ 0x3344) × (offset 2 eight 3 1 ≡ 0x445566) × (offset 2 eight 4 1 ≡ 0x55667788)
unfolding offset be_at
sizes = (refl, refl, refl, refl)

pub reads :
    (extent 2 two ≡ has 2 7)
    × (extent 2 none ≡ has 0 6)
    × (extent 2 (0 ∷ 0 ∷ 7 ∷ []) ≡ has 0 2)
    × (extent 2 [] ≡ refused 20 alone)
    × (extent 2 (0 ∷ 1 ∷ 5 ∷ []) ≡ refused 21 alone)
    × (extent 2 back ≡ has 3 13)
unfolding extent by_count by_size by_last offset be_at
reads = (refl, refl, refl, refl, refl, refl)

pub entries :
    (place 2 two 1 ≡ lies 7 0)
    × (place 2 late 0 ≡ lies 6 1)
    × (place 2 end 0 ≡ lies 7 0)
unfolding place place_in place_by extent by_count by_size by_last offset be_at
entries = (refl, refl, refl)

pub parts : (part 2 two 0 ≡ 0x0E ∷ []) × (part 2 late 0 ≡ 0x0B ∷ []) × (part 2 two 2 ≡ [])
unfolding part bytes_by place place_in place_by extent by_count by_size by_last offset be_at
parts = (refl, refl, refl)

-- two entries with these three offsets, and a byte of data
abbrev offsets : ℕ → ℕ → ℕ → List ℕ
offsets a b c = 0 ∷ 2 ∷ 1 ∷ a ∷ b ∷ c ∷ 7 ∷ []

-- each way to be absent: past the count, also of the empty list; an offset of 0, the first or the second; descending; past the data
pub reasons :
    (place 2 two 2 ≡ refused 25 alone)
    × (place 2 (0 ∷ 0 ∷ []) 0 ≡ refused 25 alone)
    × (place 2 (offsets 0 1 2) 0 ≡ refused 40 alone)
    × (place 2 (offsets 1 0 2) 0 ≡ refused 40 alone)
    × (place 2 back 1 ≡ refused 41 alone)
    × (place 2 (offsets 1 3 2) 0 ≡ refused 42 alone)
unfolding place place_in place_by extent by_count by_size by_last offset be_at
reasons = (refl, refl, refl, refl, refl, refl)

-- Where two hold at once the first is told: a last offset of 0 before the count; the count before what would be offsets, here data; 0 before
-- descending and before passing; descending before passing.
pub orders :
    (place 2 none 0 ≡ refused 40 alone)
    × (place 2 none 7 ≡ refused 40 alone)
    × (place 2 (0 ∷ 1 ∷ 1 ∷ 1 ∷ 3 ∷ 0 ∷ 9 ∷ []) 1 ≡ refused 25 alone)
    × (place 2 (offsets 5 0 2) 0 ≡ refused 40 alone)
    × (place 2 (offsets 0 5 2) 0 ≡ refused 40 alone)
    × (place 2 (offsets 9 5 2) 0 ≡ refused 41 alone)
unfolding place place_in place_by extent by_count by_size by_last offset be_at
orders = (refl, refl, refl, refl, refl, refl)

-- of a list the first that is absent, and why; of an emptied one entry 0
pub lists :
    (formation 2 two ≡ accepted 2)
    × (formation 2 late ≡ accepted 1)
    × (formation 2 (0 ∷ 0 ∷ []) ≡ accepted 0)
    × (formation 2 [] ≡ refused 20 alone)
    × (formation 2 (0 ∷ 1 ∷ 5 ∷ []) ≡ refused 21 alone)
    × (formation 2 none ≡ refused 40 (at_entry 0))
    × (formation 2 (offsets 0 1 2) ≡ refused 40 (at_entry 0))
    × (formation 2 back ≡ refused 41 (at_entry 1))
    × (formation 2 (offsets 1 3 2) ≡ refused 42 (at_entry 0))
unfolding formation formed_by entries_from unless place place_in place_by extent by_count by_size by_last offset be_at
lists = (refl, refl, refl, refl, refl, refl, refl, refl, refl)

pub widths : (extent 4 wide ≡ has 1 8) × (place 4 wide 0 ≡ lies 7 1)
    × (extent 4 (0 ∷ 0 ∷ 1 ∷ []) ≡ refused 20 alone) × (formation 4 wide ≡ accepted 1)
unfolding formation formed_by entries_from unless place place_in place_by extent by_count by_size by_last offset be_at
widths = (refl, refl, refl, refl)
