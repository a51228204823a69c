-- An INDEX (TN5176, section 5; RULES, "INDEX"): a count; for a count that is not 0 an offset size, count + 1 offsets of that size, and the data.
-- Offsets are counted from the byte before the data, so the last one is one more than the data's length.
-- The count has w bytes: 2 in CFF. Below, s is the bytes, n the count and z the offset size.
use Rattle.std.specs.Prelude.{ℕ, Result, Ok, Err, ◌+◌, ◌-◌, ◌*◌, cond, ◌||◌, List, [], length, get_or, take, drop, leb, ltb, eqb}
use Rattle.number.specs.Answer.{Answer, accepted, refused, alone, number_in}
use Rattle.number.specs.BigEndian.{be_at}
use Rattle.index.specs.declared.width.Width.{Width}
use Rattle.index.specs.declared.width.Width.TheVariants.{Two, Four}
use Rattle.index.specs.declared.read.Extent.{Extent as Reached}
use Rattle.index.specs.declared.read.IndexError.{IndexError}
use Rattle.index.specs.declared.read.IndexError.TheVariants.{Lacking, BadSize}
use Rattle.index.specs.declared.absence.Absence.{Absence}
use Rattle.index.specs.declared.absence.Absence.TheVariants.{PastCount, ZeroOffset, Descending, PastData}
use Rattle.index.specs.declared.entry.Place.{Place as EntryPlace}
use Rattle.index.specs.declared.entry.EntryError.{EntryError}
use Rattle.index.specs.declared.entry.EntryError.TheVariants.{Index, Absent}

-- the widths that the code reads
abbrev pub width_of : Width → ℕ
width_of Two = 2
width_of Four = 4

-- ---- where things stand

-- offset i, of z bytes: the offsets follow the count and the size byte
unfoldable pub offset : ℕ → List ℕ → ℕ → ℕ → ℕ
offset w s z i = be_at s (w + 1 + i * z) z

-- where the data start: past the n + 1 offsets
abbrev pub data_start : ℕ → ℕ → ℕ → ℕ
data_start w n z = w + 1 + (n + 1) * z

-- ---- reading

-- how many entries an INDEX has, and how many bytes it takes
pub record Extent : Type 0 where
  pub entries : ℕ
  pub taken : ℕ

-- the last offset says how long the data are, which start at `start`; one of 0 leaves no entries and no data
unfoldable pub by_last : List ℕ → ℕ → ℕ → ℕ → Answer Extent
by_last s n start last =
    cond (eqb last 0) (accepted (record { entries = 0; taken = start }))
    (cond (ltb (length s) (start + (last - 1))) (refused 20 alone)
    (accepted (record { entries = n; taken = start + (last - 1) })))

unfoldable pub by_size : ℕ → List ℕ → ℕ → ℕ → Answer Extent
by_size w s n z =
    cond (eqb z 0 || ltb 4 z) (refused 21 alone)
    (cond (ltb (length s) (data_start w n z)) (refused 20 alone)
    (by_last s n (data_start w n z) (offset w s z n)))

unfoldable pub by_count : ℕ → List ℕ → ℕ → Answer Extent
by_count w s n =
    cond (eqb n 0) (accepted (record { entries = 0; taken = w }))
    (cond (ltb (length s) (w + 1)) (refused 20 alone)
    (by_size w s n (get_or s w 0)))

-- the INDEX at the start of s
unfoldable pub extent : ℕ → List ℕ → Answer Extent
extent w s = cond (ltb (length s) w) (refused 20 alone) (by_count w s (be_at s 0 w))

-- an accepted read
abbrev pub has : ℕ → ℕ → Answer Extent
has n t = accepted (record { entries = n; taken = t })

-- ---- an entry

-- where an entry starts, counted from the INDEX's first byte, and how long it is
pub record Place : Type 0 where
  pub start : ℕ
  pub size : ℕ

-- Entry i lies between offset i and offset i + 1, here a and b. Why it is absent, by the first of these that holds: 25, i is not below the number
-- of entries; 40, either offset is 0; 41, they descend; 42, they pass the data, which start at `start`.
unfoldable pub place_by : ℕ → Extent → ℕ → ℕ → ℕ → Answer Place
place_by i x start a b =
    cond (leb x.entries i) (refused 25 alone)
    (cond (eqb a 0 || eqb b 0) (refused 40 alone)
    (cond (ltb b a) (refused 41 alone)
    (cond (ltb x.taken (start + (b - 1))) (refused 42 alone)
    (accepted (record { start = start + (a - 1); size = b - a })))))

-- by the offset size z, of an INDEX x
abbrev pub place_of : ℕ → List ℕ → Extent → ℕ → ℕ → Answer Place
place_of w s x z i = place_by i x (data_start w x.entries z) (offset w s z i) (offset w s z (i + 1))

-- An INDEX that has not as many entries as its count says has none: its last offset is 0, and that is looked at before the number.
unfoldable pub place_in : ℕ → List ℕ → ℕ → Answer Extent → Answer Place
place_in w s i (accepted x) = cond (eqb x.entries (be_at s 0 w)) (place_of w s x (get_or s w 0) i) (refused 40 alone)
place_in w s i (refused k v) = refused k v

-- entry i of the INDEX at the start of s
unfoldable pub place : ℕ → List ℕ → ℕ → Answer Place
place w s i = place_in w s i (extent w s)

-- an accepted entry, and one that is refused
abbrev pub lies : ℕ → ℕ → Answer Place
lies a m = accepted (record { start = a; size = m })

abbrev pub absent_for : ℕ → Answer Place
absent_for k = refused k alone

-- Entry i where the count n and the offset size z are known, and s is the INDEX's own bytes: its data end with them. It is 25 too where z is not
-- 1 to 4, or offsets are lacking.
unfoldable pub place_seen : ℕ → List ℕ → ℕ → ℕ → ℕ → Answer Place
place_seen w s n z i =
    cond (leb n i || (eqb z 0 || (ltb 4 z || ltb (length s) (data_start w n z)))) (refused 25 alone)
    (place_of w s (record { entries = n; taken = length s }) z i)

unfoldable pub bytes_by : List ℕ → Answer Place → List ℕ
bytes_by s (accepted p) = take p.size (drop p.start s)
bytes_by s (refused k v) = []

-- the bytes of entry i; none where it is refused
unfoldable pub part : ℕ → List ℕ → ℕ → List ℕ
part w s i = bytes_by s (place w s i)

-- ---- an entry's bytes where they stand

-- a part of lent bytes: where it starts, which is a block of memory and an offset in it, and its bytes
pub record Part : Type 0 where
  pub at : ℕ × ℕ
  pub bytes : List ℕ

-- a part starts that far after the first lent byte, or at it where the entry is refused
unfoldable pub start_by : ℕ × ℕ → Answer Place → ℕ × ℕ
start_by at (accepted p) = (at.0, at.1 + p.start)
start_by at (refused k v) = at

unfoldable pub part_by : ℕ × ℕ → List ℕ → Answer Place → Part
part_by at s x = record { at = start_by at x; bytes = bytes_by s x }

-- entry i of the INDEX at the start of s, whose first byte stands at `at`
abbrev pub part_at : ℕ → ℕ × ℕ → List ℕ → ℕ → Part
part_at w at s i = part_by at s (place w s i)

-- and where the count n and the offset size z are known
abbrev pub part_seen : ℕ → ℕ × ℕ → List ℕ → ℕ → ℕ → ℕ → Part
part_seen w at s n z i = part_by at s (place_seen w s n z i)

-- ---- what the readers' answers say

abbrev pub index_read : Result Reached IndexError → Answer Extent
index_read (Ok x) = accepted (record { entries = x.entries; taken = x.taken })
index_read (Err Lacking) = refused 20 alone
index_read (Err BadSize) = refused 21 alone

abbrev pub index_refusal : IndexError → ℕ
index_refusal e = number_in (index_read (Err e))

abbrev pub absence : Absence → ℕ
absence PastCount = 25
absence ZeroOffset = 40
absence Descending = 41
absence PastData = 42

-- an entry by its offsets
abbrev pub placed : Result EntryPlace Absence → Answer Place
placed (Ok p) = accepted (record { start = p.start; size = p.size })
placed (Err why) = refused (absence why) alone

abbrev pub entry_read : Result EntryPlace EntryError → Answer Place
entry_read (Ok p) = accepted (record { start = p.start; size = p.size })
entry_read (Err (Index Lacking)) = refused 20 alone
entry_read (Err (Index BadSize)) = refused 21 alone
entry_read (Err (Absent why)) = refused (absence why) alone

abbrev pub entry_refusal : EntryError → ℕ
entry_refusal e = number_in (entry_read (Err e))
