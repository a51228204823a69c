-- What is proved of flattening with rows (document 02, T-13), as types. The proofs stand in MarkedDemandLaws.antt. Nothing is asked of the rules.
-- A run is `original`'s: of a charstring with its lists' bytes and its budget, whatever its end. Its entries are those that it entered.
use Rattle.std.specs.Prelude.{◌≡◌, Bool, true, false, cond, ◌&&◌, List, ℕ, ◌/◌, ◌%◌, ◌^◌, ◌<◌, ◌≤◌, eqb, ltb, length, get_or}
use Rattle.std.specs.Prelude.{drop}
use Rattle.number.specs.Answer.{Values, Answer, accepted, refused, alone, Outcome, leaving}
use Rattle.index.specs.Index.{part}
use Rattle.index.specs.Formed.{formation}
use Rattle.reading.specs.Rules.{Rules}
use Rattle.reading.specs.Lists.{chosen, lists_of}
use Rattle.reading.specs.Reading.{original}
use Rattle.reading.specs.Answers.{Flattening, flattening}
use Rattle.reading.specs.Entered.{entered_by, row_size, Lent, Marked, as_lent, rows_fit, marking}
use Rattle.reading.specs.declared.operator.Which.{Which}

-- ---- two pairs of lists, whose counts have w bytes

-- all four are well formed, and the counts are equal
pub record Paired (w : ℕ) (globals locals globals' locals' : List ℕ) : Type 0 where
  pub count : Which → ℕ
  pub first : (v : Which) → formation w (chosen v globals locals) ≡ accepted (count v)
  pub second : (v : Which) → formation w (chosen v globals' locals') ≡ accepted (count v)

-- they have the same bytes at every entry in a set
abbrev pub SameParts : ℕ → List ℕ → List ℕ → List ℕ → List ℕ → (Which → ℕ → Bool) → Type 0
SameParts w globals locals globals' locals' among =
    (v : Which) (k : ℕ) → among v k ≡ true → part w (chosen v globals locals) k ≡ part w (chosen v globals' locals') k

-- and at every entry but entry k of the list v
abbrev pub AllBut : ℕ → List ℕ → List ℕ → List ℕ → List ℕ → Which → ℕ → Type 0
AllBut w globals locals globals' locals' v k =
    (u : Which) (j : ℕ) → (u ≡ v → j ≡ k → ⊥) → part w (chosen u globals locals) j ≡ part w (chosen u globals' locals') j

-- ---- the frame: what a run does not enter does not change it

-- what holds of every charstring and budget, and of two such pairs that have the same bytes at each entry that the run with the first entered
abbrev OfAgreeing : (Rules → List ℕ → ℕ → List ℕ → List ℕ → List ℕ → List ℕ → Type 0) → Type 0
OfAgreeing says =
    (rules : Rules) (cs : List ℕ) (budget : ℕ) (globals locals globals' locals' : List ℕ)
    → Paired rules.width globals locals globals' locals'
    → SameParts rules.width globals locals globals' locals' (entered_by (original rules cs globals locals budget))
    → says rules cs budget globals locals globals' locals'

-- the same run: its end, all that it shows and what it leaves behind, accepted or refused
abbrev pub SameRun : Type 0
SameRun = OfAgreeing (λ rules cs budget globals locals globals' locals'.
    original rules cs globals' locals' budget ≡ original rules cs globals locals budget)

-- so the same answer and room
abbrev pub SameFlattening : Type 0
SameFlattening = OfAgreeing (λ rules cs budget globals locals globals' locals'.
    (out : List ℕ) → flattening rules cs globals' locals' budget out ≡ flattening rules cs globals locals budget out)

-- and the same answer, room and rows
abbrev pub SameMarking : Type 0
SameMarking = OfAgreeing (λ rules cs budget globals locals globals' locals'.
    (l : Lent) → marking rules cs globals' locals' budget l ≡ marking rules cs globals locals budget l)

-- an entry that the run did not enter may be changed at will
abbrev pub FreeEdit : Type 0
FreeEdit =
    (rules : Rules) (cs : List ℕ) (budget : ℕ) (globals locals globals' locals' : List ℕ) (v : Which) (k : ℕ)
    → Paired rules.width globals locals globals' locals' → AllBut rules.width globals locals globals' locals' v k
    → entered_by (original rules cs globals locals budget) v k ≡ false
    → (l : Lent) → marking rules cs globals' locals' budget l ≡ marking rules cs globals locals budget l

-- ---- what the rows say

-- bit i mod 8, from the low end, of byte i / 8
abbrev pub bit_at : List ℕ → ℕ → ℕ
bit_at row i = get_or row (i / 8) 0 / 2 ^ (i % 8) % 2

-- the row of a list
abbrev pub row_in : Which → Lent → List ℕ
row_in v l = chosen v l.globals l.locals

-- what is left of a row as lent, for a list of `count` entries
pub record Reported (among : ℕ → Bool) (count : ℕ) (lent left : List ℕ) : Type 0 where
  -- Entry i's bit is set where the run entered it, and clear where not.
  pub bit : (i : ℕ) → i < count → bit_at left i ≡ cond (among i) 1 0
  -- All other bits of those bytes are clear.
  pub clear : (i : ℕ) → count ≤ i → i / 8 < row_size count → bit_at left i ≡ 0
  pub byte : (j : ℕ) → j < row_size count → get_or left j 0 < 256
  -- Behind them all is as lent.
  pub tail : drop (row_size count) left ≡ drop (row_size count) lent
  pub size : length left ≡ length lent

-- that fixes the row: of no two can it hold
abbrev pub OneRow : Type 0
OneRow =
    (among : ℕ → Bool) (count : ℕ) (lent left left' : List ℕ)
    → Reported among count lent left → Reported among count lent left' → left ≡ left'

-- what holds of each accepted flattening with rows
abbrev OfMarked : (Rules → List ℕ → List ℕ → List ℕ → ℕ → Lent → Type 0) → Type 0
OfMarked says =
    (rules : Rules) (cs globals locals : List ℕ) (budget : ℕ) (l : Lent) (x : Flattening)
    → (marking rules cs globals locals budget l).answer ≡ accepted x → says rules cs globals locals budget l

-- both lists are well formed, and each row says which entries the run entered
abbrev pub RowsReport : Type 0
RowsReport = OfMarked (λ rules cs globals locals budget l.
    (v : Which) → (n : ℕ) × (formation rules.width (chosen v globals locals) ≡ accepted n)
    × Reported (entered_by (original rules cs globals locals budget) v) n (row_in v l) (row_in v (marking rules cs globals locals budget l).left))

-- so an entry whose bit is clear in the row that is left may be changed at will
abbrev pub UnmarkedEdit : Type 0
UnmarkedEdit = OfMarked (λ rules cs globals locals budget l.
    (globals' locals' : List ℕ) (v : Which) (k : ℕ) → Paired rules.width globals locals globals' locals'
    → AllBut rules.width globals locals globals' locals' v k → bit_at (row_in v (marking rules cs globals locals budget l).left) k ≡ 0
    → marking rules cs globals' locals' budget l ≡ marking rules cs globals locals budget l)

-- and all of them at once: lists that have the same bytes at each entry whose bit is set give the same
abbrev pub UnmarkedEdits : Type 0
UnmarkedEdits = OfMarked (λ rules cs globals locals budget l.
    (globals' locals' : List ℕ) (p : Paired rules.width globals locals globals' locals')
    → SameParts rules.width globals locals globals' locals'
    (λ v k. ltb k (p.count v) && eqb (bit_at (row_in v (marking rules cs globals locals budget l).left) k) 1)
    → marking rules cs globals' locals' budget l ≡ marking rules cs globals locals budget l)

-- ---- beside the rows

-- the answer and the room
abbrev pub without_rows : Marked → Outcome (Answer Flattening)
without_rows x = leaving x.answer x.left.room

-- they are flattening's, where the rows are long enough
abbrev pub BesideRows : Type 0
BesideRows =
    (rules : Rules) (cs globals locals : List ℕ) (budget : ℕ) (l : Lent) → rows_fit (lists_of rules.width globals locals) l ≡ true
    → without_rows (marking rules cs globals locals budget l) ≡ flattening rules cs globals locals budget l.room

-- a refusal leaves the room and both rows as lent
abbrev pub RefusedAsLent : Type 0
RefusedAsLent =
    (rules : Rules) (cs globals locals : List ℕ) (budget : ℕ) (l : Lent) (k : ℕ) (v : Values)
    → (marking rules cs globals locals budget l).answer ≡ refused k v → (marking rules cs globals locals budget l).left ≡ l

-- with well-formed lists, 43 comes where a row is too short, and nowhere else
abbrev pub ShortRow : Type 0
ShortRow =
    (rules : Rules) (cs globals locals : List ℕ) (budget : ℕ) (l : Lent) (n m : ℕ)
    → formation rules.width globals ≡ accepted n → formation rules.width locals ≡ accepted m
    → let fit = rows_fit (lists_of rules.width globals locals) l in
    let x = marking rules cs globals locals budget l in
    (fit ≡ false → x ≡ as_lent l (refused 43 alone)) × ((v : Values) → x.answer ≡ refused 43 v → fit ≡ false)
