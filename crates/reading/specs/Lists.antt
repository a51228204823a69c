-- The subroutine lists as a run sees them (TN5176, section 16; RULES, "INDEX"): how many entries a list has, and for each number its bytes or its absence.
use Rattle.std.specs.Prelude.{ℕ, List}
use Rattle.number.specs.Answer.{Answer, accepted, refused}
use Rattle.index.specs.Index.{Extent, Place, extent, place, part}
use Rattle.reading.specs.declared.operator.Which.{Which}
use Rattle.reading.specs.declared.operator.Which.TheVariants.{Local, Global}

pub data Entry (A : Type 0) : Type 0 where
  present : A → Entry A
  absent : Entry A

pub record Subrs : Type 0 where
  pub count : ℕ
  pub entry : ℕ → Entry (List ℕ)

pub record Lists : Type 0 where
  pub globals : Subrs
  pub locals : Subrs

abbrev pub listed : Lists → Which → Subrs
listed l Local = l.locals
listed l Global = l.globals

-- ---- of INDEX bytes, whose count has w bytes

-- the list that a call names
abbrev pub chosen : Which → List ℕ → List ℕ → List ℕ
chosen Local globals locals = locals
chosen Global globals locals = globals

unfoldable pub count_in : Answer Extent → ℕ
count_in (accepted x) = x.entries
count_in (refused n v) = 0

unfoldable pub entry_by : {A : Type 0} → A → Answer Place → Entry A
entry_by x (accepted p) = present x
entry_by x (refused n v) = absent

-- one list; bytes that are no INDEX have no entries
unfoldable pub subrs_of : ℕ → List ℕ → Subrs
subrs_of w s = record { count = count_in (extent w s); entry = λ k. entry_by (part w s k) (place w s k) }

-- both lists
unfoldable pub lists_of : ℕ → List ℕ → List ℕ → Lists
lists_of w globals locals = record { globals = subrs_of w globals; locals = subrs_of w locals }
