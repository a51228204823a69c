-- What the two passes promise each other. A reader need not believe it: no public contract names it.
use Rattle.std.specs.Prelude.{◌≡◌, Result, Ok, Err, Bool, true, false, List, [], ◌∷◌, ◌++◌, ℕ, zero, suc, ◌+◌, ◌<◌, ◌≤◌, length}
use Rattle.std.specs.Prelude.{get_or, take, set}
use Rattle.number.specs.Answer.{Answer, accepted, refused, at_glyph, mapped, Outcome, sized, into}
use Rattle.index.specs.Index.{data_start, part}
use Rattle.index_writing.specs.Writing.{total, size_for, offsets, reach_of}
use Rattle.index_writing.specs.Code.{laid}
use Rattle.reading.specs.Rules.{Rules, rules_of}
use Rattle.reading.specs.Reading.{Run, original}
use Rattle.reading.specs.Answers.{Flattening, verdict, stop_number, stop_values}
use Rattle.reading.specs.declared.rules.Profile.{Profile}
use Rattle.font.specs.Font.{flat_in, Choice, every, these, within, all_from, lengths_of, joined_of, indexed}
use Rattle.font.specs.declared.choice.Choice.{Choice as Asked}
use Rattle.font.specs.declared.choice.Choice.TheVariants.{Every, These}
use Rattle.font.specs.declared.error.FontError.{FontError}
use Rattle.font.specs.declared.error.FontError.TheVariants.{BadGlobals, BadLocals, BadCharstrings, TooMany, NoGlyph, Refused, TooLong, NoRoom}

-- ---- the glyphs of a font, and what each gives

abbrev pub string_in : Profile → List ℕ → List ℕ → ℕ → List ℕ → Answer (List ℕ)
string_in profile globals locals budget cs = flat_in (rules_of profile) (original (rules_of profile) cs globals locals budget)

abbrev pub glyphs_of : Profile → List ℕ → List ℕ → List ℕ → ℕ → ℕ → Answer (List ℕ)
glyphs_of profile charstrings globals locals budget i = string_in profile globals locals budget (part 2 charstrings i)

-- ---- which are asked for

abbrev pub choice_of : Asked → Choice
choice_of (Every n) = every n
choice_of (These numbers) = these numbers.now 0

-- how many places there are, of all n glyphs or of those that are numbered, and the number at a place
abbrev pub places_of : Bool → List ℕ → ℕ → ℕ
places_of true numbers n = n
places_of false numbers n = length numbers

abbrev pub number_of : Bool → List ℕ → ℕ → ℕ
number_of true numbers k = k
number_of false numbers k = get_or numbers k 0

-- what the glyph at a place gives; the same, or 25; and whether there is one at each of the first n places
abbrev pub placed : Choice → (ℕ → Answer (List ℕ)) → ℕ → Answer (List ℕ)
placed choice glyph k = glyph (choice.number k)

abbrev pub asked : Choice → ℕ → (ℕ → Answer (List ℕ)) → ℕ → Answer (List ℕ)
asked choice count glyph k = within count glyph (choice.number k)

abbrev pub There : Choice → ℕ → ℕ → Type 0
There choice count n = (k : ℕ) → k < n → choice.number k < count

-- ---- what they give

-- the string that is given; none where it is refused
abbrev pub string_of : Answer (List ℕ) → List ℕ
string_of (accepted f) = f
string_of (refused k v) = []

abbrev pub Is : Answer (List ℕ) → Type 0
Is a = a ≡ accepted (string_of a)

module _ (glyph : ℕ → Answer (List ℕ)) where
  -- those of n places from place i on
  unfoldable pub strings : ℕ → ℕ → List (List ℕ)
  strings i zero = []
  strings i (suc n) = string_of (glyph i) ∷ strings (i + 1) n

  -- the bytes of the first n
  unfoldable pub before : ℕ → ℕ
  before n = total (lengths_of (strings 0 n))

  -- the first n are all accepted
  abbrev pub Ran : ℕ → Type 0
  Ran n = (j : ℕ) → j < n → Is (glyph j)

  -- the outcome of n glyphs
  abbrev pub all_of : ℕ → List ℕ → Outcome (Answer ℕ)
  all_of n out = into out (mapped sized (indexed 2 (all_from glyph 0 n)))

  -- ---- what the first pass finds

  pub record Measured (n sum : ℕ) : Type 0 where
    pub few : n ≤ 65535
    pub ran : Ran n
    pub sum_is : sum ≡ before n

  -- the lengths of the first n, and their bytes one behind the other
  pub record Held (n : ℕ) (lengths joined : List ℕ) : Type 0 where
    pub listed : take n lengths ≡ lengths_of (strings 0 n)
    pub bytes : take (before n) joined ≡ joined_of (strings 0 n)

  -- where there is room for them
  abbrev pub Kept : ℕ → List ℕ → List ℕ → Type 0
  Kept n lengths joined = n ≤ length lengths → before n ≤ length joined → Held n lengths joined

  -- ---- what the second pass stores

  -- the INDEX of n, with offsets of z bytes, fills out
  pub record Laid (n z : ℕ) (out : List ℕ) : Type 0 where
    pub few : n ≤ 65535
    pub ran : Ran n
    pub short : before n + 1 ≤ 4294967295
    pub size_is : z ≡ size_for (before n + 1)
    pub long : length out ≡ reach_of 2 n z (before n)

  -- and there are some
  pub record Filled (n z : ℕ) (out : List ℕ) : Type 0 where
    pub few : n ≤ 65535
    pub four : z ≤ 4
    pub ran : Ran n
    pub short : before n + 1 ≤ 4294967295
    pub long : length out ≡ data_start 2 n z + before n

  -- the offsets and the data behind the three bytes that stand first
  unfoldable pub filled : ℕ → ℕ → List ℕ → List ℕ
  filled n z out = laid 3 (offsets z 1 (lengths_of (strings 0 n))) (take (data_start 2 n z) out) ++ joined_of (strings 0 n)

-- ---- the run of one

-- where its string is kept, behind `sum` bytes
abbrev pub Reached : ℕ → ℕ → ℕ → Type 0
Reached sum room r = (r ≤ room) × (sum ≤ room → r ≡ sum)

-- the length n of the string at place i, which ends at sum
abbrev pub Noted : ℕ → ℕ → ℕ → ℕ → List ℕ → List ℕ → Type 0
Noted i n sum room old new = sum ≤ room → i < length old → new ≡ set old i n

-- the length of the string at place i
abbrev pub at_place : ℕ → Answer (List ℕ) → Answer ℕ
at_place i (accepted f) = accepted (length f)
at_place i (refused k v) = refused k (at_glyph i v)

-- the refusal of a run by the rules
abbrev pub OfRun : Answer Flattening → Type 0
OfRun (accepted x) = ⊥
OfRun (refused k v) = (rules : Rules) × (r : Run) × (refused k v ≡ verdict rules r)

-- told of place i
abbrev pub StoppedAt : ℕ → Answer Flattening → Result ℕ FontError → Type 0
StoppedAt i a (Ok n) = ⊥
StoppedAt i a (Err (BadGlobals f)) = ⊥
StoppedAt i a (Err (BadLocals f)) = ⊥
StoppedAt i a (Err (BadCharstrings f)) = ⊥
StoppedAt i a (Err TooMany) = ⊥
StoppedAt i a (Err (NoGlyph j)) = ⊥
StoppedAt i a (Err (Refused j w)) = (j ≡ i) × (a ≡ refused (stop_number w) (stop_values w))
StoppedAt i a (Err TooLong) = ⊥
StoppedAt i a (Err (NoRoom n)) = ⊥

-- a string that is there, and has room from `to` on
pub record Fits (a : Answer (List ℕ)) (to : ℕ) (out : List ℕ) : Type 0 where
  pub is : Is a
  pub small : length (string_of a) < 4294967296
  pub room : to + length (string_of a) ≤ length out

-- it stands there, and what comes before it has not changed
pub record Begun (a : Answer (List ℕ)) (to : ℕ) (old new : List ℕ) (r : ℕ) : Type 0 where
  pub told : r ≡ length (string_of a)
  pub bytes : take (to + length (string_of a)) new ≡ take to old ++ string_of a

-- lengths that are those of the bytes
pub record Whole (lengths joined : List ℕ) : Type 0 where
  pub few : length lengths ≤ 65535
  pub adds : total lengths ≡ length joined
