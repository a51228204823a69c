-- A font part (RULES, "Font parts"): three lengths of four bytes, the most significant first, and then the charstring, or a whole font's CharStrings
-- INDEX, the global list and the local list.
use Rattle.std.specs.Prelude.{ℕ, ◌+◌, ◌≡◌, cond, List, length, take, drop, leb, eqb, Result, Ok, Err}
use Rattle.number.specs.BigEndian.{be_at}
use Rattle.part.specs.declared.cut.Parts.{Parts as Slices}
use Rattle.part.specs.declared.cut.NoPart.{NoPart}
use Rattle.part.specs.declared.cut.NoPart.TheVariants.{Headless, Says}

-- What bytes are: no font part, for the lengths are not all there; none, for by its lengths it would have so many bytes; or the three parts.
pub data Parts : Type 0 where
  headless : Parts
  says : ℕ → Parts
  parts : List ℕ → List ℕ → List ℕ → Parts

-- the three parts, where their lengths take up all the bytes
unfoldable pub cut : List ℕ → ℕ → ℕ → ℕ → Parts
cut s a b c =
    cond (eqb (12 + a + b + c) (length s))
    (parts (take a (drop 12 s)) (take b (drop (12 + a) s)) (take c (drop (12 + a + b) s)))
    (says (12 + a + b + c))

unfoldable pub parts_of : List ℕ → Parts
parts_of s = cond (leb 12 (length s)) (cut s (be_at s 0 4) (be_at s 4 4) (be_at s 8 4)) headless

-- ---- what `cut_part` answers

-- what the answer says of the bytes
abbrev pub cut_as : Result Slices NoPart → Parts
cut_as (Ok p) = parts p.charstrings.now p.globals.now p.locals.now
cut_as (Err Headless) = headless
cut_as (Err (Says n)) = says n

-- the parts stand one behind the other, 12 bytes behind `at`, and reach the end of n bytes
pub record Lie (at : ℕ × ℕ) (n : ℕ) (p : Slices) : Type 0 where
  pub charstrings : p.charstrings.ref_ptr ≡ (at.0, at.1 + 12)
  pub globals : p.globals.ref_ptr ≡ (at.0, at.1 + 12 + length p.charstrings.now)
  pub locals : p.locals.ref_ptr ≡ (at.0, at.1 + 12 + length p.charstrings.now + length p.globals.now)
  pub end : 12 + length p.charstrings.now + length p.globals.now + length p.locals.now ≡ n

abbrev pub Inside : ℕ × ℕ → ℕ → Result Slices NoPart → Type 0
Inside at n (Ok p) = Lie at n p
Inside at n (Err e) = Unit
