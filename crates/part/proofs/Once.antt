-- The contract of `cut_part` fixes its result: any two results that it allows for the same bytes tell the same, a part's place and bytes each. Stated
-- over the contract's own reading. Assumes nothing.
use mathlib.Core.Path.{◌≡◌, refl, sym, ap, ◌∙◌}
use mathlib.Core.List.{List}
use Prim.Native.Nat.{ℕ, ◌+◌}
use Rattle.std.specs.Prelude.{Result, Ok, Err, length}
use borrow.Fn.Kinds.{Dens, res_t, ended_of}
use contract.Lifetimes.{Lfts}
use denote.Triple.Clauses.{AtExit}
use Rattle.part.specs.Part.{Parts, headless, says, parts, cut_as, Inside}
use Rattle.part.specs.declared.cut.Parts.{Parts as Slices}
use Rattle.part.specs.declared.cut.NoPart.{NoPart}
use Rattle.part.specs.declared.cut.NoPart.TheVariants.{Headless, Says}
use Rattle.part.proofs.cut.cut_part.Kinds as cut_kinds
use Rattle.part.proofs.cut.cut_part.Reads as cut_reads

-- a part: where it stands, and its bytes
pub record Piece : Type 0 where
  pub at : ℕ × ℕ
  pub bytes : List ℕ

-- three of them
pub record Pieces : Type 0 where
  pub charstrings : Piece
  pub globals : Piece
  pub locals : Piece

-- what a result tells
abbrev pub told : Result Slices NoPart → Result Pieces NoPart
told (Ok p) =
    Ok (record {
      charstrings = record { at = p.charstrings.ref_ptr; bytes = p.charstrings.now };
      globals = record { at = p.globals.ref_ptr; bytes = p.globals.now };
      locals = record { at = p.locals.ref_ptr; bytes = p.locals.now };
    })
told (Err e) = Err e

-- the way to it from what the bytes are cut into, the first of which stands at `at`
told_of : ℕ × ℕ → Parts → Result Pieces NoPart
told_of at headless = Err Headless
told_of at (says n) = Err (Says n)
told_of at (parts a b c) =
    Ok (record {
      charstrings = record { at = (at.0, at.1 + 12); bytes = a };
      globals = record { at = (at.0, at.1 + 12 + length a); bytes = b };
      locals = record { at = (at.0, at.1 + 12 + length a + length b); bytes = c };
    })

told_is : (at : ℕ × ℕ) (n : ℕ) (r : Result Slices NoPart) → Inside at n r → told_of at (cut_as r) ≡ told r
unfolding told_of
told_is at n (Ok p) i = rw (i.charstrings, i.globals, i.locals) refl
told_is at n (Err Headless) i = refl
told_is at n (Err (Says k)) i = refl

pub cut_part_once : (κs : Lfts 1) (a : Dens κs cut_kinds.ps) (r r' : (res_t cut_kinds.r κs).Denot)
    (x x' : AtExit (ended_of 1 cut_kinds.ps cut_kinds.r) κs)
    → cut_reads.Post κs a r x → cut_reads.Post κs a r' x' → told r ≡ told r'
cut_part_once κs a r r' x x' p p' =
    let at = a.0.ref_ptr in
    sym (told_is at _ r p.1) ∙ ap (told_of at) (p.0 ∙ sym p'.0) ∙ told_is at _ r' p'.1

-- where the two lists start in the bytes: the two numbers that the answer had, before it had the parts themselves
abbrev pub places : Result Slices NoPart → Result (ℕ × ℕ) NoPart
places (Ok p) = Ok (12 + length p.charstrings.now, 12 + length p.charstrings.now + length p.globals.now)
places (Err e) = Err e

places_of : Parts → Result (ℕ × ℕ) NoPart
places_of headless = Err Headless
places_of (says n) = Err (Says n)
places_of (parts a b c) = Ok (12 + length a, 12 + length a + length b)

places_is : (r : Result Slices NoPart) → places_of (cut_as r) ≡ places r
unfolding places_of
places_is (Ok p) = refl
places_is (Err Headless) = refl
places_is (Err (Says n)) = refl

pub cut_places_once : (κs : Lfts 1) (a : Dens κs cut_kinds.ps) (r r' : (res_t cut_kinds.r κs).Denot)
    (x x' : AtExit (ended_of 1 cut_kinds.ps cut_kinds.r) κs)
    → cut_reads.Post κs a r x → cut_reads.Post κs a r' x' → places r ≡ places r'
cut_places_once κs a r r' x x' p p' = sym (places_is r) ∙ ap places_of (p.0 ∙ sym p'.0) ∙ places_is r'
