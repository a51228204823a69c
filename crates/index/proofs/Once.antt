-- Each public function's contract fixes its result: any two results that it allows for the same arguments are one. Stated over the
-- contracts' own readings. Assumes nothing.
use mathlib.Core.Path.{◌≡◌, refl, sym, ap, ◌∙◌}
use mathlib.Core.Bool.{cond}
use Prim.Native.Nat.{ℕ}
use lib.Dec.{eqb}
use borrow.Fn.Kinds.{Dens, res_t, ended_of}
use contract.Lifetimes.{Lfts}
use denote.Triple.Clauses.{AtExit}
use Rattle.number.specs.Answer.{Answer, accepted, refused, entry_or}
use Rattle.index.specs.Index.{Extent, Place, Part, index_read, entry_read}
use Rattle.index.specs.Formed.{reason_of, reason_at, formed}
use Rattle.std.specs.Prelude.{Result, Ok, Err}
use Rattle.index.specs.declared.read.Extent.{Extent as Reached}
use Rattle.index.specs.declared.read.IndexError.{IndexError}
use Rattle.index.specs.declared.read.IndexError.TheVariants.{Lacking, BadSize}
use Rattle.index.specs.declared.absence.Absence.{Absence}
use Rattle.index.specs.declared.absence.Absence.TheVariants.{PastCount, ZeroOffset, Descending, PastData}
use Rattle.index.specs.declared.entry.Place.{Place as EntryPlace}
use Rattle.index.specs.declared.entry.EntryError.{EntryError}
use Rattle.index.specs.declared.entry.EntryError.TheVariants.{Index, Absent}
use Rattle.index.specs.declared.list.Flaw.{Flaw}
use Rattle.index.specs.declared.list.Flaw.TheVariants.{Index as Unread, Entry as BadEntry}
use Rattle.index.proofs.read.IndexErrorRefuse.number.Kinds as index_number_kinds
use Rattle.index.proofs.read.IndexErrorRefuse.number.Reads as index_number_reads
use Rattle.index.proofs.entry.EntryErrorRefuse.number.Kinds as entry_number_kinds
use Rattle.index.proofs.entry.EntryErrorRefuse.number.Reads as entry_number_reads
use Rattle.index.proofs.absence.AbsenceRefuse.number.Kinds as absence_number_kinds
use Rattle.index.proofs.absence.AbsenceRefuse.number.Reads as absence_number_reads
use Rattle.index.proofs.list.FlawRefuse.number.Kinds as flaw_number_kinds
use Rattle.index.proofs.list.FlawRefuse.number.Reads as flaw_number_reads
use Rattle.index.proofs.read.read_index.Kinds as index_kinds
use Rattle.index.proofs.read.read_index.Reads as index_reads
use Rattle.index.proofs.entry.read_entry.Kinds as entry_kinds
use Rattle.index.proofs.entry.read_entry.Reads as entry_reads
use Rattle.index.proofs.entry.entry_part.Kinds as part_kinds
use Rattle.index.proofs.entry.entry_part.Reads as part_reads
use Rattle.index.proofs.entry.entry_in.Kinds as in_kinds
use Rattle.index.proofs.entry.entry_in.Reads as in_reads
use Rattle.index.proofs.entry.part_in.Kinds as part_in_kinds
use Rattle.index.proofs.entry.part_in.Reads as part_in_reads
use Rattle.index.proofs.list.check_list.Kinds as formed_kinds
use Rattle.index.proofs.list.check_list.Reads as formed_reads
use Rattle.index.proofs.entry.EntryErrorFromIndexError.from.Kinds as index_from_kinds
use Rattle.index.proofs.entry.EntryErrorFromIndexError.from.Reads as index_from_reads
use Rattle.index.proofs.entry.EntryErrorFromAbsence.from.Kinds as absence_from_kinds
use Rattle.index.proofs.entry.EntryErrorFromAbsence.from.Reads as absence_from_reads
use Rattle.index.proofs.list.FlawFromIndexError.from.Kinds as flaw_from_kinds
use Rattle.index.proofs.list.FlawFromIndexError.from.Reads as flaw_from_reads

-- what has a way back tells values apart
one : {A B : Type 0} (say : A → B) (back : B → A) → ((a : A) → back (say a) ≡ a) → (r r' : A) → say r ≡ say r' → r ≡ r'
one say back undo r r' e = sym (undo r) ∙ ap back e ∙ undo r'

-- ---- the ways back, from what an answer says to the answer

index_of : Answer Extent → Result Reached IndexError
index_of (accepted x) = Ok (record { entries = x.entries; taken = x.taken })
index_of (refused k v) = cond (eqb k 20) (Err Lacking) (Err BadSize)

index_undo : (r : Result Reached IndexError) → index_of (index_read r) ≡ r
unfolding index_of
index_undo (Ok x) = refl
index_undo (Err Lacking) = refl
index_undo (Err BadSize) = refl

absence_of : ℕ → Absence
absence_of k = cond (eqb k 25) PastCount (cond (eqb k 40) ZeroOffset (cond (eqb k 41) Descending PastData))

entry_of : Answer Place → Result EntryPlace EntryError
entry_of (accepted p) = Ok (record { start = p.start; size = p.size })
entry_of (refused k v) = Err (cond (eqb k 20) (Index Lacking) (cond (eqb k 21) (Index BadSize) (Absent (absence_of k))))

entry_undo : (r : Result EntryPlace EntryError) → entry_of (entry_read r) ≡ r
unfolding entry_of absence_of
entry_undo (Ok p) = refl
entry_undo (Err (Index Lacking)) = refl
entry_undo (Err (Index BadSize)) = refl
entry_undo (Err (Absent PastCount)) = refl
entry_undo (Err (Absent ZeroOffset)) = refl
entry_undo (Err (Absent Descending)) = refl
entry_undo (Err (Absent PastData)) = refl

-- from a list's refusal and the entry that comes with it
pub flaw_of : ℕ → ℕ → Flaw
flaw_of k i = cond (eqb k 20) (Unread Lacking) (cond (eqb k 21) (Unread BadSize) (BadEntry i (absence_of k)))

pub flaw_undo : (f : Flaw) → flaw_of (reason_of f) (entry_or 0 (reason_at f)) ≡ f
unfolding flaw_of absence_of entry_or
flaw_undo (Unread Lacking) = refl
flaw_undo (Unread BadSize) = refl
flaw_undo (BadEntry i PastCount) = refl
flaw_undo (BadEntry i ZeroOffset) = refl
flaw_undo (BadEntry i Descending) = refl
flaw_undo (BadEntry i PastData) = refl

formed_of : Answer ℕ → Result ℕ Flaw
formed_of (accepted n) = Ok n
formed_of (refused k v) = Err (flaw_of k (entry_or 0 v))

formed_undo : (r : Result ℕ Flaw) → formed_of (formed r) ≡ r
unfolding formed_of
formed_undo (Ok n) = refl
formed_undo (Err f) = ap Err (flaw_undo f)

-- ---- the theorems

pub index_number_once : (κs : Lfts 0) (a : Dens κs index_number_kinds.ps) (r r' : (res_t index_number_kinds.r κs).Denot)
    (x x' : AtExit (ended_of 0 index_number_kinds.ps index_number_kinds.r) κs)
    → index_number_reads.Post κs a r x → index_number_reads.Post κs a r' x' → r ≡ r'
index_number_once κs a r r' x x' p p' = p ∙ sym p'

pub entry_number_once : (κs : Lfts 0) (a : Dens κs entry_number_kinds.ps) (r r' : (res_t entry_number_kinds.r κs).Denot)
    (x x' : AtExit (ended_of 0 entry_number_kinds.ps entry_number_kinds.r) κs)
    → entry_number_reads.Post κs a r x → entry_number_reads.Post κs a r' x' → r ≡ r'
entry_number_once κs a r r' x x' p p' = p ∙ sym p'

pub absence_number_once : (κs : Lfts 0) (a : Dens κs absence_number_kinds.ps) (r r' : (res_t absence_number_kinds.r κs).Denot)
    (x x' : AtExit (ended_of 0 absence_number_kinds.ps absence_number_kinds.r) κs)
    → absence_number_reads.Post κs a r x → absence_number_reads.Post κs a r' x' → r ≡ r'
absence_number_once κs a r r' x x' p p' = p ∙ sym p'

pub flaw_number_once : (κs : Lfts 0) (a : Dens κs flaw_number_kinds.ps) (r r' : (res_t flaw_number_kinds.r κs).Denot)
    (x x' : AtExit (ended_of 0 flaw_number_kinds.ps flaw_number_kinds.r) κs)
    → flaw_number_reads.Post κs a r x → flaw_number_reads.Post κs a r' x' → r ≡ r'
flaw_number_once κs a r r' x x' p p' = p ∙ sym p'

pub entry_from_index_once : (κs : Lfts 0) (a : Dens κs index_from_kinds.ps) (r r' : (res_t index_from_kinds.r κs).Denot)
    (x x' : AtExit (ended_of 0 index_from_kinds.ps index_from_kinds.r) κs)
    → index_from_reads.Post κs a r x → index_from_reads.Post κs a r' x' → r ≡ r'
entry_from_index_once κs a r r' x x' p p' = p ∙ sym p'

pub entry_from_absence_once : (κs : Lfts 0) (a : Dens κs absence_from_kinds.ps) (r r' : (res_t absence_from_kinds.r κs).Denot)
    (x x' : AtExit (ended_of 0 absence_from_kinds.ps absence_from_kinds.r) κs)
    → absence_from_reads.Post κs a r x → absence_from_reads.Post κs a r' x' → r ≡ r'
entry_from_absence_once κs a r r' x x' p p' = p ∙ sym p'

pub flaw_from_once : (κs : Lfts 0) (a : Dens κs flaw_from_kinds.ps) (r r' : (res_t flaw_from_kinds.r κs).Denot)
    (x x' : AtExit (ended_of 0 flaw_from_kinds.ps flaw_from_kinds.r) κs) → flaw_from_reads.Post κs a r x → flaw_from_reads.Post κs a r' x' → r ≡ r'
flaw_from_once κs a r r' x x' p p' = p ∙ sym p'

module _ (κs : Lfts 1) where
  pub read_index_once : (a : Dens κs index_kinds.ps) (r r' : (res_t index_kinds.r κs).Denot) (x x' : AtExit (ended_of 1 index_kinds.ps index_kinds.r) κs)
      → index_reads.Post κs a r x → index_reads.Post κs a r' x' → r ≡ r'
  read_index_once a r r' x x' p p' = one index_read index_of index_undo r r' (p ∙ sym p')

  pub read_entry_once : (a : Dens κs entry_kinds.ps) (r r' : (res_t entry_kinds.r κs).Denot) (x x' : AtExit (ended_of 1 entry_kinds.ps entry_kinds.r) κs)
      → entry_reads.Post κs a r x → entry_reads.Post κs a r' x' → r ≡ r'
  read_entry_once a r r' x x' p p' = one entry_read entry_of entry_undo r r' (p ∙ sym p')

  pub entry_in_once : (a : Dens κs in_kinds.ps) (r r' : (res_t in_kinds.r κs).Denot) (x x' : AtExit (ended_of 1 in_kinds.ps in_kinds.r) κs)
      → in_reads.Post κs a r x → in_reads.Post κs a r' x' → r ≡ r'
  entry_in_once a r r' x x' p p' = one entry_read entry_of entry_undo r r' (p ∙ sym p')

  pub check_list_once : (a : Dens κs formed_kinds.ps) (r r' : (res_t formed_kinds.r κs).Denot)
      (x x' : AtExit (ended_of 1 formed_kinds.ps formed_kinds.r) κs)
      → formed_reads.Post κs a r x → formed_reads.Post κs a r' x' → r ≡ r'
  check_list_once a r r' x x' p p' = one formed formed_of formed_undo r r' (p ∙ sym p')

  -- of a part: where it starts and its bytes, which is all of it that the machine has
  pub entry_part_once : (a : Dens κs part_kinds.ps) (r r' : (res_t part_kinds.r κs).Denot) (x x' : AtExit (ended_of 1 part_kinds.ps part_kinds.r) κs)
      → part_reads.Post κs a r x → part_reads.Post κs a r' x' → (r.ref_ptr ≡ r'.ref_ptr) × (r.now ≡ r'.now)
  entry_part_once a r r' x x' p p' = let e = p ∙ sym p' in (ap (λ (q : Part). q.at) e, ap (λ (q : Part). q.bytes) e)

  pub part_in_once : (a : Dens κs part_in_kinds.ps) (r r' : (res_t part_in_kinds.r κs).Denot)
      (x x' : AtExit (ended_of 1 part_in_kinds.ps part_in_kinds.r) κs)
      → part_in_reads.Post κs a r x → part_in_reads.Post κs a r' x' → (r.ref_ptr ≡ r'.ref_ptr) × (r.now ≡ r'.now)
  part_in_once a r r' x x' p p' = let e = p ∙ sym p' in (ap (λ (q : Part). q.at) e, ap (λ (q : Part). q.bytes) e)
