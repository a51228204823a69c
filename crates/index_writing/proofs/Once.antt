-- Each public function's contract fixes its result, and `write_index`'s what it leaves: any two that it allows for the same arguments are
-- one. Stated over the contracts' own readings. Assumes nothing.
use mathlib.Core.Path.{◌≡◌, refl, sym, ap, ◌∙◌}
use mathlib.Core.Bool.{cond}
use Prim.Native.Nat.{ℕ}
use lib.Dec.{eqb}
use borrow.Fn.Kinds.{Dens, res_t, ended_of}
use contract.Lifetimes.{Lfts}
use denote.Triple.Clauses.{AtExit}
use Rattle.std.specs.Prelude.{Result, Ok, Err}
use Rattle.number.specs.Answer.{Answer, accepted, refused, length_or, Outcome}
use Rattle.index_writing.specs.Writing.{index_written, Plan, index_plan}
use Rattle.index_writing.specs.declared.Plan.{Plan as Layout}
use Rattle.index_writing.specs.declared.TooLong.{TooLong}
use Rattle.index_writing.specs.declared.WriteError.{WriteError}
use Rattle.index_writing.specs.declared.WriteError.TheVariants.{TooMany, TooLong as Over, Mismatch, NoRoom}
use Rattle.index_writing.proofs.WriteErrorRefuse.number.Kinds as number_kinds
use Rattle.index_writing.proofs.WriteErrorRefuse.number.Reads as number_reads
use Rattle.index_writing.proofs.TooLongRefuse.number.Kinds as plan_number_kinds
use Rattle.index_writing.proofs.TooLongRefuse.number.Reads as plan_number_reads
use Rattle.index_writing.proofs.plan_index.Kinds as plan_kinds
use Rattle.index_writing.proofs.plan_index.Reads as plan_reads
use Rattle.index_writing.proofs.WriteErrorFromTooLong.from.Kinds as write_from_kinds
use Rattle.index_writing.proofs.WriteErrorFromTooLong.from.Reads as write_from_reads
use Rattle.index_writing.proofs.write_index.Kinds as kinds
use Rattle.index_writing.proofs.write_index.Reads as reads

-- the way back, from what an answer says to the answer
written_of : Answer ℕ → Result ℕ WriteError
written_of (accepted n) = Ok n
written_of (refused k v) =
    cond (eqb k 13) (Err (NoRoom (length_or 0 v))) (cond (eqb k 22) (Err TooMany) (cond (eqb k 23) (Err Over) (Err Mismatch)))

written_undo : (r : Result ℕ WriteError) → written_of (index_written r) ≡ r
unfolding written_of
written_undo (Ok n) = refl
written_undo (Err TooMany) = refl
written_undo (Err Over) = refl
written_undo (Err Mismatch) = refl
written_undo (Err (NoRoom n)) = refl

pub number_once : (κs : Lfts 0) (a : Dens κs number_kinds.ps) (r r' : (res_t number_kinds.r κs).Denot)
    (x x' : AtExit (ended_of 0 number_kinds.ps number_kinds.r) κs)
    → number_reads.Post κs a r x → number_reads.Post κs a r' x' → r ≡ r'
number_once κs a r r' x x' p p' = p ∙ sym p'

pub write_index_once : (κs : Lfts 3) (a : Dens κs kinds.ps) (r r' : (res_t kinds.r κs).Denot) (x x' : AtExit (ended_of 3 kinds.ps kinds.r) κs)
    → reads.Post κs a r x → reads.Post κs a r' x' → (r ≡ r') × (x.1.1.0.now ≡ x'.1.1.0.now)
write_index_once κs a r r' x x' p p' =
    let e = p ∙ sym p' in
    (sym (written_undo r) ∙ ap (λ (o : Outcome (Answer ℕ)). written_of o.answer) e ∙ written_undo r', ap (λ (o : Outcome (Answer ℕ)). o.left) e)

plan_of : Answer Plan → Result Layout TooLong
plan_of (accepted x) = Ok (record { size = x.size; needed = x.reach })
plan_of (refused k v) = Err (record {})

plan_undo : (r : Result Layout TooLong) → plan_of (index_plan r) ≡ r
unfolding plan_of
plan_undo (Ok p) = refl
plan_undo (Err e) = refl

pub plan_number_once : (κs : Lfts 0) (a : Dens κs plan_number_kinds.ps) (r r' : (res_t plan_number_kinds.r κs).Denot)
    (x x' : AtExit (ended_of 0 plan_number_kinds.ps plan_number_kinds.r) κs)
    → plan_number_reads.Post κs a r x → plan_number_reads.Post κs a r' x' → r ≡ r'
plan_number_once κs a r r' x x' p p' = p ∙ sym p'

pub plan_index_once : (κs : Lfts 0) (a : Dens κs plan_kinds.ps) (r r' : (res_t plan_kinds.r κs).Denot)
    (x x' : AtExit (ended_of 0 plan_kinds.ps plan_kinds.r) κs) → plan_reads.Post κs a r x → plan_reads.Post κs a r' x' → r ≡ r'
plan_index_once κs a r r' x x' p p' = sym (plan_undo r) ∙ ap plan_of (p ∙ sym p') ∙ plan_undo r'

-- ---- an error that comes of another

pub write_from_once : (κs : Lfts 0) (a : Dens κs write_from_kinds.ps) (r r' : (res_t write_from_kinds.r κs).Denot)
    (x x' : AtExit (ended_of 0 write_from_kinds.ps write_from_kinds.r) κs)
    → write_from_reads.Post κs a r x → write_from_reads.Post κs a r' x' → r ≡ r'
write_from_once κs a r r' x x' p p' = p ∙ sym p'
