-- Each public contract of the view fixes its result, as Once.antt of the crate index has it for the plain reader. Of a function over a struct that holds
-- a slice, what its `ensures` says is shown to be one fact, and that fact fixes the result. Assumes nothing.
use mathlib.Core.Path.{◌≡◌, refl, sym, ap, ◌∙◌}
use mathlib.Core.List.{List}
use Prim.Native.Nat.{ℕ}
use seplogic.Ra.Ura.{Ura}
use base.Logic.{SProp}
use borrow.Fn.Kinds.{Dens, res_t, ended_of}
use contract.Lifetimes.{Lfts}
use contract.Monad.{Fun, fact}
use denote.Ref.{Bor}
use denote.Triple.Clauses.{AtExit}
use denote.Triple.Entry.{Args}
use types.Logic.{Logic}
use prog.Memory.{Memory}
use prog.Routine.{Routine}
use Rattle.index.specs.Index.{Part}
use Rattle.index_view.specs.View.{seen, view_of, view_part}
use Rattle.index_view.specs.declared.View.{View}
use Rattle.index_view.specs.contracts.view_index as view_index
use Rattle.index_view.specs.contracts.view_part as view_part_contract
use Rattle.index_view.proofs.part_by_view.Kinds as by_view_kinds
use Rattle.index_view.proofs.part_by_view.Reads as by_view_reads

-- a part: where it starts and its bytes, which is all of it that the machine has
abbrev part_of : Bor (List ℕ) → Part
part_of r = record { at = r.ref_ptr; bytes = r.now }

parts_same : (r r' : Bor (List ℕ)) → part_of r ≡ part_of r' → (r.ref_ptr ≡ r'.ref_ptr) × (r.now ≡ r'.now)
parts_same r r' e = (ap (λ (q : Part). q.at) e, ap (λ (q : Part). q.bytes) e)

-- ---- what is said of each result

abbrev ViewIs : Bor (List ℕ) → View → Type 0
ViewIs s r = seen r ≡ view_of 2 s.ref_ptr s.now

abbrev PartIs : View → ℕ → Bor (List ℕ) → Type 0
PartIs v i r = part_of r ≡ view_part 2 (seen v) i

module _ {M : Type 1} {𝓤 : Ura M} (𝓛 : Logic 𝓤) (mem : Memory → SProp 𝓤) (run : Routine → Fun 𝓤) (κs : Lfts 1) where
  pub view_index_says : (a : Args view_index.signature κs) (r : View) (x : AtExit view_index.ended κs)
      → (view_index.clauses 𝓛 mem run κs a).ensures tt r x ≡ fact 𝓤 (ViewIs a.0 r)
  view_index_says a r x = refl

  pub view_part_says : (a : Args view_part_contract.signature κs) (r : Bor (List ℕ)) (x : AtExit view_part_contract.ended κs)
      → (view_part_contract.clauses 𝓛 mem run κs a).ensures tt r x ≡ fact 𝓤 (PartIs a.0 a.1.0 r)
  view_part_says a r x = refl

-- ---- the theorems

-- of a view: where its bytes start, the bytes, the count and the size
pub view_index_once : (s : Bor (List ℕ)) (r r' : View) → ViewIs s r → ViewIs s r' → seen r ≡ seen r'
view_index_once s r r' p p' = p ∙ sym p'

pub view_part_once : (v : View) (i : ℕ) (r r' : Bor (List ℕ)) → PartIs v i r → PartIs v i r' → (r.ref_ptr ≡ r'.ref_ptr) × (r.now ≡ r'.now)
view_part_once v i r r' p p' = parts_same r r' (p ∙ sym p')

pub part_by_view_once : (κs : Lfts 1) (a : Dens κs by_view_kinds.ps) (r r' : (res_t by_view_kinds.r κs).Denot)
    (x x' : AtExit (ended_of 1 by_view_kinds.ps by_view_kinds.r) κs)
    → by_view_reads.Post κs a r x → by_view_reads.Post κs a r' x' → (r.ref_ptr ≡ r'.ref_ptr) × (r.now ≡ r'.now)
part_by_view_once κs a r r' x x' p p' = parts_same r r' (p ∙ sym p')
