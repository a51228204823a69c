-- The contract of `say_why` fixes its result and what it leaves: any two that it allows for the same arguments are one. Stated over the contract's own
-- reading. Assumes nothing.
use mathlib.Core.Path.{◌≡◌, sym, ap, ◌∙◌}
use mathlib.Core.List.{◌++◌}
use Prim.Native.Nat.{ℕ}
use lib.ListN.{drop}
use borrow.Fn.Kinds.{Dens, res_t, ended_of}
use contract.Lifetimes.{Lfts}
use denote.Triple.Clauses.{AtExit}
use Rattle.why.specs.Why.{said}
use Rattle.why.proofs.text.say_why.Kinds as kinds
use Rattle.why.proofs.text.say_why.Reads as reads

pub say_why_once : (κs : Lfts 2) (a : Dens κs kinds.ps) (r r' : (res_t kinds.r κs).Denot) (x x' : AtExit (ended_of 2 kinds.ps kinds.r) κs)
    → reads.Post κs a r x → reads.Post κs a r' x' → (r ≡ r') × (x.1.0.now ≡ x'.1.0.now)
say_why_once κs a r r' x x' p p' =
    let same : r ≡ r' = p.0 ∙ sym p'.0 in
    (same, p.1.0 ∙ ap (λ (n : ℕ). said a.0.now ++ drop n a.1.0.now) same ∙ sym p'.1.0)
