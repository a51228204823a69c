use mathlib.Core.Path.{◌≡◌, refl, sym, ap, ◌∙◌}
use Prim.Native.Nat.{ℕ}
use native.Mathlib.Omega.{arith}
use Rattle.number.specs.Answer.{Answer, refused, alone}
use Rattle.index.specs.Index.{Place, entry_read, place, width_of}
use Rattle.index.specs.Index.{lies}
use Rattle.index.proofs.IndexLaws.{inside}
use Rattle.index.specs.declared.entry.EntryError.{EntryError}
use Rattle.index.specs.declared.entry.EntryError.TheVariants.{Index, Absent}
use Rattle.index.specs.declared.read.IndexError.TheVariants.{Lacking, BadSize}
use Rattle.std.specs.Prelude.{Err}
use Rattle.charstring.specs.Words.{enterable}
use Rattle.charstring.proofs.Targets.{no_entry, too_deep, not_last, entered}
use Rattle.charstring.proofs.subroutines.admit.Goals as goal
use Rattle.charstring.proofs.subroutines.admit.Goals.{In-Ok}

-- what is no entry, for whatever reason
none_read : (levels tail : ℕ) (x : Answer Place) (e : EntryError) → entry_read (Err e) ≡ x → refused 9 alone ≡ enterable levels tail x
none_read levels tail x (Index Lacking) q = no_entry levels tail _ _ x q
none_read levels tail x (Index BadSize) q = no_entry levels tail _ _ x q
none_read levels tail x (Absent why) q = no_entry levels tail _ _ x q

-- where the entry is bound
lies_at : (c : In-Ok)
    → let args = c.args in
    lies c.in-Ok.place.start c.in-Ok.place.size ≡ place (width_of args.width) args.list.now args.k
lies_at c = ap entry_read (sym c.in-Ok.is) ∙ c.read_entry.ensures

pub returns-in_default : goal.returns-in_default
returns-in_default c =
    record { result_value = none_read _ c.args.tail _ _ c.in_default.ensures; inside = tt; names = tt }

pub returns-then-levels-eq0 : goal.returns-then-levels-eq0
returns-then-levels-eq0 c =
    record { result_value = too_deep _ c.args.tail _ _ _ (lies_at (goal.at.returns-then-levels-eq0 c).In-Ok) c.if-levels-eq0.true; inside = tt; names = tt }

pub returns-then-tail-eq0 : goal.returns-then-tail-eq0
returns-then-tail-eq0 c =
    record {
      result_value = not_last _ _ _ _ _ (lies_at (goal.at.returns-then-tail-eq0 c).In-Ok) (omega arith) c.if-tail-eq0.true;
      inside = tt;
      names = tt;
    }

pub overflow_add-result : goal.overflow_add-result
overflow_add-result c =
    let h = inside _ _ _ _ _ (lies_at (goal.at.overflow_add-result c).In-Ok) in omega arith

pub returns : goal.returns
returns c =
    let e = lies_at (goal.at.returns c).In-Ok in
    let h = inside _ _ _ _ _ e in
    record { result_value = entered _ _ _ _ _ e c.if-levels-eq0.false c.if-tail-eq0.false; inside = (omega arith, h); names = refl }
