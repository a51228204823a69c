use mathlib.Core.Path.{◌≡◌, refl, sym, ap, subst, ◌∙◌}
use Prim.Native.Nat.{ℕ, ◌-◌, ◌≤◌, ◌<◌}
use native.Mathlib.Omega.{arith}
use lib.ListN.{length}
use mathlib.Core.List.{List}
use Rattle.std.specs.Prelude.{Ok, Err}
use Rattle.std.proofs.lemmas.Result.{err_from_is_err_and}
use Rattle.charstring.proofs.NotesLaws.{note_inside, note_outside}
use Rattle.charstring.proofs.StretchLaws.{few_tokens}
use Rattle.charstring.proofs.LoopLaws.{begins, safe, Numbers, CallThere, stands_there, done_there, stopped_there, call_there}
use Rattle.charstring.proofs.LoopLaws.{AimsThere, NamesThere, missed_there, aims_there, names_there, index_is, sound_there}
use Rattle.charstring.proofs.LoopLaws.{back_there, ended_there, refused_there}
use Rattle.charstring.specs.declared.look.Limits.{Limits}
use Rattle.charstring.proofs.flattener.Flattener.+run.Goals as goal
use Rattle.charstring.proofs.flattener.Flattener.+run.Goals.{In-Call, After-size_of, After-run}

-- ---- what is known at a call, behind its index, and behind the run of its entry
at_call : (t : ℕ) (c : In-Call t) → CallThere c.args.cs.now c.args.levels c.args.self.now c.loop-how.i c.stretch.new.self c.in-Call.next c.in-Call.which
at_call t c =
    let e = c.in_ok-how.ensures in
    call_there c.args.cs.now c.args.levels c.args.self.now c.requires.sound c.loop-how.self c.loop-how.i c.loop-how.invariant c.stretch.new.self
    (Ok c.in_ok-how.field-0) e.stretches_to e.stack_unchanged e.stack_length e.marks_unchanged _ _ (ap Ok c.in-Call.is)

at_call-sized : (t : ℕ) (c : After-size_of t) → CallThere c.args.cs.now c.args.levels c.args.self.now c.loop-how.i c.stretch.new.self c.in-Call.next
    c.in-Call.which
at_call-sized t c =
    let e = c.in_ok-how.ensures in
    call_there c.args.cs.now c.args.levels c.args.self.now c.requires.sound c.loop-how.self c.loop-how.i c.loop-how.invariant c.stretch.new.self
    (Ok c.in_ok-how.field-0) e.stretches_to e.stack_unchanged e.stack_length e.marks_unchanged _ _ (ap Ok c.in-Call.is)

aims-sized : (t : ℕ) (c : After-size_of t) → AimsThere c.args.cs.now c.args.levels c.args.self.now c.loop-how.i c.stretch.new.self c.in-Call.next
    c.in-Call.which (at_call-sized t c) (c.in_ok-how.ensures.same_lent.0 ∙ c.loop-how.invariant.0.0)
    (c.in_ok-how.ensures.same_lent.1 ∙ c.loop-how.invariant.0.1) (c.in_ok-how.ensures.same_lent.2 ∙ c.loop-how.invariant.0.2)
    (Ok c.in_ok-target-in-Call.target)
aims-sized t c =
    aims_there c.args.cs.now c.args.levels c.args.self.now c.loop-how.i c.stretch.new.self c.in-Call.next c.in-Call.which (at_call-sized t c)
    (c.in_ok-how.ensures.same_lent.0 ∙ c.loop-how.invariant.0.0) (c.in_ok-how.ensures.same_lent.1 ∙ c.loop-how.invariant.0.1)
    (c.in_ok-how.ensures.same_lent.2 ∙ c.loop-how.invariant.0.2)
    c.choose-list.result.now c.choose_count-count.result c.unpack-o.result c.choose-list.ensures c.choose_count-count.ensures c.unpack-o.ensures
    (Ok c.in_ok-target-in-Call.target) c.in_ok-target-in-Call.ensures.result_value

names-sized : (t : ℕ) (c : After-size_of t) → NamesThere c.args.cs.now c.args.levels c.args.self.now c.loop-how.i c.stretch.new.self c.in-Call.next
    c.in-Call.which (at_call-sized t c) (c.in_ok-how.ensures.same_lent.0 ∙ c.loop-how.invariant.0.0)
    (c.in_ok-how.ensures.same_lent.1 ∙ c.loop-how.invariant.0.1) (c.in_ok-how.ensures.same_lent.2 ∙ c.loop-how.invariant.0.2)
    (Ok c.in_ok-target-in-Call.target)
names-sized t c =
    names_there c.args.cs.now c.args.levels c.args.self.now c.loop-how.i c.stretch.new.self c.in-Call.next c.in-Call.which (at_call-sized t c)
    (c.in_ok-how.ensures.same_lent.0 ∙ c.loop-how.invariant.0.0) (c.in_ok-how.ensures.same_lent.1 ∙ c.loop-how.invariant.0.1)
    (c.in_ok-how.ensures.same_lent.2 ∙ c.loop-how.invariant.0.2)
    c.choose-list.result.now c.choose_count-count.result c.unpack-o.result c.choose-list.ensures c.choose_count-count.ensures c.unpack-o.ensures
    (Ok c.in_ok-target-in-Call.target) c.in_ok-target-in-Call.ensures.names

at_call-ran : (t : ℕ) (c : After-run t) → CallThere c.args.cs.now c.args.levels c.args.self.now c.loop-how.i c.stretch.new.self c.in-Call.next
    c.in-Call.which
at_call-ran t c =
    let e = c.in_ok-how.ensures in
    call_there c.args.cs.now c.args.levels c.args.self.now c.requires.sound c.loop-how.self c.loop-how.i c.loop-how.invariant c.stretch.new.self
    (Ok c.in_ok-how.field-0) e.stretches_to e.stack_unchanged e.stack_length e.marks_unchanged _ _ (ap Ok c.in-Call.is)

aims-ran : (t : ℕ) (c : After-run t) → AimsThere c.args.cs.now c.args.levels c.args.self.now c.loop-how.i c.stretch.new.self c.in-Call.next
    c.in-Call.which (at_call-ran t c) (c.in_ok-how.ensures.same_lent.0 ∙ c.loop-how.invariant.0.0)
    (c.in_ok-how.ensures.same_lent.1 ∙ c.loop-how.invariant.0.1) (c.in_ok-how.ensures.same_lent.2 ∙ c.loop-how.invariant.0.2)
    (Ok c.in_ok-target-in-Call.target)
aims-ran t c =
    aims_there c.args.cs.now c.args.levels c.args.self.now c.loop-how.i c.stretch.new.self c.in-Call.next c.in-Call.which (at_call-ran t c)
    (c.in_ok-how.ensures.same_lent.0 ∙ c.loop-how.invariant.0.0) (c.in_ok-how.ensures.same_lent.1 ∙ c.loop-how.invariant.0.1)
    (c.in_ok-how.ensures.same_lent.2 ∙ c.loop-how.invariant.0.2)
    c.choose-list.result.now c.choose_count-count.result c.unpack-o.result c.choose-list.ensures c.choose_count-count.ensures c.unpack-o.ensures
    (Ok c.in_ok-target-in-Call.target) c.in_ok-target-in-Call.ensures.result_value

names-ran : (t : ℕ) (c : After-run t) → NamesThere c.args.cs.now c.args.levels c.args.self.now c.loop-how.i c.stretch.new.self c.in-Call.next
    c.in-Call.which (at_call-ran t c) (c.in_ok-how.ensures.same_lent.0 ∙ c.loop-how.invariant.0.0)
    (c.in_ok-how.ensures.same_lent.1 ∙ c.loop-how.invariant.0.1) (c.in_ok-how.ensures.same_lent.2 ∙ c.loop-how.invariant.0.2)
    (Ok c.in_ok-target-in-Call.target)
names-ran t c =
    names_there c.args.cs.now c.args.levels c.args.self.now c.loop-how.i c.stretch.new.self c.in-Call.next c.in-Call.which (at_call-ran t c)
    (c.in_ok-how.ensures.same_lent.0 ∙ c.loop-how.invariant.0.0) (c.in_ok-how.ensures.same_lent.1 ∙ c.loop-how.invariant.0.1)
    (c.in_ok-how.ensures.same_lent.2 ∙ c.loop-how.invariant.0.2)
    c.choose-list.result.now c.choose_count-count.result c.unpack-o.result c.choose-list.ensures c.choose_count-count.ensures c.unpack-o.ensures
    (Ok c.in_ok-target-in-Call.target) c.in_ok-target-in-Call.ensures.names

numbers : (t : ℕ) (c : In-Call t) → Numbers _ _ _ _ _ _ _ _ _ _ _ _ _ _ _ _ (at_call t c)
numbers t c = safe _ _ _ _ _ _ _ _ _ _ _ _ _ _ _ _ (at_call t c)

numbers-ran : (t : ℕ) (c : After-run t) → Numbers _ _ _ _ _ _ _ _ _ _ _ _ _ _ _ _ (at_call-ran t c)
numbers-ran t c = safe _ _ _ _ _ _ _ _ _ _ _ _ _ _ _ _ (at_call-ran t c)

there : (t : ℕ) (c : After-size_of t) → (c.size_of.result ≤ c.stretch.new.self.state.length) × (0 < c.stretch.new.self.state.tail) ×
    (c.args.levels ≡ 0 → ⊥)
there t c =
    index_is c.args.cs.now c.args.levels c.args.self.now c.loop-how.i c.stretch.new.self c.in-Call.next c.in-Call.which (at_call-sized t c)
    (c.in_ok-how.ensures.same_lent.0 ∙ c.loop-how.invariant.0.0) (c.in_ok-how.ensures.same_lent.1 ∙ c.loop-how.invariant.0.1)
    (c.in_ok-how.ensures.same_lent.2 ∙ c.loop-how.invariant.0.2)
    c.choose-list.result.now c.choose_count-count.result c.unpack-o.result c.choose-list.ensures c.choose_count-count.ensures c.unpack-o.ensures
    c.in_ok-target-in-Call.target (aims-sized t c) (names-sized t c) c.size_of.result c.size_of.ensures

-- ---- the goals
pub loop-how-init : goal.loop-how-init
loop-how-init t c =
    let self = c.args.self.now in (
      (refl, refl, refl, refl, refl, refl),
      refl,
      refl,
      refl,
      begins c.args.cs.now self.globals.now self.locals.now self.by c.args.levels self.stack.now self.out.now self.marks.now
          self.state (λ k. (c.type_inv.cs k).fits) self.global_bytes self.local_bytes,
      refl,
    )

pub stretch-requires : goal.stretch-requires
stretch-requires t c = stands_there c.args.cs.now c.args.levels c.args.self.now c.requires.sound c.loop-how.self c.loop-how.i c.loop-how.invariant

pub returns-in_err-how-clause-runs_to : goal.returns-in_err-how-clause-runs_to
returns-in_err-how-clause-runs_to t c =
    let p = err_from_is_err_and c.from_residual.result c.from_residual.ensures.1 in
    let e = c.in_err-how.ensures in
    rw (p.1, p.2) (stopped_there c.args.cs.now c.args.levels c.args.self.now c.requires.sound c.loop-how.self c.loop-how.i c.loop-how.invariant
    c.stretch.new.self (Err c.in_err-how.field-0.0) e.stretches_to e.stack_unchanged e.stack_length e.marks_unchanged _ refl)

pub returns-in-Done-clause-runs_to : goal.returns-in-Done-clause-runs_to
returns-in-Done-clause-runs_to t c =
    let e = c.in_ok-how.ensures in
    done_there c.args.cs.now c.args.levels c.args.self.now c.requires.sound c.loop-how.self c.loop-how.i c.loop-how.invariant c.stretch.new.self
    (Ok c.in_ok-how.field-0) e.stretches_to e.stack_unchanged e.stack_length e.marks_unchanged _ (ap Ok c.in-Done.is)

pub overflow_sub-top : goal.overflow_sub-top
overflow_sub-top t c = let n = numbers t (goal.at.overflow_sub-top t c).In-Call in omega (arith, n.some)

pub offset_bounds-self-top : goal.offset_bounds-self-top
offset_bounds-self-top t c = let n = numbers t (goal.at.offset_bounds-self-top t c).In-Call in omega (arith, n.numbers, n.some)

pub bounds-self-top : goal.bounds-self-top
bounds-self-top t c = let n = numbers t (goal.at.bounds-self-top t c).In-Call in omega (arith, n.numbers, n.some)

pub returns-in_err-target-in-Call-clause-runs_to : goal.returns-in_err-target-in-Call-clause-runs_to
returns-in_err-target-in-Call-clause-runs_to t c =
    let p = err_from_is_err_and c.from_residual-in_err-target-in-Call.result c.from_residual-in_err-target-in-Call.ensures.1 in
    let b = at_call t (goal.at.returns-in_err-target-in-Call-clause-runs_to t c).In-Call in
    rw (p.1, p.2) (missed_there c.args.cs.now c.args.levels c.args.self.now c.loop-how.i c.stretch.new.self c.in-Call.next c.in-Call.which b
    (c.in_ok-how.ensures.same_lent.0 ∙ c.loop-how.invariant.0.0) (c.in_ok-how.ensures.same_lent.1 ∙ c.loop-how.invariant.0.1)
    (c.in_ok-how.ensures.same_lent.2 ∙ c.loop-how.invariant.0.2) _
    (aims_there c.args.cs.now c.args.levels c.args.self.now c.loop-how.i c.stretch.new.self c.in-Call.next c.in-Call.which b
    (c.in_ok-how.ensures.same_lent.0 ∙ c.loop-how.invariant.0.0) (c.in_ok-how.ensures.same_lent.1 ∙ c.loop-how.invariant.0.1)
    (c.in_ok-how.ensures.same_lent.2 ∙ c.loop-how.invariant.0.2)
    c.choose-list.result.now c.choose_count-count.result c.unpack-o.result c.choose-list.ensures c.choose_count-count.ensures c.unpack-o.ensures
    (Err c.in_err-target-in-Call.field-0.0) c.in_err-target-in-Call.ensures.result_value))

pub enter-requires : goal.enter-requires
enter-requires t c =
    let n = numbers t (goal.at.enter-requires t c).In-Call in
    let x = there t c in
    let good = c.well_formed in
    (n.some, x.1, few_tokens _ _ n.begun (omega (arith, good)), x.0)

pub overflow_sub-levels : goal.overflow_sub-levels
overflow_sub-levels t c =
    let y = (there t (goal.at.overflow_sub-levels t c).After-size_of).2 in omega arith

pub run-requires : goal.run-requires
run-requires t c =
    let d = (goal.at.run-requires t c).After-size_of in
    let y = (there t d).2 in (
      omega arith,
      (
        sound_there c.args.cs.now c.args.levels c.args.self.now c.loop-how.i c.stretch.new.self c.in-Call.next c.in-Call.which (at_call-sized t d)
            (c.in_ok-how.ensures.same_lent.0 ∙ c.loop-how.invariant.0.0) (c.in_ok-how.ensures.same_lent.1 ∙ c.loop-how.invariant.0.1)
            (c.in_ok-how.ensures.same_lent.2 ∙ c.loop-how.invariant.0.2)
            c.choose-list.result.now c.choose_count-count.result c.unpack-o.result c.choose-list.ensures c.choose_count-count.ensures c.unpack-o.ensures
            c.in_ok-target-in-Call.target (aims-sized t d) (names-sized t d) c.size_of.result c.size_of.ensures
            c.enter.new.self c.enter.ensures c.mark.new.marks c.mark.ensures,
        subst (λ (x : Limits). c.args.levels - 1 ≤ x.rules.levels) (sym (c.in_ok-how.ensures.same_lent.0 ∙ c.loop-how.invariant.0.0))
            (let z = c.requires.levels_le_levels in omega arith),
      ),
    )

pub loop-how-smaller : goal.loop-how-smaller
loop-how-smaller t c =
    let d = (goal.at.loop-how-smaller t c).After-run in
    let n = numbers-ran t d in
    let k : length c.args.cs.now - c.in-Call.next < length c.args.cs.now - c.loop-how.i = omega (arith, n.ahead, n.inside) in k

pub loop-how-preserved : goal.loop-how-preserved
loop-how-preserved t c =
    let d = (goal.at.loop-how-preserved t c).After-run in
    let v = c.loop-how.invariant in
    let e = c.in_ok-how.ensures in
    let r = c.run.ensures in
    let back = back_there c.args.cs.now c.args.levels c.args.self.now c.loop-how.i c.stretch.new.self c.in-Call.next c.in-Call.which (at_call-ran t d)
    (c.in_ok-how.ensures.same_lent.0 ∙ c.loop-how.invariant.0.0) (c.in_ok-how.ensures.same_lent.1 ∙ c.loop-how.invariant.0.1)
    (c.in_ok-how.ensures.same_lent.2 ∙ c.loop-how.invariant.0.2)
    c.choose-list.result.now c.choose_count-count.result c.unpack-o.result c.choose-list.ensures c.choose_count-count.ensures c.unpack-o.ensures
    c.in_ok-target-in-Call.target (aims-ran t d) (names-ran t d) c.size_of.result c.size_of.ensures
    c.enter.new.self c.enter.ensures c.mark.new.marks c.mark.ensures c.run.new.self c.run.result c.run.ensures.runs_to
    (c.in-Ok-Back.is ∙ ap Ok c.in-Ok-Back.field-0-is) in (
      (
        r.same_lent.0 ∙ e.same_lent.0 ∙ v.0.0,
        r.same_lent.1 ∙ e.same_lent.1 ∙ v.0.1,
        r.same_lent.2 ∙ e.same_lent.2 ∙ v.0.2,
        r.same_lent.3 ∙ e.same_lent.3 ∙ v.0.3,
        r.same_lent.4 ∙ e.same_lent.4 ∙ v.0.4,
        r.same_lent.5 ∙ e.same_lent.5 ∙ v.0.5,
      ),
      r.stack_length ∙ e.stack_length ∙ v.1,
      r.out_length ∙ e.out_length ∙ v.2,
      r.marks_length ∙ c.mark.auto.marks ∙ ap (λ (l : List ℕ). length l) e.marks_unchanged ∙ v.3,
      back.0,
      back.1,
    )

pub returns-in-Ok-Ended-clause-runs_to : goal.returns-in-Ok-Ended-clause-runs_to
returns-in-Ok-Ended-clause-runs_to t c =
    let d = (goal.at.returns-in-Ok-Ended-clause-runs_to t c).After-run in
    ended_there c.args.cs.now c.args.levels c.args.self.now c.loop-how.i c.stretch.new.self c.in-Call.next c.in-Call.which (at_call-ran t d)
    (c.in_ok-how.ensures.same_lent.0 ∙ c.loop-how.invariant.0.0) (c.in_ok-how.ensures.same_lent.1 ∙ c.loop-how.invariant.0.1)
    (c.in_ok-how.ensures.same_lent.2 ∙ c.loop-how.invariant.0.2)
    c.choose-list.result.now c.choose_count-count.result c.unpack-o.result c.choose-list.ensures c.choose_count-count.ensures c.unpack-o.ensures
    c.in_ok-target-in-Call.target (aims-ran t d) (names-ran t d) c.size_of.result c.size_of.ensures
    c.enter.new.self c.enter.ensures c.mark.new.marks c.mark.ensures c.run.new.self c.run.result c.run.ensures.runs_to
    (c.in-Ok-Ended.is ∙ ap Ok c.in-Ok-Ended.field-0-is)

pub overflow_sub-self : goal.overflow_sub-self
overflow_sub-self t c = let n = numbers-ran t (goal.at.overflow_sub-self t c).After-run in omega (arith, n.ahead)

pub returns-then-at-self-clause-runs_to : goal.returns-then-at-self-clause-runs_to
returns-then-at-self-clause-runs_to t c =
    let d = (goal.at.returns-then-at-self-clause-runs_to t c).After-run in
    let rules = c.run.new.self.by.rules in
    rw (c.from.ensures) (refused_there c.args.cs.now c.args.levels c.args.self.now c.loop-how.i c.stretch.new.self c.in-Call.next c.in-Call.which
    (at_call-ran t d) (c.in_ok-how.ensures.same_lent.0 ∙ c.loop-how.invariant.0.0) (c.in_ok-how.ensures.same_lent.1 ∙ c.loop-how.invariant.0.1)
    (c.in_ok-how.ensures.same_lent.2 ∙ c.loop-how.invariant.0.2)
    c.choose-list.result.now c.choose_count-count.result c.unpack-o.result c.choose-list.ensures c.choose_count-count.ensures c.unpack-o.ensures
    c.in_ok-target-in-Call.target (aims-ran t d) (names-ran t d) c.size_of.result c.size_of.ensures
    c.enter.new.self c.enter.ensures c.mark.new.marks c.mark.ensures c.run.new.self c.run.result c.run.ensures.runs_to
    c.in-Err.k c.in-Err.is c.requires.levels_le_levels c.run.ensures.same_lent.0 _
    (note_inside c.run.new.self.stack.now rules.operands (rules.levels - c.args.levels) c.in_ok-target-in-Call.target.entry (c.in-Call.next - 1)
    c.in-Call.which c.code_of.result c.code_of.ensures c.if-at-self.true))

pub returns-else-at-self-clause-runs_to : goal.returns-else-at-self-clause-runs_to
returns-else-at-self-clause-runs_to t c =
    let d = (goal.at.returns-else-at-self-clause-runs_to t c).After-run in
    let rules = c.run.new.self.by.rules in
    refused_there c.args.cs.now c.args.levels c.args.self.now c.loop-how.i c.stretch.new.self c.in-Call.next c.in-Call.which (at_call-ran t d)
    (c.in_ok-how.ensures.same_lent.0 ∙ c.loop-how.invariant.0.0) (c.in_ok-how.ensures.same_lent.1 ∙ c.loop-how.invariant.0.1)
    (c.in_ok-how.ensures.same_lent.2 ∙ c.loop-how.invariant.0.2)
    c.choose-list.result.now c.choose_count-count.result c.unpack-o.result c.choose-list.ensures c.choose_count-count.ensures c.unpack-o.ensures
    c.in_ok-target-in-Call.target (aims-ran t d) (names-ran t d) c.size_of.result c.size_of.ensures
    c.enter.new.self c.enter.ensures c.mark.new.marks c.mark.ensures c.run.new.self c.run.result c.run.ensures.runs_to
    c.in-Err.k c.in-Err.is c.requires.levels_le_levels c.run.ensures.same_lent.0 _
    (note_outside c.run.new.self.stack.now rules.operands (rules.levels - c.args.levels) c.in_ok-target-in-Call.target.entry (c.in-Call.next - 1)
    c.in-Call.which c.if-at-self.false)
