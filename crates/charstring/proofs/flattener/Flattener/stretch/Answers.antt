use mathlib.Core.Path.{◌≡◌, refl, ap, ◌∙◌}
use Prim.Native.Nat.{ℕ, ◌≤◌}
use native.Mathlib.Omega.{arith}
use lib.ListN.{length-set}
use lib.Seq.{drop-set-lt}
use Rattle.std.proofs.lemmas.Result.{err_from_is_err_and}
use Rattle.charstring.specs.Run.{Stretched}
use Rattle.charstring.proofs.StretchLaws.{Seen, seen, turned, refused_here, safe, few_tokens, few_operands, operator_two}
use Rattle.charstring.proofs.StretchLaws.{arm_push, arm_short, arm_clear, arm_mask, arm_out, arm_return, arm_end, arm_call}
use Rattle.charstring.specs.declared.state.State.{State}
use Rattle.charstring.specs.declared.look.Request.TheVariants.{Push, Clears, Masks, Calls, Returns, Ends, Out, Short}
use Rattle.charstring.specs.declared.stretch.Ending.TheVariants.{Back, Ended}
use Rattle.charstring.specs.declared.stretch.Stop.TheVariants.{Done as Finished}
use Rattle.std.specs.Prelude.{Ok}
use Rattle.charstring.proofs.flattener.Flattener.stretch.Goals as goal
use Rattle.charstring.proofs.flattener.Flattener.stretch.Goals.{At-loop-next, In-Clears, In-Ends, In-Masks, In-Push, In-Short, In-Calls, In-Out, In-Returns}

-- ---- what is known there
few_budget : (c : At-loop-next) → c.args.self.now.by.budget ≤ 4294967295
few_budget c = let x = c.well_formed in omega (arith, x)

short : (c : In-Short) → Seen c.args.cs.now c.args.self.now c.args.from c.loop-next.self c.loop-next.i (Short c.in-Short.next c.in-Short.b c.in-Short.x)
short c =
    seen c.args.cs.now c.args.self.now c.args.from c.loop-next.self c.loop-next.i c.requires c.loop-next.invariant _ _ c.in_ok-next.ensures c.in-Short.is

clears : (c : In-Clears) → Seen c.args.cs.now c.args.self.now c.args.from c.loop-next.self c.loop-next.i
    (Clears c.in-Clears.next c.in-Clears.hints c.in-Clears.p)
clears c =
    seen c.args.cs.now c.args.self.now c.args.from c.loop-next.self c.loop-next.i c.requires c.loop-next.invariant _ _ c.in_ok-next.ensures c.in-Clears.is

pushes : (c : In-Push) → Seen c.args.cs.now c.args.self.now c.args.from c.loop-next.self c.loop-next.i (Push c.in-Push.next c.in-Push.o)
pushes c =
    seen c.args.cs.now c.args.self.now c.args.from c.loop-next.self c.loop-next.i c.requires c.loop-next.invariant _ _ c.in_ok-next.ensures c.in-Push.is

masks : (c : In-Masks) → Seen c.args.cs.now c.args.self.now c.args.from c.loop-next.self c.loop-next.i
    (Masks c.in-Masks.a c.in-Masks.b c.in-Masks.count c.in-Masks.hints c.in-Masks.p)
masks c =
    seen c.args.cs.now c.args.self.now c.args.from c.loop-next.self c.loop-next.i c.requires c.loop-next.invariant _ _ c.in_ok-next.ensures c.in-Masks.is

calls : (c : In-Calls) → Seen c.args.cs.now c.args.self.now c.args.from c.loop-next.self c.loop-next.i (Calls c.in-Calls.next c.in-Calls.which)
calls c =
    seen c.args.cs.now c.args.self.now c.args.from c.loop-next.self c.loop-next.i c.requires c.loop-next.invariant _ _ c.in_ok-next.ensures c.in-Calls.is

returns_there : (c : In-Returns) → Seen c.args.cs.now c.args.self.now c.args.from c.loop-next.self c.loop-next.i (Returns)
returns_there c =
    seen c.args.cs.now c.args.self.now c.args.from c.loop-next.self c.loop-next.i c.requires c.loop-next.invariant _ _ c.in_ok-next.ensures c.in-Returns.is

ends : (c : In-Ends) → Seen c.args.cs.now c.args.self.now c.args.from c.loop-next.self c.loop-next.i (Ends c.in-Ends.p)
ends c = seen c.args.cs.now c.args.self.now c.args.from c.loop-next.self c.loop-next.i c.requires c.loop-next.invariant _ _ c.in_ok-next.ensures c.in-Ends.is

out_there : (c : In-Out) → Seen c.args.cs.now c.args.self.now c.args.from c.loop-next.self c.loop-next.i (Out)
out_there c =
    seen c.args.cs.now c.args.self.now c.args.from c.loop-next.self c.loop-next.i c.requires c.loop-next.invariant _ _ c.in_ok-next.ensures c.in-Out.is

-- ---- the goals
pub look-requires : goal.look-requires
look-requires c =
    let f = safe _ _ _ _ _ _ _ _ _ _ (turned c.args.cs.now c.args.self.now c.args.from c.loop-next.self c.loop-next.i c.requires c.loop-next.invariant) in
    let k : c.loop-next.self.state.count ≤ 65535 = omega (arith, f.room, f.few) in
    (f.hinted, k)

pub returns-in_err-next-clause-stretches_to : goal.returns-in_err-next-clause-stretches_to
returns-in_err-next-clause-stretches_to c =
    let p = err_from_is_err_and c.from_residual.result c.from_residual.ensures.1 in
    rw (p.1, p.2) (refused_here c.args.cs.now c.args.self.now c.args.from c.loop-next.self c.loop-next.i c.requires c.loop-next.invariant _
    c.in_err-next.ensures)

pub put_two-requires : goal.put_two-requires
put_two-requires c =
    let a = short (goal.at.put_two-requires c).In-Short in
    let few = few_budget (goal.at.put_two-requires c).At-loop-next in
    omega (arith, a.numbers, a.looked.0.0, few)

pub overflow_add-length : goal.overflow_add-length
overflow_add-length c =
    let a = short (goal.at.overflow_add-length c).In-Short in
    let few = few_budget (goal.at.overflow_add-length c).At-loop-next in
    omega (arith, a.numbers, a.looked.0.0, few)

pub push-requires : goal.push-requires
push-requires c =
    let a = short (goal.at.push-requires c).In-Short in
    let few = few_budget (goal.at.push-requires c).At-loop-next in
    (few_operands _ _ a.numbers.room a.numbers.few, a.numbers.tailed, few_tokens _ _ a.looked.0.0.within few)

pub loop-next-preserved-in-Short : goal.loop-next-preserved-in-Short
loop-next-preserved-in-Short c =
    let a = short (goal.at.loop-next-preserved-in-Short c).In-Short in
    let v = c.loop-next.invariant in
    let w = c.pack_short.result in (
      v.0,
      v.1,
      length-set {A = ℕ} c.loop-next.self.stack.now c.loop-next.self.state.count w ∙ v.2,
      c.put_two.auto.out ∙ v.3,
      omega (arith, a.turn.further, a.looked.0.0),
      arm_short _ _ _ _ _ _ _ _ _ _ a.turn _ _ _ w _ _ _ a.looked c.pack_short.ensures c.put_two.ensures.out_after refl c.push.ensures,
      drop-set-lt _ c.loop-next.self.stack.now c.loop-next.self.state.count w a.looked.0.2 ∙ v.6,
    )

pub put_operator-length-requires : goal.put_operator-length-requires
put_operator-length-requires c =
    let a = clears (goal.at.put_operator-length-requires c).In-Clears in
    let few = few_budget (goal.at.put_operator-length-requires c).At-loop-next in
    omega (arith, a.numbers, a.looked.0.begun, few)

pub advance_at-settled-requires : goal.advance_at-settled-requires
advance_at-settled-requires c =
    let a = clears (goal.at.advance_at-settled-requires c).In-Clears in
    a.numbers.room

pub loop-next-preserved-in-Clears : goal.loop-next-preserved-in-Clears
loop-next-preserved-in-Clears c =
    let a = clears (goal.at.loop-next-preserved-in-Clears c).In-Clears in
    let v = c.loop-next.invariant in
    let p = c.put_operator-length in (
      v.0,
      v.1,
      v.2,
      p.auto.out ∙ v.3,
      omega (arith, a.turn.further, a.looked.0.begun),
      arm_clear _ _ _ _ _ _ _ _ _ _ a.turn _ _ _ _ _ _ _ a.looked (c.advance_at-settled.ensures.result_value, c.advance_at-settled.ensures.is_settled)
          p.ensures.out_after p.ensures.value c.clear.ensures,
      v.6,
    )

pub put_operand-length-requires : goal.put_operand-length-requires
put_operand-length-requires c =
    let a = pushes (goal.at.put_operand-length-requires c).In-Push in
    let few = few_budget (goal.at.put_operand-length-requires c).At-loop-next in
    omega (arith, a.numbers, a.looked.0, few)

pub push-requires-in-Push : goal.push-requires-in-Push
push-requires-in-Push c =
    let a = pushes (goal.at.push-requires-in-Push c).In-Push in
    let few = few_budget (goal.at.push-requires-in-Push c).At-loop-next in
    (few_operands _ _ a.numbers.room a.numbers.few, a.numbers.tailed, few_tokens _ _ a.looked.0.within few)

pub loop-next-preserved-in-Push : goal.loop-next-preserved-in-Push
loop-next-preserved-in-Push c =
    let a = pushes (goal.at.loop-next-preserved-in-Push c).In-Push in
    let v = c.loop-next.invariant in
    let w = c.pack.result in
    let p = c.put_operand-length in (
      v.0,
      v.1,
      length-set {A = ℕ} c.loop-next.self.stack.now c.loop-next.self.state.count w ∙ v.2,
      p.auto.out ∙ v.3,
      omega (arith, a.turn.further, a.looked.0),
      arm_push _ _ _ _ _ _ _ _ _ _ a.turn _ _ w _ _ _ a.looked c.pack.ensures p.ensures.out_after p.ensures.value c.push-in-Push.ensures,
      drop-set-lt _ c.loop-next.self.stack.now c.loop-next.self.state.count w a.looked.2 ∙ v.6,
    )

pub put_operator-behind-requires : goal.put_operator-behind-requires
put_operator-behind-requires c =
    let a = masks (goal.at.put_operator-behind-requires c).In-Masks in
    let few = few_budget (goal.at.put_operator-behind-requires c).At-loop-next in
    omega (arith, a.numbers, a.looked.0.begun, few)

pub put_bytes-length-requires : goal.put_bytes-length-requires
put_bytes-length-requires c =
    let a = masks (goal.at.put_bytes-length-requires c).In-Masks in
    let few = few_budget (goal.at.put_bytes-length-requires c).At-loop-next in
    omega (arith, a.numbers, a.looked.0.begun, few, c.put_operator-behind.ensures.value, operator_two c.in-Masks.p)

pub advance_at-settled-requires-in-Masks : goal.advance_at-settled-requires-in-Masks
advance_at-settled-requires-in-Masks c =
    let a = masks (goal.at.advance_at-settled-requires-in-Masks c).In-Masks in
    a.numbers.room

pub loop-next-preserved : goal.loop-next-preserved
loop-next-preserved c =
    let a = masks (goal.at.loop-next-preserved c).In-Masks in
    let v = c.loop-next.invariant in
    let p = c.put_operator-behind in
    let m = c.put_bytes-length in (
      v.0,
      v.1,
      v.2,
      m.auto.out ∙ p.auto.out ∙ v.3,
      omega (arith, a.turn.further, a.looked.0.begun, a.looked.3),
      arm_mask _ _ _ _ _ _ _ _ _ _ a.turn _ _ _ _ _ _ _ _ _ _ _ a.looked
          (c.advance_at-settled-in-Masks.ensures.result_value, c.advance_at-settled-in-Masks.ensures.is_settled) p.ensures.out_after
          p.ensures.value m.ensures.out_after m.ensures.value c.mask.ensures,
      v.6,
    )

pub returns-in-Calls-clause-stretches_to : goal.returns-in-Calls-clause-stretches_to
returns-in-Calls-clause-stretches_to c =
    let a = calls (goal.at.returns-in-Calls-clause-stretches_to c).In-Calls in
    arm_call _ _ _ _ _ _ _ _ _ _ a.turn _ _ a.looked

pub returns-in-Returns-clause-stretches_to : goal.returns-in-Returns-clause-stretches_to
returns-in-Returns-clause-stretches_to c =
    let a = returns_there (goal.at.returns-in-Returns-clause-stretches_to c).In-Returns in
    let is : ◌≡◌ {A = Stretched} _ _ = ap (λ (y : State). record { st = y; stop = Ok (Finished Back) }) c.go_back.ensures in
    arm_return _ _ _ _ _ _ _ _ _ _ a.turn _ is a.looked

pub put_operator-length-requires-in-Ends : goal.put_operator-length-requires-in-Ends
put_operator-length-requires-in-Ends c =
    let a = ends (goal.at.put_operator-length-requires-in-Ends c).In-Ends in
    let few = few_budget (goal.at.put_operator-length-requires-in-Ends c).At-loop-next in
    omega (arith, a.numbers, a.looked.1.begun, few)

pub advance_at-settled-requires-in-Ends : goal.advance_at-settled-requires-in-Ends
advance_at-settled-requires-in-Ends c =
    let a = ends (goal.at.advance_at-settled-requires-in-Ends c).In-Ends in
    a.numbers.room

pub returns-in-Ends-clause-stretches_to : goal.returns-in-Ends-clause-stretches_to
returns-in-Ends-clause-stretches_to c =
    let a = ends (goal.at.returns-in-Ends-clause-stretches_to c).In-Ends in
    let p = c.put_operator-length-in-Ends in
    let is : ◌≡◌ {A = Stretched} _ _ = ap (λ (y : State). record { st = y; stop = Ok (Finished Ended) }) c.finish.ensures in
    (arm_end _ _ _ _ _ _ _ _ _ _ a.turn _ _ _ _ _ is a.looked c.advance_at-settled-in-Ends.ensures.result_value p.ensures.out_after p.ensures.value)

pub returns-in-Ends-clause-stack_unchanged : goal.returns-in-Ends-clause-stack_unchanged
returns-in-Ends-clause-stack_unchanged c =
    c.loop-next.invariant.6

pub returns-in-Out-clause-stretches_to : goal.returns-in-Out-clause-stretches_to
returns-in-Out-clause-stretches_to c =
    let a = out_there (goal.at.returns-in-Out-clause-stretches_to c).In-Out in
    arm_out _ _ _ _ _ _ _ _ _ _ a.turn _ refl a.looked
