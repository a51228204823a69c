-- `Glyphs::write_all` meets its contract. Assumes nothing.
use Rattle.std.specs.Prelude.{◌≡◌, ℕ, ◌+◌, ◌≤◌}
use Rattle.std.proofs.Common.{ap, ◌∙◌}
use Rattle.std.proofs.lemmas.Result.{err_from_is_err_and}
use Rattle.index_writing.specs.Writing.{plan_of, size_for, reach_of}
use Rattle.index_writing.proofs.WritingLaws.{planned, unplanned}
use Rattle.font.specs.Glyphs.{asked_of}
use Rattle.font.proofs.WholeLaws.{plan_over, plan_short, plan_laid, plan_written}
use Rattle.font.proofs.glyphs.Glyphs.write_all.Goals as goal
use Rattle.font.proofs.glyphs.Glyphs.write_all.Goals.{In_ok-plan}

plan : (c : In_ok-plan) → (c.args.sum + 1 ≤ 4294967295) × (c.in_ok-plan.plan.size ≡ size_for (c.args.sum + 1))
    × (c.in_ok-plan.plan.needed ≡ reach_of 2 c.args.self.now.many c.in_ok-plan.plan.size c.args.sum)
plan c = planned _ _ _ _ _ (c.in_ok-plan.ensures ∙ ap (λ (n : ℕ). plan_of 2 n c.args.sum) c.from.ensures)

pub returns-in_err-plan : goal.returns-in_err-plan
returns-in_err-plan c =
    let p = err_from_is_err_and c.from_residual.result c.from_residual.ensures.1 in
    rw (p.1, p.2) (plan_over (asked_of c.args.self.now) c.args.self.now.many 0 c.args.out.now c.args.sum c.requires (unplanned 2 _ _ c.in_err-plan.ensures))

pub returns-then-out-plan : goal.returns-then-out-plan
returns-then-out-plan c =
    let p = c.in_ok-plan.plan in
    plan_short (asked_of c.args.self.now) c.args.self.now.many p.size c.args.out.now c.args.sum c.requires p.needed
    (plan (goal.at.returns-then-out-plan c).In_ok-plan) c.if-out-plan.true

pub put_font-requires : goal.put_font-requires
put_font-requires c =
    let p = c.in_ok-plan.plan in
    plan_laid (asked_of c.args.self.now) c.args.self.now.many p.size c.args.out.now c.args.sum c.requires p.needed
    (plan (goal.at.put_font-requires c).In_ok-plan) c.if-out-plan.false

pub returns : goal.returns
returns c =
    let p = c.in_ok-plan.plan in
    plan_written (asked_of c.args.self.now) c.args.self.now.many p.size c.args.out.now c.args.sum c.requires p.needed
    (plan (goal.at.returns c).In_ok-plan) c.if-out-plan.false _ c.put_font.ensures
