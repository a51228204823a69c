-- `Glyphs::measure_all` meets its contract. Assumes nothing.
use Rattle.std.specs.Prelude.{◌≡◌, ℕ, ◌+◌, length, set}
use Rattle.std.proofs.Common.{sym, ap, subst, ◌∙◌, arith}
use Rattle.std.proofs.lemmas.Result.{err_from_is_err_and}
use Rattle.font.specs.Font.{font_flattened}
use Rattle.font.specs.Code.{before, Ran, Kept, Reached, Noted}
use Rattle.font.specs.Glyphs.{asked_of}
use Rattle.font.proofs.FontLaws.{ran_next, before_none, before_next}
use Rattle.font.proofs.PassLaws.{reached_min, kept_none, kept_next}
use Rattle.font.proofs.Verdicts.{ran_here, stopped_here}
use Rattle.font.proofs.GlyphsLaws.{asked_short, before_short}
use Rattle.font.proofs.glyphs.Glyphs.measure_all.Goals as goal
use Rattle.font.proofs.glyphs.Glyphs.measure_all.Goals.{then-sum-joined+then-at-lengths, else-sum-joined}
use Rattle.font.proofs.glyphs.Glyphs.measure_all.Goals.{else-sum-joined-via-then-sum-joined+else-at-lengths, else-sum-joined-via-else-sum-joined}

pub loop-i-init : goal.loop-i-init
loop-i-init c =
    let glyph = asked_of c.args.self.now in
    record {
      ran = λ j h. absurd (omega arith);
      sum_is = sym (before_none glyph);
      kept = kept_none glyph c.args.lengths.now c.args.joined.now;
    }

pub returns-in_err-n : goal.returns-in_err-n
returns-in_err-n c =
    let p = err_from_is_err_and c.from_residual.result c.from_residual.ensures.1 in
    rw (p.1, p.2)
    (stopped_here (asked_of c.args.self.now) c.loop-i.i c.args.self.now.many _ c.loop-i-test.true c.loop-i.invariant.ran
    (ap font_flattened (sym c.in_err-n.was) ∙ c.run.ensures.answer))

pub overflow_add-sum : goal.overflow_add-sum
overflow_add-sum c =
    let glyphs = c.args.self.now in
    let i = c.loop-i.i in
    omega (
      arith,
      (ran_here i c.in_ok-n.n (asked_of glyphs i) c.in_ok-n.ensures.answer).1,
      asked_short glyphs i,
      before_short glyphs i,
      c.loop-i.invariant.sum_is,
      glyphs.few,
      c.loop-i-test.true,
    )

pub loop-i-preserved : goal.loop-i-preserved
loop-i-preserved c =
    let glyph = asked_of c.args.self.now in
    let l = c.loop-i in
    let n = c.in_ok-n.n in
    let here = ran_here l.i n (glyph l.i) c.in_ok-n.ensures.answer in
    let noted : Noted l.i n (l.sum + n) (length l.joined) l.lengths c.if-sum-joined.lengths =
    λ h k. elim c.if-sum-joined.branch [
      | then-sum-joined+then-at-lengths w ↦ w.lengths-is ∙ ap (λ (m : ℕ). set l.lengths m n) c.from-at.ensures
      | else-sum-joined w ↦ elim w.else-sum-joined.branch [
        | else-sum-joined-via-then-sum-joined+else-at-lengths v ↦ absurd (omega (arith, v.if-at-lengths.false, c.from-at.ensures))
        | else-sum-joined-via-else-sum-joined v ↦ absurd (omega (arith, v.if-sum-joined.false, l.auto.joined))
      ]
    ] in
    record {
      ran = ran_next glyph l.i l.invariant.ran here.0;
      sum_is = ap (λ (m : ℕ). m + n) l.invariant.sum_is ∙ ap (λ (m : ℕ). before glyph l.i + m) here.1 ∙ sym (before_next glyph l.i);
      kept = kept_next glyph l.i l.sum n c.min-from.result l.lengths c.if-sum-joined.lengths l.joined c.run.new.room l.invariant.sum_is l.invariant.kept
          (subst (Reached l.sum (length l.joined)) (sym c.min-from.ensures) (reached_min l.sum (length l.joined))) c.run.auto.room
          c.run.ensures.begins here.1 c.if-sum-joined.auto.lengths noted;
    }

pub returns : goal.returns
returns c =
    let glyph = asked_of c.args.self.now in
    let l = c.loop-i in
    let all : l.i ≡ c.args.self.now.many = omega (arith, l.auto.i-end) in (
      record {
        few = c.args.self.now.few;
        ran = subst (Ran glyph) all l.invariant.ran;
        sum_is = l.invariant.sum_is ∙ ap (before glyph) all;
      },
      subst (λ (n : ℕ). Kept glyph n l.lengths l.joined) all l.invariant.kept,
    )
