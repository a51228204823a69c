-- `Glyphs::put_font` meets its contract. Assumes nothing.
use Rattle.std.specs.Prelude.{◌≡◌, ℕ, ◌+◌, length, set}
use Rattle.std.proofs.Common.{sym, ap, subst, ◌∙◌, arith}
use Rattle.std.proofs.Math.ListN.{length-set}
use Rattle.number.specs.BigEndian.{put_at}
use Rattle.index.specs.Index.{data_start}
use Rattle.index_writing.proofs.WritingLaws.{stored, Holds, size_holds, reach_count, reach_some}
use Rattle.font.specs.Code.{before}
use Rattle.font.specs.Glyphs.{asked_of}
use Rattle.font.proofs.WholeLaws.{none_stored, some_stored}
use Rattle.font.proofs.glyphs.Glyphs.put_font.Goals as goal
use Rattle.font.proofs.glyphs.Glyphs.put_font.Goals.{After-write_be, Else-self-eq0}

counted : (c : After-write_be) → c.write_be.new.out ≡ put_at c.args.out.now 0 2 c.args.self.now.many
counted c =
    let a = c.args in
    let n = a.self.now.many in
    stored a.out.now _ 0 2 c.from.result _ c.write_be.ensures (omega arith)
    (omega (arith, c.requires.long, reach_count 2 n a.size (before (asked_of a.self.now) n)))
    ∙ ap (put_at a.out.now 0 2) c.from.ensures

-- the size is one of 1 to 4
sized : (c : After-write_be) → Holds c.args.size (before (asked_of c.args.self.now) c.args.self.now.many + 1)
sized c =
    subst (λ (z : ℕ). Holds z (before (asked_of c.args.self.now) c.args.self.now.many + 1)) (sym c.requires.size_is) (size_holds _ c.requires.short)

room : (c : Else-self-eq0)
    → length c.args.out.now ≡ data_start 2 c.args.self.now.many c.args.size + before (asked_of c.args.self.now) c.args.self.now.many
room c =
    let n = c.args.self.now.many in
    c.requires.long ∙ sym (reach_some 2 n c.args.size (before (asked_of c.args.self.now) n) c.if-self-eq0.false)

-- with the size byte stored, the room is as long as it was
same_room : (c : Else-self-eq0) → length (set c.write_be.new.out 2 c.args.size) ≡ length c.args.out.now
same_room c = length-set c.write_be.new.out 2 _ ∙ c.write_be.auto.out

pub returns-then-self-eq0 : goal.returns-then-self-eq0
returns-then-self-eq0 c =
    let a = c.args in
    none_stored (asked_of a.self.now) a.self.now.many a.size a.out.now _ c.if-self-eq0.true c.requires.long
    (counted (goal.at.returns-then-self-eq0 c).After-write_be)

pub overflow_cast-out : goal.overflow_cast-out
overflow_cast-out c =
    omega (arith, (sized (goal.at.overflow_cast-out c).After-write_be).four)

pub bounds-out-2 : goal.bounds-out-2
bounds-out-2 c =
    let r = room c in omega (arith, c.write_be.auto.out)

pub put_glyphs-requires : goal.put_glyphs-requires
put_glyphs-requires c =
    record {
      few = c.requires.few;
      four = (sized (goal.at.put_glyphs-requires c).After-write_be).four;
      ran = c.requires.ran;
      short = c.requires.short;
      long = same_room (goal.at.put_glyphs-requires c).Else-self-eq0 ∙ room (goal.at.put_glyphs-requires c).Else-self-eq0;
    }

pub returns : goal.returns
returns c =
    let a = c.args in
    let r = room (goal.at.returns c).Else-self-eq0 in
    some_stored (asked_of a.self.now) a.self.now.many a.size a.out.now c.write_be.new.out _ c.if-self-eq0.false (omega arith)
    (counted (goal.at.returns c).After-write_be) c.requires.size_is c.write_be.auto.out (omega arith) c.put_glyphs.ensures
