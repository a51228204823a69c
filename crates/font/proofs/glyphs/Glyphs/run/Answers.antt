-- `Glyphs::run` meets its contract. Assumes nothing.
use Rattle.std.specs.Prelude.{◌≡◌, Err, Option, Some, ℕ}
use Rattle.std.proofs.Common.{sym, ap, ◌∙◌}
use Rattle.index.specs.Index.{part}
use Rattle.reading.specs.Answers.{flattened}
use Rattle.reading.specs.declared.answer.FlattenError.{FlattenError}
use Rattle.charstring.specs.Run.{Begins}
use Rattle.font.specs.Code.{choice_of, string_of}
use Rattle.font.specs.Glyphs.{asked_of}
use Rattle.font.proofs.GlyphLaws.{part_here, not_globals, not_locals, not_room}
use Rattle.font.proofs.GlyphsLaws.{number_told, placed_none, begun_none, placed_run, placed_stop, begun_run}
use Rattle.font.proofs.glyphs.Glyphs.run.Goals as goal
use Rattle.font.proofs.glyphs.Glyphs.run.Goals.{After-draft}

-- the number at the place, and its charstring
number : (c : After-draft) → ◌≡◌ {A = Option ℕ} (Some c.in-Some.number) (Some ((choice_of c.args.self.now.choice).number c.args.i))
number c = number_told c.args.self.now _ _ _ _ c.from-place.ensures c.requires c.number.ensures.inside c.in-Some.is

here : (c : After-draft) → c.entry_part-charstring.result.now ≡ part 2 c.args.self.now.font.charstrings.now c.in-Some.number
here c = part_here _ _ _ _ c.entry_part-charstring.ensures

begun : (c : After-draft) → Begins c.draft.new.room (string_of (asked_of c.args.self.now c.args.i))
begun c = begun_run c.args.self.now c.args.i _ (number c) c.if-number-self.true _ (here c) _ c.draft.ensures.begins

pub returns-in_default-clause-answer : goal.returns-in_default-clause-answer
returns-in_default-clause-answer c =
    let told = number_told c.args.self.now _ _ _ _ c.from-place.ensures c.requires c.number.ensures.inside c.in-Some.is in
    rw c.from-place.ensures (placed_none c.args.self.now c.args.i _ told c.if-number-self.false)

pub returns-in_default-clause-begins : goal.returns-in_default-clause-begins
returns-in_default-clause-begins c =
    let told = number_told c.args.self.now _ _ _ _ c.from-place.ensures c.requires c.number.ensures.inside c.in-Some.is in
    begun_none c.args.self.now c.args.i _ told c.if-number-self.false _

pub returns-in-Ok-clause-answer : goal.returns-in-Ok-clause-answer
returns-in-Ok-clause-answer c =
    let d = (goal.at.returns-in-Ok-clause-answer c).After-draft in
    placed_run c.args.self.now c.args.i _ (number d) c.if-number-self.true _ (here d) _ c.in-Ok.ensures.verdict_is

pub returns-in-Ok-clause-begins : goal.returns-in-Ok-clause-begins
returns-in-Ok-clause-begins c =
    begun (goal.at.returns-in-Ok-clause-begins c).After-draft

pub returns-in-Err-Refused-clause-answer : goal.returns-in-Err-Refused-clause-answer
returns-in-Err-Refused-clause-answer c =
    let d = (goal.at.returns-in-Err-Refused-clause-answer c).After-draft in
    let e = c.in-Err-Refused in
    rw c.from-place.ensures
    (placed_stop c.args.self.now c.args.i _ (number d) c.if-number-self.true _ (here d) _ _
    (sym (ap (λ (x : FlattenError). flattened (Err x)) e.field-0-is) ∙ e.ensures.verdict_is))

pub returns-in-Err-Refused-clause-begins : goal.returns-in-Err-Refused-clause-begins
returns-in-Err-Refused-clause-begins c =
    begun (goal.at.returns-in-Err-Refused-clause-begins c).After-draft

pub returns-in-Err-BadGlobals-clause-answer : goal.returns-in-Err-BadGlobals-clause-answer
returns-in-Err-BadGlobals-clause-answer c =
    let e = c.in-Err-BadGlobals in
    absurd (not_globals _ _ _ _ (sym (ap (λ (x : FlattenError). flattened (Err x)) e.field-0-is) ∙ e.ensures.verdict_is))

pub returns-in-Err-BadGlobals-clause-begins : goal.returns-in-Err-BadGlobals-clause-begins
returns-in-Err-BadGlobals-clause-begins c =
    begun (goal.at.returns-in-Err-BadGlobals-clause-begins c).After-draft

pub returns-in-Err-BadLocals-clause-answer : goal.returns-in-Err-BadLocals-clause-answer
returns-in-Err-BadLocals-clause-answer c =
    let e = c.in-Err-BadLocals in
    absurd (not_locals _ _ _ _ (sym (ap (λ (x : FlattenError). flattened (Err x)) e.field-0-is) ∙ e.ensures.verdict_is))

pub returns-in-Err-BadLocals-clause-begins : goal.returns-in-Err-BadLocals-clause-begins
returns-in-Err-BadLocals-clause-begins c =
    begun (goal.at.returns-in-Err-BadLocals-clause-begins c).After-draft

pub returns-in-Err-NoRoom-clause-answer : goal.returns-in-Err-NoRoom-clause-answer
returns-in-Err-NoRoom-clause-answer c =
    let e = c.in-Err-NoRoom in
    absurd (not_room _ _ _ _ (sym (ap (λ (x : FlattenError). flattened (Err x)) e.field-0-is) ∙ e.ensures.verdict_is))

pub returns-in-Err-NoRoom-clause-begins : goal.returns-in-Err-NoRoom-clause-begins
returns-in-Err-NoRoom-clause-begins c =
    begun (goal.at.returns-in-Err-NoRoom-clause-begins c).After-draft
