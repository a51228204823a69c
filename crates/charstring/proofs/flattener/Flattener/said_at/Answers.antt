use mathlib.Core.Path.{◌≡◌, refl, sym, ap, ◌∙◌}
use mathlib.Core.Bool.{Bool, true, false}
use native.Mathlib.Nat.{lt_of_lt_of_le}
use Rattle.charstring.proofs.AdvanceLaws.{spare_some, says, says_none}
use Rattle.reading.specs.Rules.{type2_takes}
use Rattle.reading.specs.Items.{spare}
use Rattle.reading.specs.declared.operator.Takes.{Takes}
use borrow.Author.Rules.{rules}
use Rattle.charstring.proofs.flattener.Flattener.said_at.Goals as goal
use Rattle.charstring.proofs.flattener.Flattener.said_at.Goals.{After-exceeds}

-- by the test
is_spare : (c : After-exceeds) → (t : Bool) → c.exceeds.result ≡ t
    → let args = c.args in spare (type2_takes args.p) args.self.now.state.count ≡ t
is_spare c t e = ap (λ (y : Takes). spare y c.args.self.now.state.count) (sym c.takes_of.ensures) ∙ sym c.exceeds.ensures ∙ e

pub bounds-self-0 : goal.bounds-self-0
bounds-self-0 c =
    let some = spare_some (type2_takes c.args.p) c.args.self.now.state.count (is_spare (goal.at.bounds-self-0 c).After-exceeds true (search rules)) in
    lt_of_lt_of_le some c.requires

pub returns-then-exceeds : goal.returns-then-exceeds
returns-then-exceeds c =
    let args = c.args in
    record {
      result_value = says (type2_takes args.p) args.self.now.stack.now args.self.now.state.count
          (is_spare (goal.at.returns-then-exceeds c).After-exceeds true (search rules));
      is_settled = refl;
    }

pub returns : goal.returns
returns c =
    let args = c.args in
    record {
      result_value = says_none (type2_takes args.p) args.self.now.stack.now args.self.now.state.count
          (is_spare (goal.at.returns c).After-exceeds false (search rules));
      is_settled = refl;
    }
