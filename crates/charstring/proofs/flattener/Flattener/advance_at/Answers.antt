use mathlib.Core.Path.{◌∙◌, ap}
use Rattle.reading.specs.Rules.{type2_takes}
use Rattle.charstring.specs.Words.{is_settled}
use Rattle.charstring.proofs.AdvanceLaws.{first_settles, settled_stays, once_said}
use Rattle.charstring.proofs.flattener.Flattener.advance_at.Goals as goal

pub returns-in-Open : goal.returns-in-Open
returns-in-Open c =
    let self = c.args.self.now in
    record {
      result_value = c.said_at.ensures.result_value ∙ first_settles (type2_takes c.args.p) self.stack.now self.state (ap is_settled c.in-Open.is);
      is_settled = c.said_at.ensures.is_settled;
    }

pub returns : goal.returns
returns c =
    let self = c.args.self.now in
    let e = once_said self.state.settled c.in_default.not-Open in
    record { result_value = settled_stays (type2_takes c.args.p) self.stack.now self.state e; is_settled = e }
