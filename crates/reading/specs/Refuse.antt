-- No refusal has the number 0, which is an answer's.
use Rattle.std.specs.Prelude.{◌<◌}
use Rattle.std.proofs.Math.Dec.{lit<}
use Rattle.reading.specs.Answers.{number_of, stop_number, flatten_refusal}
use Rattle.reading.specs.Entered.{mark_refusal}
use Rattle.reading.specs.declared.refusal.Refusal.{Refusal}
use Rattle.reading.specs.declared.refusal.Refusal.TheVariants.{BudgetSpent, BytesLacking, TooManyOperands, UnknownOperator}
use Rattle.reading.specs.declared.refusal.Refusal.TheVariants.{NoIndex, IndexNotLast, NoEntry, TooDeep, TooManyHints, Composite, OperandsAtMask, NoEndchar}
use Rattle.reading.specs.declared.refusal.Stopped.{Stopped}
use Rattle.reading.specs.declared.refusal.Stopped.TheVariants.{At, Alone}
use Rattle.reading.specs.declared.answer.FlattenError.{FlattenError}
use Rattle.reading.specs.declared.answer.FlattenError.TheVariants.{BadGlobals, BadLocals, Refused, NoRoom}
use Rattle.reading.specs.declared.answer.MarkError.{MarkError}
use Rattle.reading.specs.declared.answer.MarkError.TheVariants.{Flatten, ShortRow}

pub refusal_some : (k : Refusal) → 0 < number_of k
refusal_some BudgetSpent = lit< tt
refusal_some BytesLacking = lit< tt
refusal_some TooManyOperands = lit< tt
refusal_some UnknownOperator = lit< tt
refusal_some NoIndex = lit< tt
refusal_some IndexNotLast = lit< tt
refusal_some NoEntry = lit< tt
refusal_some TooDeep = lit< tt
refusal_some TooManyHints = lit< tt
refusal_some Composite = lit< tt
refusal_some OperandsAtMask = lit< tt
refusal_some NoEndchar = lit< tt

pub stop_some : (w : Stopped) → 0 < stop_number w
stop_some (At k t) = refusal_some k
stop_some (Alone k) = refusal_some k

pub flatten_some : (e : FlattenError) → 0 < flatten_refusal e
flatten_some (BadGlobals f) = lit< tt
flatten_some (BadLocals f) = lit< tt
flatten_some (Refused w) = stop_some w
flatten_some (NoRoom n t) = lit< tt

pub mark_some : (e : MarkError) → 0 < mark_refusal e
mark_some (Flatten e) = flatten_some e
mark_some ShortRow = lit< tt
