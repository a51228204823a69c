-- The sentence of each refusal of a charstring, as the programs print it (refusals.txt). Numbers in it are those of `plain` and `strict`.
use Rattle.std.specs.Prelude.{ℕ, cond, List, ◌++◌, eqb, codes, decimal}
use Rattle.reading.specs.Answers.{number_of}
use Rattle.reading.specs.declared.refusal.Refusal.{Refusal}
use Rattle.reading.specs.declared.refusal.Refusal.TheVariants.{BudgetSpent, BytesLacking, TooManyOperands, UnknownOperator}
use Rattle.reading.specs.declared.refusal.Refusal.TheVariants.{NoIndex, IndexNotLast, NoEntry, TooDeep, TooManyHints, Composite, OperandsAtMask, NoEndchar}
use Rattle.reading.specs.declared.refusal.Stopped.{Stopped}
use Rattle.reading.specs.declared.refusal.Stopped.TheVariants.{At, Alone}

abbrev pub sentence : Refusal → List ℕ
sentence BudgetSpent = codes "the budget is spent"
sentence BytesLacking = codes "a number, an operator or a mask lacks bytes"
sentence TooManyOperands = codes "more than 48 operands wait"
sentence UnknownOperator = codes "a byte starts no number, or an operator is not supported"
sentence NoIndex = codes "a call has no index, or one that is not whole"
sentence IndexNotLast = codes "a call's index does not stand last in the flat string"
sentence NoEntry = codes "a call names a subroutine that is not there"
sentence TooDeep = codes "calls nest over 64 strings deep in plain, over 11 in strict"
sentence TooManyHints = codes "there are over 65535 hints in plain, over 96 in strict"
sentence Composite = codes "endchar has four operands or more, for a glyph made of two others"
sentence OperandsAtMask = codes "operands wait at a mask whose length is fixed, in strict"
sentence NoEndchar = codes "the charstring comes to its end without endchar, in strict"

-- the budget is spent behind a token, and any other refusal is of one
abbrev pub stop_sentence : Stopped → List ℕ
stop_sentence (At k t) = sentence k ++ cond (eqb (number_of k) 3) (codes " after token ") (codes ", at token ") ++ decimal t
stop_sentence (Alone k) = sentence k
