-- The look at both lists, before a run.
use Rattle.std.specs.Prelude.{Option, Some, None, Result, Ok, Err, ℕ, List}
use Rattle.number.specs.Answer.{Answer}
use Rattle.index.specs.Formed.{formation}
use Rattle.reading.specs.Answers.{Flattening, list_gate, flattened}
use Rattle.reading.specs.declared.answer.FlattenError.{FlattenError}

-- the refusal that it gives, 1 or 2, or none where both are well formed
abbrev pub lists_flaw : ℕ → List ℕ → List ℕ → Option (Answer Flattening)
lists_flaw w globals locals = list_gate Some 1 (formation w globals) (list_gate Some 2 (formation w locals) None)

-- and as the result says it
abbrev pub flaw_told : Result (Unit {0}) FlattenError → Option (Answer Flattening)
flaw_told (Ok x) = None
flaw_told (Err e) = Some (flattened (Err e))
