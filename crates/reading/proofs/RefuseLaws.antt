-- The number of a `Result` is that of the answer that it stands for. Assumes nothing.
use Rattle.std.specs.Prelude.{◌≡◌, refl, Result, Ok, Err}
use Rattle.number.specs.Answer.{number_in}
use Rattle.number.specs.Refuse.{number_of}
use Rattle.reading.specs.Answers.{flattened, flatten_refusal}
use Rattle.reading.specs.Entered.{flattened_marked, mark_refusal}
use Rattle.reading.specs.declared.answer.Flat.{Flat}
use Rattle.reading.specs.declared.answer.FlattenError.{FlattenError}
use Rattle.reading.specs.declared.answer.MarkError.{MarkError}

pub flattened_number_of : (r : Result Flat FlattenError) → number_of flatten_refusal r ≡ number_in (flattened r)
flattened_number_of (Ok x) = refl
flattened_number_of (Err e) = refl

pub marked_number_of : (r : Result Flat MarkError) → number_of mark_refusal r ≡ number_in (flattened_marked r)
marked_number_of (Ok x) = refl
marked_number_of (Err e) = refl
