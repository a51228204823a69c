-- `answer_number` is the number of the answer that a `Result` stands for. Assumes nothing.
use Rattle.std.specs.Prelude.{◌≡◌, refl, ℕ, Result, Ok, Err}
use Rattle.number.specs.Answer.{number_in}
use Rattle.number.specs.Refuse.{number_of}
use Rattle.index_writing.specs.Writing.{index_written, write_refusal, index_plan, plan_refusal}
use Rattle.index_writing.specs.declared.Plan.{Plan}
use Rattle.index_writing.specs.declared.TooLong.{TooLong}
use Rattle.index_writing.specs.declared.WriteError.{WriteError}

pub written_number_of : (r : Result ℕ WriteError) → number_of write_refusal r ≡ number_in (index_written r)
written_number_of (Ok n) = refl
written_number_of (Err e) = refl

pub plan_number_of : (r : Result Plan TooLong) → number_of plan_refusal r ≡ number_in (index_plan r)
plan_number_of (Ok p) = refl
plan_number_of (Err e) = refl
