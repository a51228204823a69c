-- `answer_number` of number is the number of the answer that a `Result` stands for. Assumes nothing.
use Rattle.std.specs.Prelude.{◌≡◌, refl, ℕ, Result, Ok, Err}
use Rattle.number.specs.Answer.{number_in}
use Rattle.number.specs.Refuse.{number_of}
use Rattle.index.specs.Index.{index_read, index_refusal, entry_read, entry_refusal}
use Rattle.index.specs.Formed.{formed, reason_of}
use Rattle.index.specs.declared.read.Extent.{Extent}
use Rattle.index.specs.declared.read.IndexError.{IndexError}
use Rattle.index.specs.declared.entry.Place.{Place}
use Rattle.index.specs.declared.entry.EntryError.{EntryError}
use Rattle.index.specs.declared.list.Flaw.{Flaw}

pub index_number_of : (r : Result Extent IndexError) → number_of index_refusal r ≡ number_in (index_read r)
index_number_of (Ok x) = refl
index_number_of (Err e) = refl

pub entry_number_of : (r : Result Place EntryError) → number_of entry_refusal r ≡ number_in (entry_read r)
entry_number_of (Ok p) = refl
entry_number_of (Err e) = refl

pub formed_number_of : (r : Result ℕ Flaw) → number_of reason_of r ≡ number_in (formed r)
formed_number_of (Ok n) = refl
formed_number_of (Err f) = refl
