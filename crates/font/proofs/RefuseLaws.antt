-- The number of a `Result` is that of the answer that it stands for. Assumes nothing.
use Rattle.std.specs.Prelude.{◌≡◌, refl, Result, Ok, Err, ℕ}
use Rattle.number.specs.Answer.{number_in}
use Rattle.number.specs.Refuse.{number_of}
use Rattle.font.specs.Font.{font_flattened, font_refusal}
use Rattle.font.specs.declared.error.FontError.{FontError}

pub font_number_of : (r : Result ℕ FontError) → number_of font_refusal r ≡ number_in (font_flattened r)
font_number_of (Ok n) = refl
font_number_of (Err e) = refl
