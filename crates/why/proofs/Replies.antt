-- What is not explained has a line alone. Assumes nothing.
use Rattle.std.specs.Prelude.{◌≡◌, refl}
use Rattle.number.specs.Answer.{number_in, tokens_or}
use Rattle.why.specs.Why.{pair_line, answer_line}
use Rattle.why.specs.Code.{unread}
use Rattle.why.specs.declared.explaining.Unread.{Unread}
use Rattle.why.specs.declared.explaining.Unread.TheVariants.{TooLong, NoPart}

pub line_alone : (why : Unread) → pair_line (number_in (unread why)) 0 ≡ answer_line (unread why)
unfolding answer_line tokens_or
line_alone TooLong = refl
line_alone (NoPart why) = refl
