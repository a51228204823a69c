-- `number::write::short_form` meets its contract. Assumes nothing.
use Rattle.std.proofs.Common.{arith}
use Rattle.number.proofs.WrittenLaws.{int_one}
use Rattle.number.proofs.write.short_form.Goals as goal

pub returns-in-minus107-to-107 : goal.returns-in-minus107-to-107
returns-in-minus107-to-107 c = grind (arith, int_one)
