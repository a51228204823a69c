-- What is wrong with a list, as both programs print it behind whose list it is (refusals.txt).
use Rattle.std.specs.Prelude.{ℕ, List, ◌++◌, codes, decimal}
use Rattle.index.specs.declared.absence.Absence.{Absence}
use Rattle.index.specs.declared.absence.Absence.TheVariants.{PastCount, ZeroOffset, Descending, PastData}
use Rattle.index.specs.declared.list.Flaw.{Flaw}
use Rattle.index.specs.declared.list.Flaw.TheVariants.{Index, Entry}
use Rattle.index.specs.declared.read.IndexError.TheVariants.{Lacking, BadSize}

-- why an entry is absent
abbrev pub absence_words : Absence → List ℕ
absence_words PastCount = codes ": it is past the count"
absence_words ZeroOffset = codes ": an offset, or the list's last, is 0"
absence_words Descending = codes ": its offsets descend"
absence_words PastData = codes ": its offsets pass the data"

abbrev pub flaw_words : Flaw → List ℕ
flaw_words (Index Lacking) = codes "bytes end too soon"
flaw_words (Index BadSize) = codes "offset size is not 1 to 4"
flaw_words (Entry i why) = codes "entry " ++ decimal i ++ absence_words why
