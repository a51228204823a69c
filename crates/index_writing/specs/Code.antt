-- What the private functions promise each other, and what the laws are about. A reader need not believe it: no public contract names it.
use Rattle.std.specs.Prelude.{ℕ, ◌+◌, ◌*◌, ◌<◌, ◌≤◌, ◌^◌, ◌≡◌, List, ◌++◌, length, take, drop}
use Rattle.index_writing.specs.Writing.{total}

-- s with bs from `at` on
unfoldable pub laid : ℕ → List ℕ → List ℕ → List ℕ
laid at bs s = take at s ++ (bs ++ drop (at + length bs) s)

-- Elements that can be written: few enough for the count, short enough for the offsets, and adding up to the data.
pub record Writable (w : ℕ) (ls joined : List ℕ) : Type 0 where
  pub few : length ls < 2 ^ (8 * w)
  pub short : total ls + 1 ≤ 4294967295
  pub adds : total ls ≡ length joined
