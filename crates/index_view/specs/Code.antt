-- What a view is made of, by itself: what the laws are about. A reader need not believe it: no public contract names it.
-- As in Index, the count has w bytes, and s is the bytes.
use Rattle.std.specs.Prelude.{ℕ, List, get_or, take}
use Rattle.number.specs.Answer.{Answer, accepted, refused}
use Rattle.index.specs.Index.{Extent, extent}

-- how many bytes an INDEX takes, its count and its offset size
pub record Head : Type 0 where
  pub taken : ℕ
  pub count : ℕ
  pub size : ℕ

-- by what reading answers
unfoldable pub head_by : ℕ → List ℕ → Answer Extent → Head
head_by w s (accepted x) = record { taken = x.taken; count = x.entries; size = get_or (take x.taken s) w 0 }
head_by w s (refused k v) = record { taken = 0; count = 0; size = 0 }

unfoldable pub head_of : ℕ → List ℕ → Head
head_of w s = head_by w s (extent w s)
