-- Numbers of several bytes, the most significant first (TN5176, section 3; RULES, "Numbers").
use Rattle.std.specs.Prelude.{Option, Some, None, ℕ, zero, suc, ◌+◌, ◌*◌, ◌/◌, ◌%◌, Bool, cond, ◌&&◌, List, [], ◌∷◌, ◌++◌}
use Rattle.std.specs.Prelude.{length, get_or, take, drop, leb}
use Rattle.number.specs.Answer.{Outcome, leaving}

-- the number that the k bytes of s from `at` on are
unfoldable pub be_at : List ℕ → ℕ → ℕ → ℕ
be_at s at zero = 0
be_at s at (suc k) = be_at s at k * 256 + get_or s (at + k) 0

-- the k low bytes of v
unfoldable pub bytes_of : ℕ → ℕ → List ℕ
bytes_of zero v = []
bytes_of (suc k) v = bytes_of k (v / 256) ++ (v % 256 ∷ [])

-- s with the k low bytes of v from `at` on
unfoldable pub put_at : List ℕ → ℕ → ℕ → ℕ → List ℕ
put_at s at k v = take at s ++ (bytes_of k v ++ drop (at + k) s)

-- ---- what `read_be` and `write_be` answer

-- of at most four bytes, all of which s has
abbrev pub holds : List ℕ → ℕ → ℕ → Bool
holds s at k = leb k 4 && leb (at + k) (length s)

unfoldable pub big_at : List ℕ → ℕ → ℕ → Option ℕ
big_at s at k = cond (holds s at k) (Some (be_at s at k)) None

unfoldable pub stored_at : List ℕ → ℕ → ℕ → ℕ → Outcome (Option Unit)
stored_at s at k v =
    cond (holds s at k)
    (leaving (Some tt) (put_at s at k v))
    (leaving None s)
