-- A number in decimal, as ASCII.
use Rattle.std.specs.Prelude.{ℕ, zero, suc, ◌+◌, ◌/◌, ◌%◌, cond, List, [], ◌∷◌, ◌++◌, ltb}

-- the last digit, and before it those of the tenth part, unless that is 0: at most so many
unfoldable pub digits_by : ℕ → ℕ → List ℕ
digits_by zero n = []
digits_by (suc most) n =
    let last = (48 + n % 10) ∷ [] in
    let more = digits_by most (n / 10) ++ last in
    cond (ltb n 10) last more

-- n has at most n + 1 digits
unfoldable pub decimal : ℕ → List ℕ
decimal n = digits_by (suc n) n
