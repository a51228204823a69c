-- The arguments of a program.
use Rattle.std.specs.Prelude.{ℕ, ◌-◌}

-- how many may still come behind the one of this number: a number has 64 bits
abbrev pub left : ℕ → ℕ
left number = 18446744073709551615 - number
