-- A call's operand as an index (RULES, "Numbers"), and the entry that it names (the same; TN5176, section 16).
use Rattle.std.specs.Prelude.{ℕ, zero, suc, ◌+◌, ◌-◌, ◌*◌, ◌/◌, ◌^◌, Bool, cond, ◌||◌, ℤ, pos, negsuc, neg_ℤ, nat_abs}
use Rattle.std.specs.Prelude.{◌+ℤ◌, leb, ltb, eqb}
use Rattle.number.specs.Answer.{Answer, number_in, accepted, refused, alone}
use Rattle.number.specs.Operand.{is_fixed, value_in}
use Rattle.number.specs.declared.Operand.{Operand}
use Rattle.std.specs.Prelude.{Result, Ok, Err}
use Rattle.number.specs.declared.call.NotWhole.{NotWhole}
use Rattle.number.specs.declared.call.CallError.{CallError}
use Rattle.number.specs.declared.call.CallError.TheVariants.{NotWhole as Part, Outside}

-- the bit length of m, of at most k
unfoldable pub bit_length : ℕ → ℕ → ℕ
bit_length zero m = 0
bit_length (suc k) zero = 0
bit_length (suc k) (suc m) = suc (bit_length k (suc m / 2))

abbrev pub apart : ℕ → ℕ → ℕ
apart a b = (a - b) + (b - a)

-- the multiple of 65536 that is nearest to m, over 65536, and how far from m it is
abbrev pub nearest : ℕ → ℕ
nearest m = (m + 32768) / 65536

abbrev pub off : ℕ → ℕ
off m = apart (nearest m * 65536) m

-- whether m counts as that multiple: exactly, or, past 24 bits, within half of the unit to which f32 rounds
unfoldable pub counts : Bool → ℕ → Bool
counts exact m =
    cond (exact || leb (bit_length 32 m) 24)
    (eqb (off m) 0)
    (leb (2 * off m) (2 ^ (bit_length 32 m - 24)))

-- q with the sign of z
abbrev pub signed_as : ℤ → ℕ → ℤ
signed_as (pos n) q = pos q
signed_as (negsuc n) q = neg_ℤ (pos q)

-- the index that an operand is, or 7
unfoldable pub call_index : Bool → Operand → Answer ℤ
call_index exact o =
    cond (is_fixed o)
    (cond (counts exact (nat_abs (value_in o))) (accepted (signed_as (value_in o) (nearest (nat_abs (value_in o))))) (refused 7 alone))
    (accepted (value_in o))

-- the bias of a list of so many entries (TN5176, section 16)
abbrev pub bias_of : ℕ → ℕ
bias_of count = cond (ltb count 1240) 107 (cond (ltb count 33900) 1131 32768)

-- an entry of `count`, or 9
unfoldable pub entry_of : ℕ → ℤ → Answer ℕ
entry_of count (pos k) = cond (ltb k count) (accepted k) (refused 9 alone)
entry_of count (negsuc k) = refused 9 alone

unfoldable pub biased : ℕ → Answer ℤ → Answer ℕ
biased count (accepted z) = entry_of count (z +ℤ pos (bias_of count))
biased count (refused n v) = refused n v

-- the entry that a call enters, 7 or 9
unfoldable pub callee : Bool → ℕ → Operand → Answer ℕ
callee exact count o = biased count (call_index exact o)

-- what the results say
abbrev pub whole_of : Result ℤ NotWhole → Answer ℤ
whole_of (Ok z) = accepted z
whole_of (Err e) = refused 7 alone

abbrev pub callee_of : Result ℕ CallError → Answer ℕ
callee_of (Ok k) = accepted k
callee_of (Err Part) = refused 7 alone
callee_of (Err Outside) = refused 9 alone

-- the numbers of the refusals
abbrev pub index_refusal : NotWhole → ℕ
index_refusal e = number_in (whole_of (Err e))

abbrev pub callee_refused : CallError → ℕ
callee_refused e = number_in (callee_of (Err e))
