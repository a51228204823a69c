-- An INDEX written (TN5176, section 5; RULES, "INDEX"), from its elements' lengths and their joined data. The count has w bytes: 2 in CFF.
-- The last offset is one more than the sum of the lengths: the rules' S.
use Rattle.std.specs.Prelude.{ℕ, Result, Ok, Err, ◌+◌, ◌*◌, ◌^◌, cond, List, [], ◌∷◌, ◌++◌, length, get_or, take, drop, leb, ltb, eqb}
use Rattle.number.specs.Answer.{Answer, accepted, refused, alone, needing, number_in, mapped, Outcome, leaving, sized, into}
use Rattle.number.specs.BigEndian.{bytes_of}
use Rattle.index.specs.Index.{data_start}
use Rattle.index_writing.specs.declared.Plan.{Plan as Layout}
use Rattle.index_writing.specs.declared.TooLong.{TooLong}
use Rattle.index_writing.specs.declared.WriteError.{WriteError}
use Rattle.index_writing.specs.declared.WriteError.TheVariants.{TooMany, TooLong as Over, Mismatch, NoRoom}

-- ---- the elements

-- the sum of the lengths
unfoldable pub total : List ℕ → ℕ
total [] = 0
total (l ∷ ls) = l + total ls

-- element i: as many bytes of the data as its length says, past those of the elements before it
unfoldable pub element : List ℕ → List ℕ → ℕ → List ℕ
element lengths joined i = take (get_or lengths i 0) (drop (total (take i lengths)) joined)

-- ---- their bytes

-- the offset size: as few bytes as hold the last offset
unfoldable pub size_for : ℕ → ℕ
size_for last = cond (leb last 255) 1 (cond (leb last 65535) 2 (cond (leb last 16777215) 3 4))

-- the offsets from a on, each of z bytes: where each element starts, and where the last one ends
unfoldable pub offsets : ℕ → ℕ → List ℕ → List ℕ
offsets z a [] = bytes_of z a
offsets z a (l ∷ ls) = bytes_of z a ++ offsets z (a + l) ls

-- behind the count: the size byte, the offsets, the first of which is 1, and the data
unfoldable pub behind_count : ℕ → List ℕ → List ℕ → List ℕ
behind_count z lengths joined = z ∷ (offsets z 1 lengths ++ joined)

-- no elements are a count alone
unfoldable pub index_bytes : ℕ → List ℕ → List ℕ → List ℕ
index_bytes w lengths joined =
    bytes_of w (length lengths) ++ cond (eqb (length lengths) 0) [] (behind_count (size_for (total lengths + 1)) lengths joined)

-- ---- writing

-- the bytes, or why there are none: a count that w bytes do not hold, a last offset past 32 bits, lengths that do not add up to the data's
unfoldable pub index_of : ℕ → List ℕ → List ℕ → Answer (List ℕ)
index_of w lengths joined =
    cond (leb (2 ^ (8 * w)) (length lengths)) (refused 22 alone)
    (cond (ltb 4294967295 (total lengths + 1)) (refused 23 alone)
    (cond (eqb (total lengths) (length joined)) (accepted (index_bytes w lengths joined)) (refused 24 alone)))

-- what writing answers and leaves: the bytes come first and the rest stays, or 13 with the length that is needed
unfoldable pub write_index : ℕ → List ℕ → List ℕ → List ℕ → Outcome (Answer ℕ)
write_index w lengths joined out = into out (mapped sized (index_of w lengths joined))

-- the outcome of an answer and what it leaves
abbrev pub wrote : Answer ℕ → List ℕ → Outcome (Answer ℕ)
wrote a l = leaving a l

-- what the writer's result says
abbrev pub index_written : Result ℕ WriteError → Answer ℕ
index_written (Ok n) = accepted n
index_written (Err TooMany) = refused 22 alone
index_written (Err Over) = refused 23 alone
index_written (Err Mismatch) = refused 24 alone
index_written (Err (NoRoom n)) = refused 13 (needing n)

abbrev pub write_refusal : WriteError → ℕ
write_refusal e = number_in (index_written (Err e))

-- ---- how an INDEX is laid out

-- how many bytes an INDEX takes that has n elements, offsets of z bytes, and d bytes of data
unfoldable pub reach_of : ℕ → ℕ → ℕ → ℕ → ℕ
reach_of w n z d = cond (eqb n 0) w (data_start w n z + d)

-- The offset size, and how many bytes the INDEX takes.
pub record Plan : Type 0 where
  pub size : ℕ
  pub reach : ℕ

-- of n elements that have d bytes together
unfoldable pub plan_of : ℕ → ℕ → ℕ → Answer Plan
plan_of w n d =
    let z = size_for (d + 1) in
    cond (ltb 4294967295 (d + 1)) (refused 23 alone) (accepted (record { size = z; reach = reach_of w n z d }))

abbrev pub index_plan : Result Layout TooLong → Answer Plan
index_plan (Ok p) = accepted (record { size = p.size; reach = p.needed })
index_plan (Err e) = refused 23 alone

abbrev pub plan_refusal : TooLong → ℕ
plan_refusal e = number_in (index_plan (Err e))
