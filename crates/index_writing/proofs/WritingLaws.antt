-- The laws of writing an INDEX. Assumes nothing.
use Rattle.std.specs.Prelude.{◌≡◌, refl, Bool, true, false, cond, List, [], ◌∷◌, ◌++◌, ℕ, ◌+◌, ◌*◌, ◌<◌, ◌≤◌, ◌^◌, leb}
use Rattle.std.specs.Prelude.{Option, sum, ltb, eqb, get_or, drop, set}
use Rattle.std.proofs.Common.{sym, ap, ◌∙◌, append-nil, append_assoc, add-one, zero-add, add-mul, one-mul, length-append, drop_of_length-le}
use native.Mathlib.Omega.{arith}
use Rattle.std.proofs.lemmas.List.Recursion.{is_sum_by}
use Rattle.std.proofs.Math.ListN.{length}
use Rattle.std.proofs.Math.Seq.{drop-cons}
use borrow.Author.Tests.{lt-ltb, le-ltb, le-leb, lt-leb, eq-eqb, ne_eqb, leb-true, ltb-true, ltb-false, eqb-true, eqb-false}
use Rattle.number.specs.Answer.{Answer, accepted, refused, alone, needing, Outcome, leaving, sized, into}
use Rattle.number.proofs.AnswerLaws.{accepted_same}
use Rattle.number.specs.BigEndian.{bytes_of, put_at, stored_at}
use Rattle.number.proofs.BigEndianLaws.{length_bytes, stored_here}
use Rattle.index.specs.Index.{data_start}
use Rattle.index.proofs.IndexLaws.{not_refused}
use Rattle.index.proofs.OffsetLaws.{product_small, start_is, start_mono}
use Rattle.index_writing.specs.Code.{laid, Writable}
use Rattle.index_writing.proofs.LaidLaws.{laid_append, laid_one, laid_put, laid_first, length_laid}
use Rattle.index_writing.specs.Writing.{total, size_for, offsets, behind_count, index_bytes, index_of, write_index}
use Rattle.index_writing.specs.Writing.{reach_of, Plan, plan_of}
use Rattle.index_writing.specs.Writing.{wrote}

-- ---- the sum of the lengths

pub total_is : (ls : List ℕ) → sum ls ≡ total ls
unfolding total
total_is ls = sym (is_sum_by total (λ l. l) refl (λ l ls. refl) ls)

pub total_drop : (ls : List ℕ) (i : ℕ) → i < length ls → total (drop i ls) ≡ get_or ls i 0 + total (drop (i + 1) ls)
unfolding total
total_drop ls i h = rw (add-one i, drop-cons ls i 0 h)

pub total_none : (ls : List ℕ) (i : ℕ) → length ls ≤ i → total (drop i ls) ≡ 0
unfolding total
total_none ls i h = rw (drop_of_length-le ls h)

-- ---- the offset size

module _ {s : ℕ} where
  pub size_one : s ≤ 255 → 1 ≡ size_for s
  unfolding size_for
  size_one h = rw (le-leb s 255 h)

  pub size_two : 255 < s → s ≤ 65535 → 2 ≡ size_for s
  unfolding size_for
  size_two h k = rw (lt-leb s 255 h, le-leb s 65535 k)

  pub size_three : 65535 < s → s ≤ 16777215 → 3 ≡ size_for s
  unfolding size_for
  size_three h k = let l : 255 < s = omega arith in rw (lt-leb s 255 l, lt-leb s 65535 h, le-leb s 16777215 k)

  pub size_four : 16777215 < s → 4 ≡ size_for s
  unfolding size_for
  size_four h =
      let l : 255 < s = omega arith in
      let m : 65535 < s = omega arith in
      rw (lt-leb s 255 l, lt-leb s 65535 m, lt-leb s 16777215 h)

-- A size of 1 to 4 bytes, which hold s.
pub record Holds (z s : ℕ) : Type 0 where
  pub some : 0 < z
  pub four : z ≤ 4
  pub holds : s < 2 ^ (8 * z)

pub size_holds : (s : ℕ) → s ≤ 4294967295 → Holds (size_for s) s
unfolding size_for
size_holds s h = go (leb s 255) refl (leb s 65535) refl (leb s 16777215) refl
  where
    go : (a : Bool) → leb s 255 ≡ a → (b : Bool) → leb s 65535 ≡ b → (c : Bool)
        → leb s 16777215 ≡ c → Holds (cond a 1 (cond b 2 (cond c 3 4))) s
    go true p b q c r = record { some = omega arith; four = omega arith; holds = omega (arith, leb-true s 255 p) }
    go false p true q c r = record { some = omega arith; four = omega arith; holds = omega (arith, leb-true s 65535 q) }
    go false p false q true r = record { some = omega arith; four = omega arith; holds = omega (arith, leb-true s 16777215 r) }
    go false p false q false r = record { some = omega arith; four = omega arith; holds = omega arith }

-- the size of the last offset, of elements that are short enough
pub size_le : (ls : List ℕ) → total ls + 1 ≤ 4294967295 → size_for (total ls + 1) ≤ 4
size_le ls h = (size_holds (total ls + 1) h).four

-- ---- the offsets

pub length_offsets : (z a : ℕ) (ls : List ℕ) → length (offsets z a ls) ≡ (length ls + 1) * z
unfolding offsets
length_offsets z a [] = rw (length_bytes z a, one-mul z)
length_offsets z a (l ∷ ls) =
    rw (length-append (bytes_of z a) (offsets z (a + l) ls), length_bytes z a, length_offsets z (a + l) ls)
    (omega (arith, add-mul (length ls + 1) 1 z, one-mul z))

module _ (z a : ℕ) (ls : List ℕ) (i : ℕ) where
  -- the next offset, and those behind it
  offsets_step : i < length ls → offsets z a (drop i ls) ≡ bytes_of z a ++ offsets z (a + get_or ls i 0) (drop (i + 1) ls)
  unfolding offsets
  offsets_step h = rw (add-one i, drop-cons ls i 0 h)

  offsets_last : length ls ≤ i → offsets z a (drop i ls) ≡ bytes_of z a
  unfolding offsets
  offsets_last h = rw (drop_of_length-le ls h)

  module _ (at : ℕ) (s : List ℕ) where
    pub offset_next : i < length ls → at ≤ length s
        → laid (at + z) (offsets z (a + get_or ls i 0) (drop (i + 1) ls)) (put_at s at z a) ≡ laid at (offsets z a (drop i ls)) s
    offset_next h k =
        let rest = offsets z (a + get_or ls i 0) (drop (i + 1) ls) in
        rw (offsets_step h, laid_put at z a s)
        (ap (λ (n : ℕ). laid (at + n) rest (laid at (bytes_of z a) s)) (sym (length_bytes z a)) ∙ laid_append at (bytes_of z a) rest s k)

    pub offset_last : length ls ≤ i → put_at s at z a ≡ laid at (offsets z a (drop i ls)) s
    offset_last h = rw (offsets_last h, laid_put at z a s)

-- what storing one leaves where there is room for it
pub stored : (s l : List ℕ) (at k v : ℕ) (r : Option Unit) → leaving r l ≡ stored_at s at k v → k ≤ 4 → at + k ≤ length s
    → l ≡ put_at s at k v
stored s l at k v r e h n = ap (λ (o : Outcome (Option Unit)). o.left) (e ∙ sym (stored_here s at k v h n _ refl))

-- where offset i stands, and that there is room for it if there is for all
module _ (w i z at : ℕ) (here : at ≡ w + 1 + i * z) where
  pub offset_past : at + z ≡ w + 1 + (i + 1) * z
  offset_past = omega (arith, start_is w i z)

  pub offset_room : {n room : ℕ} → i ≤ n → data_start w n z ≤ room → at + z ≤ room
  offset_room h k = omega (arith, start_is w i z, start_mono w z h)

-- the offsets of so few elements
pub start_small : (n z : ℕ) → n ≤ 4294967295 → z ≤ 4 → (n + 1) * z ≤ 17179869184
start_small n z h k = product_small 4294967296 (omega arith) k

-- ---- the whole

module _ (w n z d : ℕ) where
  pub reach_none : n ≡ 0 → w ≡ reach_of w n z d
  unfolding reach_of
  reach_none e = rw (eq-eqb n 0 e)

  pub reach_some : (n ≡ 0 → ⊥) → data_start w n z + d ≡ reach_of w n z d
  unfolding reach_of
  reach_some h = rw (ne_eqb n 0 h)

  pub reach_is : (n ≡ 0 → ⊥) → reach_of w n z d ≡ data_start w n z + d
  reach_is h = sym (reach_some h)

  pub reach_count : w ≤ reach_of w n z d
  reach_count = go (eqb n 0) refl
    where
      go : (t : Bool) → eqb n 0 ≡ t → w ≤ reach_of w n z d
      go true e = omega (arith, reach_none (eqb-true n 0 e))
      go false e = omega (arith, reach_some (eqb-false n 0 e), start_is w n z)

module _ (w : ℕ) (ls joined : List ℕ) where
  abbrev size : ℕ
  size = size_for (total ls + 1)

  pub index_none : length ls ≡ 0 → bytes_of w (length ls) ≡ index_bytes w ls joined
  unfolding index_bytes
  index_none e = rw (eq-eqb (length ls) 0 e, append-nil)

  pub index_some : (length ls ≡ 0 → ⊥) → bytes_of w (length ls) ++ (size ∷ (offsets size 1 ls ++ joined)) ≡ index_bytes w ls joined
  unfolding index_bytes behind_count
  index_some h = rw (ne_eqb (length ls) 0 h)

  pub length_some : length (bytes_of w (length ls) ++ (size ∷ (offsets size 1 ls ++ joined))) ≡ data_start w (length ls) size + length joined
  length_some =
      rw (
        length-append (bytes_of w (length ls)) (size ∷ (offsets size 1 ls ++ joined)),
        length-append (offsets size 1 ls) joined,
        length_bytes w (length ls),
        length_offsets size 1 ls,
      )
      (omega arith)

  pub length_index : length (index_bytes w ls joined) ≡ reach_of w (length ls) size (length joined)
  length_index = go (eqb (length ls) 0) refl
    where
      go : (t : Bool) → eqb (length ls) 0 ≡ t → length (index_bytes w ls joined) ≡ reach_of w (length ls) size (length joined)
      go true e =
          let n = eqb-true (length ls) 0 e in
          ap length (sym (index_none n)) ∙ length_bytes w (length ls) ∙ reach_none w (length ls) size (length joined) n
      go false e =
          let n = eqb-false (length ls) 0 e in
          ap length (sym (index_some n)) ∙ length_some ∙ reach_some w (length ls) size (length joined) n

-- ---- stored piece by piece

laid_next : (at : ℕ) (xs ys s : List ℕ) → length xs ≡ at → laid at ys (laid 0 xs s) ≡ laid 0 (xs ++ ys) s
laid_next at xs ys s e = ap (λ (n : ℕ). laid n ys (laid 0 xs s)) (sym e ∙ sym (zero-add (length xs))) ∙ laid_append 0 xs ys s (omega arith)

module _ (w : ℕ) (ls joined s : List ℕ) (z : ℕ) (sized : z ≡ size_for (total ls + 1)) where
  -- no elements: the count alone
  pub none_laid : length ls ≡ 0 → put_at s 0 w (length ls) ≡ laid 0 (index_bytes w ls joined) s
  none_laid e = laid_put 0 w (length ls) s ∙ ap (λ (b : List ℕ). laid 0 b s) (index_none w ls joined e)

  -- the count, the size byte, the offsets, the data
  in_turn : (length ls ≡ 0 → ⊥) → w < length s
      → laid (data_start w (length ls) z) joined (laid (w + 1) (offsets z 1 ls) (set (put_at s 0 w (length ls)) w z)) ≡ laid 0 (index_bytes w ls joined) s
  in_turn h k =
      let b = bytes_of w (length ls) in
      let o = offsets z 1 ls in
      let nb : length b ≡ w = length_bytes w (length ls) in
      let n1 : length (b ++ (z ∷ [])) ≡ w + 1 = length-append b (z ∷ []) ∙ ap (λ (n : ℕ). n + 1) nb in
      let n2 : length ((b ++ (z ∷ [])) ++ o) ≡ data_start w (length ls) z = length-append (b ++ (z ∷ [])) o ∙ rw (n1, length_offsets z 1 ls) in
      let room : w < length (laid 0 b s) = rw (length_laid 0 b s (omega arith)) k in
      let joins : ((b ++ (z ∷ [])) ++ o) ++ joined ≡ b ++ (z ∷ (o ++ joined)) = simp append_assoc in
      rw (
        laid_put 0 w (length ls) s,
        laid_one w z (laid 0 b s) room,
        laid_next w b (z ∷ []) s nb,
        laid_next (w + 1) (b ++ (z ∷ [])) o s n1,
        laid_next (data_start w (length ls) z) ((b ++ (z ∷ [])) ++ o) joined s n2,
        joins,
        sized,
      )
      (ap (λ (l : List ℕ). laid 0 l s) (index_some w ls joined h))

  pub some_laid : (length ls ≡ 0 → ⊥) → w < length s → (p o l : List ℕ) → p ≡ put_at s 0 w (length ls)
      → o ≡ laid (w + 1) (offsets z 1 ls) (set p w z)
      → l ≡ laid (data_start w (length ls) z) joined o → l ≡ laid 0 (index_bytes w ls joined) s
  some_laid h k p o l ep eo el =
      el ∙ ap (laid (data_start w (length ls) z) joined) (eo ∙ ap (λ (q : List ℕ). laid (w + 1) (offsets z 1 ls) (set q w z)) ep) ∙ in_turn h k

-- ---- a plan

module _ (w n d : ℕ) where
  abbrev laid_out : Answer Plan
  laid_out = accepted (record { size = size_for (d + 1); reach = reach_of w n (size_for (d + 1)) d })

  pub plan_long : 4294967295 < d + 1 → refused 23 alone ≡ plan_of w n d
  unfolding plan_of
  plan_long h = rw (lt-ltb 4294967295 (d + 1) h)

  pub plan_short : d + 1 ≤ 4294967295 → laid_out ≡ plan_of w n d
  unfolding plan_of
  plan_short h = rw (le-ltb 4294967295 (d + 1) h)

  -- what a plan says, and what it says that there is none
  pub planned : (z m : ℕ) → accepted (record { size = z; reach = m }) ≡ plan_of w n d
      → (d + 1 ≤ 4294967295) × (z ≡ size_for (d + 1)) × (m ≡ reach_of w n z d)
  planned z m e = go (ltb 4294967295 (d + 1)) refl
    where
      go : (t : Bool) → ltb 4294967295 (d + 1) ≡ t → (d + 1 ≤ 4294967295) × (z ≡ size_for (d + 1)) × (m ≡ reach_of w n z d)
      go true q = absurd (not_refused (e ∙ sym (plan_long (ltb-true _ _ q))))
      go false q =
          let h = ltb-false _ _ q in
          let k : ◌≡◌ {A = Plan} (record { size = z; reach = m }) (record { size = size_for (d + 1); reach = reach_of w n (size_for (d + 1)) d }) =
          accepted_same (e ∙ sym (plan_short h)) in
          let same : z ≡ size_for (d + 1) = ap (λ (p : Plan). p.size) k in
          (h, same, ap (λ (p : Plan). p.reach) k ∙ ap (λ (x : ℕ). reach_of w n x d) (sym same))

  pub unplanned : refused 23 alone ≡ plan_of w n d → 4294967295 < d + 1
  unplanned e = go (ltb 4294967295 (d + 1)) refl
    where
      go : (t : Bool) → ltb 4294967295 (d + 1) ≡ t → 4294967295 < d + 1
      go true q = ltb-true _ _ q
      go false q = absurd (not_refused (plan_short (ltb-false _ _ q) ∙ sym e))

-- ---- the outcome

module _ (w : ℕ) (ls joined out : List ℕ) where
  pub too_many : 2 ^ (8 * w) ≤ length ls → wrote (refused 22 alone) out ≡ write_index w ls joined out
  unfolding write_index index_of into
  too_many h = rw (le-leb (2 ^ (8 * w)) (length ls) h)

  module _ (few : length ls < 2 ^ (8 * w)) where
    pub too_long : 4294967295 < total ls + 1 → wrote (refused 23 alone) out ≡ write_index w ls joined out
    unfolding write_index index_of into
    too_long h = rw (lt-leb (2 ^ (8 * w)) (length ls) few, lt-ltb 4294967295 (total ls + 1) h)

    pub mismatch : total ls + 1 ≤ 4294967295 → (total ls ≡ length joined → ⊥) → wrote (refused 24 alone) out ≡ write_index w ls joined out
    unfolding write_index index_of into
    mismatch h k = rw (lt-leb (2 ^ (8 * w)) (length ls) few, le-ltb 4294967295 (total ls + 1) h, ne_eqb (total ls) (length joined) k)

  module _ (f : Writable w ls joined) where
    to_bytes : into out (accepted (sized (index_bytes w ls joined))) ≡ write_index w ls joined out
    unfolding write_index index_of
    to_bytes = rw (lt-leb (2 ^ (8 * w)) (length ls) f.few, le-ltb 4294967295 (total ls + 1) f.short, eq-eqb (total ls) (length joined) f.adds)

    pub no_room : (n : ℕ) → n ≡ length (index_bytes w ls joined) → length out < n → wrote (refused 13 (needing n)) out ≡ write_index w ls joined out
    unfolding into
    no_room n e h =
        let k : length out < length (index_bytes w ls joined) = omega arith in
        let b = index_bytes w ls joined in
        let t : wrote (refused 13 (needing n)) out ≡ into out (accepted (sized b)) = rw (e, lt-leb (length b) (length out) k) in
        t ∙ to_bytes

    pub written : (n : ℕ) → n ≡ length (index_bytes w ls joined) → n ≤ length out → (l : List ℕ) → l ≡ laid 0 (index_bytes w ls joined) out
        → wrote (accepted n) l ≡ write_index w ls joined out
    unfolding into
    written n e h l q =
        let k : length (index_bytes w ls joined) ≤ length out = omega arith in
        let b = index_bytes w ls joined in
        let t : wrote (accepted n) l ≡ into out (accepted (sized b)) = rw (e, q, laid_first b out, le-leb (length b) (length out) k) in
        t ∙ to_bytes

-- ---- what the functions cite

pub ruleset outcomes = (length_index, planned, unplanned, too_many, too_long, mismatch, no_room, written)

pub ruleset plans = (size_holds, plan_long, plan_short)

pub ruleset sizes = (size_one, size_two, size_three, size_four)

pub ruleset reaches = (reach_none, reach_some, start_small)

pub ruleset rooms = (size_le, reach_count, reach_is)
