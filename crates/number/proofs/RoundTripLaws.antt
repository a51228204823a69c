-- What the crates above may rely on, over both tables: what is written reads back, no form of an operand is shorter, and how wide and how large
-- a number is that was read. Assumes nothing.
use Rattle.std.proofs.Math.Path.{◌≡◌, refl}
use Rattle.std.proofs.Common.{sym, ap, subst, ◌∙◌, arith, lit<, lit≤, length-append, lt-ltb, le-ltb, le-leb, leb-true, ltb-true}
use mathlib.Core.List.{List, [], ◌∷◌, ◌++◌}
use Rattle.std.specs.Prelude.{Bool, true, false, cond, ◌&&◌, leb, ltb, eqb, ℤ, pos, negsuc, neg_ℤ, length, get_or}
use Prim.Native.Nat.{ℕ, zero, suc, ◌+◌, ◌-◌, ◌*◌, ◌/◌, ◌%◌, ◌<◌, ◌≤◌, ◌^◌, zero-le}
use Rattle.std.proofs.Math.Decide.{dec_lt}
use Rattle.std.proofs.Math.Nat.{le_refl}
use Rattle.std.proofs.Math.IntN.{sub_ℕ}
use Rattle.std.specs.Int.Signed.{mag, le_z}
use Rattle.number.specs.Answer.{Answer, accepted, refused, alone}
use Rattle.number.specs.BigEndian.{be_at, bytes_of}
use Rattle.number.proofs.BigEndianLaws.{be_lt, be_bytes, length_bytes, both}
use Rattle.number.specs.Signed.{signed}
use Rattle.number.proofs.SignedLaws.{signed_unsigned, unsigned_lt, mag_signed}
use Rattle.number.specs.Number.{near, above, below, twos, Row, row32, row247, row251, row28, row29, row255, integer_rows, last_row, rows_of}
use Rattle.number.specs.Number.{charstring_rows, Found, row, no_row, on, row_of, pair_of, value_by, operand_by, Number, number_by, read_by}
use Rattle.number.proofs.NumberLaws.{Every, every_found, row_range, at_near, at_above, at_below, at_short, at_last, read_some}
use Rattle.number.specs.Written.{same, has, form_by, spell, bytes, bytes_by, spelling}
use Rattle.number.specs.Written.{Spellable}
use Rattle.number.proofs.WrittenLaws.{less_139, after_form, spell_here, spell_past, spelled, length_form, after_le}
use Rattle.number.specs.Operand.{is_fixed, value_in}
use Rattle.number.proofs.OperandLaws.{operand_is, fixed_as, value_as}
use Rattle.number.specs.declared.Operand.{Operand}
use Rattle.number.specs.declared.write.Form.{Form}

-- ---- a row is sound: what it writes it reads, and what it reads is within its range

abbrev Within : Row → ℤ → Type 0
Within r z = (le_z r.low z && le_z z r.high) ≡ true

record Reads (r : Row) (z : ℤ) (f : Form) : Type 0 where
  from : r.first ≤ f.first
  to : f.first ≤ r.last
  value : value_by r.value r f.first f.rest ≡ z
  small : f.rest < 2 ^ (8 * r.after)

record Sound (r : Row) : Type 0 where
  reads : (z : ℤ) → Within r z → Reads r z (form_by r.value r z)
  within : (b v : ℕ) → r.first ≤ b → b ≤ r.last → v < 2 ^ (8 * r.after) → Within r (value_by r.value r b v)

sound32 : Sound row32
unfolding form_by value_by
sound32 = record { reads = reads; within = within }
  where
    reads : (z : ℤ) → Within row32 z → Reads row32 z (form_by near row32 z)
    reads (pos n) w =
        let h = leb-true n 107 w in
        record { from = omega arith; to = omega arith; value = rw (le-ltb (n + 139) 139 (omega arith)) (ap pos (omega arith)); small = lit< tt }
    reads (negsuc n) w =
        let h = leb-true n 106 (both (leb n 106) true w).0 in
        let e = less_139 n (omega arith) in
        rw e
        (record { from = omega arith; to = omega arith; value = rw (lt-ltb (138 - n) 139 (omega arith)) (ap negsuc (omega arith)); small = lit< tt })

    within : (b v : ℕ) → 32 ≤ b → b ≤ 246 → v < 1 → Within row32 (sub_ℕ b 139)
    within b v h k l = go (dec_lt b 139)
      where
        go : Dec (b < 139) → Within row32 (sub_ℕ b 139)
        go (yes p) = rw (lt-ltb b 139 p, le-leb (139 - suc b) 106 (omega arith))
        go (no p) = rw (le-ltb b 139 (omega arith), le-leb (b - 139) 107 (omega arith))

never : {A : Type 0} → false ≡ true → A
never e = let z : ◌≡◌ {A = ℕ} 0 1 = ap (λ (b : Bool). cond b 1 0) e in absurd (omega arith)

sound247 : Sound row247
unfolding form_by value_by
sound247 = record { reads = reads; within = within }
  where
    reads : (z : ℤ) → Within row247 z → Reads row247 z (form_by above row247 z)
    reads (pos n) w =
        let w₁ = both (leb 108 n) (leb n 1131) w in
        let h = leb-true 108 n w₁.0 in
        let k = leb-true n 1131 w₁.1 in
        record { from = omega arith; to = omega arith; value = ap pos (omega arith); small = omega arith }
    reads (negsuc n) w = never w

    within : (b v : ℕ) → 247 ≤ b → b ≤ 250 → v < 256 → Within row247 (pos (pair_of 247 b v))
    within b v h k l = rw (le-leb 108 (pair_of 247 b v) (omega arith), le-leb (pair_of 247 b v) 1131 (omega arith))

sound251 : Sound row251
unfolding form_by value_by
sound251 = record { reads = reads; within = λ b v h k l. below_zero (pair_of 251 b v) (omega arith) (omega arith) }
  where
    reads : (z : ℤ) → Within row251 z → Reads row251 z (form_by below row251 z)
    reads (pos n) w = never w
    reads (negsuc n) w =
        let w₁ = both (leb n 1130) (leb 107 n) w in
        let h = leb-true n 1130 w₁.0 in
        let k = leb-true 107 n w₁.1 in
        let e : pair_of 251 (251 + (suc n - 108) / 256) ((suc n - 108) % 256) ≡ suc n = omega arith in
        record { from = omega arith; to = omega arith; value = ap (λ (m : ℕ). neg_ℤ (pos m)) e; small = omega arith }

    below_zero : (p : ℕ) → 108 ≤ p → p ≤ 1131 → Within row251 (neg_ℤ (pos p))
    below_zero zero h k = absurd (omega arith)
    below_zero (suc p) h k = rw (le-leb p 1130 (omega arith), le-leb 107 p (omega arith))

-- two's complement, at any width
range_mag : (m : ℕ) (z : ℤ) → (le_z (negsuc m) z && le_z z (pos m)) ≡ true → mag z ≤ m
range_mag m (pos n) w = leb-true n m w
range_mag m (negsuc n) w = leb-true n m (both (leb n m) true w).0

mag_range : (m : ℕ) (z : ℤ) → mag z ≤ m → (le_z (negsuc m) z && le_z z (pos m)) ≡ true
mag_range m (pos n) h = le-leb n m h
mag_range m (negsuc n) h = rw (le-leb n m h)

module _ (r : Row) (k : r.value ≡ twos) (alone : r.first ≡ r.last) (m : ℕ) (half : 2 ^ (8 * r.after - 1) ≡ suc m)
    (all : 2 ^ (8 * r.after) ≡ suc m + suc m) (low : r.low ≡ negsuc m) (high : r.high ≡ pos m) where
  sound_twos : Sound r
  unfolding form_by value_by
  sound_twos = record { reads = reads; within = within }
    where
      reads : (z : ℤ) → Within r z → Reads r z (form_by r.value r z)
      reads z w =
          let h : mag z < suc m = omega (arith, range_mag m z (rw (low, high) at w)) in
          rw k
          (record { from = le_refl _; to = omega arith; value = rw half (signed_unsigned (suc m) z h); small = rw (half, all) (unsigned_lt (suc m) z h) })

      within : (b v : ℕ) → r.first ≤ b → b ≤ r.last → v < 2 ^ (8 * r.after) → Within r (value_by r.value r b v)
      within b v _ _ l =
          let h = mag_signed (suc m) v (rw all at l) in
          rw (k, low, high, half) (mag_range m (signed (suc m) v) (omega arith))

-- each row of a table is sound, and is found by its first bytes
record Good (dict : Bool) (r : Row) : Type 0 where
  sound : Sound r
  finds : (b : ℕ) → r.first ≤ b → b ≤ r.last → row_of b (rows_of dict) ≡ row r

good_last : (dict : Bool) → Good dict (last_row dict)
good_last true =
    record {
      sound = sound_twos row29 refl refl 2147483647 refl refl refl refl;
      finds = λ b h k. at_last true b (omega arith);
    }
good_last false =
    record {
      sound = sound_twos row255 refl refl 2147483647 refl refl refl refl;
      finds = λ b h k. at_last false b (omega arith);
    }

good : (dict : Bool) → Every (Good dict) (rows_of dict)
unfolding rows_of integer_rows
good dict = (
  record { sound = sound32; finds = λ b h k. at_near dict b h (omega arith) },
  (
    record { sound = sound247; finds = λ b h k. at_above dict b h (omega arith) },
    (
      record { sound = sound251; finds = λ b h k. at_below dict b h (omega arith) },
      (
        record { sound = sound_twos row28 refl refl 32767 refl refl refl refl; finds = λ b h k. at_short dict b (omega arith) },
        (good_last dict, tt),
      ),
    ),
  ),
)

-- ---- what is written reads back

kind_is : (t u : Bool) → same t u ≡ true → t ≡ u
kind_is true true e = refl
kind_is true false e = never e
kind_is false true e = never e
kind_is false false e = refl

-- what a row has is of its kind, and within its range
has_is : (r : Row) (o : Operand) → has r o ≡ true → (r.fixed ≡ (is_fixed o)) × Within r (value_in o)
has_is r o e =
    let w = both (same r.fixed (is_fixed o)) (le_z r.low (value_in o) && le_z (value_in o) r.high) e in
    (kind_is r.fixed (is_fixed o) w.0, w.1)

-- the number at the start, by a row, where its bytes are there
row_reads : (r : Row) (s : List ℕ) (o : Operand) → r.after < length s → operand_by r (get_or s 0 0) (be_at s 1 r.after) ≡ o
    → number_by (row r) s ≡ accepted (record { operand = o; width = r.after + 1 })
unfolding number_by
row_reads r s o h e = rw (lt-ltb r.after (length s) h, e)

-- what is written for o, and whatever follows it, reads as o, and reading takes what was written and no more
pub read_written : (dict : Bool) (o : Operand) (f : Form) → accepted f ≡ spell (rows_of dict) o → (rest : List ℕ)
    → read_by (rows_of dict) (bytes f ++ rest) ≡ accepted (record { operand = o; width = length (bytes f) })
unfolding bytes
read_written dict o f e rest =
    let x = spelled (Good dict) o f (rows_of dict) (good dict) e in
    let r = x.by in
    let has_it = has_is r o x.its in
    let back : Reads r (value_in o) f = subst (Reads r (value_in o)) (sym x.is) (x.fact.sound.reads (value_in o) has_it.1) in
    let s = f.first ∷ (bytes_of f.after f.rest ++ rest) in
    let found = x.fact.finds f.first back.from back.to in
    let small : f.rest < 2 ^ (8 * f.after) = subst (λ (n : ℕ). f.rest < 2 ^ (8 * n)) (sym x.after) back.small in
    let v : be_at s 1 f.after ≡ f.rest = be_bytes f.after f.rest (f.first ∷ []) rest small in
    let v' : be_at s 1 r.after ≡ f.rest = subst (λ (n : ℕ). be_at s 1 n ≡ f.rest) x.after v in
    let l : length s ≡ suc (length (bytes_of f.after f.rest ++ rest)) = refl in
    let room : r.after < length s = omega (arith, length-append (bytes_of f.after f.rest) rest, length_bytes f.after f.rest, x.after) in
    let operand : operand_by r f.first (be_at s 1 r.after) ≡ o = ap (operand_by r f.first) v' ∙ operand_is o has_it.0 back.value in
    let width : r.after + 1 ≡ length (bytes f) = ap (λ (n : ℕ). n + 1) (sym x.after) ∙ sym (length_form f) in
    sym (read_some (rows_of dict) s (λ z. omega arith))
    ∙ ap (λ (y : Found). number_by y s) found
    ∙ row_reads r s o room operand
    ∙ ap (λ (n : ℕ). accepted (record { operand = o; width = n })) width

-- ---- what a read says

pub record ByRow (rows : List Row) (s : List ℕ) (x : Number) : Type 0 where
  pub by : Row
  pub found : row_of (get_or s 0 0) rows ≡ row by
  pub there : by.after < length s
  pub operand : x.operand ≡ operand_by by (get_or s 0 0) (be_at s 1 by.after)
  pub width : x.width ≡ by.after + 1

module _ (rows : List Row) (s : List ℕ) (x : Number) where
  by_room : (r : Row) (t : Bool) → ltb r.after (length s) ≡ t → row_of (get_or s 0 0) rows ≡ row r
      → accepted x ≡ cond t (accepted (record { operand = operand_by r (get_or s 0 0) (be_at s 1 r.after); width = r.after + 1 })) (refused 4 alone)
      → ByRow rows s x
  by_room r true h f e =
      let q : x ≡ record { operand = operand_by r (get_or s 0 0) (be_at s 1 r.after); width = r.after + 1 } = cc in
      record {
        by = r;
        found = f;
        there = ltb-true r.after (length s) h;
        operand = ap (λ (n : Number). n.operand) q;
        width = ap (λ (n : Number). n.width) q;
      }
  by_room r false h f e = let z : ◌≡◌ {A = ℕ} 0 1 = cc in absurd (omega arith)

  by_found : (f : Found) → row_of (get_or s 0 0) rows ≡ f → accepted x ≡ number_by f s → ByRow rows s x
  unfolding number_by
  by_found (row r) h e = by_room r (ltb r.after (length s)) refl h e
  by_found no_row h e = let z : ◌≡◌ {A = ℕ} 0 1 = cc in absurd (omega arith)

  past_none : (t : Bool) (y : Answer Number) → accepted x ≡ cond t (refused 4 alone) y → accepted x ≡ y
  past_none true y e = let z : ◌≡◌ {A = ℕ} 0 1 = cc in absurd (omega arith)
  past_none false y e = e

  pub read_row : accepted x ≡ read_by rows s → ByRow rows s x
  unfolding read_by
  read_row e = by_found (row_of (get_or s 0 0) rows) refl (past_none (eqb (length s) 0) _ e)

-- a number that is read is one, two, three or five bytes wide, and its bytes are there
pub data Width : ℕ → Type 0 where
  one : Width 1
  two : Width 2
  three : Width 3
  five : Width 5

widths : (dict : Bool) → Every (λ (r : Row). Width (r.after + 1)) (rows_of dict)
unfolding rows_of integer_rows
widths true = (one, (two, (two, (three, (five, tt)))))
widths false = (one, (two, (two, (three, (five, tt)))))

module _ (dict : Bool) (s : List ℕ) (x : Number) (e : accepted x ≡ read_by (rows_of dict) s) where
  pub read_width : Width x.width
  read_width =
      let r = read_row (rows_of dict) s x e in
      subst Width (sym r.width) (every_found (λ (q : Row). Width (q.after + 1)) r.by (get_or s 0 0) (rows_of dict) (widths dict) r.found)

  pub read_inside : x.width ≤ length s
  read_inside = let r = read_row (rows_of dict) s x e in omega (arith, r.there, r.width)

-- ---- no form is shorter

abbrev Ascending : List Row → Type 0
Ascending [] = Unit {0}
Ascending (r ∷ rs) = Every (λ (q : Row). r.after ≤ q.after) rs × Ascending rs

ascending : (dict : Bool) → Ascending (rows_of dict)
unfolding rows_of integer_rows
ascending true = (
  (lit≤ tt, (lit≤ tt, (lit≤ tt, (lit≤ tt, tt)))),
  ((lit≤ tt, (lit≤ tt, (lit≤ tt, tt))), ((lit≤ tt, (lit≤ tt, tt)), ((lit≤ tt, tt), (tt, tt)))),
)
ascending false = (
  (lit≤ tt, (lit≤ tt, (lit≤ tt, (lit≤ tt, tt)))),
  ((lit≤ tt, (lit≤ tt, (lit≤ tt, tt))), ((lit≤ tt, (lit≤ tt, tt)), ((lit≤ tt, tt), (tt, tt)))),
)

-- a form for o, of so many bytes after the first at the most
record Formed (rs : List Row) (o : Operand) (most : ℕ) : Type 0 where
  form : Form
  is : accepted form ≡ spell rs o
  short : form.after ≤ most

module _ (b : ℕ) (r : Row) (o : Operand) (h : has r o ≡ true) where
  formed_one : (q : Row) (rs : List Row) (t u : Bool) → has q o ≡ u → Every (λ (p : Row). q.after ≤ p.after) rs
      → (row_of b rs ≡ row r → Formed rs o r.after) → cond t (row q) (row_of b rs) ≡ row r → Formed (q ∷ rs) o r.after
  formed_one q rs t true k p f e =
      record {
        form = form_by q.value q (value_in o);
        is = spell_here q rs o k;
        short = subst (λ (n : ℕ). n ≤ r.after) (sym (after_form q.value q (value_in o))) (least t e);
      }
    where
      least : (t : Bool) → cond t (row q) (row_of b rs) ≡ row r → q.after ≤ r.after
      least true e = let w : q ≡ r = cc in subst (λ (y : Row). q.after ≤ y.after) w (le_refl q.after)
      least false e = every_found (λ (y : Row). q.after ≤ y.after) r b rs p e
  formed_one q rs true false k p f e = let w : q ≡ r = cc in never (sym k ∙ ap (λ (y : Row). has y o) w ∙ h)
  formed_one q rs false false k p f e =
      let g = f e in
      record { form = g.form; is = g.is ∙ spell_past q rs o k; short = g.short }

  formed : (rs : List Row) → Ascending rs → row_of b rs ≡ row r → Formed rs o r.after
  unfolding row_of
  formed [] a e = let z : ◌≡◌ {A = ℕ} 0 1 = cc in absurd (omega arith)
  formed (q ∷ rs) a e = formed_one q rs (on b q) (has q o) refl a.0 (formed rs a.1) e

-- Bytes that read as an operand are no fewer than those that are written for it.
pub record Shortest (dict : Bool) (x : Number) : Type 0 where
  pub form : Form
  pub is : accepted form ≡ spell (rows_of dict) x.operand
  pub short : length (bytes form) ≤ x.width

same_kind : (t : Bool) → same t t ≡ true
same_kind true = refl
same_kind false = refl

module _ (dict : Bool) (s : List ℕ) (bytes_of_s : (i : ℕ) → get_or s i 0 < 256) (x : Number) (e : accepted x ≡ read_by (rows_of dict) s) where
  -- the row of a number that was read has its operand
  its_row : (r : ByRow (rows_of dict) s x) → has r.by x.operand ≡ true
  its_row r =
      let q = r.by in
      let on_it = row_range (get_or s 0 0) q (rows_of dict) r.found in
      let g = every_found (Good dict) q (get_or s 0 0) (rows_of dict) (good dict) r.found in
      let w = g.sound.within (get_or s 0 0) (be_at s 1 q.after) on_it.0 on_it.1 (be_lt s 1 q.after bytes_of_s) in
      rw (r.operand, fixed_as q.fixed, value_as q.fixed, same_kind q.fixed) w

  pub shortest : Shortest dict x
  shortest =
      let r = read_row (rows_of dict) s x e in
      let f = formed (get_or s 0 0) r.by x.operand (its_row r) (rows_of dict) (ascending dict) r.found in
      record { form = f.form; is = f.is; short = omega (arith, length_form f.form, f.short, r.width) }

-- ---- an integer of a charstring is within 16 bits

abbrev Narrow : Row → Type 0
Narrow r = r.fixed ≡ false → (z : ℤ) → Within r z → mag z ≤ 32767

narrow : Every Narrow charstring_rows
unfolding rows_of integer_rows
narrow = (near_narrow, (above_narrow, (below_narrow, (λ f z w. range_mag 32767 z w, (λ f. never (sym f), tt)))))
  where
    near_narrow : Narrow row32
    near_narrow f (pos n) w = omega (arith, leb-true n 107 w)
    near_narrow f (negsuc n) w = omega (arith, leb-true n 106 (both (leb n 106) true w).0)

    above_narrow : Narrow row247
    above_narrow f (pos n) w = omega (arith, leb-true n 1131 (both (leb 108 n) (leb n 1131) w).1)
    above_narrow f (negsuc n) w = never w

    below_narrow : Narrow row251
    below_narrow f (pos n) w = never w
    below_narrow f (negsuc n) w = omega (arith, leb-true n 1130 (both (leb n 1130) (leb 107 n) w).0)

pub read_16 : (s : List ℕ) → ((i : ℕ) → get_or s i 0 < 256) → (x : Number) → accepted x ≡ read_by charstring_rows s
    → (is_fixed x.operand) ≡ false → mag (value_in x.operand) < 2 ^ 15
read_16 s bytes_of_s x e f =
    let r = read_row charstring_rows s x e in
    let has_it = has_is r.by x.operand (its_row false s bytes_of_s x e r) in
    let n = every_found Narrow r.by (get_or s 0 0) charstring_rows narrow r.found (has_it.0 ∙ f) (value_in x.operand) has_it.1 in
    omega arith

-- ---- the same of an operand's bytes, without naming its form

module _ (dict : Bool) (o : Operand) (p : Spellable dict o) where
  spelling_is : spelling (rows_of dict) o ≡ bytes p.form
  unfolding spelling bytes_by
  spelling_is = rw (← p.is)

  pub read_spelling : (rest : List ℕ)
      → read_by (rows_of dict) (spelling (rows_of dict) o ++ rest) ≡ accepted (record { operand = o; width = length (spelling (rows_of dict) o) })
  read_spelling rest = rw spelling_is (read_written dict o p.form p.is rest)

  pub spelling_some : 0 < length (spelling (rows_of dict) o)
  spelling_some = rw spelling_is (omega (arith, length_form p.form))

pub spelling_most : (dict : Bool) (o : Operand) → length (spelling (rows_of dict) o) ≤ 5
unfolding spelling bytes_by
spelling_most dict o = go (spell (rows_of dict) o) refl
  where
    go : (a : Answer Form) → spell (rows_of dict) o ≡ a → length (bytes_by a) ≤ 5
    go (accepted f) e = omega (arith, length_form f, after_le dict o f (sym e))
    go (refused n v) e = zero-le

-- an operand that was read can be written
pub read_spellable : (dict : Bool) (s : List ℕ) → ((i : ℕ) → get_or s i 0 < 256) → (x : Number)
    → accepted x ≡ read_by (rows_of dict) s → Spellable dict x.operand
read_spellable dict s bytes_of_s x e = let t = shortest dict s bytes_of_s x e in record { form = t.form; is = t.is }
