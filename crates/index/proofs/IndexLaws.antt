-- The laws of an INDEX: what reading it and an entry of it answers, and what an answer says. Assumes nothing.
use Rattle.std.specs.Prelude.{◌≡◌, List, [], Bool, cond, ◌||◌, ℕ, ◌+◌, ◌-◌, ◌<◌, ◌≤◌, length, take, drop, leb, eqb}
use Rattle.std.proofs.Math.Path.{refl, ap}
use Rattle.std.proofs.Common.{sym, ◌∙◌, true≢false, length-drop, length-take-le}
use Rattle.std.proofs.Math.Bool.{true, false}
use native.Mathlib.Omega.{arith}
use Rattle.std.proofs.Math.ListN.{get_or}
use Rattle.std.proofs.Math.Dec.{ltb}
use borrow.Author.Tests.{lt-ltb, le-ltb, le-leb, lt-leb, eq-eqb, ne_eqb, ltb-false, leb-false, eqb-true, eqb-false}
use Rattle.number.specs.Answer.{Values, Answer, accepted, refused, alone}
use Rattle.number.specs.BigEndian.{be_at}
use Rattle.std.specs.Prelude.{Err}
use Rattle.index.specs.Index.{entry_read}
use Rattle.index.specs.declared.entry.EntryError.{EntryError}
use Rattle.index.specs.declared.entry.EntryError.TheVariants.{Index, Absent}
use Rattle.index.specs.declared.read.IndexError.TheVariants.{Lacking, BadSize}
use Rattle.index.specs.Index.{Extent, data_start, offset, by_last, by_size, by_count, extent}
use Rattle.index.specs.Index.{Place, place_by, place_in, place, bytes_by, part, start_by, part_by}
use Rattle.index.specs.Index.{has, lies}
use Rattle.index.specs.Code.{offset_of, data_of, Headed, reach, Full, Inside}
use Rattle.index.proofs.OffsetLaws.{start_is}

-- ---- tests

pub or_true : (t : Bool) → t || true ≡ true
or_true true = refl
or_true false = refl

or_none : (a b : Bool) → a || b ≡ false → (a ≡ false) × (b ≡ false)
or_none true b e = absurd (true≢false e)
or_none false b e = (refl, e)

same : {A : Type 0} {x y : A} → accepted x ≡ accepted y → x ≡ y
same e = cc

pub not_refused : {A : Type 0} {x : A} {k : ℕ} {v : Values} → accepted x ≡ refused k v → ⊥
not_refused e = let z : ◌≡◌ {A = ℕ} 0 1 = cc in omega arith

pub past : {A : Type 0} (t : Bool) (k : ℕ) (x : Answer A) {y : A} → accepted y ≡ cond t (refused k alone) x → (t ≡ false) × (accepted y ≡ x)
past true k x e = absurd (not_refused e)
past false k x e = (refl, e)

-- the same, refused where the test fails
kept : {A : Type 0} (t : Bool) (k : ℕ) (x : Answer A) {y : A} → accepted y ≡ cond t x (refused k alone) → accepted y ≡ x
kept true k x e = e
kept false k x e = absurd (not_refused e)

one_of_two : {A : Type 0} (t : Bool) (j k : ℕ) → ◌≡◌ {A = Answer A} (refused (cond t j k) alone) (cond t (refused j alone) (refused k alone))
one_of_two true j k = refl
one_of_two false j k = refl

-- ---- what the bytes of an INDEX are

pub size_there : {w : ℕ} {s : List ℕ} {n : ℕ} → Headed w s n → w + 1 ≤ length s
size_there {w} {s} {n} h = omega (arith, start_is w n (get_or s w 0))

pub headed : {w n z : ℕ} {s : List ℕ} → n ≡ be_at s 0 w → 0 < n → z ≡ get_or s w 0 → 0 < z → z ≤ 4 → data_start w n z ≤ length s
    → Headed w s n
headed {w} {n} {z} {s} c p e q r l =
    let there : data_start w n (get_or s w 0) ≤ length s = rw (sym e) l in
    record { count = c; some = p; size_pos = omega arith; size_le = omega arith; offsets = there }

-- What a read that is accepted with n entries and t bytes has found.
pub data Shape (w : ℕ) (s : List ℕ) (n t : ℕ) : Type 0 where
  none : w ≤ length s → be_at s 0 w ≡ 0 → n ≡ 0 → t ≡ w → Shape w s n t
  emptied : {m : ℕ} → Headed w s m → offset_of w s m ≡ 0 → n ≡ 0 → t ≡ data_of w s m → Shape w s n t
  full : Full w s n → t ≡ reach w s n → Shape w s n t

-- ---- reading

module _ (w : ℕ) (s : List ℕ) where
  pub no_count : length s < w → refused 20 alone ≡ extent w s
  unfolding extent
  no_count h = rw (lt-ltb (length s) w h)

  to_count : (n : ℕ) → n ≡ be_at s 0 w → w ≤ length s → by_count w s n ≡ extent w s
  unfolding extent
  to_count n e h = rw (e, le-ltb (length s) w h)

  module _ {n : ℕ} (e : n ≡ be_at s 0 w) where
    pub count_zero : w ≤ length s → n ≡ 0 → has 0 w ≡ extent w s
    unfolding by_count
    count_zero h z = let t : has 0 w ≡ by_count w s n = rw (eq-eqb n 0 z) in t ∙ to_count n e h

    module _ (some : 0 < n) where
      n≢ : n ≡ 0 → ⊥
      n≢ z = omega arith

      pub no_size : w ≤ length s → length s < w + 1 → refused 20 alone ≡ extent w s
      unfolding by_count
      no_size h k =
          let t : refused 20 alone ≡ by_count w s n = rw (ne_eqb n 0 n≢, lt-ltb (length s) (w + 1) k) in t ∙ to_count n e h

      module _ (h : w + 1 ≤ length s) where
        to_size : by_size w s n (get_or s w 0) ≡ extent w s
        unfolding by_count
        to_size =
            let t : by_size w s n (get_or s w 0) ≡ by_count w s n = rw (ne_eqb n 0 n≢, le-ltb (length s) (w + 1) h) in
            t ∙ to_count n e (omega arith)

        pub size_zero : get_or s w 0 ≡ 0 → refused 21 alone ≡ extent w s
        unfolding by_size
        size_zero z = let t : refused 21 alone ≡ by_size w s n (get_or s w 0) = rw (eq-eqb (get_or s w 0) 0 z) in t ∙ to_size

        pub size_big : 4 < get_or s w 0 → refused 21 alone ≡ extent w s
        unfolding by_size
        size_big k = let t : refused 21 alone ≡ by_size w s n (get_or s w 0) = rw (lt-ltb 4 (get_or s w 0) k, or_true) in t ∙ to_size

        pub no_offsets : 0 < get_or s w 0 → get_or s w 0 ≤ 4 → length s < data_of w s n → refused 20 alone ≡ extent w s
        unfolding by_size
        no_offsets p k l =
            let z≢ : get_or s w 0 ≡ 0 → ⊥ = λ z. omega arith in
            let t : refused 20 alone ≡ by_size w s n (get_or s w 0) = rw (
              ne_eqb (get_or s w 0) 0 z≢,
              le-ltb 4 (get_or s w 0) k,
              lt-ltb (length s) (data_of w s n) l,
            ) in
            t ∙ to_size

  module _ {n : ℕ} (h : Headed w s n) where
    to_last : by_last s n (data_of w s n) (offset_of w s n) ≡ extent w s
    unfolding by_size
    to_last =
        let z = get_or s w 0 in
        let z≢ : z ≡ 0 → ⊥ = λ e. omega arith in
        let d = data_start w n z in
        let t : by_last s n d (offset w s z n) ≡ by_size w s n z = rw (ne_eqb z 0 z≢, le-ltb 4 z h.size_le, le-ltb (length s) d h.offsets) in
        t ∙ to_size h.count h.some (omega (arith, start_is w n z))

    pub last_zero : offset_of w s n ≡ 0 → has 0 (data_of w s n) ≡ extent w s
    unfolding by_last
    last_zero e =
        let t : has 0 (data_of w s n) ≡ by_last s n (data_of w s n) (offset_of w s n) = rw (eq-eqb (offset_of w s n) 0 e) in
        t ∙ to_last

    pub no_data : 0 < offset_of w s n → length s < reach w s n → refused 20 alone ≡ extent w s
    unfolding by_last
    no_data p k =
        let l = offset_of w s n in
        let b = data_of w s n in
        let l≢ : l ≡ 0 → ⊥ = λ e. omega arith in
        let t : refused 20 alone ≡ by_last s n b l = rw (ne_eqb l 0 l≢, lt-ltb (length s) (b + (l - 1)) k) in
        t ∙ to_last

  pub full_read : {n t : ℕ} → Full w s n → t ≡ reach w s n → has n t ≡ extent w s
  unfolding by_last
  full_read {n} f q =
      let l = offset_of w s n in
      let b = data_of w s n in
      let l≢ : l ≡ 0 → ⊥ = λ e. omega arith in
      let e : has n (b + (l - 1)) ≡ by_last s n b l = rw (ne_eqb l 0 l≢, le-ltb (length s) (b + (l - 1)) f.inside) in
      ap (has n) q ∙ e ∙ to_last f.head

-- ---- what an accepted read says

abbrev entries_of : Extent → ℕ
entries_of x = x.entries

abbrev taken_of : Extent → ℕ
taken_of x = x.taken

module _ (w : ℕ) (s : List ℕ) (n t : ℕ) where
  by_last_lem : (m : ℕ) → Headed w s m → (z : Bool) → eqb (offset_of w s m) 0 ≡ z
      → has n t ≡ cond z (has 0 (data_of w s m)) (cond (ltb (length s) (reach w s m)) (refused 20 alone) (has m (reach w s m)))
      → Shape w s n t
  by_last_lem m h true e a = emptied h (eqb-true _ _ e) (ap entries_of (same a)) (ap taken_of (same a))
  by_last_lem m h false e a =
      let l = offset_of w s m in
      let l≢ : l ≡ 0 → ⊥ = eqb-false l 0 e in
      let g = past (ltb (length s) (reach w s m)) 20 _ a in
      let en : n ≡ m = ap entries_of (same g.1) in
      let et : t ≡ reach w s m = ap taken_of (same g.1) in
      rw en (full (record { head = h; last_pos = omega arith; inside = ltb-false (length s) (reach w s m) g.0 }) et)

  by_count_lem : (z : Bool) → eqb (be_at s 0 w) 0 ≡ z → w ≤ length s
      → has n t ≡ cond z (has 0 w) (cond (ltb (length s) (w + 1)) (refused 20 alone) (by_size w s (be_at s 0 w) (get_or s w 0)))
      → Shape w s n t
  unfolding by_size by_last
  by_count_lem true e h a = none h (eqb-true _ _ e) (ap entries_of (same a)) (ap taken_of (same a))
  by_count_lem false e h a =
      let m = be_at s 0 w in
      let z = get_or s w 0 in
      let m≢ : m ≡ 0 → ⊥ = eqb-false m 0 e in
      let g = past (ltb (length s) (w + 1)) 20 _ a in
      let sized = past (eqb z 0 || ltb 4 z) 21 _ g.1 in
      let there = past (ltb (length s) (data_start w m z)) 20 _ sized.1 in
      let sizes = or_none (eqb z 0) (ltb 4 z) sized.0 in
      let z≢ : z ≡ 0 → ⊥ = eqb-false z 0 sizes.0 in
      let offsets = ltb-false (length s) (data_start w m z) there.0 in
      let head : Headed w s m =
      record { count = refl; some = omega arith; size_pos = omega arith; size_le = ltb-false 4 z sizes.1; offsets = offsets } in
      by_last_lem m head (eqb (offset w s z m) 0) refl there.1

  module _ (e : has n t ≡ extent w s) where
    pub shape : Shape w s n t
    unfolding extent by_count
    shape =
        let g = past (ltb (length s) w) 20 _ e in
        by_count_lem (eqb (be_at s 0 w) 0) refl (ltb-false (length s) w g.0) g.1

    pub taken_le : t ≤ length s
    taken_le = go shape
      where
        go : Shape w s n t → t ≤ length s
        go (none h c en et) = omega arith
        go (emptied h l en et) = omega arith
        go (full f et) = omega arith

    pub count_there : w ≤ length s
    count_there = go shape
      where
        go : Shape w s n t → w ≤ length s
        go (none h c en et) = h
        go (emptied {m} h l en et) = omega (arith, start_is w m (get_or s w 0))
        go (full f et) = omega (arith, start_is w n (get_or s w 0))

    -- without entries, it is a count of 0 that is all of it
    pub alone_zero : n ≡ 0 → t ≡ w → be_at s 0 w ≡ 0
    alone_zero h k = go shape
      where
        go : Shape w s n t → be_at s 0 w ≡ 0
        go (none l c en et) = c
        go (emptied {m} f l en et) = absurd (omega (arith, start_is w m (get_or s w 0)))
        go (full f et) = absurd (omega arith)

    pub zero_alone : be_at s 0 w ≡ 0 → t ≡ w
    zero_alone h = go shape
      where
        go : Shape w s n t → t ≡ w
        go (none l c en et) = et
        go (emptied f l en et) = absurd (omega arith)
        go (full f et) = absurd (omega arith)

    -- entries, if there are any
    pub entries_full : 0 < n → (Full w s n) × (t ≡ reach w s n)
    entries_full h = go shape
      where
        go : Shape w s n t → (Full w s n) × (t ≡ reach w s n)
        go (none k c en et) = absurd (omega arith)
        go (emptied k l en et) = absurd (omega arith)
        go (full f et) = (f, et)

-- ---- an entry

-- by its two offsets a and b
module _ (i : ℕ) (x : Extent) (d a b : ℕ) where
  pub by_zero : i < x.entries → a ≡ 0 → refused 40 alone ≡ place_by i x d a b
  unfolding place_by
  by_zero h e = rw (lt-leb x.entries i h, eq-eqb a 0 e)

  -- to an offset of 0, or to another
  pub by_descent : i < x.entries → b < a → refused (cond (eqb b 0) 40 41) alone ≡ place_by i x d a b
  unfolding place_by
  by_descent h k = let a≢ : a ≡ 0 → ⊥ = λ e. omega arith in rw (lt-leb x.entries i h, ne_eqb a 0 a≢, lt-ltb b a k) (one_of_two (eqb b 0) 40 41)

  pub by_passing : i < x.entries → 0 < a → a ≤ b → x.taken < d + (b - 1) → refused 42 alone ≡ place_by i x d a b
  unfolding place_by
  by_passing h p k l =
      let a≢ : a ≡ 0 → ⊥ = λ e. omega arith in
      let b≢ : b ≡ 0 → ⊥ = λ e. omega arith in
      rw (lt-leb x.entries i h, ne_eqb a 0 a≢, ne_eqb b 0 b≢, le-ltb b a k, lt-ltb x.taken (d + (b - 1)) l)

  pub by_order : {y m : ℕ} → i < x.entries → 0 < a → a ≤ b → d + (b - 1) ≤ x.taken
      → y ≡ d + (a - 1) → m ≡ b - a → lies y m ≡ place_by i x d a b
  unfolding place_by
  by_order h p k l at long =
      let a≢ : a ≡ 0 → ⊥ = λ e. omega arith in
      let b≢ : b ≡ 0 → ⊥ = λ e. omega arith in
      rw (at, long, lt-leb x.entries i h, ne_eqb a 0 a≢, ne_eqb b 0 b≢, le-ltb b a k, le-ltb x.taken (d + (b - 1)) l)

-- the tests behind that of the number refuse with other numbers
not_25 : (a b c : Bool) (p : Place) (v : Values)
    → refused 25 v ≡ cond a (refused 40 alone) (cond b (refused 41 alone) (cond c (refused 42 alone) (accepted p))) → ⊥
not_25 true b c p v e = let z : ◌≡◌ {A = ℕ} 25 40 = cc in omega arith
not_25 false true c p v e = let z : ◌≡◌ {A = ℕ} 25 41 = cc in omega arith
not_25 false false true p v e = let z : ◌≡◌ {A = ℕ} 25 42 = cc in omega arith
not_25 false false false p v e = not_refused (sym e)

pub not_past : (i : ℕ) (x : Extent) (d a b : ℕ) (v : Values) → i < x.entries → refused 25 v ≡ place_by i x d a b → ⊥
unfolding place_by
not_past i x d a b v h e =
    not_25 (eqb a 0 || eqb b 0) (ltb b a) (ltb x.taken (d + (b - 1))) _ v (rw (lt-leb x.entries i h) at e)

module _ (w : ℕ) (s : List ℕ) (i : ℕ) where
  pub not_read : (k : ℕ) → refused k alone ≡ extent w s → refused k alone ≡ place w s i
  unfolding place place_in
  not_read k e = rw (← e)

  -- a number that is not below the entries: a count that says otherwise was emptied by a last offset of 0
  pub past_count : {n t : ℕ} → has n t ≡ extent w s → n ≤ i → refused (cond (eqb n (be_at s 0 w)) 25 40) alone ≡ place w s i
  unfolding place place_in place_by
  past_count {n} e h = rw (← e, le-leb n i h) (one_of_two (eqb n (be_at s 0 w)) 25 40)

  pub past_behind : {n t k : ℕ} → has n t ≡ extent w s → n ≤ i → k ≡ cond (eqb n (be_at s 0 w)) 25 40 → refused k alone ≡ place w s i
  past_behind e h why = rw why (past_count e h)

  -- an INDEX that a last offset of 0 emptied has no entry at all
  pub emptied_place : {n t : ℕ} → has n t ≡ extent w s → (n ≡ be_at s 0 w → ⊥) → refused 40 alone ≡ place w s i
  unfolding place place_in
  emptied_place {n} e c = rw (← e, ne_eqb n (be_at s 0 w) c)

  -- which is said of its bytes: the last offset is 0
  pub last_zero_place : {n : ℕ} → Headed w s n → offset_of w s n ≡ 0 → refused 40 alone ≡ place w s i
  last_zero_place h z = emptied_place (last_zero w s h z) (λ c. let m = h.count in omega arith)

  -- between its two offsets
  module _ {n a b : ℕ} (f : Full w s n) (first : a ≡ offset_of w s i) (next : b ≡ offset_of w s (i + 1)) where
    pub to_place : place_by i (record { entries = n; taken = reach w s n }) (data_of w s n) a b ≡ place w s i
    unfolding place place_in
    to_place = rw (← full_read w s f refl, eq-eqb n (be_at s 0 w) f.head.count, first, next)

    -- as the code has it, with the end that the reading found
    pub to_place_by : {t : ℕ} → t ≡ reach w s n → place_by i (record { entries = n; taken = t }) (data_of w s n) a b ≡ place w s i
    to_place_by e = ap (λ (t : ℕ). place_by i (record { entries = n; taken = t }) (data_of w s n) a b) e ∙ to_place

    pub zero_offset : i < n → a ≡ 0 → refused 40 alone ≡ place w s i
    zero_offset h e = by_zero _ _ _ _ _ h e ∙ to_place

    pub descends : i < n → b < a → refused (cond (eqb b 0) 40 41) alone ≡ place w s i
    descends h k = by_descent _ _ _ _ _ h k ∙ to_place

    pub passes : i < n → 0 < a → a ≤ b → reach w s n < data_of w s n + (b - 1) → refused 42 alone ≡ place w s i
    passes h p k l = by_passing _ _ _ _ _ h p k l ∙ to_place

    pub present : {x y : ℕ} → i < n → 0 < a → a ≤ b → data_of w s n + (b - 1) ≤ reach w s n
        → x ≡ data_of w s n + (a - 1) → y ≡ b - a → lies x y ≡ place w s i
    present h p k l at long = by_order _ _ _ _ _ h p k l at long ∙ to_place

-- ---- what an entry that is present says

-- It lies between offsets i and i + 1 of an INDEX with n entries: neither is 0, they do not descend, and they do not pass the data.
pub record Held (w : ℕ) (s : List ℕ) (i n a m : ℕ) : Type 0 where
  pub full : Full w s n
  pub below : i < n
  pub first_pos : 0 < offset_of w s i
  pub order : offset_of w s i ≤ offset_of w s (i + 1)
  pub within : data_of w s n + (offset_of w s (i + 1) - 1) ≤ reach w s n
  pub at : a ≡ data_of w s n + (offset_of w s i - 1)
  pub long : m ≡ offset_of w s (i + 1) - offset_of w s i

abbrev start_of : Place → ℕ
start_of p = p.start

abbrev size_of : Place → ℕ
size_of p = p.size

-- by its two offsets a and b: it starts at p and has m bytes
pub record Between (i : ℕ) (x : Extent) (d a b p m : ℕ) : Type 0 where
  pub below : i < x.entries
  pub first_pos : 0 < a
  pub order : a ≤ b
  pub within : d + (b - 1) ≤ x.taken
  pub at : p ≡ d + (a - 1)
  pub long : m ≡ b - a

pub between : (i : ℕ) (x : Extent) (d a b p m : ℕ) → lies p m ≡ place_by i x d a b → Between i x d a b p m
unfolding place_by
between i x d a b p m h =
    let counted = past (leb x.entries i) 25 _ h in
    let some = past (eqb a 0 || eqb b 0) 40 _ counted.1 in
    let ordered = past (ltb b a) 41 _ some.1 in
    let held = past (ltb x.taken (d + (b - 1))) 42 _ ordered.1 in
    let a≢ : a ≡ 0 → ⊥ = eqb-false a 0 (or_none (eqb a 0) (eqb b 0) some.0).0 in
    record {
      below = leb-false x.entries i counted.0;
      first_pos = omega arith;
      order = ltb-false b a ordered.0;
      within = ltb-false x.taken (d + (b - 1)) held.0;
      at = ap start_of (same held.1);
      long = ap size_of (same held.1);
    }

pub between_inside : (i : ℕ) (x : Extent) (d a b : ℕ) (s : List ℕ) → x.taken ≤ length s
    → (y : Answer Place) → y ≡ place_by i x d a b → Inside s y
between_inside i x d a b s h (accepted p) e = let g = between i x d a b p.start p.size e in omega arith
between_inside i x d a b s h (refused k v) e = tt

module _ (w : ℕ) (s : List ℕ) (i a m : ℕ) where
  by_extent : (n t : ℕ) → has n t ≡ extent w s → lies a m ≡ place_in w s i (has n t) → Held w s i n a m
  unfolding place_in
  by_extent n t e h =
      let z = get_or s w 0 in
      let there = kept (eqb n (be_at s 0 w)) 40 _ h in
      let g = between i (record { entries = n; taken = t }) (data_start w n z) (offset w s z i) (offset w s z (i + 1)) a m there in
      let f = entries_full w s n t e (omega arith) in
      record {
        full = f.0;
        below = g.below;
        first_pos = g.first_pos;
        order = g.order;
        within = omega arith;
        at = g.at;
        long = g.long;
      }

  module _ (h : lies a m ≡ place w s i) where
    pub held : (n : ℕ) × Held w s i n a m
    unfolding place place_in
    held = go (extent w s) refl h
      where
        go : (x : Answer Extent) → x ≡ extent w s → lies a m ≡ place_in w s i x → (n : ℕ) × Held w s i n a m
        go (accepted x) e k = (x.entries, by_extent x.entries x.taken e k)
        go (refused j v) e k = absurd (not_refused k)

    -- the entry lies within the bytes
    pub inside : a + m ≤ length s
    inside = let d = held in let l = d.1 in omega arith

    pub part_is : take m (drop a s) ≡ part w s i
    unfolding part bytes_by
    part_is = rw (← h)

    pub part_length : length (part w s i) ≡ m
    part_length = ap length (sym part_is) ∙ length-take-le m (drop a s) (let k = inside in simp length-drop (omega arith))

  pub held_place : {n : ℕ} → Held w s i n a m → lies a m ≡ place w s i
  held_place d = present w s i d.full refl refl d.below d.first_pos d.order d.within d.at d.long

pub place_inside : (w : ℕ) (s : List ℕ) (i : ℕ) (y : Answer Place) → y ≡ place w s i → Inside s y
place_inside w s i (accepted p) e = inside w s i p.start p.size e
place_inside w s i (refused k v) e = tt

-- an entry that is refused has no bytes
pub no_part : (w : ℕ) (s : List ℕ) (i k : ℕ) → refused k alone ≡ place w s i → [] ≡ part w s i
unfolding part bytes_by
no_part w s i k h = rw (← h)

-- ---- where a part stands

module _ (at : ℕ × ℕ) (s : List ℕ) where
  pub part_lies : (a m : ℕ) {o : ℕ} {l : List ℕ} → o ≡ at.1 + a → l ≡ take m (drop a s)
      → record { at = (at.0, o); bytes = l } ≡ part_by at s (lies a m)
  unfolding part_by start_by bytes_by
  part_lies a m p q = rw (p, q)

  pub part_none : (k : ℕ) (v : Values) → record { at = at; bytes = [] } ≡ part_by at s (refused k v)
  unfolding part_by start_by bytes_by
  part_none k v = refl

  pub part_failed : (e : EntryError) → record { at = at; bytes = [] } ≡ part_by at s (entry_read (Err e))
  unfolding part_by start_by bytes_by
  part_failed (Index Lacking) = refl
  part_failed (Index BadSize) = refl
  part_failed (Absent why) = refl

-- ---- the laws by which the functions of src are proved

pub ruleset read_laws = (count_zero, no_size, size_zero, size_big, no_offsets)

pub ruleset between_laws = (by_zero, by_descent, by_passing, by_order)

pub ruleset entry_laws = (not_read, past_behind, count_there, size_there, entries_full, to_place_by)
