-- The laws of a well-formed list. Assumes nothing.
use Rattle.std.proofs.Math.Path.{◌≡◌, refl, ap}
use Rattle.std.proofs.Common.{sym, subst, ◌∙◌, zero-add, add-zero, le_refl}
use Rattle.std.specs.Prelude.{List, Bool, ltb, get_or}
use Rattle.std.proofs.Math.Bool.{true, false, cond}
use Prim.Native.Nat.{ℕ, zero, suc, ◌+◌, ◌-◌, ◌<◌, ◌≤◌}
use Rattle.std.proofs.Math.Nat.{sub-zero}
use native.Mathlib.Omega.{arith}
use Rattle.std.proofs.Math.Dec.{eqb}
use borrow.Author.Tests.{ltb-true, ltb-false, eqb-true}
use Rattle.number.specs.Answer.{Values, Answer, accepted, refused, alone, at_entry}
use Rattle.number.proofs.AnswerLaws.{refused_accepted, accepted_same}
use Rattle.number.specs.BigEndian.{be_at}
use Rattle.index.specs.Index.{Extent, Place, extent, place_of, place_in, place}
use Rattle.index.specs.Code.{Full, offset_of, Rising, Passed}
use Rattle.index.specs.Index.{has}
use Rattle.index.proofs.IndexLaws.{alone_zero, zero_alone, entries_full}
use Rattle.index.proofs.IndexLaws.{Shape, none, emptied, full, shape, not_past, emptied_place, full_read, zero_offset, descends, passes, present}
use Rattle.index.specs.Formed.{unless, entries_from, formed_by, formation}

-- ---- the entries from i on, up to n

module _ (w : ℕ) (s : List ℕ) where
  pub none_left : {i n : ℕ} → i ≡ n → accepted n ≡ entries_from w s i (n - i)
  unfolding entries_from
  none_left {i} {n} q = let e : n - i ≡ 0 = omega arith in rw e (ap accepted (sym q))

  module _ {i n : ℕ} (h : i < n) where
    left : n - i ≡ suc (n - (i + 1))
    left = omega arith

    pub next_entry : {p : Place} → accepted p ≡ place w s i → entries_from w s (i + 1) (n - (i + 1)) ≡ entries_from w s i (n - i)
    unfolding entries_from unless
    next_entry e = rw (left, ← e)

    pub bad_entry : {k : ℕ} → refused k alone ≡ place w s i → refused k (at_entry i) ≡ entries_from w s i (n - i)
    unfolding entries_from unless
    bad_entry e = rw (left, ← e)

-- ---- by what the read answers

module _ (w : ℕ) (s : List ℕ) where
  pub not_read : (k : ℕ) → refused k alone ≡ extent w s → refused k alone ≡ formation w s
  unfolding formation formed_by
  not_read k e = rw (← e)

  module _ {n t : ℕ} (e : has n t ≡ extent w s) where
    -- a list that is read is judged by as many entries as its count says
    counted : {m : ℕ} → m ≡ be_at s 0 w → entries_from w s 0 (m - 0) ≡ formation w s
    unfolding formation formed_by
    counted {m} c = rw (← e, ← c, sub-zero m)

    pub no_entries : be_at s 0 w ≡ 0 → accepted 0 ≡ formation w s
    no_entries c = none_left w s refl ∙ counted (sym c)

    -- a last offset of 0 emptied it
    pub no_first : n ≡ 0 → (be_at s 0 w ≡ 0 → ⊥) → refused 40 (at_entry 0) ≡ formation w s
    no_first z c =
        let more : 0 < be_at s 0 w = omega arith in
        bad_entry w s more (emptied_place w s 0 e (λ q. c (sym q ∙ z))) ∙ counted refl

-- an INDEX with entries is judged by all of them
pub from_first : (w : ℕ) (s : List ℕ) {n : ℕ} → Full w s n → entries_from w s 0 (n - 0) ≡ formation w s
from_first w s f = counted w s (full_read w s f refl) f.head.count

-- ---- offsets that rise

module _ (w : ℕ) (s : List ℕ) {k : ℕ} (up : Rising w s k) where
  rising_le : (i d : ℕ) → i + d ≤ k → offset_of w s i ≤ offset_of w s (i + d)
  rising_le i zero h = rw (add-zero i) (le_refl (offset_of w s i))
  rising_le i (suc d) h =
      let e : i + suc d ≡ i + d + 1 = omega arith in rw e (omega (arith, rising_le i d (omega arith), up (i + d) (omega arith)))

-- entries whose offsets rise, the first from more than 0 and the last to no more than the last of all, are present
module _ (w : ℕ) (s : List ℕ) {n : ℕ} (f : Full w s n) (first : 0 < offset_of w s 0) where
  pub none_passed : Passed w s n 0
  none_passed = record { within = omega arith; some = first; rest = from_first w s f }

  pub passed_up : (k : ℕ) → k ≤ n → Rising w s k → offset_of w s k ≤ offset_of w s n → Passed w s n k
  passed_up k h up low = go k (omega arith)
    where
      go : (i : ℕ) → i ≤ k → Passed w s n i
      go zero l = none_passed
      go (suc i) l =
          let before = go i (omega arith) in
          let rise = up i (omega arith) in
          let e : i + 1 + (k - (i + 1)) ≡ k = omega arith in
          let below = subst (λ (j : ℕ). offset_of w s (i + 1) ≤ offset_of w s j) e (rising_le w s up (i + 1) (k - (i + 1)) (omega arith)) in
          let here = present w s i f refl refl (omega arith) before.some rise (omega arith) refl refl in
          let next : i + 1 ≡ suc i = omega arith in
          let rest = next_entry w s (omega arith) here ∙ before.rest in
          subst (Passed w s n) next (record { within = omega arith; some = omega arith; rest = rest })

-- ---- the pass over the offsets from number i on, before which all entries are present

module _ (w : ℕ) (s : List ℕ) {n : ℕ} (f : Full w s n) where
  pub first_zero : {a : ℕ} → a ≡ offset_of w s 0 → a ≡ 0 → refused 40 (at_entry 0) ≡ formation w s
  first_zero e z = bad_entry w s f.head.some (zero_offset w s 0 f e refl f.head.some z) ∙ from_first w s f

  module _ {i a b : ℕ} (before : Passed w s n i) (here : i < n)
      (first : a ≡ offset_of w s i) (next : b ≡ offset_of w s (i + 1)) where
    pub passed_descent : {k : ℕ} → k ≡ cond (eqb b 0) 40 41 → b < a → refused k (at_entry i) ≡ formation w s
    passed_descent e h = rw e (bad_entry w s here (descends w s i f first next here h) ∙ before.rest)

    module _ {l : ℕ} (last : l ≡ offset_of w s n) (order : a ≤ b) where
      pub passed_data : l < b → refused 42 (at_entry i) ≡ formation w s
      passed_data h =
          let some = before.some in
          bad_entry w s here (passes w s i f first next here (omega arith) order (omega (arith, f.last_pos))) ∙ before.rest

      pub passed_one : b ≤ l → Passed w s n (i + 1)
      passed_one h =
          let some = before.some in
          let there = present w s i f first next here (omega arith) order (omega (arith, f.last_pos)) refl refl in
          record { within = omega arith; some = omega arith; rest = next_entry w s here there ∙ before.rest }

  pub passed_all : Passed w s n n → accepted n ≡ formation w s
  passed_all before = none_left w s refl ∙ before.rest

-- ---- what it says

-- The read is accepted with n entries, as many as the count says, and each of them is present.
pub record WellFormed (w : ℕ) (s : List ℕ) (n : ℕ) : Type 0 where
  pub taken : ℕ
  pub read : has n taken ≡ extent w s
  pub count : n ≡ be_at s 0 w
  pub entry : (i : ℕ) → i < n → (p : Place) × (accepted p ≡ place w s i)

is_there : (x : Answer Place) {n : ℕ} {f : Answer ℕ} (i : ℕ) → accepted n ≡ unless i x f
    → ((p : Place) × (accepted p ≡ x)) × (accepted n ≡ f)
unfolding unless
is_there (accepted p) i e = ((p, refl), e)
is_there (refused k v) i e = refused_accepted (sym e)

module _ (w : ℕ) (s : List ℕ) where
  abbrev There : ℕ → Type 0
  There j = (p : Place) × (accepted p ≡ place w s j)

  here_or_later : (i j : ℕ) (later : Bool) → ltb i j ≡ later → i ≤ j → There i → (i < j → There j) → There j
  here_or_later i j true e h t f = f (ltb-true i j e)
  here_or_later i j false e h t f = let q : i ≡ j = omega (arith, ltb-false i j e) in subst There q t

  all_there : (n i k : ℕ) → accepted n ≡ entries_from w s i k → (n ≡ i + k) × ((j : ℕ) → i ≤ j → j < i + k → There j)
  unfolding entries_from
  all_there n i zero e = (let q = accepted_same e in omega arith, λ j h l. absurd (omega arith))
  all_there n i (suc k) e =
      let g = is_there (place w s i) i e in
      let rest = all_there n (i + 1) k g.1 in
      (omega arith, λ j h l. here_or_later i j (ltb i j) refl h g.0 (λ m. rest.1 j (omega arith) (omega arith)))

  there_all : (i k : ℕ) → ((j : ℕ) → i ≤ j → j < i + k → There j) → accepted (i + k) ≡ entries_from w s i k
  unfolding entries_from unless
  there_all i zero f = ap accepted (omega arith)
  there_all i (suc k) f =
      let t = f i (omega arith) (omega arith) in
      let e : i + suc k ≡ i + 1 + k = omega arith in
      rw (← t.1, e) (there_all (i + 1) k (λ j h l. f j (omega arith) (omega arith)))

  -- what has its first entry was not emptied
  as_many : {n t : ℕ} → has n t ≡ extent w s → (0 < be_at s 0 w → There 0) → n ≡ be_at s 0 w
  as_many {n} {t} e first = go (shape w s n t e)
    where
      go : Shape w s n t → n ≡ be_at s 0 w
      go (none h c en et) = omega arith
      go (full f et) = f.head.count
      go (emptied {m} h l en et) =
          let c : m ≡ be_at s 0 w = h.count in
          let p = first (omega arith) in refused_accepted (emptied_place w s 0 e (λ q. omega arith) ∙ sym p.1)

  -- a list that is well formed
  pub well_formed : (n : ℕ) → accepted n ≡ formation w s → WellFormed w s n
  unfolding formation formed_by
  well_formed n e = go (extent w s) refl e
    where
      go : (x : Answer Extent) → x ≡ extent w s → accepted n ≡ formed_by w s x → WellFormed w s n
      go (refused k v) q e = refused_accepted (sym e)
      go (accepted x) q e =
          let all = all_there n 0 (be_at s 0 w) e in
          let c = as_many q (λ h. all.1 0 (omega arith) (omega arith)) in
          let m : x.entries ≡ n = omega arith in
          record {
            taken = x.taken;
            read = ap (λ (y : ℕ). has y x.taken) (sym m) ∙ q;
            count = omega arith;
            entry = λ i h. all.1 i (omega arith) (omega arith);
          }

  -- of k entries from i on, j is the first that is refused: those before it are there
  abbrev First : ℕ → ℕ → ℕ → ℕ → Type 0
  First i k j c = ((v : Values) × (refused c v ≡ place w s j)) × (j < i + k) × ((m : ℕ) → i ≤ m → m < j → There m)

  here_first : (i k j c : ℕ) (x : Answer Place) → x ≡ place w s i → refused c (at_entry j) ≡ unless i x (entries_from w s (i + 1) k)
      → (refused c (at_entry j) ≡ entries_from w s (i + 1) k → First (i + 1) k j c) → First i (suc k) j c
  unfolding unless
  here_first i k j c (accepted p) q e later =
      let rest = later e in (rest.0, omega arith, λ m h l. here_or_later i m (ltb i m) refl h (p, q) (λ n. rest.2 m (omega arith) l))
  here_first i k j c (refused d v) q e later =
      let at : j ≡ i = cc in
      let why : c ≡ d = cc in
      ((v, rw (at, why) q), omega arith, λ m h l. absurd (omega arith))

  first_of : (i k j c : ℕ) → refused c (at_entry j) ≡ entries_from w s i k → First i k j c
  unfolding entries_from
  first_of i zero j c e = refused_accepted e
  first_of i (suc k) j c e = here_first i k j c (place w s i) refl e (first_of (i + 1) k j c)

  -- What a refusal with an entry says: that entry is absent, for this reason; every entry before it is present; and the count tells of it.
  pub record FirstBad (i k : ℕ) : Type 0 where
    pub values : Values
    pub absent : refused k values ≡ place w s i
    pub counted_in : i < be_at s 0 w
    pub before : (j : ℕ) → j < i → There j

  pub first_bad : (i k : ℕ) → refused k (at_entry i) ≡ formation w s → FirstBad i k
  unfolding formation formed_by
  first_bad i k e = go (extent w s) e
    where
      go : (x : Answer Extent) → refused k (at_entry i) ≡ formed_by w s x → FirstBad i k
      go (refused j v) q = let z : ◌≡◌ {A = ℕ} 0 1 = cc in absurd (omega arith)
      go (accepted x) q =
          let f = first_of 0 (be_at s 0 w) i k q in
          record { values = f.0.0; absent = f.0.1; counted_in = omega arith; before = λ j h. f.2 j (omega arith) h }

  -- so 25 is no reason
  pub never_past : (i : ℕ) → refused 25 (at_entry i) ≡ formation w s → ⊥
  unfolding formation formed_by place place_in
  never_past i e = go (extent w s) refl e
    where
      by_count : (x : Extent) (t : Bool) (v : Values) → eqb x.entries (be_at s 0 w) ≡ t → i < be_at s 0 w
          → refused 25 v ≡ cond t (place_of w s x (get_or s w 0) i) (refused 40 alone) → ⊥
      by_count x true v c h k = let m = eqb-true x.entries (be_at s 0 w) c in not_past i x _ _ _ v (omega arith) k
      by_count x false v c h k = let z : ◌≡◌ {A = ℕ} 25 40 = cc in omega arith

      go : (x : Answer Extent) → x ≡ extent w s → refused 25 (at_entry i) ≡ formed_by w s x → ⊥
      go (refused j v) q h = let z : ◌≡◌ {A = ℕ} 0 1 = cc in omega arith
      go (accepted x) q h =
          let f = first_of 0 (be_at s 0 w) i 25 h in
          by_count x (eqb x.entries (be_at s 0 w)) f.0.0 refl (omega arith) (f.0.1 ∙ ap (place_in w s i) (sym q))

  pub formed_yes : {n : ℕ} → WellFormed w s n → accepted n ≡ formation w s
  formed_yes {n} f =
      ap accepted (sym (zero-add n)) ∙ there_all 0 n (λ j h l. f.entry j (omega arith))
      ∙ ap (entries_from w s 0) (sym (sub-zero n)) ∙ counted w s f.read f.count

-- ---- the laws by which the functions of src are proved

pub ruleset formed_laws = (not_read, no_entries, no_first, alone_zero, zero_alone, entries_full)

pub ruleset pass_laws = (first_zero, passed_descent, passed_data, passed_one, passed_all)

pub ruleset passed_laws = (none_passed, passed_up)
