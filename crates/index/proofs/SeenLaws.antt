-- The laws of an entry by a count and an offset size that are known: what it answers, and that of an INDEX's own bytes it is the plain
-- reader's. Assumes nothing.
use Rattle.std.specs.Prelude.{◌≡◌, Bool, ◌||◌, ℕ, ◌+◌, ◌<◌, ◌≤◌, leb, eqb, get_or, take, drop}
use Rattle.std.proofs.Math.Path.{refl, sym, ap, subst}
use Rattle.std.proofs.Common.{◌∙◌, le_refl, take-append-drop, length-take-le}
use Rattle.std.proofs.Math.Bool.{true, false}
use mathlib.Core.List.{List, ◌++◌}
use native.Mathlib.Omega.{arith}
use Rattle.std.proofs.Math.Dec.{ltb}
use Rattle.std.proofs.Math.ListN.{length}
use borrow.Author.Tests.{lt-ltb, le-ltb, le-leb, lt-leb, eq-eqb, ne_eqb, ltb-true, ltb-false}
use Rattle.number.specs.Answer.{Answer, accepted, refused, alone}
use Rattle.index.specs.Index.{Extent, Place, data_start, offset, extent, place_by, place, place_seen, part_by, part_at, part_seen, bytes_by, start_by}
use Rattle.index.specs.Code.{offset_of, reach, Full, Inside}
use Rattle.index.specs.Index.{has}
use Rattle.index.proofs.IndexLaws.{entries_full, taken_le, past_count, to_place_by, between_inside, part_none, or_true, past}
use Rattle.index.proofs.OffsetLaws.{start_mono}
use Rattle.index.proofs.AfterLaws.{offset_after, bytes_after}

-- ---- what it answers

module _ (w : ℕ) (s : List ℕ) (n z i : ℕ) where
  pub seen_past : n ≤ i → refused 25 alone ≡ place_seen w s n z i
  unfolding place_seen
  seen_past h = rw (le-leb n i h)

  pub seen_unsized : z ≡ 0 → refused 25 alone ≡ place_seen w s n z i
  unfolding place_seen
  seen_unsized h = simp (eq-eqb z 0 h, or_true)

  pub seen_oversized : 4 < z → refused 25 alone ≡ place_seen w s n z i
  unfolding place_seen
  seen_oversized h = simp (lt-ltb 4 z h, or_true)

  pub seen_short : length s < data_start w n z → refused 25 alone ≡ place_seen w s n z i
  unfolding place_seen
  seen_short h = simp (lt-ltb (length s) (data_start w n z) h, or_true)

  pub seen_between : i < n → 0 < z → z ≤ 4 → data_start w n z ≤ length s
      → place_by i (record { entries = n; taken = length s }) (data_start w n z) (offset w s z i) (offset w s z (i + 1)) ≡ place_seen w s n z i
  unfolding place_seen
  seen_between h p k l =
      let z≢ : z ≡ 0 → ⊥ = λ e. omega arith in
      rw (lt-leb n i h, ne_eqb z 0 z≢, le-ltb 4 z k, le-ltb (length s) (data_start w n z) l)

  pub seen_inside : (y : Answer Place) → y ≡ place_seen w s n z i → Inside s y
  unfolding place_seen
  seen_inside (refused k v) e = tt
  seen_inside (accepted p) e =
      let g = past (leb n i || (eqb z 0 || (ltb 4 z || ltb (length s) (data_start w n z)))) 25 _ e in
      let x : Extent = record { entries = n; taken = length s } in
      between_inside i x (data_start w n z) (offset w s z i) (offset w s z (i + 1)) s (le_refl (length s)) (accepted p) g.1

-- ---- of an INDEX's own bytes

-- own is the bytes of an INDEX with n entries, and r what follows it
module _ (w : ℕ) (own r : List ℕ) (n i : ℕ) (h : i < n) (f : Full w (own ++ r) n) (t : length own ≡ reach w (own ++ r) n) where
  same_offset : (k : ℕ) → k ≤ n → offset w own (get_or (own ++ r) w 0) k ≡ offset_of w (own ++ r) k
  same_offset k l =
      let z = get_or (own ++ r) w 0 in sym (offset_after own r w z k (omega (arith, start_mono w {i = k} {n = n} z l)))

  same_place : place_seen w own n (get_or (own ++ r) w 0) i ≡ place w (own ++ r) i
  same_place =
      sym (seen_between w own n (get_or (own ++ r) w 0) i h f.head.size_pos f.head.size_le (omega arith))
      ∙ to_place_by w (own ++ r) i f (same_offset i (omega arith)) (same_offset (i + 1) (omega arith)) t

-- An INDEX that is read with n entries and t bytes, and whose size byte is z if it has entries: in its own bytes alone each entry lies
-- where the plain reader finds it.
module _ (w : ℕ) (s : List ℕ) (n t z i : ℕ) (e : has n t ≡ extent w s) (sized : 0 < n → z ≡ get_or s w 0) where
  -- in bytes l that start with the INDEX's own
  abbrev Same : List ℕ → Type 0
  Same l = Full w l n → length (take t s) ≡ reach w l n → place_seen w (take t s) n (get_or l w 0) i ≡ place w l i

  pub place_seen_lem : i < n → place_seen w (take t s) n z i ≡ place w s i
  place_seen_lem h =
      let f = entries_full w s n t e (omega arith) in
      let long : length (take t s) ≡ reach w s n = length-take-le t s (taken_le w s n t e) ∙ f.1 in
      ap (λ (k : ℕ). place_seen w (take t s) n k i) (sized (omega arith))
      ∙ subst Same (take-append-drop t s) (same_place w (take t s) (drop t s) n i h) f.0 long

  -- Each part is the plain reader's too; of a number past the entries it is empty, whichever way that is refused.
  pub part_seen_lem : (at : ℕ × ℕ) → part_seen w at (take t s) n z i ≡ part_at w at s i
  unfolding part_by
  part_seen_lem at = go (ltb i n) refl
    where
      go : (b : Bool) → ltb i n ≡ b → part_seen w at (take t s) n z i ≡ part_at w at s i
      go false b =
          let h = ltb-false i n b in
          ap (part_by at (take t s)) (sym (seen_past w (take t s) n z i h))
          ∙ sym (part_none at (take t s) 25 alone) ∙ part_none at s _ alone ∙ ap (part_by at s) (past_count w s i e h)
      go true b =
          let x = place_seen w (take t s) n z i in
          let after = bytes_after (take t s) (drop t s) x (seen_inside w (take t s) n z i x refl) in
          let kept = subst (λ (l : List ℕ). bytes_by l x ≡ bytes_by (take t s) x) (take-append-drop t s) after in
          ap (λ (l : List ℕ). record { at = start_by at x; bytes = l }) (sym kept)
          ∙ ap (λ (y : Answer Place). record { at = start_by at y; bytes = bytes_by s y }) (place_seen_lem (ltb-true i n b))

-- ---- the laws by which the functions of src are proved

pub ruleset seen_laws = (seen_past, seen_unsized, seen_oversized, seen_short, seen_between)
