-- Bytes after an INDEX are ignored: what is read of s is read of s with any bytes r behind it. Assumes nothing.
use Rattle.std.specs.Prelude.{◌≡◌, Bool, true, false, cond, List, ◌++◌, eqb, ltb, length, get_or, drop}
use Rattle.std.proofs.Math.Path.{refl, ap}
use Rattle.std.proofs.Common.{sym, ◌∙◌, le_refl, arith, length-append, ltb-true, ltb-false}
use Prim.Native.Nat.{ℕ, zero, suc, ◌+◌, ◌*◌, ◌<◌, ◌≤◌}
use Rattle.std.proofs.Math.ListN.{length-drop, get_or-append}
use Rattle.std.proofs.Math.Seq.{take-append-le}
use Rattle.std.proofs.lemmas.List.{drop-append-le}
use Rattle.number.specs.Answer.{Answer, accepted, refused, alone}
use Rattle.number.specs.BigEndian.{be_at}
use Rattle.index.specs.Index.{Place, data_start, offset, extent, place_in, place, bytes_by, part}
use Rattle.index.specs.Formed.{entries_from, formed_by, formation}
use Rattle.index.proofs.OffsetLaws.{start_is, start_mono}
use Rattle.index.specs.Code.{offset_of, Headed, reach, Full, Inside}
use Rattle.index.specs.Index.{has}
use Rattle.index.proofs.IndexLaws.{Shape, none, emptied, full, shape, entries_full, size_there, count_zero, last_zero, full_read}
use Rattle.index.proofs.IndexLaws.{past_count, count_there, place_inside}

module _ (s r : List ℕ) where
  be_after : (at k : ℕ) → at + k ≤ length s → be_at (s ++ r) at k ≡ be_at s at k
  unfolding be_at
  be_after at zero h = refl
  be_after at (suc k) h = rw (be_after at k (omega arith), get_or-append s r 0 (at + k) (omega arith))

  longer : length s ≤ length (s ++ r)
  longer = omega (arith, length-append s r)

  -- the bytes of an entry that lies in s
  pub bytes_after : (x : Answer Place) → Inside s x → bytes_by (s ++ r) x ≡ bytes_by s x
  unfolding bytes_by
  bytes_after (refused k v) h = refl
  bytes_after (accepted p) h =
      rw (drop-append-le p.start s r (omega arith), take-append-le p.size (drop p.start s) r (simp length-drop (omega arith)))

  module _ (w : ℕ) where
    pub offset_after : (z i : ℕ) → data_start w i z ≤ length s → offset w (s ++ r) z i ≡ offset w s z i
    unfolding offset
    offset_after z i h = be_after (w + 1 + i * z) z (omega (arith, start_is w i z))

    module _ {n : ℕ} (h : Headed w s n) where
      size_after : get_or (s ++ r) w 0 ≡ get_or s w 0
      size_after = let k = size_there h in get_or-append s r 0 w (omega arith)

      -- an offset that is there, by the size byte that is there
      at_after : (i : ℕ) → i ≤ n → offset_of w (s ++ r) i ≡ offset_of w s i
      at_after i k = rw size_after (offset_after (get_or s w 0) i (omega (arith, h.offsets, start_mono w {i = i} {n = n} (get_or s w 0) k)))

      headed_after : Headed w (s ++ r) n
      headed_after =
          let k = size_there h in
          let l = longer in
          record {
            count = h.count ∙ sym (be_after 0 w (omega arith));
            some = h.some;
            size_pos = rw size_after h.size_pos;
            size_le = rw size_after h.size_le;
            offsets = rw size_after (omega (arith, h.offsets));
          }

    module _ {n : ℕ} (f : Full w s n) where
      reach_after : reach w (s ++ r) n ≡ reach w s n
      reach_after = rw (at_after f.head n (le_refl n), size_after f.head)

      full_after : Full w (s ++ r) n
      full_after =
          let l = longer in
          let k : reach w s n ≤ length (s ++ r) = omega arith in
          record {
            head = headed_after f.head;
            last_pos = rw (at_after f.head n (le_refl n)) f.last_pos;
            inside = rw reach_after k;
          }

    module _ {n t : ℕ} (e : has n t ≡ extent w s) where
      pub read_after : has n t ≡ extent w (s ++ r)
      read_after = go (shape w s n t e)
        where
          go : Shape w s n t → has n t ≡ extent w (s ++ r)
          go (none h c en et) =
              let l = longer in
              rw (en, et) (count_zero w (s ++ r) (sym c ∙ sym (be_after 0 w (omega arith))) (omega arith) refl)
          go (emptied {m} h l en et) =
              rw (en, et, ← size_after h) (last_zero w (s ++ r) (headed_after h) (at_after h m (le_refl m) ∙ l))
          go (full f et) = full_read w (s ++ r) (full_after f) (et ∙ sym (reach_after f))

      count_after : be_at (s ++ r) 0 w ≡ be_at s 0 w
      count_after = let h = count_there w s n t e in be_after 0 w (omega arith)

      below : (i : ℕ) → i < n → Full w s n → place w (s ++ r) i ≡ place w s i
      unfolding place place_in
      below i h f =
          rw (← read_after, ← e, count_after, at_after f.head i (omega arith), at_after f.head (i + 1) (omega arith), size_after f.head)

      pub place_after : (i : ℕ) → place w (s ++ r) i ≡ place w s i
      place_after i = go (ltb i n) refl
        where
          go : (b : Bool) → ltb i n ≡ b → place w (s ++ r) i ≡ place w s i
          go false b =
              let h = ltb-false i n b in
              sym (past_count w (s ++ r) i read_after h)
              ∙ ap (λ (m : ℕ). refused (cond (eqb n m) 25 40) alone) count_after ∙ past_count w s i e h
          go true b = below i (ltb-true i n b) (entries_full w s n t e (omega (arith, ltb-true i n b))).0

      pub part_after : (i : ℕ) → part w (s ++ r) i ≡ part w s i
      unfolding part
      part_after i = ap (bytes_by (s ++ r)) (place_after i) ∙ bytes_after (place w s i) (place_inside w s i (place w s i) refl)

      entries_after : (i k : ℕ) → entries_from w (s ++ r) i k ≡ entries_from w s i k
      unfolding entries_from
      entries_after i zero = refl
      entries_after i (suc k) = rw (place_after i, entries_after (i + 1) k)

      pub formation_after : formation w (s ++ r) ≡ formation w s
      unfolding formation formed_by
      formation_after = rw (← read_after, ← e, count_after, entries_after 0 (be_at s 0 w))
