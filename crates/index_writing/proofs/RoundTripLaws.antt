-- What is written is well formed, and reads back as the same elements with nothing left over, whatever stands behind it. Assumes nothing.
use Rattle.std.specs.Prelude.{◌≡◌, Bool, ℕ, zero, suc, ◌+◌, ◌*◌, ◌<◌, ◌≤◌, ◌^◌, get_or}
use Rattle.std.proofs.Math.Path.{refl, sym, ap}
use Rattle.std.proofs.Common.{◌∙◌, add-one, le_refl, zero-mul, add-zero, length-append, length-drop}
use Rattle.std.proofs.Math.Bool.{true, false, cond}
use mathlib.Core.List.{List, [], ◌∷◌, ◌++◌, append_assoc}
use native.Mathlib.Omega.{arith}
use Rattle.std.proofs.Math.Dec.{leb, ltb, eqb}
use Rattle.std.proofs.Math.ListN.{length, take, drop}
use Rattle.std.proofs.Math.Seq.{length-take-le, take-length, drop-append-add}
use Rattle.std.proofs.lemmas.List.{get_or_at}
use borrow.Author.Tests.{leb-true, leb-false, ltb-false, eqb-true, eqb-false}
use Rattle.number.specs.Answer.{Answer, accepted, refused, alone, needing, mapped, Outcome, sized, into}
use Rattle.number.specs.BigEndian.{be_at, bytes_of}
use Rattle.number.proofs.BigEndianLaws.{length_bytes, be_bytes}
use Rattle.index.specs.Index.{data_start, offset, extent, place, part}
use Rattle.index.specs.Code.{Headed, reach, Full}
use Rattle.index.specs.Index.{has, lies}
use Rattle.index.proofs.IndexLaws.{not_refused, Held, full_read, held_place, part_is, count_zero}
use Rattle.index.proofs.OffsetLaws.{start_is}
use Rattle.index.specs.Formed.{formation}
use Rattle.index.proofs.FormedLaws.{formed_yes}
use Rattle.index.proofs.AfterLaws.{read_after, part_after, formation_after}
use Rattle.index_writing.specs.Writing.{total, element, size_for, offsets, index_bytes, index_of, write_index}
use Rattle.index_writing.specs.Code.{Writable}
use Rattle.index_writing.specs.Writing.{wrote}
use Rattle.index_writing.proofs.WritingLaws.{size_holds, length_offsets, reach_none, index_some, length_some, length_index}

-- ---- the lengths before an element

total_suc : (ls : List ℕ) (i : ℕ) → i < length ls → total (take (suc i) ls) ≡ total (take i ls) + get_or ls i 0
unfolding total
total_suc [] i h = absurd (omega arith)
total_suc (l ∷ ls) zero h = omega arith
total_suc (l ∷ ls) (suc i) h = omega (arith, total_suc ls i (omega arith))

total_take : (ls : List ℕ) (i : ℕ) → i < length ls → total (take (i + 1) ls) ≡ total (take i ls) + get_or ls i 0
total_take ls i h = rw (add-one i) (total_suc ls i h)

total_le : (ls : List ℕ) (i : ℕ) → total (take i ls) ≤ total ls
unfolding total
total_le [] zero = omega arith
total_le [] (suc i) = omega arith
total_le (l ∷ ls) zero = omega arith
total_le (l ∷ ls) (suc i) = omega (arith, total_le ls i)

-- ---- the offsets

be_offsets : (z a : ℕ) (ls p tail : List ℕ) (i : ℕ) → i ≤ length ls → a + total ls < 2 ^ (8 * z)
    → be_at (p ++ (offsets z a ls ++ tail)) (length p + i * z) z ≡ a + total (take i ls)
unfolding offsets total
be_offsets z a [] p tail zero h k = rw (zero-mul z, add-zero (length p)) (be_bytes z a p tail (omega arith) ∙ omega arith)
be_offsets z a [] p tail (suc i) h k = absurd (omega arith)
be_offsets z a (l ∷ ls) p tail zero h k =
    rw (zero-mul z, add-zero (length p), append_assoc (bytes_of z a) (offsets z (a + l) ls) tail)
    (be_bytes z a p (offsets z (a + l) ls ++ tail) (omega arith) ∙ omega arith)
be_offsets z a (l ∷ ls) p tail (suc i) h k =
    let q = p ++ bytes_of z a in
    let joins : q ++ (offsets z (a + l) ls ++ tail) ≡ p ++ ((bytes_of z a ++ offsets z (a + l) ls) ++ tail) = simp append_assoc in
    let long : length q ≡ length p + z = length-append p (bytes_of z a) ∙ ap (λ (n : ℕ). length p + n) (length_bytes z a) in
    let at : length q + i * z ≡ length p + suc i * z = omega (arith, start_is 0 i z) in
    let back = be_offsets z (a + l) ls q tail i (omega arith) (omega arith) in
    ap (λ (x : List ℕ). be_at x (length p + suc i * z) z) (sym joins)
    ∙ ap (λ (n : ℕ). be_at (q ++ (offsets z (a + l) ls ++ tail)) n z) (sym at)
    ∙ back
    ∙ omega arith

-- ---- an INDEX with elements

module _ (w : ℕ) (ls joined : List ℕ) where
  abbrev size : ℕ
  size = size_for (total ls + 1)

  abbrev count : List ℕ
  count = bytes_of w (length ls)

  abbrev s : List ℕ
  s = count ++ (size ∷ (offsets size 1 ls ++ joined))

  size_back : get_or s w 0 ≡ size
  size_back = get_or_at count size (offsets size 1 ls ++ joined) 0 w (length_bytes w (length ls))

  start_back : data_start w (length ls) (get_or s w 0) ≡ data_start w (length ls) size
  start_back = ap (data_start w (length ls)) size_back

  -- the data start behind the offsets
  data_back : (k : ℕ) → drop (data_start w (length ls) size + k) s ≡ drop k joined
  data_back k =
      let head = count ++ (size ∷ offsets size 1 ls) in
      let split : s ≡ head ++ joined = simp append_assoc in
      let long : data_start w (length ls) size ≡ length head =
      rw (length-append count (size ∷ offsets size 1 ls), length_bytes w (length ls), length_offsets size 1 ls) (omega arith) in
      rw (split, long) (drop-append-add head joined k)

  module _ (can : Writable w ls joined) where
    offset_back : (i : ℕ) → i ≤ length ls → offset w s (get_or s w 0) i ≡ 1 + total (take i ls)
    unfolding offset
    offset_back i h =
        let head = count ++ (size ∷ []) in
        let split : s ≡ head ++ (offsets size 1 ls ++ joined) = simp append_assoc in
        let long : w + 1 ≡ length head = rw (length-append count (size ∷ []), length_bytes w (length ls)) in
        let holds = (size_holds (total ls + 1) can.short).holds in
        rw (size_back, split, long) (be_offsets size 1 ls head joined i h (omega arith))

    -- the last offset says where the data end
    reach_back : data_start w (length ls) size + length joined ≡ reach w s (length ls)
    reach_back = omega (arith, offset_back (length ls) (le_refl (length ls)), ap total (take-length ls), start_back, can.adds)

    module _ (some : 0 < length ls) where
      full_back : Full w s (length ls)
      full_back =
          let holds = size_holds (total ls + 1) can.short in
          let long = length_some w ls joined in
          let head : Headed w s (length ls) = record {
            count = sym (be_bytes w (length ls) [] (size ∷ (offsets size 1 ls ++ joined)) can.few);
            some = some;
            size_pos = rw size_back holds.some;
            size_le = rw size_back holds.four;
            offsets = omega (arith, start_back);
          } in
          record { head = head; last_pos = omega (arith, offset_back (length ls) (le_refl (length ls))); inside = omega (arith, reach_back) }

      held_back : (i : ℕ) → i < length ls → Held w s i (length ls) (data_start w (length ls) size + total (take i ls)) (get_or ls i 0)
      held_back i h =
          let a = offset_back i (omega arith) in
          let b = offset_back (i + 1) (omega arith) in
          let e = total_take ls i h in
          record {
            full = full_back;
            below = h;
            first_pos = omega arith;
            order = omega arith;
            within = omega (arith, reach_back, total_le ls (i + 1), start_back, can.adds);
            at = omega (arith, start_back);
            long = omega arith;
          }

-- ---- what is written, with any bytes behind it

module _ (w : ℕ) (ls joined : List ℕ) (can : Writable w ls joined) where
  abbrev bytes : List ℕ
  bytes = index_bytes w ls joined

  count_back : be_at bytes 0 w ≡ length ls
  unfolding index_bytes
  count_back = be_bytes w (length ls) [] _ can.few

  read_back : has (length ls) (length bytes) ≡ extent w bytes
  read_back = go (eqb (length ls) 0) refl
    where
      go : (t : Bool) → eqb (length ls) 0 ≡ t → has (length ls) (length bytes) ≡ extent w bytes
      go true e =
          let none = eqb-true (length ls) 0 e in
          let long : length bytes ≡ w = length_index w ls joined ∙ sym (reach_none w (length ls) _ (length joined) none) in
          rw (none, long) (count_zero w bytes (sym count_back) (omega arith) none)
      go false e =
          let some : length ls ≡ 0 → ⊥ = eqb-false (length ls) 0 e in
          rw (← index_some w ls joined some, length_some w ls joined)
          (full_read w (s w ls joined) (full_back w ls joined can (omega arith)) (reach_back w ls joined can))

  module _ (i : ℕ) (h : i < length ls) where
    abbrev at : ℕ
    at = data_start w (length ls) (size w ls joined) + total (take i ls)

    place_back : lies at (get_or ls i 0) ≡ place w bytes i
    place_back =
        let some : length ls ≡ 0 → ⊥ = λ e. omega arith in
        rw (← index_some w ls joined some) (held_place w (s w ls joined) i at (get_or ls i 0) (held_back w ls joined can (omega arith) i h))

    part_back : part w bytes i ≡ element ls joined i
    unfolding element
    part_back =
        let some : length ls ≡ 0 → ⊥ = λ e. omega arith in
        sym (part_is w bytes i at (get_or ls i 0) place_back)
        ∙ ap (λ (l : List ℕ). take (get_or ls i 0) (drop at l)) (sym (index_some w ls joined some))
        ∙ ap (take (get_or ls i 0)) (data_back w ls joined (total (take i ls)))

  pub element_length : (i : ℕ) → i < length ls → length (element ls joined i) ≡ get_or ls i 0
  unfolding element
  element_length i h =
      let upto = total_le ls (i + 1) in
      let next = total_take ls i h in
      length-take-le (get_or ls i 0) (drop (total (take i ls)) joined) (rw (length-drop (total (take i ls)) joined) (omega (arith, can.adds)))

  module _ (rest : List ℕ) where
    -- as many entries as there are elements, and not a byte more is taken
    pub read_written : has (length ls) (length bytes) ≡ extent w (bytes ++ rest)
    read_written = read_after bytes rest w read_back

    -- each entry is the element
    pub part_written : (i : ℕ) → i < length ls → part w (bytes ++ rest) i ≡ element ls joined i
    part_written i h = part_after bytes rest w read_back i ∙ part_back i h

    pub formed_written : accepted (length ls) ≡ formation w (bytes ++ rest)
    formed_written =
        formed_yes w bytes (record { taken = length bytes; read = read_back; count = sym count_back; entry = λ i h. (_, place_back i h) })
        ∙ sym (formation_after bytes rest w read_back)

-- ---- what an accepted write says

-- The elements can be written, and the room holds their bytes and what it held behind them.
pub record Written (w : ℕ) (ls joined out : List ℕ) (n : ℕ) (l : List ℕ) : Type 0 where
  pub can : Writable w ls joined
  pub long : n ≡ length (index_bytes w ls joined)
  pub fits : n ≤ length out
  pub left : l ≡ index_bytes w ls joined ++ drop n out

-- What is left reads as n bytes of INDEX whose entries are the elements.
pub record Back (w : ℕ) (ls joined : List ℕ) (n : ℕ) (l : List ℕ) : Type 0 where
  pub read : has (length ls) n ≡ extent w l
  pub parts : (i : ℕ) → i < length ls → part w l i ≡ element ls joined i
  pub formed : accepted (length ls) ≡ formation w l

module _ (w : ℕ) (ls joined : List ℕ) where
  index_accepted : (b : List ℕ) → accepted b ≡ index_of w ls joined → Writable w ls joined × (b ≡ index_bytes w ls joined)
  unfolding index_of
  index_accepted b e = go (leb (2 ^ (8 * w)) (length ls)) refl (ltb 4294967295 (total ls + 1)) refl (eqb (total ls) (length joined)) refl e
    where
      go : (many : Bool) → leb (2 ^ (8 * w)) (length ls) ≡ many → (big : Bool) → ltb 4294967295 (total ls + 1) ≡ big
          → (adds : Bool) → eqb (total ls) (length joined) ≡ adds
          → accepted b ≡ cond many (refused 22 alone) (cond big (refused 23 alone) (cond adds (accepted (index_bytes w ls joined)) (refused 24 alone)))
          → Writable w ls joined × (b ≡ index_bytes w ls joined)
      go true p big q adds r e = absurd (not_refused e)
      go false p true q adds r e = absurd (not_refused e)
      go false p false q false r e = absurd (not_refused e)
      go false p false q true r e =
          let few = leb-false (2 ^ (8 * w)) (length ls) p in
          (record { few = few; short = ltb-false 4294967295 (total ls + 1) q; adds = eqb-true (total ls) (length joined) r }, cc)

  module _ (out : List ℕ) (n : ℕ) (l : List ℕ) (e : wrote (accepted n) l ≡ write_index w ls joined out) where
    pub write_accepted : Written w ls joined out n l
    unfolding write_index into
    write_accepted = by_index (index_of w ls joined) refl e
      where
        by_room : (b : List ℕ) → accepted b ≡ index_of w ls joined → (t : Bool) → leb (length b) (length out) ≡ t
            → wrote (accepted n) l ≡ cond t (wrote (accepted (length b)) (b ++ drop (length b) out)) (wrote (refused 13 (needing (length b))) out)
            → Written w ls joined out n l
        by_room b i false h e = absurd (not_refused (ap (λ (o : Outcome (Answer ℕ)). o.answer) e))
        by_room b i true h e =
            let x = index_accepted b i in
            let answer : accepted n ≡ accepted (length b) = ap (λ (o : Outcome (Answer ℕ)). o.answer) e in
            let so_long : n ≡ length b = cc in
            let so_left : l ≡ b ++ drop (length b) out = ap (λ (o : Outcome (Answer ℕ)). o.left) e in
            record {
              can = x.0;
              long = so_long ∙ ap length x.1;
              fits = omega (arith, leb-true (length b) (length out) h);
              left = rw (so_left, so_long, ← x.1);
            }

        by_index : (x : Answer (List ℕ)) → x ≡ index_of w ls joined → wrote (accepted n) l ≡ into out (mapped sized x) → Written w ls joined out n l
        by_index (refused k v) i e = absurd (not_refused (ap (λ (o : Outcome (Answer ℕ)). o.answer) e))
        by_index (accepted b) i e = by_room b i (leb (length b) (length out)) refl e

    -- what is written is well formed and reads back
    pub write_back : Back w ls joined n l
    write_back =
        let x = write_accepted in
        let rest = drop (length (index_bytes w ls joined)) out in
        rw (x.left, x.long)
        (record {
          read = read_written w ls joined x.can rest;
          parts = part_written w ls joined x.can rest;
          formed = formed_written w ls joined x.can rest;
        })
