-- The laws of a view: what it is made of, and that an entry by the view of any bytes is the plain reader's. Assumes nothing.
use Rattle.std.specs.Prelude.{◌≡◌, Err, ℕ, ◌<◌, ◌≤◌, length}
use Rattle.std.proofs.Math.Path.{refl, sym, ap}
use Rattle.std.proofs.Common.{◌∙◌, arith, length-take-le, get_or-take}
use mathlib.Core.List.{List, []}
use Rattle.std.proofs.Math.ListN.{get_or, take, get_or-eq_default}
use Rattle.number.specs.Answer.{Answer, accepted, refused, alone}
use Rattle.index.specs.Index.{Extent, extent, index_read, place, place_in, part_by, part_at}
use Rattle.index.specs.Index.{has}
use Rattle.index.specs.declared.read.IndexError.{IndexError}
use Rattle.index.specs.declared.read.IndexError.TheVariants.{Lacking, BadSize}
use Rattle.index.proofs.IndexLaws.{entries_full, part_none, taken_le}
use Rattle.index.proofs.OffsetLaws.{start_is}
use Rattle.index.proofs.SeenLaws.{seen_past, part_seen_lem}
use Rattle.index_view.specs.Code.{Head, head_by, head_of}
use Rattle.index_view.specs.View.{view_by, view_of, view_part}

-- ---- what a view is made of

module _ (w : ℕ) (s : List ℕ) where
  -- the size byte of an INDEX's own bytes, and none
  pub own_size : {t : ℕ} → w < t → get_or s w 0 ≡ get_or (take t s) w 0
  own_size {t} h = sym (get_or-take t s w 0 h)

  pub own_unsized : {t : ℕ} → t ≤ length s → t ≤ w → 0 ≡ get_or (take t s) w 0
  own_unsized {t} h k = sym (get_or-eq_default (take t s) 0 (omega (arith, length-take-le t s h)))

  -- an INDEX that is read, and one that is not
  pub view_read : (at : ℕ × ℕ) (n t z : ℕ) → has n t ≡ extent w s → z ≡ get_or (take t s) w 0
      → record { at = at; bytes = take t s; count = n; size = z } ≡ view_of w at s
  unfolding view_of view_by
  view_read at n t z e k = rw (← e, k)

  pub view_refused : (at : ℕ × ℕ) (e : IndexError) → index_read (Err e) ≡ extent w s
      → record { at = at; bytes = []; count = 0; size = 0 } ≡ view_of w at s
  unfolding view_of view_by
  view_refused at Lacking e = rw (← e)
  view_refused at BadSize e = rw (← e)

  -- what an INDEX takes is there
  pub taken_there : (n t : ℕ) → has n t ≡ extent w s → t ≡ length (take t s)
  taken_there n t e = sym (length-take-le t s (taken_le w s n t e))

-- ---- the same in two steps, by what it is made of

module _ (w : ℕ) (s : List ℕ) where
  pub head_read : {n t z : ℕ} → has n t ≡ extent w s → z ≡ get_or (take t s) w 0 → record { taken = t; count = n; size = z } ≡ head_of w s
  unfolding head_of head_by
  head_read e k = rw (← e, k)

  pub head_refused : (k : ℕ) → refused k alone ≡ extent w s → record { taken = 0; count = 0; size = 0 } ≡ head_of w s
  unfolding head_of head_by
  head_refused k e = rw (← e)

  pub view_made : (at p : ℕ × ℕ) (l : List ℕ) (h : Head) → h ≡ head_of w s → p ≡ at → l ≡ take h.taken s
      → record { at = p; bytes = l; count = h.count; size = h.size } ≡ view_of w at s
  unfolding head_of head_by view_of view_by
  view_made at p l h e q k = rw (q, k, e) (go (extent w s))
    where
      go : (x : Answer Extent)
          → record { at = at; bytes = take (head_by w s x).taken s; count = (head_by w s x).count; size = (head_by w s x).size } ≡ view_by w at s x
      go (accepted x) = refl
      go (refused k v) = refl

-- ---- the view of any bytes

-- an entry by the view of any bytes is the plain reader's
module _ (w : ℕ) (at : ℕ × ℕ) (s : List ℕ) (i : ℕ) where
  by_extent : (x : Answer Extent) → x ≡ extent w s → view_part w (view_by w at s x) i ≡ part_at w at s i
  unfolding view_by place place_in
  by_extent (refused k v) e =
      let y : refused k v ≡ place w s i = rw (← e) in
      ap (part_by at []) (sym (seen_past w [] 0 0 i (omega arith))) ∙ sym (part_none at [] 25 alone) ∙ part_none at s k v ∙ ap (part_by at s) y
  by_extent (accepted x) e = part_seen_lem w s x.entries x.taken (get_or (take x.taken s) w 0) i e sized at
    where
      sized : 0 < x.entries → get_or (take x.taken s) w 0 ≡ get_or s w 0
      sized h =
          let f = entries_full w s x.entries x.taken e h in
          sym (own_size w s {t = x.taken} (omega (arith, f.0.head.offsets, f.1, start_is w x.entries (get_or s w 0))))

  pub view_is_reader : view_part w (view_of w at s) i ≡ part_at w at s i
  unfolding view_of
  view_is_reader = by_extent (extent w s) refl
