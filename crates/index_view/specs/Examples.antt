-- Views of the INDEXes of RULES, "INDEX", and of those at their edges, by the definitions. Assumes nothing.
use Rattle.std.specs.Prelude.{◌≡◌, refl, List, [], ◌∷◌, ℕ}
use Rattle.number.specs.BigEndian.{be_at}
use Rattle.index.specs.Index.{offset, by_last, by_size, by_count, extent, place_by, place_seen, bytes_by, start_by, part_by}
use Rattle.index.specs.Examples.{two, none}
use Rattle.index_view.specs.View.{Seen, view_by, view_of, view_part}

-- the views of lent bytes that start at (1, 8): with a byte behind the INDEX; emptied; of two bytes; of none
abbrev view : List ℕ → ℕ → ℕ → Seen
view bytes count size = record { at = (1, 8); bytes = bytes; count = count; size = size }

pub views :
    (view_of 2 (1, 8) (0 ∷ 1 ∷ 1 ∷ 1 ∷ 2 ∷ 0x0B ∷ 7 ∷ []) ≡ view (0 ∷ 1 ∷ 1 ∷ 1 ∷ 2 ∷ 0x0B ∷ []) 1 1)
    × (view_of 2 (1, 8) none ≡ view none 0 1)
    × (view_of 2 (1, 8) (0 ∷ 0 ∷ 7 ∷ []) ≡ view (0 ∷ 0 ∷ []) 0 0)
    × (view_of 2 (1, 8) (0 ∷ 1 ∷ 5 ∷ []) ≡ view [] 0 0)
unfolding view_of view_by extent by_count by_size by_last offset be_at
views = (refl, refl, refl, refl)

-- an entry by a view that `two` has, and by views that no bytes have
pub seen :
    (view_part 2 (view two 2 1) 0 ≡ record { at = (1, 14); bytes = 0x0E ∷ [] })
    × (view_part 2 (view two 2 5) 0 ≡ record { at = (1, 8); bytes = [] })
    × (view_part 2 (view two 9 1) 0 ≡ record { at = (1, 8); bytes = [] })
unfolding place_seen part_by start_by bytes_by place_by offset be_at
seen = (refl, refl, refl)
