-- A view of one INDEX (RULES, "INDEX"): its own bytes with its count and its offset size, and an entry found by these alone.
-- As in Index, the count has w bytes, and s is the bytes.
use Rattle.std.specs.Prelude.{ℕ, List, [], get_or, take}
use Rattle.number.specs.Answer.{Answer, accepted, refused}
use Rattle.index_view.specs.declared.View.{View}
use Rattle.index.specs.Index.{Extent, Part, extent, part_seen}

-- what a view holds: where its bytes start, the bytes, the count and the offset size
pub record Seen : Type 0 where
  pub at : ℕ × ℕ
  pub bytes : List ℕ
  pub count : ℕ
  pub size : ℕ

abbrev pub seen : View → Seen
seen v = record { at = v.bytes.ref_ptr; bytes = v.bytes.now; count = v.count; size = v.size }

-- ---- the view of lent bytes

-- The bytes are those that the INDEX takes; the size is 0 where they have no size byte. Of bytes that are no INDEX nothing is seen.
unfoldable pub view_by : ℕ → ℕ × ℕ → List ℕ → Answer Extent → Seen
view_by w at s (accepted x) =
    let own = take x.taken s in record { at = at; bytes = own; count = x.entries; size = get_or own w 0 }
view_by w at s (refused k v) = record { at = at; bytes = []; count = 0; size = 0 }

-- the view of the INDEX at the start of s, whose first byte stands at `at`
unfoldable pub view_of : ℕ → ℕ × ℕ → List ℕ → Seen
view_of w at s = view_by w at s (extent w s)

-- the bytes of entry i where they stand, by what a view holds
abbrev pub view_part : ℕ → Seen → ℕ → Part
view_part w v i = part_seen w v.at v.bytes v.count v.size i
