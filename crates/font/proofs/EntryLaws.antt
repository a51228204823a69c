-- What accepted glyphs in order say of each, the INDEX of strings read back, and what a run's flat string says of flattening it alone. Assumes nothing.
use Rattle.std.specs.Prelude.{◌≡◌, Bool, length, get_or, take}
use Rattle.std.proofs.Math.Path.{refl, ap, subst}
use Rattle.std.proofs.Common.{sym, ◌∙◌, add-zero, take_at}
use Rattle.std.proofs.Math.Bool.{true, false, cond}
use mathlib.Core.List.{List, [], ◌∷◌, ◌++◌}
use Prim.Native.Nat.{ℕ, zero, suc, ◌+◌, ◌*◌, ◌<◌, ◌≤◌, ◌^◌}
use native.Mathlib.Omega.{arith}
use Rattle.std.proofs.Math.Dec.{leb, ltb, eqb}
use Rattle.std.proofs.Math.ListN.{drop}
use Rattle.std.proofs.Math.Seq.{drop-append-add}
use borrow.Author.Tests.{ltb-false, leb-false, eqb-true}
use Rattle.number.specs.Answer.{Values, Answer, accepted, refused, alone, leaving, Ready, into}
use Rattle.number.proofs.AnswerLaws.{refused_accepted, accepted_same, mapped_refused, into_fits}
use Rattle.index.specs.Index.{extent, part}
use Rattle.index.specs.Index.{has}
use Rattle.index.specs.Formed.{formation}
use Rattle.index_writing.specs.Writing.{total, element, index_bytes, index_of}
use Rattle.index_writing.specs.Code.{Writable}
use Rattle.index_writing.proofs.RoundTripLaws.{read_written, part_written, formed_written}
use Rattle.reading.specs.Rules.{Rules}
use Rattle.reading.specs.Reading.{Run, original}
use Rattle.reading.specs.Answers.{Flattening, flat_of, flat_ready, judged, outcome, room_as_lent, flattening}
use Rattle.reading.proofs.AnswerLaws.{AcceptedBy, Judged, takes, turns_down, judged_so, judged_accepted, gate_open}
use Rattle.font.specs.Font.{bytes_in, flat_in, decided, all_from, lengths_of, joined_of}
use Rattle.font.specs.Demands.{Alone, IsFormed}

-- ---- the glyphs in order

-- fs are the strings of n glyphs from number i on
pub record Each (glyph : ℕ → Answer (List ℕ)) (i n : ℕ) (fs : List (List ℕ)) : Type 0 where
  pub many : length fs ≡ n
  pub is : (j : ℕ) → j < n → glyph (i + j) ≡ accepted (get_or fs j [])

module _ (glyph : ℕ → Answer (List ℕ)) where
  each_decided : (i n : ℕ) (x : Answer (List ℕ)) → glyph i ≡ x → (y : Answer (List (List ℕ)))
      → ((gs : List (List ℕ)) → y ≡ accepted gs → Each glyph (i + 1) n gs)
      → (fs : List (List ℕ)) → decided i x y ≡ accepted fs → Each glyph i (suc n) fs
  unfolding decided
  each_decided i n (refused k v) g y later fs e = refused_accepted e
  each_decided i n (accepted f) g (refused k v) later fs e = refused_accepted e
  each_decided i n (accepted f) g (accepted gs) later fs e =
      let rest = later gs refl in
      subst (Each glyph i (suc n)) (accepted_same e) (record { many = ap suc rest.many; is = at rest })
    where
      at : Each glyph (i + 1) n gs → (j : ℕ) → j < suc n → glyph (i + j) ≡ accepted (get_or (f ∷ gs) j [])
      at rest zero h = ap glyph (add-zero i) ∙ g
      at rest (suc j) h = let same : i + suc j ≡ i + 1 + j = omega arith in ap glyph same ∙ rest.is j (omega arith)

  -- accepted together, each is accepted
  pub each : (i n : ℕ) (fs : List (List ℕ)) → all_from glyph i n ≡ accepted fs → Each glyph i n fs
  unfolding all_from
  each i zero fs e = subst (Each glyph i zero) (accepted_same e) (record { many = refl; is = λ j h. absurd (omega arith) })
  each i (suc n) fs e = each_decided i n (glyph i) refl (all_from glyph (i + 1) n) (each (i + 1) n) fs e

-- ---- the INDEX of strings

pub count_lengths : (fs : List (List ℕ)) → length (lengths_of fs) ≡ length fs
unfolding lengths_of
count_lengths [] = refl
count_lengths (f ∷ fs) = ap suc (count_lengths fs)

-- string i of those joined
element_is : (fs : List (List ℕ)) (i : ℕ) → i < length fs → element (lengths_of fs) (joined_of fs) i ≡ get_or fs i []
unfolding element lengths_of joined_of total
element_is [] i h = absurd (omega arith)
element_is (f ∷ fs) zero h = take_at f (joined_of fs) (length f) refl
element_is (f ∷ fs) (suc i) h =
    ap (take (get_or (lengths_of fs) i 0)) (drop-append-add f (joined_of fs) (total (take i (lengths_of fs)))) ∙ element_is fs i (omega arith)

-- b is an INDEX of the strings, whatever stands behind it
pub record Holds (w : ℕ) (fs : List (List ℕ)) (b : List ℕ) : Type 0 where
  pub read : (rest : List ℕ) → extent w (b ++ rest) ≡ has (length fs) (length b)
  pub formed : (rest : List ℕ) → formation w (b ++ rest) ≡ accepted (length fs)
  pub entry : (rest : List ℕ) (i : ℕ) → i < length fs → part w (b ++ rest) i ≡ get_or fs i []

module _ (w : ℕ) (fs : List (List ℕ)) (b : List ℕ) where
  abbrev ls : List ℕ
  ls = lengths_of fs

  abbrev joined : List ℕ
  joined = joined_of fs

  written_holds : Writable w ls joined → Holds w fs (index_bytes w ls joined)
  written_holds can =
      let many = count_lengths fs in
      let bytes = index_bytes w ls joined in
      record {
        read = λ rest. sym (read_written w ls joined can rest) ∙ ap (λ (n : ℕ). has n (length bytes)) many;
        formed = λ rest. sym (formed_written w ls joined can rest) ∙ ap accepted many;
        entry = λ rest i h. part_written w ls joined can rest i (omega arith) ∙ element_is fs i h;
      }

  pub index_holds : index_of w ls joined ≡ accepted b → Holds w fs b
  unfolding index_of
  index_holds e = go (leb (2 ^ (8 * w)) (length ls)) refl (ltb 4294967295 (total ls + 1)) refl (eqb (total ls) (length joined)) refl e
    where
      go : (many : Bool) → leb (2 ^ (8 * w)) (length ls) ≡ many → (big : Bool) → ltb 4294967295 (total ls + 1) ≡ big
          → (adds : Bool) → eqb (total ls) (length joined) ≡ adds
          → cond many (refused 22 alone) (cond big (refused 23 alone) (cond adds (accepted (index_bytes w ls joined)) (refused 24 alone))) ≡ accepted b
          → Holds w fs b
      go true p big q adds r e = refused_accepted e
      go false p true q adds r e = refused_accepted e
      go false p false q false r e = refused_accepted e
      go false p false q true r e =
          let few = leb-false (2 ^ (8 * w)) (length ls) p in
          subst (Holds w fs) (accepted_same e)
          (written_holds (record { few = few; short = ltb-false 4294967295 (total ls + 1) q; adds = eqb-true (total ls) (length joined) r }))

-- ---- a run, and its flat string

-- A run that gave the string f by the rules.
pub record Gave (rules : Rules) (r : Run) (f : List ℕ) : Type 0 where
  pub accepted_by : AcceptedBy rules r.how
  pub is : flat_of r ≡ f

module _ (rules : Rules) (r : Run) where
  pub flat_accepted : AcceptedBy rules r.how → flat_in rules r ≡ accepted (flat_of r)
  unfolding flat_in
  flat_accepted a = ap bytes_in (judged_accepted rules r a)

  pub gave : (f : List ℕ) → flat_in rules r ≡ accepted f → Gave rules r f
  unfolding flat_in
  gave f e = go (judged rules r) (judged_so rules r) e
    where
      go : (y : Answer (Ready Flattening)) → Judged rules r y → bytes_in y ≡ accepted f → Gave rules r f
      go y (takes a) e = record { accepted_by = a; is = accepted_same e }
      go y (turns_down k b) e = refused_accepted e

  -- it goes into any room that takes it
  gave_outcome : (f : List ℕ) → Gave rules r f → (room : List ℕ) → length (flat_of r) ≤ length room
      → outcome rules room r ≡ leaving (accepted (flat_ready r).told) (f ++ drop (length (flat_of r)) room)
  unfolding outcome
  gave_outcome f g room h =
      ap (into room) (judged_accepted rules r g.accepted_by) ∙ into_fits room (flat_ready r) h
      ∙ ap (λ (x : List ℕ). leaving (accepted (flat_ready r).told) (x ++ drop (length (flat_of r)) room)) g.is

  -- and a refusal is the same in any room
  refused_outcome : (k : ℕ) (v : Values) → flat_in rules r ≡ refused k v → (room : List ℕ) → outcome rules room r ≡ leaving (refused k v) room
  unfolding outcome flat_in into
  refused_outcome k v e room = ap (into room) (mapped_refused (λ (x : Ready Flattening). x.bytes) (judged rules r) k v e)

-- ---- flattening it alone, with two lists that are well formed

module _ (rules : Rules) (globals locals : List ℕ) (g : IsFormed rules globals) (l : IsFormed rules locals) (budget : ℕ) (cs : List ℕ) where
  abbrev run : Run
  run = original rules cs globals locals budget

  run_decides : (room : List ℕ) → flattening rules cs globals locals budget room ≡ outcome rules room run
  unfolding flattening
  run_decides room =
      gate_open (room_as_lent room) 1 (formation rules.width globals) g.0 g.1 _
      ∙ gate_open (room_as_lent room) 2 (formation rules.width locals) l.0 l.1 _

  pub alone_gives : (f : List ℕ) → flat_in rules run ≡ accepted f → Alone rules cs globals locals budget f
  alone_gives f e = record { x = (flat_ready run).told; gives = λ room h. run_decides room ∙ gave_outcome rules run f (gave rules run f e) room h }

  pub alone_refused : (k : ℕ) (v : Values) → flat_in rules run ≡ refused k v → (room : List ℕ)
      → flattening rules cs globals locals budget room ≡ leaving (refused k v) room
  alone_refused k v e room = run_decides room ∙ refused_outcome rules run k v e room
