-- The demands of glyphs of a font, proved over any choice of them: each theorem has the type that Demands.antt states. Assumes nothing.
use Rattle.std.specs.Prelude.{◌≡◌, true, false, cond, List, [], ◌++◌, length, get_or, take, drop, replicate}
use Rattle.std.proofs.Math.Path.{refl, sym, ap}
use Rattle.std.proofs.Common.{subst, ◌∙◌, append-nil, zero-add, arith, take_at, leb-true, leb-false}
use Rattle.std.proofs.Math.Bool.{Bool}
use Prim.Native.Nat.{ℕ, ◌+◌, ◌*◌, ◌<◌, ◌≤◌, ◌^◌}
use Rattle.std.proofs.Math.Dec.{leb}
use Rattle.std.proofs.lemmas.List.{length-replicate}
use Rattle.number.specs.Answer.{Answer, accepted, refused, alone, mapped, leaving, Ready, sized, into}
use Rattle.number.proofs.AnswerLaws.{refused_accepted, accepted_same, answer_as, into_accepted, into_fits}
use Rattle.index.specs.Index.{extent, part}
use Rattle.index.specs.Index.{has}
use Rattle.index.specs.Formed.{formation}
use Rattle.index_writing.specs.Writing.{index_of}
use Rattle.reading.specs.Rules.{Rules}
use Rattle.reading.specs.Lists.{lists_of}
use Rattle.reading.specs.Tokens.{Bytes}
use Rattle.reading.specs.Flat.{flat, straight}
use Rattle.reading.specs.Reading.{Shown, struck, Run, original}
use Rattle.reading.specs.Answers.{flattening}
use Rattle.reading.specs.Masks.{StemsFirst, ByNote, CleanMasks}
use Rattle.reading.specs.Demands.{EndcharLast, empty, SameGlyph, reported}
use Rattle.reading.proofs.AnswerLaws.{AcceptedBy, came_to_end}
use Rattle.reading.proofs.BudgetLaws.{tokens_budget}
use Rattle.reading.proofs.StraightLaws.{Just, struck_shown}
use Rattle.reading.proofs.SameGlyphLaws.{empty_formed, part_bytes, lists_bytes, items_tokens, just_again, reported_is}
use Rattle.reading.proofs.DemandLaws.{demand_three, masks_by_note, masks_clean, ends_in_endchar}
use Rattle.font.specs.Font.{flat_in, Choice, every, these, within, all_from, chosen, lengths_of, joined_of, indexed}
use Rattle.font.specs.Font.{if_formed, font_by, flat_glyphs, flatten_glyphs, flatten_font}
use Rattle.font.specs.Demands.{Alone, SameEntry, SameFont, FontDemand, FontIsGlyphs, IsFormed}
use Rattle.font.proofs.FontLaws.{all_alike}
use Rattle.font.proofs.ChoiceLaws.{within_there, within_accepted}
use Rattle.font.proofs.WholeLaws.{let_in}
use Rattle.font.proofs.EntryLaws.{Each, each, Holds, index_holds, Gave, gave, flat_accepted, alone_gives}

-- ---- past a list that is well formed

-- An answer that was looked at, and what came then.
pub record Past (f : Answer ℕ) (then : ℕ → Answer (List ℕ)) (b : List ℕ) : Type 0 where
  pub count : ℕ
  pub is : f ≡ accepted count
  pub then_is : then count ≡ accepted b

past_formed : (k : ℕ) (f : Answer ℕ) (then : ℕ → Answer (List ℕ)) (b : List ℕ) → if_formed k f then ≡ accepted b → Past f then b
unfolding if_formed
past_formed k (accepted m) then b e = record { count = m; is = refl; then_is = e }
past_formed k (refused j v) then b e = refused_accepted e

-- ---- what is accepted

pub record Font (rules : Rules) (choice : ℕ → Choice) (charstrings globals locals : List ℕ) (budget : ℕ) (b : List ℕ) : Type 0 where
  pub globals_formed : IsFormed rules globals
  pub locals_formed : IsFormed rules locals
  pub glyphs : ℕ
  pub formed : formation rules.width charstrings ≡ accepted glyphs
  pub few : (choice glyphs).many < 2 ^ (8 * rules.width)
  pub strings : List (List ℕ)
  pub all : all_from
      (λ k. within glyphs (λ i. flat_in rules (original rules (part rules.width charstrings i) globals locals budget)) ((choice glyphs).number k)) 0
      (choice glyphs).many ≡ accepted strings
  pub index : index_of rules.width (lengths_of strings) (joined_of strings) ≡ accepted b

indexed_accepted : (w : ℕ) (x : Answer (List (List ℕ))) (b : List ℕ) → indexed w x ≡ accepted b
    → (fs : List (List ℕ)) × ((x ≡ accepted fs) × (index_of w (lengths_of fs) (joined_of fs) ≡ accepted b))
unfolding indexed
indexed_accepted w (accepted fs) b e = (fs, (refl, e))
indexed_accepted w (refused k v) b e = refused_accepted e

-- not more than a count holds
chosen_accepted : (w : ℕ) (c : Choice) (glyph : ℕ → Answer (List ℕ)) (fs : List (List ℕ)) → chosen w c glyph ≡ accepted fs
    → (c.many < 2 ^ (8 * w)) × (all_from (λ k. glyph (c.number k)) 0 c.many ≡ accepted fs)
unfolding chosen
chosen_accepted w c glyph fs e = go (leb (2 ^ (8 * w)) c.many) refl e
  where
    go : (b : Bool) → leb (2 ^ (8 * w)) c.many ≡ b → cond b (refused 22 alone) (all_from (λ k. glyph (c.number k)) 0 c.many) ≡ accepted fs
        → (c.many < 2 ^ (8 * w)) × (all_from (λ k. glyph (c.number k)) 0 c.many ≡ accepted fs)
    go true q e = refused_accepted e
    go false q e = (leb-false (2 ^ (8 * w)) c.many q, e)

-- and so they are chosen
chosen_all : (w : ℕ) (c : Choice) (glyph : ℕ → Answer (List ℕ)) → c.many < 2 ^ (8 * w)
    → all_from (λ k. glyph (c.number k)) 0 c.many ≡ chosen w c glyph
unfolding chosen
chosen_all w c glyph h = go (leb (2 ^ (8 * w)) c.many) refl
  where
    all : Answer (List (List ℕ))
    all = all_from (λ k. glyph (c.number k)) 0 c.many

    go : (b : Bool) → leb (2 ^ (8 * w)) c.many ≡ b → all ≡ cond b (refused 22 alone) all
    go true q = absurd (omega (arith, leb-true (2 ^ (8 * w)) c.many q))
    go false q = refl

module _ (rules : Rules) (choice : ℕ → Choice) (charstrings globals locals : List ℕ) (budget : ℕ) (b : List ℕ) where
  abbrev w : ℕ
  w = rules.width

  abbrev run : List ℕ → Run
  run cs = original rules cs globals locals budget

  abbrev glyph : ℕ → Answer (List ℕ)
  glyph i = flat_in rules (run (part w charstrings i))

  pub is_font : flat_glyphs rules choice charstrings globals locals budget ≡ accepted b → Font rules choice charstrings globals locals budget b
  unfolding flat_glyphs font_by
  is_font e =
      let g = past_formed 1 (formation w globals) _ b e in
      let l = past_formed 2 (formation w locals) _ b g.then_is in
      let c = past_formed 26 (formation w charstrings) _ b l.then_is in
      let x = indexed_accepted w (chosen w (choice c.count) (within c.count glyph)) b c.then_is in
      let y = chosen_accepted w (choice c.count) (within c.count glyph) x.0 x.1.0 in
      record {
        globals_formed = (g.count, g.is);
        locals_formed = (l.count, l.is);
        glyphs = c.count;
        formed = c.is;
        few = y.0;
        strings = x.0;
        all = y.1;
        index = x.1.1;
      }

  module _ (font : Font rules choice charstrings globals locals budget b) where
    abbrev many : ℕ
    many = (choice font.glyphs).many

    abbrev number : ℕ → ℕ
    number = (choice font.glyphs).number

    holds : Holds w font.strings b
    holds = index_holds w font.strings b font.index

    of_each : Each (λ k. within font.glyphs glyph (number k)) 0 many font.strings
    of_each = each _ 0 many font.strings font.all

    -- as many entries as are asked for, and not a byte more is taken
    pub font_read : (rest : List ℕ) → extent w (b ++ rest) ≡ has many (length b)
    font_read rest = holds.read rest ∙ ap (λ (n : ℕ). has n (length b)) of_each.many

    pub font_formed : (rest : List ℕ) → formation w (b ++ rest) ≡ accepted many
    font_formed rest = holds.formed rest ∙ ap accepted of_each.many

    -- ---- the glyph at place k

    module _ (k : ℕ) (h : k < many) where
      abbrev cs : List ℕ
      cs = part w charstrings (number k)

      -- its string
      abbrev f : List ℕ
      f = get_or font.strings k []

      asked_is : within font.glyphs glyph (number k) ≡ accepted f
      asked_is = ap (λ (j : ℕ). within font.glyphs glyph (number j)) (sym (zero-add k)) ∙ of_each.is k h

      pub is_there : number k < font.glyphs
      is_there = (within_accepted font.glyphs glyph (number k) f asked_is).0

      flat_is : flat_in rules (run cs) ≡ accepted f
      flat_is = (within_accepted font.glyphs glyph (number k) f asked_is).1

      gave_it : Gave rules (run cs) f
      gave_it = gave rules (run cs) f flat_is

      stands : (rest : List ℕ) → part w (b ++ rest) k ≡ f
      stands rest = let long = of_each.many in holds.entry rest k (omega arith)

      alone_is : Alone rules cs globals locals budget f
      alone_is = alone_gives rules globals locals font.globals_formed font.locals_formed budget cs f flat_is

      -- in a room that just takes it
      abbrev room : List ℕ
      room = replicate alone_is.x.size 0

      answer_is : (flattening rules cs globals locals budget room).answer ≡ accepted alone_is.x
      answer_is = let long = length-replicate {A = ℕ} alone_is.x.size 0 in answer_as (alone_is.gives room (omega arith))

      module _ (bytes : Bytes charstrings) (g : Bytes globals) (l : Bytes locals) where
        cs_bytes : Bytes cs
        cs_bytes = part_bytes charstrings bytes w (number k)

        reported_here : reported rules cs globals locals budget room alone_is.x ≡ f
        reported_here = reported_is rules cs globals locals budget room alone_is.x cs_bytes g l answer_is ∙ gave_it.is

        same_entry : SameEntry rules cs globals locals budget f
        same_entry =
            record {
              one = alone_is;
              masks = subst (λ (y : List ℕ). StemsFirst rules (straight rules y).items → ByNote rules (straight rules y).items) reported_here
                  (masks_by_note rules cs globals locals budget room alone_is.x cs_bytes g l answer_is);
              clean = λ c. subst (λ (y : List ℕ). CleanMasks (straight rules y).items) reported_here
                  (masks_clean rules cs globals locals budget room alone_is.x cs_bytes g l answer_is c);
              finished = λ c. subst (λ (y : List ℕ). EndcharLast rules (straight rules y).items) reported_here
                  (ends_in_endchar rules cs globals locals budget room alone_is.x cs_bytes g l answer_is c);
              same = subst (SameGlyph rules cs globals locals budget alone_is.x) reported_here
                  (demand_three rules cs globals locals budget room alone_is.x cs_bytes g l answer_is);
            }

        pub font_entry : (rest : List ℕ) → SameEntry rules cs globals locals budget (part w (b ++ rest) k)
        font_entry rest = subst (SameEntry rules cs globals locals budget) (sym (stands rest)) same_entry

        -- read again, with any lists, it gives the same string
        same_string : (globals' locals' : List ℕ) → flat_in rules (original rules f globals' locals' budget) ≡ accepted f
        same_string globals' locals' =
            let lists = lists_of w globals locals in
            let entries = lists_bytes w globals locals g l in
            let a = came_to_end rules (run cs).how gave_it.accepted_by in
            let items = struck (run cs).state.shown in
            let enough = items_tokens rules lists budget cs entries cs_bytes a in
            let most = tokens_budget rules lists budget cs in
            let other = lists_of w globals' locals' in
            let just : Just rules (run cs).how items (original rules f globals' locals' budget) =
            subst (λ (y : List ℕ). Just rules (run cs).how items (original rules y globals' locals' budget)) gave_it.is
            (just_again rules lists budget cs entries cs_bytes a other budget (omega arith)) in
            flat_accepted rules (original rules f globals' locals' budget) (subst (AcceptedBy rules) (sym just.how) gave_it.accepted_by)
            ∙ ap accepted (ap (λ (s : List Shown). flat (struck s)) just.shown ∙ ap flat (struck_shown items) ∙ gave_it.is)

    -- ---- again

    module _ (bytes : Bytes charstrings) (g : Bytes globals) (l₁ : Bytes locals) where
      abbrev glyph' : List ℕ → List ℕ → ℕ → Answer (List ℕ)
      glyph' globals' locals' i = flat_in rules (original rules (part w b i) globals' locals' budget)

      glyphs_again : (globals' locals' : List ℕ) → chosen w (every many) (within many (glyph' globals' locals')) ≡ accepted font.strings
      glyphs_again globals' locals' =
          sym (chosen_all w (every many) (within many (glyph' globals' locals')) font.few) ∙ all_alike _ _ 0 many one ∙ font.all
        where
          one : (k : ℕ) → k < 0 + many → within many (glyph' globals' locals') k ≡ within font.glyphs glyph (number k)
          one k h =
              let l : k < many = omega arith in
              let entry_is = ap (λ (y : List ℕ). part w y k) (sym (append-nil b)) ∙ stands k l [] in
              within_there many (glyph' globals' locals') k l
              ∙ ap (λ (y : List ℕ). flat_in rules (original rules y globals' locals' budget)) entry_is
              ∙ same_string k l bytes g l₁ globals' locals' ∙ sym (asked_is k l)

      -- flattened again under the same budget, all of it, with any two lists that are well formed, it is itself
      pub font_again : (globals' locals' : List ℕ) (m k : ℕ) → formation w globals' ≡ accepted m → formation w locals' ≡ accepted k
          → flat_glyphs rules every b globals' locals' budget ≡ accepted b
      unfolding flat_glyphs font_by indexed
      font_again globals' locals' m k eg el =
          sym (let_in 1 (formation w globals') _ m (sym eg))
          ∙ sym (let_in 2 (formation w locals') _ k (sym el))
          ∙ sym (let_in 26 (formation w b) _ many (sym (ap (formation w) (sym (append-nil b)) ∙ font_formed [])))
          ∙ ap (indexed w) (glyphs_again globals' locals')
          ∙ font.index

      again_into : (out : List ℕ) → length b ≤ length out
          → flatten_font rules b (empty rules) (empty rules) budget out ≡ leaving (accepted (length b)) (b ++ drop (length b) out)
      unfolding flatten_glyphs
      again_into out room =
          ap (λ (x : Answer (List ℕ)). into out (mapped sized x)) (font_again (empty rules) (empty rules) 0 0 (empty_formed rules) (empty_formed rules))
          ∙ into_fits out (sized b) room

      pub same_font : SameFont rules choice charstrings globals locals budget (length b) b
      same_font =
          record {
            size = refl;
            glyphs = font.glyphs;
            counted = font.formed;
            there = is_there;
            formed = font_formed;
            read = font_read;
            entry = λ rest k h. font_entry k h bytes g l₁ rest;
            again = again_into;
          }

-- ---- what an accepted answer says of the room

mapped_accepted : (x : Answer (List ℕ)) (r : Ready ℕ) → mapped sized x ≡ accepted r → (b : List ℕ) × ((x ≡ accepted b) × (sized b ≡ r))
mapped_accepted (accepted b) r e = (b, (refl, accepted_same e))
mapped_accepted (refused k v) r e = refused_accepted e

pub font_demand : FontDemand
unfolding flatten_glyphs
font_demand rules choice charstrings globals locals budget out n bytes g l e =
    let x = flat_glyphs rules choice charstrings globals locals budget in
    let p = into_accepted out (mapped sized x) n e in
    let y = mapped_accepted x p.ready p.is_ready in
    let b = y.0 in
    let same : sized b ≡ p.ready = y.1.1 in
    let long : length b ≡ n = ap (λ (r : Ready ℕ). r.told) same ∙ p.told_is in
    let left = p.left_is ∙ ap (λ (r : Ready ℕ). r.bytes ++ drop (length r.bytes) out) (sym same) in
    let stands = ap (take n) left ∙ take_at b (drop (length b) out) n long in
    subst (SameFont rules choice charstrings globals locals budget n) (sym stands)
    (subst (λ (m : ℕ). SameFont rules choice charstrings globals locals budget m b) long
    (same_font rules choice charstrings globals locals budget b (is_font rules choice charstrings globals locals budget b y.1.0) bytes g l))

-- ---- a whole font is what comes of all its numbers in order

module _ (rules : Rules) (numbers charstrings globals locals : List ℕ) (budget : ℕ) where
  abbrev glyphs : ℕ → ℕ → Answer (List ℕ)
  glyphs n = within n (λ i. flat_in rules (original rules (part rules.width charstrings i) globals locals budget))

  abbrev written : (ℕ → Choice) → ℕ → Answer (List ℕ)
  written choice n = indexed rules.width (chosen rules.width (choice n) (glyphs n))

  in_order : (n : ℕ) → length numbers ≡ n → ((k : ℕ) → k < n → get_or numbers k 0 ≡ k) → written (these numbers) n ≡ written every n
  unfolding chosen
  in_order n e f =
      let over : ℕ → Bool = λ m. leb (2 ^ (8 * rules.width)) m in
      ap (λ (a : Answer (List (List ℕ))). indexed rules.width (cond (over (length numbers)) (refused 22 alone) a))
      (all_alike (glyphs n) (λ k. glyphs n (get_or numbers k 0)) 0 (length numbers) (λ k h. ap (glyphs n) (f k (omega arith))))
      ∙ ap (λ (m : ℕ). indexed rules.width (cond (over m) (refused 22 alone) (all_from (glyphs n) 0 m))) e

  by_count : (f : Answer ℕ) → ((n : ℕ) → f ≡ accepted n → written (these numbers) n ≡ written every n)
      → if_formed 26 f (written (these numbers)) ≡ if_formed 26 f (written every)
  unfolding if_formed
  by_count (accepted n) h = h n refl
  by_count (refused k v) h = refl

pub font_is_glyphs : FontIsGlyphs
unfolding flatten_glyphs flat_glyphs font_by
font_is_glyphs rules numbers charstrings globals locals budget out h =
    let w = rules.width in
    ap (λ (a : Answer (List ℕ)). into out (mapped sized (if_formed 1 (formation w globals) (λ _. if_formed 2 (formation w locals) (λ _. a)))))
    (by_count rules numbers charstrings globals locals budget (formation w charstrings)
    (λ n e. in_order rules numbers charstrings globals locals budget n (h n e).0 (h n e).1))
