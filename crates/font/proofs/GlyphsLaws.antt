-- The laws of a font that was looked at and of the glyphs of it that are asked for. Assumes nothing.
use Rattle.std.specs.Prelude.{◌≡◌, true, false, Result, Ok, Err, Option, Some, List, ℕ, zero, suc, ◌*◌, ◌<◌, ◌≤◌, length}
use Rattle.std.specs.Result.{MatchResult, is_ok}
use Rattle.std.proofs.Math.Path.{refl, ap}
use Rattle.std.proofs.Common.{sym, subst, ◌∙◌, add-one, arith}
use Rattle.number.specs.Answer.{Values, alone, because, at_glyph, Answer, accepted, refused, mapped}
use Rattle.index.specs.Index.{part}
use Rattle.index.specs.Formed.{formation, formed, reason_of, reason_at}
use Rattle.index.specs.declared.list.Flaw.{Flaw}
use Rattle.reading.specs.Rules.{Rules, rules_of}
use Rattle.reading.specs.Reading.{Run}
use Rattle.reading.specs.Answers.{Flattening, flat_of, verdict}
use Rattle.reading.proofs.SameGlyphLaws.{part_bytes}
use Rattle.charstring.specs.Run.{Begins}
use Rattle.font.specs.Font.{if_formed, font_flattened}
use Rattle.font.specs.Code.{choice_of, string_of, Is, before, at_place}
use Rattle.font.specs.Glyphs.{font_glyphs, run_of, asked_of}
use Rattle.font.specs.declared.error.FontError.{FontError}
use Rattle.font.specs.declared.error.FontError.TheVariants.{BadGlobals, BadLocals, BadCharstrings}
use Rattle.font.specs.declared.font.Font.{Font}
use Rattle.font.specs.declared.glyphs.Glyphs.{Glyphs}
use Rattle.font.proofs.FontLaws.{before_none, before_next}
use Rattle.font.proofs.GlyphLaws.{string_short, begins_none, begins_string, placed_flat, placed_refused}
use Rattle.font.proofs.ChoiceLaws.{within_there, within_past, Within, is_in, is_past, within_so}
use Rattle.font.proofs.WholeLaws.{shut_out, let_in}

-- ---- the three lists

-- one that is not well formed, as the number j of its refusal
list_bad : (j : ℕ) (of : Flaw → FontError) → ((f : Flaw) → font_flattened (Err (of f)) ≡ refused j (because (reason_of f) (reason_at f)))
    → (r : Result ℕ Flaw) (x : Answer ℕ) → formed r ≡ x → false ≡ is_ok r → (e : FontError) (P : ℕ → Type 0)
    → MatchResult r P (λ f. e ≡ of f) → (then : ℕ → Answer (List ℕ)) → font_flattened (Err e) ≡ mapped length (if_formed j x then)
list_bad j of told (Ok n) x q b e P m then = absurd (let z : ◌≡◌ {A = ℕ} 0 1 = cc in omega arith)
list_bad j of told (Err f) x q b e P m then =
    ap (λ (y : FontError). font_flattened (Err y)) m ∙ told f ∙ ap (mapped length) (shut_out j x then (Err f) f refl q)

-- one that is
list_good : (j : ℕ) (r : Result ℕ Flaw) (x : Answer ℕ) → formed r ≡ x → true ≡ is_ok r → (then : Answer (List ℕ))
    → then ≡ if_formed j x (λ _. then)
list_good j (Ok n) x q g then = let_in j x (λ _. then) n q
list_good j (Err f) x q g then = absurd (let z : ◌≡◌ {A = ℕ} 0 1 = cc in omega arith)

-- what the gate tells of the first that is not, from what it finds of each
module _ (charstrings globals locals : List ℕ) (e : FontError) (g : Result ℕ Flaw) (p : formed g ≡ formation 2 globals) where
  abbrev third : (ℕ → Answer (List ℕ)) → Answer (List ℕ)
  third then = if_formed 26 (formation 2 charstrings) then

  abbrev second : (ℕ → Answer (List ℕ)) → Answer (List ℕ)
  second then = if_formed 2 (formation 2 locals) (λ _. third then)

  abbrev Told : Type 0
  Told = (then : ℕ → Answer (List ℕ)) → font_flattened (Err e) ≡ mapped length (if_formed 1 (formation 2 globals) (λ _. second then))

  pub globals_bad : false ≡ is_ok g → (P : ℕ → Type 0) → MatchResult g P (λ f. e ≡ BadGlobals f) → Told
  globals_bad b P m then = list_bad 1 BadGlobals (λ f. refl) g _ p b e P m (λ _. second then)

  module _ (o : true ≡ is_ok g) (l : Result ℕ Flaw) (q : formed l ≡ formation 2 locals) where
    pub locals_bad : false ≡ is_ok l → (P : ℕ → Type 0) → MatchResult l P (λ f. e ≡ BadLocals f) → Told
    locals_bad b P m then =
        list_bad 2 BadLocals (λ f. refl) l _ q b e P m (λ _. third then) ∙ ap (mapped length) (list_good 1 g _ p o (second then))

    pub charstrings_bad : true ≡ is_ok l → (k : Result ℕ Flaw) → formed k ≡ formation 2 charstrings → false ≡ is_ok k → (P : ℕ → Type 0)
        → MatchResult k P (λ f. e ≡ BadCharstrings f) → Told
    charstrings_bad u k h b P m then =
        list_bad 26 BadCharstrings (λ f. refl) k _ h b e P m then
        ∙ ap (mapped length) (list_good 2 l _ q u (third then) ∙ list_good 1 g _ p o (second then))

-- ---- how long a string can be

string_most : (a : Answer (List ℕ)) → (Is a → length (string_of a) ≤ 35205846917115) → length (string_of a) ≤ 35205846917115
string_most (accepted f) h = h refl
string_most (refused k v) h = omega arith

glyph_short : (font : Font) (j : ℕ) → length (string_of (font_glyphs font j)) ≤ 35205846917115
glyph_short font j =
    string_most (font_glyphs font j)
    (string_short font.profile font.globals.now font.locals.now font.global_bytes font.local_bytes font.budget font.budget_fits
    (part 2 font.charstrings.now j) (part_bytes font.charstrings.now font.charstring_bytes 2 j))

module _ (glyphs : Glyphs) where
  abbrev number : ℕ → ℕ
  number = (choice_of glyphs.choice).number

  pub asked_short : (i : ℕ) → length (string_of (asked_of glyphs i)) ≤ 35205846917115
  asked_short i = go (asked_of glyphs i) (within_so glyphs.font.count (font_glyphs glyphs.font) (number i))
    where
      go : (a : Answer (List ℕ)) → Within glyphs.font.count (font_glyphs glyphs.font) (number i) a → length (string_of a) ≤ 35205846917115
      go a (is_in h) = glyph_short glyphs.font (number i)
      go a (is_past h) = omega arith

  pub before_short : (n : ℕ) → before (asked_of glyphs) n ≤ n * 35205846917115
  before_short zero = omega (arith, before_none (asked_of glyphs))
  before_short (suc n) =
      omega (arith, before_short n, before_next (asked_of glyphs) n, asked_short n, ap (before (asked_of glyphs)) (add-one n))

  -- ---- the run of the glyph at place i, whose number is k

  pub number_told : (i place k : ℕ) (r : Option ℕ) → place ≡ i → i < glyphs.many
      → (place < (choice_of glyphs.choice).many → r ≡ Some (number place)) → r ≡ Some k → ◌≡◌ {A = Option ℕ} (Some k) (Some (number i))
  number_told i place k r e h inside is =
      sym is ∙ inside (omega (arith, glyphs.counted)) ∙ ap (λ (m : ℕ). Some (number m)) e

  module _ (i k : ℕ) (is : ◌≡◌ {A = Option ℕ} (Some k) (Some (number i))) where
    number_is : k ≡ number i
    number_is = cc

    asked_none : glyphs.font.count ≤ k → asked_of glyphs i ≡ refused 25 alone
    asked_none h = within_past glyphs.font.count (font_glyphs glyphs.font) (number i) (omega (arith, number_is))

    pub placed_none : glyphs.font.count ≤ k → refused 25 (at_glyph i alone) ≡ at_place i (asked_of glyphs i)
    placed_none h = ap (at_place i) (sym (asked_none h))

    pub begun_none : glyphs.font.count ≤ k → (l : List ℕ) → Begins l (string_of (asked_of glyphs i))
    begun_none h l = subst (λ (a : Answer (List ℕ)). Begins l (string_of a)) (sym (asked_none h)) (begins_none l)

    module _ (there : k < glyphs.font.count) (cs : List ℕ) (here : cs ≡ part 2 glyphs.font.charstrings.now k) where
      abbrev font : Font
      font = glyphs.font

      abbrev rules : Rules
      rules = rules_of font.profile

      abbrev run : List ℕ → Run
      run = run_of font

      cs_is : cs ≡ part 2 font.charstrings.now (number i)
      cs_is = here ∙ ap (part 2 font.charstrings.now) number_is

      asked_is : font_glyphs font (number i) ≡ asked_of glyphs i
      asked_is = sym (within_there font.count (font_glyphs font) (number i) (omega (arith, number_is)))

      pub placed_run : (x : Flattening) → accepted x ≡ verdict rules (run cs) → accepted x.size ≡ at_place i (asked_of glyphs i)
      placed_run x e = placed_flat rules (run (part 2 font.charstrings.now (number i))) i x (e ∙ ap (λ (s : List ℕ). verdict rules (run s)) cs_is)
          ∙ ap (at_place i) asked_is

      pub placed_stop : (j : ℕ) (v : Values) → refused j v ≡ verdict rules (run cs) → refused j (at_glyph i v) ≡ at_place i (asked_of glyphs i)
      placed_stop j v e = placed_refused rules (run (part 2 font.charstrings.now (number i))) i j v (e ∙ ap (λ (s : List ℕ). verdict rules (run s)) cs_is)
          ∙ ap (at_place i) asked_is

      pub begun_run : (l : List ℕ) → Begins l (flat_of (run cs)) → Begins l (string_of (asked_of glyphs i))
      begun_run l b =
          subst (λ (a : Answer (List ℕ)). Begins l (string_of a)) asked_is
          (begins_string rules (run (part 2 font.charstrings.now (number i))) l (subst (λ (s : List ℕ). Begins l (flat_of (run s))) cs_is b))
