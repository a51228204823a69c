-- A font that was looked at, and the glyphs of it that are asked for: what the code's own types stand for. No public contract names it.
use Rattle.std.specs.Prelude.{◌≡◌, Result, Ok, Err, List, ℕ, length}
use Rattle.number.specs.Answer.{Answer, accepted, mapped, Outcome, sized, into}
use Rattle.index.specs.Formed.{formation}
use Rattle.reading.specs.Rules.{rules_of}
use Rattle.reading.specs.Reading.{Run, original}
use Rattle.reading.specs.declared.rules.Profile.{Profile}
use Rattle.font.specs.Font.{Choice, within, all_from, chosen, indexed, if_formed, font_flattened}
use Rattle.font.specs.Code.{glyphs_of, choice_of, asked, Measured, Kept}
use Rattle.font.specs.declared.error.FontError.{FontError}
use Rattle.font.specs.declared.font.Font.{Font}
use Rattle.font.specs.declared.glyphs.Glyphs.{Glyphs}

-- what each number of a glyph gives
abbrev pub font_glyphs : Font → ℕ → Answer (List ℕ)
font_glyphs font = glyphs_of font.profile font.charstrings.now font.globals.now font.locals.now font.budget

-- the run of a charstring of it
abbrev pub run_of : Font → List ℕ → Run
run_of font cs = original (rules_of font.profile) cs font.globals.now font.locals.now font.budget

-- what a choice of its glyphs answers and leaves
abbrev pub chosen_of : Font → Choice → List ℕ → Outcome (Answer ℕ)
chosen_of font choice out = into out (mapped sized (indexed 2 (chosen 2 choice (within font.count (font_glyphs font)))))

-- what the glyph at each place gives, or 25
abbrev pub asked_of : Glyphs → ℕ → Answer (List ℕ)
asked_of glyphs = asked (choice_of glyphs.choice) glyphs.font.count (font_glyphs glyphs.font)

-- ---- the three lists

-- the font that was lent, with its count
pub record Lent (charstrings globals locals : List ℕ) (profile : Profile) (budget : ℕ) (font : Font) : Type 0 where
  pub same : font_glyphs font ≡ glyphs_of profile charstrings globals locals budget
  pub globals_formed : (n : ℕ) × (formation 2 globals ≡ accepted n)
  pub locals_formed : (n : ℕ) × (formation 2 locals ≡ accepted n)
  pub counted : formation 2 charstrings ≡ accepted font.count

-- it, or the refusal of the first list that is not well formed
abbrev pub Opened : List ℕ → List ℕ → List ℕ → Profile → ℕ → Result Font FontError → Type 0
Opened charstrings globals locals profile budget (Ok font) = Lent charstrings globals locals profile budget font
Opened charstrings globals locals profile budget (Err e) =
    (then : ℕ → Answer (List ℕ)) → font_flattened (Err e)
    ≡ mapped length (if_formed 1 (formation 2 globals) (λ _. if_formed 2 (formation 2 locals) (λ _. if_formed 26 (formation 2 charstrings) then)))

-- ---- the first pass

abbrev pub Surveyed : Glyphs → List ℕ → List ℕ → Result ℕ FontError → Type 0
Surveyed glyphs lengths joined (Ok sum) =
    Measured (asked_of glyphs) glyphs.many sum × Kept (asked_of glyphs) glyphs.many lengths joined
Surveyed glyphs lengths joined (Err e) = font_flattened (Err e) ≡ mapped length (all_from (asked_of glyphs) 0 glyphs.many)
