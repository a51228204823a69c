-- Glyphs of a font flattened (RULES, "Glyphs of a font"; document 02, T-01): from a CharStrings INDEX the INDEX of flat strings, of all glyphs in
-- order or of those that are asked for, each run afresh under the whole budget. The refusals in turn: 1, 2, 26; 22; at the first place that is
-- refused 25 or the glyph's own; 23; 13.
use Rattle.std.specs.Prelude.{ℕ, Result, Ok, Err, zero, suc, ◌+◌, ◌*◌, ◌^◌, cond, List, [], ◌∷◌, ◌++◌, leb, ltb, length, get_or}
use Rattle.number.specs.Answer.{Answer, accepted, refused, alone, needing, because, at_glyph, mapped, number_in, Outcome, Ready, sized, into}
use Rattle.index.specs.Index.{part}
use Rattle.index.specs.Formed.{formation, reason_of, reason_at}
use Rattle.index_writing.specs.Writing.{index_of}
use Rattle.reading.specs.Rules.{Rules}
use Rattle.reading.specs.Reading.{Run, original}
use Rattle.reading.specs.Answers.{Flattening, judged, stop_number, stop_values}
use Rattle.font.specs.declared.error.FontError.{FontError}
use Rattle.font.specs.declared.error.FontError.TheVariants.{BadGlobals, BadLocals, BadCharstrings}
use Rattle.font.specs.declared.error.FontError.TheVariants.{TooMany, NoGlyph, Refused, TooLong, NoRoom}

-- ---- which glyphs

-- A choice of glyphs: how many, and the number at each place.
pub record Choice : Type 0 where
  pub many : ℕ
  pub number : ℕ → ℕ

-- all n of a font, in order
abbrev pub every : ℕ → Choice
every n = record { many = n; number = λ k. k }

-- those that a list numbers, whatever the font has
abbrev pub these : List ℕ → ℕ → Choice
these numbers n = record { many = length numbers; number = λ k. get_or numbers k 0 }

-- ---- what they give, place by place

abbrev pub bytes_in : Answer (Ready Flattening) → Answer (List ℕ)
bytes_in = mapped (λ (x : Ready Flattening). x.bytes)

-- what a run gives by the rules: the flat string, or its refusal
unfoldable pub flat_in : Rules → Run → Answer (List ℕ)
flat_in rules r = bytes_in (judged rules r)

-- of a font's n glyphs the one with number i, or 25
unfoldable pub within : ℕ → (ℕ → Answer (List ℕ)) → ℕ → Answer (List ℕ)
within n glyph i = cond (ltb i n) (glyph i) (refused 25 alone)

-- the first place that is refused decides, and comes with its refusal
unfoldable pub decided : ℕ → Answer (List ℕ) → Answer (List (List ℕ)) → Answer (List (List ℕ))
decided i (accepted f) others = mapped (λ (fs : List (List ℕ)). f ∷ fs) others
decided i (refused k v) others = refused k (at_glyph i v)

-- the flat strings of n places from place i on
unfoldable pub all_from : (ℕ → Answer (List ℕ)) → ℕ → ℕ → Answer (List (List ℕ))
all_from glyph i zero = accepted []
all_from glyph i (suc n) = decided i (glyph i) (all_from glyph (i + 1) n)

-- those of a choice, unless there are more than a count of w bytes holds
unfoldable pub chosen : ℕ → Choice → (ℕ → Answer (List ℕ)) → Answer (List (List ℕ))
chosen w c glyph = cond (leb (2 ^ (8 * w)) c.many) (refused 22 alone) (all_from (λ k. glyph (c.number k)) 0 c.many)

-- ---- the INDEX of strings

unfoldable pub lengths_of : List (List ℕ) → List ℕ
lengths_of [] = []
lengths_of (f ∷ fs) = length f ∷ lengths_of fs

unfoldable pub joined_of : List (List ℕ) → List ℕ
joined_of [] = []
joined_of (f ∷ fs) = f ++ joined_of fs

unfoldable pub indexed : ℕ → Answer (List (List ℕ)) → Answer (List ℕ)
indexed w (accepted fs) = index_of w (lengths_of fs) (joined_of fs)
indexed w (refused k v) = refused k v

-- ---- the font

-- refused with k unless a list is well formed, and its own refusal is the reason; else what comes then, by its count
unfoldable pub if_formed : ℕ → Answer ℕ → (ℕ → Answer (List ℕ)) → Answer (List ℕ)
if_formed k (accepted n) then = then n
if_formed k (refused j v) then = refused k (because j v)

-- of lists whose counts have w bytes; `flat` is what a charstring with both lists gives, and `choice` what is asked for by the count of glyphs
unfoldable pub font_by : ℕ → (List ℕ → Answer (List ℕ)) → (ℕ → Choice) → List ℕ → List ℕ → List ℕ → Answer (List ℕ)
font_by w flat choice charstrings globals locals =
    if_formed 1 (formation w globals) (λ _.
    if_formed 2 (formation w locals) (λ _.
    if_formed 26 (formation w charstrings) (λ n.
    indexed w (chosen w (choice n) (within n (λ i. flat (part w charstrings i)))))))

unfoldable pub flat_glyphs : Rules → (ℕ → Choice) → List ℕ → List ℕ → List ℕ → ℕ → Answer (List ℕ)
flat_glyphs rules choice charstrings globals locals budget =
    font_by rules.width (λ cs. flat_in rules (original rules cs globals locals budget)) choice charstrings globals locals

-- what it answers and leaves: the bytes come first and the rest stays, or 13 with the length that is needed
unfoldable pub flatten_glyphs : Rules → (ℕ → Choice) → List ℕ → List ℕ → List ℕ → ℕ → List ℕ → Outcome (Answer ℕ)
flatten_glyphs rules choice charstrings globals locals budget out = into out (mapped sized (flat_glyphs rules choice charstrings globals locals budget))

-- a whole font is all its glyphs in order
abbrev pub flatten_font : Rules → List ℕ → List ℕ → List ℕ → ℕ → List ℕ → Outcome (Answer ℕ)
flatten_font rules = flatten_glyphs rules every

-- what the answer says
abbrev pub font_flattened : Result ℕ FontError → Answer ℕ
font_flattened (Ok n) = accepted n
font_flattened (Err (BadGlobals f)) = refused 1 (because (reason_of f) (reason_at f))
font_flattened (Err (BadLocals f)) = refused 2 (because (reason_of f) (reason_at f))
font_flattened (Err (BadCharstrings f)) = refused 26 (because (reason_of f) (reason_at f))
font_flattened (Err TooMany) = refused 22 alone
font_flattened (Err (NoGlyph i)) = refused 25 (at_glyph i alone)
font_flattened (Err (Refused i w)) = refused (stop_number w) (at_glyph i (stop_values w))
font_flattened (Err TooLong) = refused 23 alone
font_flattened (Err (NoRoom n)) = refused 13 (needing n)

abbrev pub font_refusal : FontError → ℕ
font_refusal e = number_in (font_flattened (Err e))
