-- What a C function tells: its number, and what is at the places that were lent to it (RULES, "Answers", "Refusals").
use Rattle.std.specs.Prelude.{ℕ, Option, Some, None, Bool, true, false, not, cond, List, ℤ, eqb}
use Rattle.number.specs.Answer.{Values, Answer, accepted, refused, alone, length_or, tokens_or, entry_or, reason_or, glyph_or, Outcome, leaving}
use Rattle.number.specs.Number.{Number}
use Rattle.number.specs.Operand.{is_fixed, value_in, operand_as}
use Rattle.number.specs.declared.Operand.{Operand}
use Rattle.reading.specs.Answers.{Flattening}
use Rattle.reading.specs.Entered.{Lent, Marked}
use Rattle.reading.specs.Explained.{Explaining}
use Rattle.reading.specs.declared.rules.Profile.{Profile}
use Rattle.reading.specs.declared.rules.Profile.TheVariants.{Plain, Strict}

-- ---- C's numbers: a `kind` is 0 for an integer, else a Fixed; a `profile` is 0 for plain, else strict

abbrev pub nonzero : ℕ → Bool
nonzero n = not (eqb n 0)

abbrev pub kind_of : Bool → ℕ
kind_of false = 0
kind_of true = 1

abbrev pub operand_of : ℕ → ℤ → Operand
operand_of kind value = operand_as (nonzero kind) value

-- of an advance width 2 stands for none, whose value is not told
abbrev pub width_kind_of : Option Operand → ℕ
width_kind_of None = 2
width_kind_of (Some o) = kind_of (is_fixed o)

abbrev pub width_or : ℤ → Option Operand → ℤ
width_or old None = old
width_or old (Some o) = value_in o

-- and so a width is told
abbrev pub advance_told : ℕ → ℤ → Option Operand
advance_told kind value = cond (eqb kind 2) None (Some (operand_of kind value))

unfoldable pub profile_of : ℕ → Profile
profile_of n = cond (eqb n 0) Plain Strict

-- ---- what is told

-- An answer's number, and what is at the places; of several places, a record of what is at each.
pub record Told (A : Type 0) : Type 0 where
  pub number : ℕ
  pub places : A

abbrev pub told : {A : Type 0} → ℕ → A → Told A
told n x = record { number = n; places = x }

-- accepted: 0, and the places as what is accepted sets them; refused: the number, and the places as the values that come with it set them
unfoldable pub tell : {A P : Type 0} → (P → A → P) → (P → Values → P) → Answer A → P → Told P
tell set set_by (accepted x) old = told 0 (set old x)
tell set set_by (refused n v) old = told n (set_by old v)

-- what comes with an answer that is a refusal
abbrev pub values_in : {A : Type 0} → Answer A → Values
values_in (accepted x) = alone
values_in (refused n v) = v

-- ---- of a reader: a refusal leaves each place as it was

abbrev pub tell_read : {A P : Type 0} → (A → P) → Answer A → P → Told P
tell_read lay x old = tell (λ p y. lay y) (λ p v. p) x old

-- places that hold what is accepted as it is
abbrev pub as_is : {A : Type 0} → A → A
as_is x = x

pub record NumberPlaces : Type 0 where
  pub kind : ℕ
  pub value : ℤ
  pub width : ℕ

abbrev pub number_places : Number → NumberPlaces
number_places x = record { kind = kind_of (is_fixed x.operand); value = value_in x.operand; width = x.width }

pub record IntegerPlaces : Type 0 where
  pub value : ℤ
  pub width : ℕ

abbrev pub integer_places : Number → IntegerPlaces
integer_places x = record { value = value_in x.operand; width = x.width }

-- ---- of a list: its count, or the entry that its refusal comes with

pub record ListPlaces : Type 0 where
  pub count : ℕ
  pub entry : ℕ

abbrev pub list_places : ListPlaces → ℕ → ListPlaces
list_places old n = record { count = n; entry = old.entry }

abbrev pub list_places_or : ListPlaces → Values → ListPlaces
list_places_or old v = record { count = old.count; entry = entry_or old.entry v }

abbrev pub tell_list : Answer ℕ → ListPlaces → Told ListPlaces
tell_list x old = tell list_places list_places_or x old

-- ---- of a writer: a refusal sets a place that it has a value for; and the room is as the writer leaves it

abbrev pub tell_length : Outcome (Answer ℕ) → ℕ → Outcome (Told ℕ)
tell_length o old = leaving (tell (λ p n. n) length_or o.answer old) o.left

-- the places of a flattening, what is given there, and what a refusal gives
pub record FlatPlaces : Type 0 where
  pub length : ℕ
  pub tokens : ℕ
  pub entry : ℕ
  pub reason : ℕ
  pub width_kind : ℕ
  pub width : ℤ

abbrev pub flat_places : FlatPlaces → Flattening → FlatPlaces
flat_places old x =
    record {
      length = x.size;
      tokens = x.tokens;
      entry = old.entry;
      reason = old.reason;
      width_kind = width_kind_of x.advance;
      width = width_or old.width x.advance;
    }

abbrev pub flat_places_or : FlatPlaces → Values → FlatPlaces
flat_places_or old v =
    record {
      length = length_or old.length v;
      tokens = tokens_or old.tokens v;
      entry = entry_or old.entry v;
      reason = reason_or old.reason v;
      width_kind = old.width_kind;
      width = old.width;
    }

abbrev pub tell_flattening : Outcome (Answer Flattening) → FlatPlaces → Outcome (Told FlatPlaces)
tell_flattening o old = leaving (tell flat_places flat_places_or o.answer old) o.left

-- the same of a flattening with rows, and the rows as it leaves them
pub record ToldMarked : Type 0 where
  pub told : Told FlatPlaces
  pub left : Lent

abbrev pub tell_marked : Marked → FlatPlaces → ToldMarked
tell_marked o old = record { told = tell flat_places flat_places_or o.answer old; left = o.left }

-- the same of an explanation, and how many calls were open; and the words as it leaves them
pub record ToldExplained : Type 0 where
  pub told : Told FlatPlaces
  pub calls : ℕ
  pub words : List ℕ

abbrev pub tell_explained : Explaining → FlatPlaces → ToldExplained
tell_explained x old = record { told = tell flat_places flat_places_or x.answer old; calls = x.calls; words = x.words }

-- and those of a whole font
pub record FontPlaces : Type 0 where
  pub length : ℕ
  pub glyph : ℕ
  pub tokens : ℕ
  pub entry : ℕ
  pub reason : ℕ

abbrev pub font_places : FontPlaces → ℕ → FontPlaces
font_places old n = record { length = n; glyph = old.glyph; tokens = old.tokens; entry = old.entry; reason = old.reason }

abbrev pub font_places_or : FontPlaces → Values → FontPlaces
font_places_or old v =
    record {
      length = length_or old.length v;
      glyph = glyph_or old.glyph v;
      tokens = tokens_or old.tokens v;
      entry = entry_or old.entry v;
      reason = reason_or old.reason v;
    }

abbrev pub tell_font : Outcome (Answer ℕ) → FontPlaces → Outcome (Told FontPlaces)
tell_font o old = leaving (tell font_places font_places_or o.answer old) o.left
