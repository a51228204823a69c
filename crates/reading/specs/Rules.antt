-- The rules of a run: limits, and what each operator is (TN5177, section 4; RULES, "Tokens and items", "Profiles").
-- All that rule sets differ in stands here: no operator's byte is tested anywhere else.
use Rattle.std.specs.Prelude.{ℕ, Bool, true, false, cond, ◌||◌, List, [], ◌∷◌, eqb}
use Rattle.index.specs.Index.{width_of}
use Rattle.reading.specs.declared.rules.Rules.{Rules as CodeRules}
use Rattle.reading.specs.declared.operator.Operator.{Operator}
use Rattle.reading.specs.declared.operator.Operator.TheVariants.{OneByte, TwoByte}
use Rattle.reading.specs.declared.operator.Which.TheVariants.{Local, Global}
use Rattle.reading.specs.declared.operator.Kind.{Kind}
use Rattle.reading.specs.declared.operator.Kind.TheVariants.{Stem, Clear, Mask, Call, Return, End, Unknown}
use Rattle.reading.specs.declared.operator.Takes.{Takes}
use Rattle.reading.specs.declared.operator.Takes.TheVariants.{Pairs, UpTo, All}
use Rattle.reading.specs.declared.rules.Profile.{Profile}
use Rattle.reading.specs.declared.rules.Profile.TheVariants.{Plain, Strict}

pub record Rules : Type 0 where
  pub operands : ℕ  -- how many may wait on the stack
  pub levels : ℕ  -- how many levels of calls there may be below the charstring, which is itself at depth 1
  pub hints : ℕ  -- how many stem hints there may be
  pub exact : Bool  -- whether a Fixed index must be whole exactly, or as f32 rounds it
  pub clean : Bool  -- whether no operand may wait at a mask whose length is fixed
  pub finished : Bool  -- whether a charstring must end by endchar
  pub width : ℕ  -- how many bytes the count of a list has
  pub kind : Operator → Kind  -- what an operator is
  pub takes : Operator → Takes  -- how many operands an operator takes itself

abbrev pub among : ℕ → List ℕ → Bool
among b [] = false
among b (c ∷ cs) = eqb b c || among b cs

-- operators of one byte that only clear the stack
abbrev pub clearing : List ℕ
clearing = 4 ∷ 5 ∷ 6 ∷ 7 ∷ 8 ∷ 21 ∷ 22 ∷ 24 ∷ 25 ∷ 26 ∷ 27 ∷ 30 ∷ 31 ∷ []

-- operators of one byte, with `return` and `endchar` or without them
unfoldable pub byte_kind : Bool → ℕ → Kind
byte_kind ends b =
    cond (among b (1 ∷ 3 ∷ 18 ∷ 23 ∷ [])) Stem
    (cond (among b clearing) Clear
    (cond (among b (19 ∷ 20 ∷ [])) Mask
    (cond (eqb b 10) (Call Local)
    (cond (eqb b 29) (Call Global)
    (cond (eqb b 11) (cond ends Return Unknown)
    (cond (eqb b 14) (cond ends End Unknown) Unknown))))))

-- operators behind the escape byte: the four flexes
unfoldable pub escaped_kind : ℕ → Kind
escaped_kind b = cond (among b (34 ∷ 35 ∷ 36 ∷ 37 ∷ [])) Clear Unknown

unfoldable pub kind_by : Bool → Operator → Kind
kind_by ends (OneByte b) = byte_kind ends b
kind_by ends (TwoByte b) = escaped_kind b

-- Type 2 has both
abbrev pub type2 : Operator → Kind
type2 = kind_by true

-- how many operands an operator of one byte takes itself: a stem and a mask pairs, rmoveto two, hmoveto and vmoveto one, endchar none;
-- another that clears the stack takes whatever waits, so that no width stands before it
unfoldable pub byte_takes : ℕ → Takes
byte_takes b =
    cond (among b (1 ∷ 3 ∷ 18 ∷ 19 ∷ 20 ∷ 23 ∷ [])) Pairs
    (cond (eqb b 21) (UpTo 2)
    (cond (among b (4 ∷ 22 ∷ [])) (UpTo 1)
    (cond (eqb b 14) (UpTo 0) All)))

unfoldable pub type2_takes : Operator → Takes
type2_takes (OneByte b) = byte_takes b
type2_takes (TwoByte b) = All

abbrev pub plain : Rules
plain = record { operands = 48; levels = 63; hints = 65535; exact = false; clean = false; finished = false; width = 2; kind = type2; takes = type2_takes }

-- TN5177, appendix B: ten nested calls, and 96 stem hints; section 4: endchar last; section 4.3: operands at a mask only as stems, before the first
abbrev pub strict : Rules
strict = record { operands = 48; levels = 10; hints = 96; exact = true; clean = true; finished = true; width = 2; kind = type2; takes = type2_takes }

abbrev pub rules_of : Profile → Rules
rules_of Plain = plain
rules_of Strict = strict

-- the rules that the code's record stands for
abbrev pub meant : CodeRules → Rules
meant r =
    record {
      operands = r.operands;
      levels = r.levels;
      hints = r.hints;
      exact = r.exact;
      clean = r.clean;
      finished = r.finished;
      width = width_of r.width;
      kind = kind_by r.ends;
      takes = type2_takes;
    }
