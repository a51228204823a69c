-- What the demands (docs/PROOFS.md, "The three demands") say of an accepted flattening, as types. The proofs stand in DemandLaws.antt.
-- F is what an accepted flattening leaves at the start of the room, and x its answer: F's length and the tokens, n.
use Rattle.std.specs.Prelude.{ℕ, ◌<◌, ◌≤◌, ◌≡◌, Bool, true, false, List, [], ◌∷◌, ◌++◌, ◌⊎◌, length, take, drop, replicate}
use Rattle.number.specs.Answer.{Values, accepted, refused, at_token, leaving}
use Rattle.reading.specs.Rules.{Rules, type2, plain, strict}
use Rattle.reading.specs.Tokens.{Bytes}
use Rattle.reading.specs.Items.{Item, operand, bare, masked, advance_in}
use Rattle.reading.specs.Reading.{struck, original}
use Rattle.reading.specs.Flat.{straight}
use Rattle.reading.specs.Answers.{Flattening, flattening}
use Rattle.reading.specs.Masks.{StemsFirst, ByNote, CleanMasks}
use Rattle.reading.specs.Widths.{noted}
use Rattle.reading.specs.declared.operator.Operator.{Operator}
use Rattle.reading.specs.declared.operator.Kind.{Kind}
use Rattle.reading.specs.declared.operator.Kind.TheVariants.{Stem, Clear, Mask, Call, Return, End, Unknown}

-- ---- what is not among the items

abbrev pub leads : Kind → Bool
leads Stem = false
leads Clear = false
leads Mask = false
leads (Call which) = true
leads Return = true
leads End = false
leads Unknown = false

abbrev pub is_end : Kind → Bool
is_end Stem = false
is_end Clear = false
is_end Mask = false
is_end (Call which) = false
is_end Return = false
is_end End = true
is_end Unknown = false

-- whether an item is an operator of such a kind
abbrev pub kind_is : (Kind → Bool) → Rules → Item → Bool
kind_is is rules (operand o) = false
kind_is is rules (bare p) = is (rules.kind p)
kind_is is rules (masked p m) = is (rules.kind p)

-- no item is
abbrev pub None : (Kind → Bool) → Rules → List Item → Type 0
None is rules [] = Unit {0}
None is rules (i ∷ f) = (kind_is is rules i ≡ false) × None is rules f

-- there is no call and no return
abbrev pub Flat : Rules → List Item → Type 0
Flat rules f = None leads rules f

-- the last item, which stands first here, is endchar, and no other is
abbrev pub EndcharLast : Rules → List Item → Type 0
EndcharLast rules [] = ⊥
EndcharLast rules (i ∷ f) = (kind_is is_end rules i ≡ true) × None is_end rules f

abbrev pub LastByte : ℕ → List ℕ → Type 0
LastByte b s = (before : List ℕ) × (s ≡ before ++ (b ∷ []))

-- ---- demand 3

-- the list without entries: a count of 0
abbrev pub empty : Rules → List ℕ
empty rules = replicate rules.width 0

pub record SameGlyph (rules : Rules) (cs globals locals : List ℕ) (budget : ℕ) (x : Flattening) (F : List ℕ) : Type 0 where
  -- F is as long as reported.
  pub size : length F ≡ x.size
  -- Read straight through, F shows exactly the operands, operators and mask bytes, in order, of the call-following reading of the original with
  -- the calls, their index operands and the returns struck out; and every byte is consumed.
  pub shows : straight rules F ≡ record { items = struck (original rules cs globals locals budget).state.shown; rest = [] }
  -- F holds no call and no return.
  pub flat_items : Flat rules (straight rules F).items
  -- Its items say the advance width that is reported.
  pub width : advance_in rules (straight rules F).items ≡ x.advance
  -- Flattening F with two empty INDEXes, the same rules, a budget of n and room for F gives F back, byte for byte, and the same width, in as many
  -- tokens as F has items.
  pub again : (out : List ℕ) → x.size ≤ length out
      → flattening rules F (empty rules) (empty rules) x.tokens out
      ≡ leaving (accepted (record { size = x.size; tokens = length (straight rules F).items; advance = x.advance })) (F ++ drop x.size out)
  -- Those are at most n.
  pub fewer : length (straight rules F).items ≤ x.tokens

-- ---- of every accepted flattening

-- what holds of the rules, the charstring, the lists, the budget, the room and the answer of each accepted flattening of bytes
abbrev OfAccepted : (Rules → List ℕ → List ℕ → List ℕ → ℕ → List ℕ → Flattening → Type 0) → Type 0
OfAccepted says =
    (rules : Rules) (cs globals locals : List ℕ) (budget : ℕ) (out : List ℕ) (x : Flattening) → Bytes cs → Bytes globals → Bytes locals
    → (flattening rules cs globals locals budget out).answer ≡ accepted x → says rules cs globals locals budget out x

abbrev pub reported : Rules → List ℕ → List ℕ → List ℕ → ℕ → List ℕ → Flattening → List ℕ
reported rules cs globals locals budget out x = take x.size (flattening rules cs globals locals budget out).left

-- demand 3: F is the same glyph
abbrev pub DemandThree : Type 0
DemandThree = OfAccepted (λ rules cs globals locals budget out x.
    SameGlyph rules cs globals locals budget x (reported rules cs globals locals budget out x))

-- its advance width is that of its reading's items, whatever the lists were
abbrev pub AdvanceOfItems : Type 0
AdvanceOfItems = OfAccepted (λ rules cs globals locals budget out x.
    x.advance ≡ advance_in rules (struck (original rules cs globals locals budget).state.shown))

-- which is the one that stands before the first operator of F
abbrev pub AdvanceByPlace : Type 0
AdvanceByPlace = OfAccepted (λ rules cs globals locals budget out x.
    x.advance ≡ noted rules (straight rules (reported rules cs globals locals budget out x)).items)

-- demand 2's hint masks: where all stems of F stand before its first mask with bytes, each mask of F has TN5177's bytes
abbrev pub MasksByNote : Type 0
MasksByNote = OfAccepted (λ rules cs globals locals budget out x.
    let shown = (straight rules (reported rules cs globals locals budget out x)).items in StemsFirst rules shown → ByNote rules shown)

-- and by clean rules operands wait in F at no mask behind one with bytes
abbrev pub MasksClean : Type 0
MasksClean = OfAccepted (λ rules cs globals locals budget out x.
    rules.clean ≡ true → CleanMasks (straight rules (reported rules cs globals locals budget out x)).items)

-- and by rules that want it F ends in endchar, and has no other
abbrev pub EndsInEndchar : Type 0
EndsInEndchar = OfAccepted (λ rules cs globals locals budget out x.
    rules.finished ≡ true → EndcharLast rules (straight rules (reported rules cs globals locals budget out x)).items)

-- which is the byte 14 where the operators are Type 2's
abbrev pub EndsIn14 : Type 0
EndsIn14 = OfAccepted (λ rules cs globals locals budget out x.
    rules.finished ≡ true → ((p : Operator) → rules.kind p ≡ type2 p) → LastByte 14 (reported rules cs globals locals budget out x))

-- demand 1's budget: the tokens are at most the budget; a budget of at least the tokens changes nothing; a smaller one is refused with 3
abbrev pub WithinBudget : Type 0
WithinBudget = OfAccepted (λ rules cs globals locals budget out x. x.tokens ≤ budget)

abbrev pub EnoughBudget : Type 0
EnoughBudget = OfAccepted (λ rules cs globals locals budget out x.
    (b : ℕ) → x.tokens ≤ b → flattening rules cs globals locals b out ≡ flattening rules cs globals locals budget out)

abbrev pub SmallBudget : Type 0
SmallBudget = OfAccepted (λ rules cs globals locals budget out x.
    (b : ℕ) → b < x.tokens → flattening rules cs globals locals b out ≡ leaving (refused 3 (at_token b)) out)

-- where strict accepts, plain gives the same answer and the same bytes
abbrev pub StrictThenPlain : Type 0
StrictThenPlain =
    (cs globals locals : List ℕ) (budget : ℕ) (out : List ℕ) (x : Flattening) → (flattening strict cs globals locals budget out).answer ≡ accepted x
    → flattening plain cs globals locals budget out ≡ flattening strict cs globals locals budget out

-- ---- of every refused run

-- its number: 3 to 12, or 15
abbrev pub RunRefusal : ℕ → Type 0
RunRefusal k = (3 ≤ k) × ((k ≤ 12) ⊎ (k ≡ 15))

-- a charstring's own number, whatever the lists and the room: its run's, or 16 by rules that want an endchar
abbrev pub OwnRefusal : Rules → ℕ → Type 0
OwnRefusal rules k = RunRefusal k ⊎ ((k ≡ 16) × (rules.finished ≡ true))

-- by clean rules never 8: an index that waits stands last
abbrev pub NeverEight : Type 0
NeverEight =
    (rules : Rules) (cs globals locals : List ℕ) (budget : ℕ) (out : List ℕ) (v : Values) → Bytes cs → Bytes globals → Bytes locals
    → rules.clean ≡ true → (flattening rules cs globals locals budget out).answer ≡ refused 8 v → ⊥
