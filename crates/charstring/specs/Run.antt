-- How a state of the code stands for a state of the reading, and what `look`, `stretch` and `run` ensure.
use Rattle.std.specs.Prelude.{◌≡◌, Option, Result, Ok, Err, true, cond, ◌⊎◌, List, [], ◌∷◌, ◌++◌, ℕ, zero, suc, ◌+◌, ◌-◌}
use Rattle.std.specs.Prelude.{◌/◌}
use Rattle.std.specs.Prelude.{◌≤◌, ◌<◌, leb, length, get_or, drop}
use Rattle.number.specs.Number.{charstring_rows}
use Rattle.number.specs.Written.{spelling}
use Rattle.number.specs.declared.Operand.{Operand}
use Rattle.index.specs.Index.{extent}
use Rattle.reading.specs.Rules.{Rules, meant}
use Rattle.reading.specs.Lists.{Lists, count_in, lists_of}
use Rattle.reading.specs.Tokens.{Bytes, number, operator, token, cut}
use Rattle.reading.specs.Items.{Item, operand, bare, masked, Left, said}
use Rattle.reading.specs.Reading.{Entering, struck, Ending as How, back, ended, stopped, Run, State as Now, refuse, on_operator, on_token, tokens_of, read}
use Rattle.reading.specs.Flat.{flat}
use Rattle.reading.specs.Explained.{open_by}
use Rattle.reading.specs.Answers.{number_of}
use Rattle.reading.specs.Valid.{ByteLists, Good}
use Rattle.reading.specs.declared.rules.Rules.{Rules as CodeRules}
use Rattle.reading.specs.declared.refusal.Refusal.{Refusal}
use Rattle.reading.specs.declared.refusal.Stopped.{Stopped}
use Rattle.reading.specs.declared.refusal.Stopped.TheVariants.{At, Alone}
use Rattle.reading.specs.declared.operator.Operator.{Operator}
use Rattle.reading.specs.declared.operator.Takes.{Takes}
use Rattle.reading.specs.declared.operator.Which.{Which}
use Rattle.reading.specs.declared.operator.Which.TheVariants.{Local, Global}
use Rattle.reading.specs.declared.operator.Kind.TheVariants.{Stem, Clear, Mask, Call, Return, End}
use Rattle.charstring.specs.Words.{short_of, stack_of, is_settled, held_by}
use Rattle.charstring.specs.Marks.{Says}
use Rattle.charstring.specs.Notes.{noted}
use Rattle.charstring.specs.declared.state.State.{State}
use Rattle.charstring.specs.declared.look.Limits.{Limits}
use Rattle.charstring.specs.declared.look.Request.{Request}
use Rattle.charstring.specs.declared.look.Request.TheVariants.{Push, Clears, Masks, Calls, Returns, Ends, Out, Short}
use Rattle.charstring.specs.declared.stretch.Ending.{Ending}
use Rattle.charstring.specs.declared.stretch.Ending.TheVariants.{Back, Ended}
use Rattle.charstring.specs.declared.stretch.Stop.{Stop}
use Rattle.charstring.specs.declared.stretch.Stop.TheVariants.{Done as Finished, Call as Calling}

-- ---- what a token asks for

-- a state of the reading has the code's numbers
pub record Counts (t : Now) (s : State) : Type 0 where
  pub tokens_are : length t.shown ≡ s.tokens
  pub count_is : length t.left.operands ≡ s.count
  pub hints_are : t.left.hints ≡ s.hints
  pub mask_is : t.left.mask ≡ s.mask

-- the token at i was begun, and the bytes behind it start at j
pub record Begun (cs : List ℕ) (i j tokens budget : ℕ) : Type 0 where
  pub ahead : i < j
  pub inside : j ≤ length cs
  pub within : tokens < budget

pub record AtOperator (cs : List ℕ) (i j tokens budget : ℕ) (p : Operator) : Type 0 where
  pub begun : Begun cs i j tokens budget
  pub cut_is : cut (drop i cs) ≡ token (operator p) (drop j cs)

-- the hints after an operator that clears the stack
pub data Hinted (rules : Rules) (s : State) (p : Operator) (h : ℕ) : Type 0 where
  stays : rules.kind p ≡ Clear → h ≡ s.hints → Hinted rules s p h
  counts : rules.kind p ≡ Stem → h ≡ s.hints + s.count / 2 → h ≤ rules.hints → Hinted rules s p h

-- no operand waits at a mask against the rules
abbrev pub Light : Rules → State → Type 0
Light rules s = (s.mask ≡ 0) ⊎ (rules.clean ≡ true → s.count ≡ 0)

-- the operands, hints and length after a mask operator
pub data MaskFixed (rules : Rules) (s : State) (c h m : ℕ) : Type 0 where
  first : s.mask ≡ 0 → c ≡ 0 → h ≡ s.hints + s.count / 2 → m ≡ (h + 7) / 8 → MaskFixed rules s c h m
  later : (s.mask ≡ 0 → ⊥) → (rules.clean ≡ true → s.count ≡ 0) → c ≡ s.count → h ≡ s.hints → m ≡ s.mask
      → MaskFixed rules s c h m

-- what an operator asks for, of a string of n bytes, where what stands behind it starts at j
module _ (rules : Rules) (n j : ℕ) (p : Operator) (s : State) where
  -- whatever the lists and the place, it is refused so
  pub record Declines (k : ℕ) : Type 0 where
    pub refusal : (lists : Lists) (levels at : ℕ) (rest : List ℕ) (t : Now) → Counts t s → length rest ≡ n - j
        → on_operator rules lists levels at rest t p (rules.kind p) ≡ refuse k t

  abbrev pub Asked : Request → Type 0
  Asked (Push k o) = ⊥
  Asked (Clears k h q) = (q ≡ p) × (k ≡ j) × Hinted rules s p h
  Asked (Masks a b c h q) =
      (q ≡ p) × (a ≡ j) × (rules.kind p ≡ Mask) × (h ≤ rules.hints) × (j ≤ b) × (b ≤ n) × MaskFixed rules s c h (b - j)
  Asked (Calls k w) = (k ≡ j) × (rules.kind p ≡ Call w) × (0 < s.count)
  Asked Returns = rules.kind p ≡ Return
  Asked (Ends q) = (q ≡ p) × (rules.kind p ≡ End) × (s.count < 4)
  Asked Out = ⊥
  Asked (Short k b x) = ⊥

  -- or how it is refused
  abbrev pub AskedOr : Result Request Refusal → Type 0
  AskedOr (Ok x) = Asked x
  AskedOr (Err k) = Declines (number_of k)

-- of two bytes the first n spell the number that they start with
pub record Spelt (b x n : ℕ) : Type 0 where
  pub others : List ℕ
  pub bytes : b ∷ x ∷ [] ≡ spelling charstring_rows (short_of b x) ++ others
  pub long : length (spelling charstring_rows (short_of b x)) ≡ n

module _ (rules : Rules) (cs : List ℕ) (i budget : ℕ) (s : State) where
  -- whatever the lists and the place, the token is refused so
  pub record Refuses (k : ℕ) : Type 0 where
    pub some : i < length cs
    pub refusal : (lists : Lists) (levels at : ℕ) (t : Now) → Counts t s → on_token rules lists budget levels at (drop i cs) t ≡ refuse k t

  -- the operand o, which may be pushed
  abbrev pub Pushes : ℕ → Operand → Type 0
  Pushes j o = Begun cs i j s.tokens budget × (cut (drop i cs) ≡ token (number o) (drop j cs)) × (s.count < rules.operands)

  -- a call of this list, behind which the string goes on at j
  abbrev pub CallsAt : ℕ → Which → Type 0
  CallsAt j w = (p : Operator) × AtOperator cs i j s.tokens budget p × (rules.kind p ≡ Call w) × (0 < s.count)

  abbrev pub Looked : Request → Type 0
  Looked (Push j o) = Pushes j o
  Looked (Clears j h p) = AtOperator cs i j s.tokens budget p × Hinted rules s p h
  Looked (Masks a b c h p) =
      AtOperator cs i a s.tokens budget p × (rules.kind p ≡ Mask) × (h ≤ rules.hints) × (a ≤ b) × (b ≤ length cs)
      × MaskFixed rules s c h (b - a)
  Looked (Calls j w) = CallsAt j w
  Looked Returns = (p : Operator) × (j : ℕ) × AtOperator cs i j s.tokens budget p × (rules.kind p ≡ Return)
  Looked (Ends p) = (j : ℕ) × AtOperator cs i j s.tokens budget p × (rules.kind p ≡ End) × (s.count < 4)
  Looked Out = length cs ≤ i
  Looked (Short j b x) = Pushes j (short_of b x) × Spelt b x (j - i)

  -- or how it is refused
  abbrev pub LookedOr : Result Request Refusal → Type 0
  LookedOr (Ok x) = Looked x
  LookedOr (Err k) = Refuses (number_of k)

-- ---- the state

-- as far as both go, the list l has the bytes f
unfoldable pub Begins : List ℕ → List ℕ → Type 0
Begins l f = (k : ℕ) → k < length l → k < length f → get_or l k 0 ≡ get_or f k 0

-- how many items at the end are operands
unfoldable pub tail_of : List Item → ℕ
tail_of [] = 0
tail_of (operand o ∷ f) = suc (tail_of f)
tail_of (bare p ∷ f) = 0
tail_of (masked p m ∷ f) = 0

-- the code holds what the items left
pub record Holds (stack : List ℕ) (s : State) (x : Left) : Type 0 where
  pub ops : x.operands ≡ stack_of stack s.count
  pub hints_are : x.hints ≡ s.hints
  pub mask_is : x.mask ≡ s.mask
  pub settled_is : x.settled ≡ is_settled s.settled
  pub advance_is : x.advance ≡ held_by s

pub record Repr (rules : Rules) (stack out : List ℕ) (s : State) (t : Now) : Type 0 where
  pub room : s.count ≤ length stack
  pub held : Holds stack s t.left
  pub hinted : s.hints ≤ rules.hints
  pub tokens_are : length t.shown ≡ s.tokens
  pub tail_is : tail_of (struck t.shown) ≡ s.tail
  pub length_is : length (flat (struck t.shown)) ≡ s.length
  pub good : Good rules t
  pub bytes : Begins out (flat (struck t.shown))

abbrev pub Verdict : Type 0
Verdict = Result Ending Refusal

abbrev pub how_of : Verdict → How
how_of (Ok Back) = back
how_of (Ok Ended) = ended
how_of (Err k) = stopped (number_of k)

-- what a run answers, and the state that it leaves
pub record Ran : Type 0 where
  pub how : Verdict
  pub st : State

-- the same of a stretch
pub record Stretched : Type 0 where
  pub st : State
  pub stop : Result Stop Refusal

-- the advance width behind an operator that takes so many operands, as the code settles it or lets it be
abbrev pub settled_at : Takes → List ℕ → State → Option Operand
settled_at takes stack s = cond (is_settled s.settled) (held_by s) (said takes (stack_of stack s.count))

-- ---- a string and what it is run with

pub record Setup : Type 0 where
  pub rules : Rules
  pub lists : Lists
  pub budget : ℕ
  pub levels : ℕ
  pub cs : List ℕ
  pub start : Now
  pub globals : ℕ  -- how many globals the marks go by
  pub marks : List ℕ

-- the same with other marks
abbrev pub remarked : Setup → List ℕ → Setup
remarked u marks =
    record {
      rules = u.rules;
      lists = u.lists;
      budget = u.budget;
      levels = u.levels;
      cs = u.cs;
      start = u.start;
      globals = u.globals;
      marks = marks;
    }

-- what runs below a string
unfoldable pub below_by : Rules → Lists → ℕ → ℕ → List ℕ → Now → Run
below_by rules lists budget zero body t = record { how = stopped 10; state = t }
below_by rules lists budget (suc levels) body t = read rules lists budget levels body t

abbrev pub below : Setup → ℕ → List ℕ → Now → Run
below u = below_by u.rules u.lists u.budget

-- the reading of the whole string, and from some bytes on
abbrev pub whole : Setup → Run
whole u = read u.rules u.lists u.budget u.levels u.cs u.start

abbrev pub onwards : Setup → ℕ → List ℕ → Now → Run
onwards u fuel rest t = tokens_of u.rules u.lists u.budget u.levels (below u u.levels) (length u.cs) fuel rest t

-- the code stands at i with this state: what is left of the reading is the reading from there on
pub record Here (u : Setup) (stack out : List ℕ) (s : State) (i : ℕ) : Type 0 where
  pub entries : ByteLists u.lists
  pub bytes : Bytes u.cs
  pub fuel : ℕ
  pub enough : length (drop i u.cs) ≤ fuel
  pub now : Now
  pub repr : Repr u.rules stack out s now
  pub marked : Says u.globals u.marks now.shown
  pub open_is : now.within ≡ u.start.within
  pub rest : whole u ≡ onwards u fuel (drop i u.cs) now

-- ---- how a run ends

-- what a run of the code leaves, beside the reading's x
pub record Done (rules : Rules) (globals : ℕ) (stack₁ out₁ marks₁ : List ℕ) (r : Ran) (x : Run) : Type 0 where
  pub how : how_of r.how ≡ x.how
  pub tokens_are : length x.state.shown ≡ r.st.tokens
  pub length_is : length (flat (struck x.state.shown)) ≡ r.st.length
  pub bytes : Begins out₁ (flat (struck x.state.shown))
  pub advance_is : x.state.left.advance ≡ held_by r.st
  pub marked : Says globals marks₁ x.state.shown
  pub on : x.how ≡ back → Repr rules stack₁ out₁ r.st x.state

-- the calls that are open where a string ends, in it, the innermost first, and then those that were open at its start
pub record Opened (levels : ℕ) (start : Now) (x : Run) : Type 0 where
  pub newer : List Entering
  pub open_is : x.state.within ≡ newer ++ start.within
  pub few : length newer ≤ levels
  pub all_closed : x.how ≡ back → newer ≡ []

-- what a run of the code leaves of a string
abbrev pub Finishes : Setup → List ℕ → List ℕ → List ℕ → Ran → Type 0
Finishes u stack₁ out₁ marks₁ r = Done u.rules u.globals stack₁ out₁ marks₁ r (whole u) × Opened u.levels u.start (whole u)

-- where no call is open in it
abbrev pub EndsIn : Setup → List ℕ → List ℕ → List ℕ → Ran → Type 0
EndsIn u stack₁ out₁ marks₁ r = Done u.rules u.globals stack₁ out₁ marks₁ r (whole u) × ((whole u).state.within ≡ u.start.within)

-- what stands on the stack behind the operands, as the rules limit them
abbrev pub behind : Limits → List ℕ → List ℕ
behind by stack = drop by.rules.operands stack

-- there the run of a string leaves notes, where so many calls are around it
abbrev pub notes : ℕ → List ℕ → Setup → List Entering → List ℕ
notes around words u newer = noted words around (open_by newer (whole u).how)

-- the code's numbers have room in their types and in the stack
pub record Roomy (rules : CodeRules) (stack : List ℕ) : Type 0 where
  pub few_hints : rules.hints ≤ 65535
  pub few_words : length stack ≤ 65535
  pub operands_fit : rules.operands ≤ length stack

-- what a run tells that was refused so: t tokens with 3 to 12
abbrev pub stop_as : Refusal → ℕ → Stopped
stop_as k t = cond (leb (number_of k) 12) (At k t) (Alone k)

-- ---- a stretch of tokens without a call

-- what a stretch is not told: the lists, the levels left, where the string started, and the marks
pub record Ground : Type 0 where
  pub lists : Lists
  pub levels : ℕ
  pub start : Now
  pub marks : List ℕ

module _ (cs : List ℕ) (by : Limits) where
  abbrev pub upon : Ground → Setup
  upon g =
      record {
        rules = meant by.rules;
        lists = g.lists;
        budget = by.budget;
        levels = g.levels;
        cs = cs;
        start = g.start;
        globals = by.globals;
        marks = g.marks;
      }

  -- the string ended, or a call stands at some place
  abbrev pub Reached : Ground → ℕ → List ℕ → List ℕ → State → Result Stop Refusal → Type 0
  Reached g from stack out st (Err k) = EndsIn (upon g) stack out g.marks (record { how = Err k; st = st })
  Reached g from stack out st (Ok (Finished how)) = EndsIn (upon g) stack out g.marks (record { how = Ok how; st = st })
  Reached g from stack out st (Ok (Calling next w)) =
      (i : ℕ) × (from ≤ i) × Here (upon g) stack out st i × CallsAt (meant by.rules) cs i by.budget st next w

  -- the state stands for one of the reading, on some ground
  unfoldable pub Standing : List ℕ → List ℕ → State → ℕ → Type 0
  Standing stack out s i = (g : Ground) × Here (upon g) stack out s i

  -- and on whatever ground it does, the stretch is the reading's
  unfoldable pub StretchesTo : List ℕ → List ℕ → State → ℕ → Stretched → List ℕ → List ℕ → Type 0
  StretchesTo stack out s i r stack₁ out₁ = (g : Ground) → Here (upon g) stack out s i → Reached g i stack₁ out₁ r.st r.stop

-- ---- a string

-- how many entries the list has that a call names
abbrev pub chosen_count : Which → Limits → ℕ
chosen_count Local by = by.locals
chosen_count Global by = by.globals

-- how many entries a list has; none where it cannot be read
abbrev pub count_of : CodeRules → List ℕ → ℕ
count_of r list = count_in (extent (meant r).width list)

-- what holds all through a run
pub record Setting (globals locals : List ℕ) (by : Limits) (stack : List ℕ) : Type 0 where
  pub roomy : Roomy by.rules stack
  pub global_count : by.globals ≡ count_of by.rules globals
  pub local_count : by.locals ≡ count_of by.rules locals

-- the state and the marks stand for a state of the reading
unfoldable pub Sound : Limits → List ℕ → List ℕ → List ℕ → State → Type 0
Sound by stack out marks s = (t : Now) × Repr (meant by.rules) stack out s t × Says by.globals marks t.shown

-- a string with these lists, so many levels left, this start and these marks
abbrev pub grounded : List ℕ → List ℕ → Limits → ℕ → Now → List ℕ → Ground
grounded globals locals by levels t marks =
    record { lists = lists_of (meant by.rules).width globals locals; levels = levels; start = t; marks = marks }

abbrev pub around : List ℕ → List ℕ → List ℕ → Limits → ℕ → Now → List ℕ → Setup
around cs globals locals by levels t marks = upon cs by (grounded globals locals by levels t marks)

-- whatever state of the reading the state and the marks stand for, the run is the reading's
unfoldable pub RunsTo : List ℕ → List ℕ → List ℕ → Limits → State → List ℕ → List ℕ → List ℕ
    → ℕ → Ran → List ℕ → List ℕ → List ℕ → Type 0
RunsTo cs globals locals by s stack out marks levels r stack₁ out₁ marks₁ =
    (t : Now) → Repr (meant by.rules) stack out s t → Says by.globals marks t.shown
    → let u = around cs globals locals by levels t marks in
    (e : Finishes u stack₁ out₁ marks₁ r) × (behind by stack₁ ≡ notes (by.rules.levels - levels) (behind by stack) u e.1.newer)
