-- What is proved of why a charstring is refused (document 02, T-06), as types. The proofs stand in ExplainedLaws.antt and ExplainedWordLaws.antt.
-- Nothing is asked of the rules. The calls are those of `explanation`, the outermost first.
use Rattle.std.specs.Prelude.{◌≡◌, true, cond, List, [], ◌∷◌, ◌++◌, ◌⊎◌, ℕ, ◌+◌, ◌-◌, ◌*◌, ◌/◌, ◌<◌, ◌≤◌, leb}
use Rattle.std.specs.Prelude.{length, get_or, drop}
use Rattle.number.specs.Answer.{Values, Answer, accepted, refused, needing_at, number_in}
use Rattle.number.specs.Call.{callee}
use Rattle.number.specs.declared.Operand.{Operand}
use Rattle.reading.specs.Rules.{Rules}
use Rattle.reading.specs.Lists.{Lists, present, listed, lists_of}
use Rattle.reading.specs.Tokens.{operator, token, cut}
use Rattle.reading.specs.Reading.{Entering, State, start, back, stopped, tokens, Step, go, enter, refuse, called, closed, on_token, read, original}
use Rattle.reading.specs.Answers.{Flattening, comes_with, flattening}
use Rattle.reading.specs.Entered.{entered_by}
use Rattle.reading.specs.Explained.{explanation, call_words, explaining}
use Rattle.reading.specs.Demands.{RunRefusal}
use Rattle.reading.specs.declared.operator.Operator.{Operator}
use Rattle.reading.specs.declared.operator.Which.{Which}
use Rattle.reading.specs.declared.operator.Which.TheVariants.{Local, Global}
use Rattle.reading.specs.declared.operator.Kind.TheVariants.{Call}

-- ---- the calls lead from the charstring to the refused token

-- a string whose reading begins: the levels left below it, its bytes, and the state
pub record Beginning : Type 0 where
  pub levels : ℕ
  pub string : List ℕ
  pub state : State

module _ (rules : Rules) (lists : Lists) (budget : ℕ) where
  -- one token of it, at a place and in a state
  abbrev pub token_at : Beginning → ℕ → State → Step
  token_at x at s = on_token rules lists budget x.levels at (drop at x.string) s

  -- Its reading comes to a place in a state: at its start; behind a token that leads on; and behind a call that came back.
  pub data Comes (x : Beginning) : ℕ → State → Type 0 where
    first : Comes x 0 x.state
    next : (at : ℕ) (s : State) (rest : List ℕ) (t : State) → Comes x at s → token_at x at s ≡ go rest t
        → Comes x (length x.string - length rest) t
    past : (at : ℕ) (s : State) (body rest : List ℕ) (t : State) → Comes x at s → token_at x at s ≡ enter body rest t
        → (read rules lists budget (x.levels - 1) body t).how ≡ back
        → Comes x (length x.string - length rest) (closed (read rules lists budget (x.levels - 1) body t).state)

  -- A call leads from a string to the one that it enters, a level deeper: the caller's reading comes to its place, where its index waits on top and
  -- an operator stands that calls its list; the index names its entry there; and the string is that entry's bytes, read with the call open.
  pub record Leads (caller : Beginning) (c : Entering) (body : Beginning) : Type 0 where
    pub before : State
    pub comes : Comes caller c.at before
    pub inside : c.at < length caller.string
    pub what : Operator
    pub behind : List ℕ
    pub there : cut (drop c.at caller.string) ≡ token (operator what) behind
    pub kind : rules.kind what ≡ Call c.list
    pub others : List Operand
    pub top : before.left.operands ≡ c.index ∷ others
    pub named : callee rules.exact (listed lists c.list).count c.index ≡ accepted c.entry
    pub bytes : (listed lists c.list).entry c.entry ≡ present body.string
    pub deeper : body.levels + 1 ≡ caller.levels
    pub opened : body.state ≡ called c before

  -- calls from one string to another, each from the string to which the one before it leads
  abbrev pub Path : Beginning → List Entering → Beginning → Type 0
  Path x [] y = x ≡ y
  Path x (c ∷ calls) y = (z : Beginning) × Leads x c z × Path z calls y

  -- a string's reading comes to a place where it refuses the token with k, in a state
  pub record RefusedIn (x : Beginning) (k : ℕ) (s : State) : Type 0 where
    pub at : ℕ
    pub comes : Comes x at s
    pub inside : at < length x.string
    pub step : token_at x at s ≡ refuse k s

-- a charstring, from the start
abbrev pub whole : Rules → List ℕ → Beginning
whole rules cs = record { levels = rules.levels; string = cs; state = start }

-- what holds of every charstring
abbrev OfAll : (Rules → List ℕ → List ℕ → List ℕ → ℕ → Type 0) → Type 0
OfAll says = (rules : Rules) (cs globals locals : List ℕ) (budget : ℕ) → says rules cs globals locals budget

-- Where a run is refused with k, its calls are a path from the charstring to a string in which its reading is refused with k, in the state that it
-- stopped in; and what is told with k is that state's.
abbrev pub ChainLeads : Type 0
ChainLeads = OfAll (λ rules cs globals locals budget.
    (k : ℕ) (v : Values) → (explanation rules cs globals locals budget).answer ≡ refused k v → RunRefusal k
    → let r = original rules cs globals locals budget in
    let lists = lists_of rules.width globals locals in
    (r.how ≡ stopped k) × (v ≡ comes_with k (tokens r))
    × ((last : Beginning) × Path rules lists budget (whole rules cs) (explanation rules cs globals locals budget).calls last
    × RefusedIn rules lists budget last k r.state))

-- ---- how many there are

-- as many as there are levels, at most
abbrev pub FewCalls : Type 0
FewCalls = OfAll (λ rules cs globals locals budget. length (explanation rules cs globals locals budget).calls ≤ rules.levels)

-- none where the charstring is accepted, where a list is not well formed, and where only the end was refused
abbrev pub NoCalls : Type 0
NoCalls = OfAll (λ rules cs globals locals budget.
    let x = explanation rules cs globals locals budget in (number_in x.answer ≤ 2) ⊎ (number_in x.answer ≡ 16) → x.calls ≡ [])

-- each is a call into an entry that the run entered
abbrev pub Each : (Entering → Type 0) → List Entering → Type 0
Each says [] = Unit {0}
Each says (c ∷ calls) = says c × Each says calls

abbrev pub AsMarked : Type 0
AsMarked = OfAll (λ rules cs globals locals budget.
    Each (λ c. entered_by (original rules cs globals locals budget) c.list c.entry ≡ true) (explanation rules cs globals locals budget).calls)

-- ---- the answer

-- what flattening answers in a room of n bytes
abbrev pub in_room : ℕ → Answer Flattening → Answer Flattening
in_room n (accepted x) = cond (leb x.size n) (accepted x) (refused 13 (needing_at x.size x.tokens))
in_room n (refused k v) = refused k v

abbrev pub AsFlattening : Type 0
AsFlattening = OfAll (λ rules cs globals locals budget. (out : List ℕ)
    → (flattening rules cs globals locals budget out).answer ≡ in_room (length out) (explanation rules cs globals locals budget).answer)

-- 13 is the room's, and here there is none
abbrev pub Never13 : Type 0
Never13 = OfAll (λ rules cs globals locals budget. number_in (explanation rules cs globals locals budget).answer ≡ 13 → ⊥)

-- ---- the words

-- 0 is the local list, and 1 the global one
abbrev pub IsList : Which → ℕ → Type 0
IsList Local w = w ≡ 0
IsList Global w = w ≡ 1

-- a call's three words, from place i on
pub record ThreeAt (left : List ℕ) (i : ℕ) (c : Entering) : Type 0 where
  pub list : IsList c.list (get_or left i 0)
  pub entry : get_or left (i + 1) 0 ≡ c.entry
  pub at : get_or left (i + 2) 0 ≡ c.at

-- what is left of the words lent: those of each call that has room, and all others as lent; word j is of call j / 3
pub record ToldIn (calls : List Entering) (lent left : List ℕ) : Type 0 where
  pub told : (before : List Entering) (c : Entering) (others : List Entering) → calls ≡ before ++ c ∷ others
      → length before < length lent / 3 → ThreeAt left (length before * 3) c
  pub rest : (j : ℕ) → (length calls ≤ j / 3) ⊎ (length lent / 3 ≤ j / 3) → get_or left j 0 ≡ get_or lent j 0
  pub size : length left ≡ length lent

-- whatever is lent, the answer is the same and all calls are counted
abbrev pub WordsTell : Type 0
WordsTell = OfAll (λ rules cs globals locals budget. (lent : List ℕ)
    → let x = explanation rules cs globals locals budget in
    let y = explaining rules cs globals locals budget lent in
    (y.answer ≡ x.answer) × (y.calls ≡ length x.calls) × ToldIn x.calls lent y.words)

-- that fixes the words: of no two can it hold
abbrev pub OneTelling : Type 0
OneTelling = (calls : List Entering) (lent left left' : List ℕ) → ToldIn calls lent left → ToldIn calls lent left' → left ≡ left'

-- three words a level are enough for all
abbrev pub EnoughWords : Type 0
EnoughWords = OfAll (λ rules cs globals locals budget. (lent : List ℕ) → rules.levels * 3 ≤ length lent
    → let made = call_words (explanation rules cs globals locals budget).calls in
    (explaining rules cs globals locals budget lent).words ≡ made ++ drop (length made) lent)
