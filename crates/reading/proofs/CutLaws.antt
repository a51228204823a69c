-- The laws of cutting tokens. Assumes nothing.
use Rattle.std.proofs.Math.Path.{◌≡◌, refl, sym, ap, subst}
use Rattle.std.proofs.Common.{◌∙◌, lit<, length-drop, get_or-drop, eqb-true}
use Rattle.std.specs.Prelude.{Bool, eqb, ltb, drop}
use Rattle.std.proofs.Math.Bool.{true, false, cond}
use mathlib.Core.List.{List, [], ◌∷◌}
use Prim.Native.Nat.{ℕ, suc, ◌+◌, ◌<◌}
use native.Mathlib.Omega.{arith}
use Rattle.std.proofs.Math.ListN.{length}
use Rattle.number.specs.Answer.{Values, Answer, accepted, refused, alone}
use Rattle.number.specs.Number.{Number, charstring_rows, Found, row, no_row, row_of, number_by, read_by}
use Rattle.number.proofs.NumberLaws.{read_some}
use Rattle.number.specs.declared.Operand.{Operand}
use Rattle.number.specs.Written.{Spellable}
use Rattle.number.proofs.RoundTripLaws.{read_width, read_inside, Width, one, two, three, five, read_spellable}
use Rattle.reading.specs.Tokens.{Bytes, Token, number, operator, token, lacking, escaped_at, operator_at, cut_by, cut}
use Rattle.reading.specs.Valid.{Cuttable}
use Rattle.reading.specs.declared.operator.Operator.{Operator}
use Rattle.reading.specs.declared.operator.Operator.TheVariants.{OneByte, TwoByte}

-- bytes behind a byte are bytes
pub bytes_drop : (n : ℕ) (s : List ℕ) → Bytes s → Bytes (drop n s)
bytes_drop n s h i = rw (get_or-drop n s i 0) (h (n + i))

pub bytes_tail : (b : ℕ) (s : List ℕ) → Bytes (b ∷ s) → Bytes s
bytes_tail b s h i = h (suc i)

-- a byte that starts no number does so whatever follows
module _ (b : ℕ) where
  lone : (f : Found) (s t : List ℕ) (v : Values) → number_by f s ≡ refused 6 v → number_by f t ≡ refused 6 alone
  unfolding number_by
  lone no_row s t v e = refl
  lone (row r) s t v e = absurd (never (ltb r.after (length s)) _ e)
    where
      never : (x : Bool) (y : Number) → cond x (accepted y) (refused 4 alone) ≡ refused 6 v → ⊥
      never true y p = cc
      never false y p = cc

  no_number : (s t : List ℕ) (v : Values) → read_by charstring_rows (b ∷ s) ≡ refused 6 v → read_by charstring_rows (b ∷ t) ≡ refused 6 alone
  no_number s t v e =
      sym (read_some charstring_rows (b ∷ t) (λ z. omega arith))
      ∙ lone (row_of b charstring_rows) (b ∷ s) (b ∷ t) v (read_some charstring_rows (b ∷ s) (λ z. omega arith) ∙ e)

  as_operator : (s t : List ℕ) (v : Values) → read_by charstring_rows (b ∷ s) ≡ refused 6 v → cut (b ∷ t) ≡ operator_at (b ∷ t)
  unfolding cut cut_by
  as_operator s t v e = rw (no_number s t v e)

-- ---- what was cut

-- an operand can be written, and an operator is cut from its own bytes
abbrev pub Sound : Token → Type 0
Sound (number o) = Spellable false o
Sound (operator p) = Cuttable p

pub record CutOff (bytes : List ℕ) (t : Token) (rest : List ℕ) : Type 0 where
  pub behind : Bytes rest
  pub sound : Sound t

wide : (n : ℕ) → Width n → 0 < n
wide n one = lit< tt
wide n two = lit< tt
wide n three = lit< tt
wide n five = lit< tt

escaped : (b : ℕ) (more : List ℕ) → operator_at (12 ∷ b ∷ more) ≡ token (operator (TwoByte b)) more
unfolding operator_at escaped_at
escaped b more = refl

unescaped : (b : ℕ) → eqb b 12 ≡ false → (more : List ℕ) → operator_at (b ∷ more) ≡ token (operator (OneByte b)) more
unfolding operator_at
unescaped b k more = rw k

module _ (t : Token) (rest : List ℕ) where
  -- the same token and the same rest
  moved : (bytes : List ℕ) (t' : Token) (rest' : List ℕ) → token t' rest' ≡ token t rest → CutOff bytes t' rest' → CutOff bytes t rest
  moved bytes t' rest' e c =
      let p : t' ≡ t = cc in
      let q : rest' ≡ rest = cc in
      subst (λ (y : List ℕ). CutOff bytes t y) q (subst (λ (x : Token). CutOff bytes x rest') p c)

  no_token : {A : Type 0} → lacking ≡ token t rest → A
  no_token e = cc

  module _ (bytes : List ℕ) (h : Bytes bytes) where
    by_number : (x : Number) → accepted x ≡ read_by charstring_rows bytes → CutOff bytes (number x.operand) (drop x.width bytes)
    by_number x e =
        record { behind = bytes_drop x.width bytes h; sound = read_spellable false bytes h x e }

  by_escape : (s : List ℕ) (v : Values) → Bytes s → read_by charstring_rows (12 ∷ s) ≡ refused 6 v
      → escaped_at s ≡ token t rest → CutOff (12 ∷ s) t rest
  unfolding escaped_at
  by_escape [] v h e q = cc
  by_escape (b ∷ s) v h e q =
      moved (12 ∷ b ∷ s) (operator (TwoByte b)) s q
      (record { behind = bytes_tail b s h; sound = λ more. as_operator 12 (b ∷ s) (b ∷ more) v e ∙ escaped b more })

  by_byte : (b : ℕ) (s : List ℕ) (v : Values) → Bytes s → read_by charstring_rows (b ∷ s) ≡ refused 6 v → (x : Bool) → eqb b 12 ≡ x
      → cond x (escaped_at s) (token (operator (OneByte b)) s) ≡ token t rest → CutOff (b ∷ s) t rest
  by_byte b s v h e true k q =
      let twelve : b ≡ 12 = eqb-true b 12 k in
      subst (λ (c : ℕ). CutOff (c ∷ s) t rest) (sym twelve)
      (by_escape s v h (subst (λ (c : ℕ). read_by charstring_rows (c ∷ s) ≡ refused 6 v) twelve e) q)
  by_byte b s v h e false k q =
      moved (b ∷ s) (operator (OneByte b)) s q
      (record { behind = h; sound = λ more. as_operator b s more v e ∙ unescaped b k more })

  by_refusal : (bytes : List ℕ) (n : ℕ) (v : Values) → Bytes bytes → read_by charstring_rows bytes ≡ refused n v → (x : Bool) → eqb n 6 ≡ x
      → cond x (operator_at bytes) lacking ≡ token t rest → CutOff bytes t rest
  unfolding operator_at
  by_refusal [] n v h e true k q = cc
  by_refusal (b ∷ s) n v h e true k q =
      by_byte b s v (bytes_tail b s h) (subst (λ (m : ℕ). read_by charstring_rows (b ∷ s) ≡ refused m v) (eqb-true n 6 k) e) (eqb b 12) refl q
  by_refusal bytes n v h e false k q = cc

  pub cut_off : (bytes : List ℕ) → Bytes bytes → cut bytes ≡ token t rest → CutOff bytes t rest
  unfolding cut cut_by
  cut_off bytes h q = go (read_by charstring_rows bytes) refl q
    where
      go : (a : Answer Number) → read_by charstring_rows bytes ≡ a → cut_by bytes a ≡ token t rest → CutOff bytes t rest
      go (accepted x) e q = moved bytes (number x.operand) (drop x.width bytes) q (by_number bytes h x (sym e))
      go (refused n v) e q = by_refusal bytes n v h e (eqb n 6) refl q

-- ---- a token takes a byte at least, whatever stands there

rest_is : (t t' : Token) (rest rest' : List ℕ) → token t' rest' ≡ token t rest → rest' ≡ rest
rest_is t t' rest rest' e = cc

module _ (t : Token) (rest : List ℕ) where
  fewer_escape : (s : List ℕ) → escaped_at s ≡ token t rest → length rest < suc (length s)
  unfolding escaped_at
  fewer_escape [] e = cc
  fewer_escape (b ∷ s) e = subst (λ (l : List ℕ). length l < suc (suc (length s))) (rest_is t _ rest s e) (omega arith)

  fewer_byte : (b : ℕ) (s : List ℕ) (x : Bool) → cond x (escaped_at s) (token (operator (OneByte b)) s) ≡ token t rest
      → length rest < suc (length s)
  fewer_byte b s true e = fewer_escape s e
  fewer_byte b s false e = subst (λ (l : List ℕ). length l < suc (length s)) (rest_is t _ rest s e) (omega arith)

  fewer_operator : (bytes : List ℕ) (x : Bool) → cond x (operator_at bytes) lacking ≡ token t rest → length rest < length bytes
  unfolding operator_at
  fewer_operator [] true e = cc
  fewer_operator (b ∷ s) true e = fewer_byte b s (eqb b 12) e
  fewer_operator bytes false e = cc

pub cut_fewer : (bytes : List ℕ) (t : Token) (rest : List ℕ) → cut bytes ≡ token t rest → length rest < length bytes
unfolding cut cut_by
cut_fewer bytes t rest q = go (read_by charstring_rows bytes) refl q
  where
    go : (a : Answer Number) → read_by charstring_rows bytes ≡ a → cut_by bytes a ≡ token t rest → length rest < length bytes
    go (accepted x) e q =
        let w = wide x.width (read_width false bytes x (sym e)) in
        let i = read_inside false bytes x (sym e) in
        subst (λ (l : List ℕ). length l < length bytes) (rest_is t _ rest (drop x.width bytes) q) (omega (arith, length-drop x.width bytes))
    go (refused n v) e q = fewer_operator t rest bytes (eqb n 6) q

-- ---- an operator of one byte takes one byte

-- a token is one operator, and no operand
same_operator : (p q : Operator) (rest rest' : List ℕ) → token (operator q) rest' ≡ token (operator p) rest → q ≡ p
same_operator p q rest rest' e = cc

no_operator : {A : Type 0} (o : Operand) (p : Operator) (rest rest' : List ℕ) → token (number o) rest' ≡ token (operator p) rest → A
no_operator o p rest rest' e = cc

module _ (o : ℕ) (rest : List ℕ) where
  one_escape : {A : Type 0} (s : List ℕ) → escaped_at s ≡ token (operator (OneByte o)) rest → A
  unfolding escaped_at
  one_escape [] e = cc
  one_escape (b ∷ s) e = cc

  one_byte : (b : ℕ) (s : List ℕ) (x : Bool)
      → cond x (escaped_at s) (token (operator (OneByte b)) s) ≡ token (operator (OneByte o)) rest
      → length rest ≡ length s
  one_byte b s true e = one_escape s e
  one_byte b s false e = ap length (sym (rest_is (operator (OneByte o)) _ rest s e))

  one_operator : (bytes : List ℕ) (x : Bool) → cond x (operator_at bytes) lacking ≡ token (operator (OneByte o)) rest
      → suc (length rest) ≡ length bytes
  unfolding operator_at
  one_operator [] true e = cc
  one_operator (b ∷ s) true e = ap suc (one_byte b s (eqb b 12) e)
  one_operator bytes false e = cc

  pub cut_one : (bytes : List ℕ) → cut bytes ≡ token (operator (OneByte o)) rest → suc (length rest) ≡ length bytes
  unfolding cut cut_by
  cut_one bytes q = go (read_by charstring_rows bytes) q
    where
      go : (a : Answer Number) → cut_by bytes a ≡ token (operator (OneByte o)) rest → suc (length rest) ≡ length bytes
      go (accepted x) q = cc
      go (refused n v) q = one_operator bytes (eqb n 6) q

-- ---- the bytes behind a token are the last ones of those before it

abbrev pub Behind : List ℕ → List ℕ → Type 0
Behind bytes rest = (n : ℕ) × (rest ≡ drop n bytes)

module _ (t : Token) (rest : List ℕ) where
  behind_escape : (b : ℕ) (s : List ℕ) → escaped_at s ≡ token t rest → Behind (b ∷ s) rest
  unfolding escaped_at
  behind_escape b [] e = cc
  behind_escape b (c ∷ s) e = (2, sym (rest_is t _ rest s e))

  behind_byte : (b : ℕ) (s : List ℕ) (x : Bool) → cond x (escaped_at s) (token (operator (OneByte b)) s) ≡ token t rest
      → Behind (b ∷ s) rest
  behind_byte b s true e = behind_escape b s e
  behind_byte b s false e = (1, sym (rest_is t _ rest s e))

  behind_operator : (bytes : List ℕ) (x : Bool) → cond x (operator_at bytes) lacking ≡ token t rest → Behind bytes rest
  unfolding operator_at
  behind_operator [] true e = cc
  behind_operator (b ∷ s) true e = behind_byte b s (eqb b 12) e
  behind_operator bytes false e = cc

pub cut_behind : (bytes : List ℕ) (t : Token) (rest : List ℕ) → cut bytes ≡ token t rest → Behind bytes rest
unfolding cut cut_by
cut_behind bytes t rest q = go (read_by charstring_rows bytes) q
  where
    go : (a : Answer Number) → cut_by bytes a ≡ token t rest → Behind bytes rest
    go (accepted x) q = (x.width, sym (rest_is t _ rest (drop x.width bytes) q))
    go (refused n v) q = behind_operator t rest bytes (eqb n 6) q
