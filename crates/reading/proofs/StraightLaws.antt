-- The bytes of valid items, read straight through and read as a charstring, give the items back. Assumes nothing.
use Rattle.std.specs.Prelude.{◌≡◌, drop}
use Rattle.std.proofs.Math.Path.{refl, sym, ap, subst}
use Rattle.std.proofs.Common.{◌∙◌, add-zero}
use Rattle.std.proofs.Math.Bool.{false}
use mathlib.Core.List.{List, [], ◌∷◌, ◌++◌, append_assoc, append-nil}
use Prim.Native.Nat.{ℕ, zero, suc, ◌+◌, ◌-◌, ◌<◌, ◌≤◌, zero-le}
use Rattle.std.proofs.Math.Nat.{suc-add, add-suc}
use native.Mathlib.Omega.{arith}
use Rattle.std.proofs.Math.ListN.{length, length-append}
use Rattle.std.proofs.Math.Seq.{take_at, drop_at}
use Rattle.number.specs.Number.{charstring_rows}
use Rattle.number.specs.Written.{spelling}
use Rattle.number.specs.Written.{Spellable}
use Rattle.number.proofs.RoundTripLaws.{read_spelling, spelling_some}
use Rattle.number.specs.declared.Operand.{Operand}
use Rattle.reading.specs.Rules.{Rules}
use Rattle.reading.specs.Lists.{Lists}
use Rattle.reading.specs.Tokens.{number, token, cut_by, cut}
use Rattle.reading.specs.Items.{Item, operand, bare, masked, counted, at_mask, left_over, left_by}
use Rattle.reading.specs.Reading.{
  Shown,
  item,
  struck,
  State,
  start,
  Ending,
  back,
  ended,
  Run,
  Step,
  go,
  shows,
  on_token,
  after,
  tokens_of,
  read,
  reading,
}
use Rattle.reading.specs.Flat.{operator_bytes, spelled, flat, Straight, is_mask, shown_behind, behind, straight_from, straight}
use Rattle.reading.proofs.StepLaws.{Goes, pushes, stems, clears, masks, ends, token_goes}
use Rattle.reading.specs.Valid.{Valid, none, number_behind, stem_behind, clear_behind, mask_behind, Whole, open_ended, end_behind, Cuttable}
use Rattle.reading.specs.declared.operator.Operator.{Operator}
use Rattle.reading.specs.declared.operator.Operator.TheVariants.{OneByte, TwoByte}
use Rattle.reading.specs.declared.operator.Kind.{Kind}
use Rattle.reading.specs.declared.operator.Kind.TheVariants.{Stem, Clear, Mask, End}

-- ---- one item's bytes, and whatever follows

number_cut : (o : Operand) → Spellable false o → (z : List ℕ) → cut (spelling charstring_rows o ++ z) ≡ token (number o) z
unfolding cut cut_by
number_cut o p z = rw (read_spelling false o p z) (ap (token (number o)) (drop_at (spelling charstring_rows o) z _ refl))

operator_some : (p : Operator) → 0 < length (operator_bytes p)
operator_some (OneByte b) = omega arith
operator_some (TwoByte b) = omega arith

-- ---- straight through

module _ (rules : Rules) where
  straight_step : (fuel : ℕ) (f : List Item) (bytes : List ℕ) → 0 < length bytes
      → straight_from rules (suc fuel) f bytes ≡ behind rules (λ g more. straight_from rules fuel g more) f bytes (cut bytes)
  unfolding straight_from
  straight_step fuel f [] h = absurd (omega arith)
  straight_step fuel f (b ∷ bs) h = refl

  abbrev OneBack : List Item → Item → Type 0
  OneBack f i = (fuel : ℕ) (z : List ℕ) → straight_from rules (suc fuel) f (spelled i ++ z) ≡ straight_from rules fuel (i ∷ f) z

  some : (x z : List ℕ) → 0 < length x → 0 < length (x ++ z)
  some x z h = omega (arith, length-append x z)

  number_back : (f : List Item) (o : Operand) → Spellable false o → OneBack f (operand o)
  unfolding spelled behind
  number_back f o p fuel z =
      let bytes = spelling charstring_rows o ++ z in
      straight_step fuel f bytes (some (spelling charstring_rows o) z (spelling_some false o p))
      ∙ ap (behind rules (λ g more. straight_from rules fuel g more) f bytes) (number_cut o p z)

  not_mask : (k : Kind) → is_mask k ≡ false → (p : Operator) → rules.kind p ≡ k → (f : List Item) (z : List ℕ)
      → shown_behind rules f p z ≡ record { items = bare p ∷ f; rest = z }
  not_mask k h p e f z = rw (e, h)

  bare_back : (f : List Item) (p : Operator) → Cuttable p → (k : Kind) → rules.kind p ≡ k → is_mask k ≡ false → OneBack f (bare p)
  unfolding spelled behind
  bare_back f p c k e h fuel z =
      let bytes = operator_bytes p ++ z in
      straight_step fuel f bytes (some (operator_bytes p) z (operator_some p))
      ∙ ap (behind rules (λ g more. straight_from rules fuel g more) f bytes) (c z)
      ∙ ap (λ (x : Straight). straight_from rules fuel x.items x.rest) (not_mask k h p e f z)

  mask_back : (f : List Item) (p : Operator) (m : List ℕ) → Cuttable p → rules.kind p ≡ Mask → length m ≡ (at_mask (left_by rules f)).mask
      → OneBack f (masked p m)
  unfolding spelled behind
  mask_back f p m c e n fuel z =
      let bytes = operator_bytes p ++ (m ++ z) in
      ap (straight_from rules (suc fuel) f) (append_assoc (operator_bytes p) m z)
      ∙ straight_step fuel f bytes (some (operator_bytes p) (m ++ z) (operator_some p))
      ∙ ap (behind rules (λ g more. straight_from rules fuel g more) f bytes) (c (m ++ z))
      ∙ ap (λ (x : Straight). straight_from rules fuel x.items x.rest) shown_mask
    where
      shown_mask : shown_behind rules f p (m ++ z) ≡ record { items = masked p m ∷ f; rest = z }
      shown_mask = rw (e, take_at m z (at_mask (left_by rules f)).mask n, drop_at m z (at_mask (left_by rules f)).mask n)

  abbrev AllBack : List Item → Type 0
  AllBack f = (fuel : ℕ) (z : List ℕ) → straight_from rules (fuel + length f) [] (flat f ++ z) ≡ straight_from rules fuel f z

  back_behind : (f : List Item) (i : Item) → AllBack f → OneBack f i → AllBack (i ∷ f)
  unfolding flat
  back_behind f i all one fuel z =
      let n : fuel + suc (length f) ≡ suc fuel + length f = add-suc fuel (length f) ∙ sym (suc-add fuel (length f)) in
      ap (λ (m : ℕ). straight_from rules m [] ((flat f ++ spelled i) ++ z)) n
      ∙ ap (straight_from rules (suc fuel + length f) []) (append_assoc (flat f) (spelled i) z)
      ∙ all (suc fuel) (spelled i ++ z)
      ∙ one fuel z

  valid_straight : (f : List Item) → Valid rules f → AllBack f
  unfolding flat
  valid_straight f none fuel z = ap (λ (m : ℕ). straight_from rules m [] z) (add-zero fuel)
  valid_straight f (number_behind o g p l v) fuel z = back_behind g (operand o) (valid_straight g v) (number_back g o p) fuel z
  valid_straight f (stem_behind p g c k l v) fuel z = back_behind g (bare p) (valid_straight g v) (bare_back g p c Stem k refl) fuel z
  valid_straight f (clear_behind p g c k v) fuel z = back_behind g (bare p) (valid_straight g v) (bare_back g p c Clear k refl) fuel z
  valid_straight f (mask_behind p m g c k w l n v) fuel z = back_behind g (masked p m) (valid_straight g v) (mask_back g p m c k n) fuel z

  whole_straight : (e : Ending) (f : List Item) → Whole rules e f → AllBack f
  whole_straight e f (open_ended g v) = valid_straight g v
  whole_straight e f (end_behind p g c k l v) = back_behind g (bare p) (valid_straight g v) (bare_back g p c End k refl)

  -- each item has a byte at least
  item_some : (f : List Item) (i : Item) → length f ≤ length (flat f) → 0 < length (spelled i) → length (i ∷ f) ≤ length (flat (i ∷ f))
  unfolding flat
  item_some f i h k = omega (arith, length-append (flat f) (spelled i))

  valid_fewer : (f : List Item) → Valid rules f → length f ≤ length (flat f)
  unfolding spelled flat
  valid_fewer f none = zero-le
  valid_fewer f (number_behind o g p l v) = item_some g (operand o) (valid_fewer g v) (spelling_some false o p)
  valid_fewer f (stem_behind p g c k l v) = item_some g (bare p) (valid_fewer g v) (operator_some p)
  valid_fewer f (clear_behind p g c k v) = item_some g (bare p) (valid_fewer g v) (operator_some p)
  valid_fewer f (mask_behind p m g c k w l n v) = item_some g (masked p m) (valid_fewer g v) (some (operator_bytes p) m (operator_some p))

  whole_fewer : (e : Ending) (f : List Item) → Whole rules e f → length f ≤ length (flat f)
  unfolding spelled
  whole_fewer e f (open_ended g v) = valid_fewer g v
  whole_fewer e f (end_behind p g c k l v) = item_some g (bare p) (valid_fewer g v) (operator_some p)

  nothing_left : (fuel : ℕ) (f : List Item) → straight_from rules fuel f [] ≡ record { items = f; rest = [] }
  unfolding straight_from
  nothing_left zero f = refl
  nothing_left (suc fuel) f = refl

  pub whole_back : (e : Ending) (f : List Item) → Whole rules e f → straight rules (flat f) ≡ record { items = f; rest = [] }
  unfolding straight
  whole_back e f w =
      let more = length (flat f) - length f in
      let n : length (flat f) ≡ more + length f = let h = whole_fewer e f w in omega arith in
      ap (λ (m : ℕ). straight_from rules m [] (flat f)) n
      ∙ ap (straight_from rules (more + length f) []) (sym (append-nil (flat f)))
      ∙ whole_straight e f w more []
      ∙ nothing_left more f

-- ---- as a charstring

-- what a run has shown that read just these items
unfoldable pub shown_of : List Item → List Shown
shown_of [] = []
shown_of (i ∷ f) = item i ∷ shown_of f

pub struck_shown : (f : List Item) → struck (shown_of f) ≡ f
unfolding struck shown_of
struck_shown [] = refl
struck_shown (i ∷ f) = ap (λ (g : List Item). i ∷ g) (struck_shown f)

pub count_shown : (f : List Item) → length (shown_of f) ≡ length f
unfolding shown_of
count_shown [] = refl
count_shown (i ∷ f) = ap suc (count_shown f)

module _ (rules : Rules) where
  abbrev pub state_of : List Item → State
  state_of f = record { left = left_by rules f; shown = shown_of f; within = [] }

  module _ (lists : Lists) (budget levels : ℕ) (below : List ℕ → State → Run) (size : ℕ) where
    abbrev pub runs : ℕ → List ℕ → State → Run
    runs = tokens_of rules lists budget levels below size

    pub run_step : (fuel : ℕ) (bytes : List ℕ) (s : State) → 0 < length bytes
        → runs (suc fuel) bytes s ≡ after (λ more t. runs fuel more t) below (on_token rules lists budget levels (size - length bytes) bytes s)
    unfolding tokens_of
    run_step fuel [] s h = absurd (omega arith)
    run_step fuel (b ∷ bs) s h = refl

    abbrev OneAgain : List Item → Item → Type 0
    OneAgain f i = (fuel : ℕ) (z : List ℕ) → runs (suc fuel) (spelled i ++ z) (state_of f) ≡ runs fuel z (state_of (i ∷ f))

    -- the token at the start of bytes leads to x
    abbrev Leads : List Item → List ℕ → Step → Type 0
    Leads f bytes x = Goes rules lists levels (size - length bytes) bytes (state_of f) x

    module _ (f : List Item) (within : length f < budget) where
      follows : (fuel : ℕ) (bytes : List ℕ) → 0 < length bytes → (x : Step) → Leads f bytes x
          → runs (suc fuel) bytes (state_of f) ≡ after (λ more t. runs fuel more t) below x
      follows fuel bytes h x g =
          let begins : length (state_of f).shown < budget = let e = count_shown f in omega arith in
          run_step fuel bytes (state_of f) h
          ∙ ap (after (λ more t. runs fuel more t) below) (token_goes rules lists budget levels (size - length bytes) bytes (state_of f) begins x g)

      -- a token that leads on to z with the item shown
      led : (i : Item) (fuel : ℕ) (bytes z : List ℕ) → 0 < length bytes → Leads f bytes (go z (shows rules i (state_of f)))
          → runs (suc fuel) bytes (state_of f) ≡ runs fuel z (state_of (i ∷ f))
      unfolding after left_by shown_of
      led i fuel bytes z h g = follows fuel bytes h _ g

      number_again : (o : Operand) → Spellable false o → length (left_by rules f).operands < rules.operands → OneAgain f (operand o)
      unfolding spelled
      number_again o p l fuel z =
          let bytes = spelling charstring_rows o in
          led (operand o) fuel (bytes ++ z) z (some rules bytes z (spelling_some false o p))
          (pushes o z (number_cut o p z) l)

      module _ (p : Operator) (c : Cuttable p) where
        there : (z : List ℕ) → 0 < length (operator_bytes p ++ z)
        there z = some rules (operator_bytes p) z (operator_some p)

        stem_again : rules.kind p ≡ Stem → (counted (left_by rules f)).hints ≤ rules.hints → OneAgain f (bare p)
        unfolding spelled
        stem_again k l fuel z = led (bare p) fuel (operator_bytes p ++ z) z (there z) (stems p z (c z) k l)

        clear_again : rules.kind p ≡ Clear → OneAgain f (bare p)
        unfolding spelled
        clear_again k fuel z = led (bare p) fuel (operator_bytes p ++ z) z (there z) (clears p z (c z) k)

        mask_again : (m : List ℕ) → rules.kind p ≡ Mask → left_over rules (left_by rules f) ≡ false
            → (at_mask (left_by rules f)).hints ≤ rules.hints → length m ≡ (at_mask (left_by rules f)).mask → OneAgain f (masked p m)
        unfolding spelled
        mask_again m k w l n fuel z =
            let bytes = operator_bytes p ++ (m ++ z) in
            let x = at_mask (left_by rules f) in
            let fits : x.mask ≤ length (m ++ z) = omega (arith, length-append m z) in
            ap (λ (b : List ℕ). runs (suc fuel) b (state_of f)) (append_assoc (operator_bytes p) m z)
            ∙ led (masked p m) fuel bytes z (there (m ++ z))
            (subst (λ (y : List ℕ). Leads f bytes (go y (shows rules (masked p m) (state_of f)))) (drop_at m z x.mask n)
            (subst (λ (y : List ℕ). Leads f bytes (go (drop x.mask (m ++ z)) (shows rules (masked p y) (state_of f)))) (take_at m z x.mask n)
            (masks p (m ++ z) (c (m ++ z)) k w l fits)))

    abbrev AllAgain : List Item → Type 0
    AllAgain f = (fuel : ℕ) (z : List ℕ) → runs (fuel + length f) (flat f ++ z) start ≡ runs fuel z (state_of f)

    again_behind : (f : List Item) (i : Item) → AllAgain f → OneAgain f i → AllAgain (i ∷ f)
    unfolding flat
    again_behind f i all one fuel z =
        let n : fuel + suc (length f) ≡ suc fuel + length f = add-suc fuel (length f) ∙ sym (suc-add fuel (length f)) in
        ap (λ (m : ℕ). runs m ((flat f ++ spelled i) ++ z) start) n
        ∙ ap (λ (b : List ℕ). runs (suc fuel + length f) b start) (append_assoc (flat f) (spelled i) z)
        ∙ all (suc fuel) (spelled i ++ z)
        ∙ one fuel z

    valid_again : (f : List Item) → Valid rules f → length f ≤ budget → AllAgain f
    unfolding flat left_by shown_of
    valid_again f none h fuel z = ap (λ (m : ℕ). runs m z start) (add-zero fuel)
    valid_again f (number_behind o g p l v) h fuel z =
        again_behind g (operand o) (valid_again g v (omega arith)) (number_again g h o p l) fuel z
    valid_again f (stem_behind p g c k l v) h fuel z =
        again_behind g (bare p) (valid_again g v (omega arith)) (stem_again g h p c k l) fuel z
    valid_again f (clear_behind p g c k v) h fuel z =
        again_behind g (bare p) (valid_again g v (omega arith)) (clear_again g h p c k) fuel z
    valid_again f (mask_behind p m g c k w l n v) h fuel z =
        again_behind g (masked p m) (valid_again g v (omega arith)) (mask_again g h p c m k w l n) fuel z

    ran_out : (fuel : ℕ) (s : State) → runs fuel [] s ≡ record { how = back; state = s }
    unfolding tokens_of
    ran_out zero s = refl
    ran_out (suc fuel) s = refl

    -- an endchar behind valid items ends everything
    end_again : (f : List Item) (p : Operator) → Cuttable p → rules.kind p ≡ End
        → length (left_by rules f).operands < 4 → length f < budget → (fuel : ℕ)
        → runs (suc fuel) (operator_bytes p ++ []) (state_of f)
        ≡ record { how = ended; state = state_of (bare p ∷ f) }
    unfolding after left_by shown_of
    end_again f p c k l h fuel =
        follows f h fuel (operator_bytes p ++ []) (there f h p c []) _ (ends p [] (c []) k l)

-- What a run that read just the items f gives: it ends so, has shown them and nothing else, and leaves what they leave.
pub record Just (rules : Rules) (e : Ending) (f : List Item) (r : Run) : Type 0 where
  pub how : r.how ≡ e
  pub shown : r.state.shown ≡ shown_of f
  pub left : r.state.left ≡ left_by rules f

module _ (rules : Rules) (lists : Lists) (budget levels : ℕ) (below : List ℕ → State → Run) where
  whole_again : (e : Ending) (f : List Item) → Whole rules e f → length f ≤ budget → (size : ℕ)
      → Just rules e f (tokens_of rules lists budget levels below size (length (flat f)) (flat f) start)
  unfolding flat shown_of spelled
  whole_again e f (open_ended g v) h size =
      let more = length (flat f) - length f in
      let n : length (flat f) ≡ more + length f = let k = valid_fewer rules f v in omega arith in
      let same = ap (λ (m : ℕ). tokens_of rules lists budget levels below size m (flat f) start) n
      ∙ ap (λ (b : List ℕ). tokens_of rules lists budget levels below size (more + length f) b start) (sym (append-nil (flat f)))
      ∙ valid_again rules lists budget levels below size f v h more []
      ∙ ran_out rules lists budget levels below size more (state_of rules f) in
      subst (Just rules back f) (sym same) (record { how = refl; shown = refl; left = refl })
  whole_again e f (end_behind p g c k l v) h size =
      let bytes = flat g ++ operator_bytes p in
      let w = item_some rules g (bare p) (valid_fewer rules g v) (operator_some p) in
      let more = length bytes - suc (length g) in
      let n : length bytes ≡ suc more + length g = omega (arith, suc-add more (length g)) in
      let same = ap (λ (m : ℕ). tokens_of rules lists budget levels below size m bytes start) n
      ∙ ap (λ (b : List ℕ). tokens_of rules lists budget levels below size (suc more + length g) (flat g ++ b) start) (sym (append-nil (operator_bytes p)))
      ∙ valid_again rules lists budget levels below size g v (omega arith) (suc more) (operator_bytes p ++ [])
      ∙ end_again rules lists budget levels below size g p c k l h more in
      subst (Just rules ended (bare p ∷ g)) (sym same) (record { how = refl; shown = refl; left = refl })

-- the bytes of the items, read as a charstring with any lists
pub read_again : (rules : Rules) (lists : Lists) (budget : ℕ) (e : Ending) (f : List Item) → Whole rules e f
    → length f ≤ budget → Just rules e f (reading rules lists budget (flat f))
unfolding reading read
read_again rules lists budget e f w h = go rules.levels
  where
    go : (levels : ℕ) → Just rules e f (read rules lists budget levels (flat f) start)
    go zero = whole_again rules lists budget zero _ e f w h (length (flat f))
    go (suc levels) = whole_again rules lists budget (suc levels) _ e f w h (length (flat f))
