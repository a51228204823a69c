-- The items that a run leaves once calls and returns are struck out: they are valid from the start, and what they leave behind is the state's.
-- This is the invariant behind demand 3. Assumes nothing.
use Rattle.std.proofs.Math.Path.{◌≡◌, ap}
use Rattle.std.specs.Prelude.{refl, true, false, ℕ, ◌<◌, ◌≤◌, take, drop}
use Rattle.std.proofs.Common.{sym, subst, ◌∙◌, length-take-le}
use mathlib.Core.List.{List, [], ◌∷◌}
use Rattle.std.proofs.Math.ListN.{length}
use Rattle.number.specs.Written.{Spellable}
use Rattle.number.specs.declared.Operand.{Operand}
use Rattle.reading.specs.Rules.{Rules}
use Rattle.reading.specs.Lists.{Lists}
use Rattle.reading.specs.Tokens.{number, operator, token, cut, Bytes}
use Rattle.reading.proofs.CutLaws.{cut_off, bytes_drop}
use Rattle.reading.specs.Items.{Item, operand, bare, masked, Left, popped, counted, at_mask, left_over, leaves, left_by}
use Rattle.reading.specs.Reading.{Entering, call, return, struck, State, shows}
use Rattle.reading.specs.Reading.{start, Ending, back, ended, stopped, Step, ends_in_operand, reading}
use Rattle.reading.specs.Valid.{Cuttable, Valid, none, number_behind, stem_behind, clear_behind, mask_behind, end_behind}
use Rattle.reading.specs.Valid.{Taken, Good, Ended, Ends, ByteLists}
use Rattle.reading.proofs.StepLaws.{declines, goes, Goes, pushes, stems, clears, masks, enters, returns, ends, Stepped, spent, begun, token_is}
use Rattle.reading.proofs.RunLaws.{Led, Kept, kept}
use Rattle.reading.specs.declared.operator.Operator.{Operator}
use Rattle.reading.specs.declared.operator.Kind.TheVariants.{Stem, Clear, Mask, End}

-- an item is shown
module _ (rules : Rules) (s : State) (g : Good rules s) where
  shown_good : (i : Item) → Valid rules (i ∷ struck s.shown) → Good rules (shows rules i s)
  unfolding struck left_by
  shown_good i v = record { agree = ap (leaves rules i) g.agree; valid = v; taken = g.taken }

  module _ (o : Operand) where
    number_good : Spellable false o → length s.left.operands < rules.operands
        → Good rules (shows rules (operand o) s)
    number_good p l =
        shown_good (operand o)
        (number_behind o (struck s.shown) p (subst (λ (x : Left). length x.operands < rules.operands) (sym g.agree) l) g.valid)

  module _ (p : Operator) (c : Cuttable p) where
    stem_good : rules.kind p ≡ Stem → (counted s.left).hints ≤ rules.hints
        → Good rules (shows rules (bare p) s)
    stem_good k l =
        shown_good (bare p)
        (stem_behind p (struck s.shown) c k (subst (λ (x : Left). (counted x).hints ≤ rules.hints) (sym g.agree) l) g.valid)

    clear_good : rules.kind p ≡ Clear → Good rules (shows rules (bare p) s)
    clear_good k = shown_good (bare p) (clear_behind p (struck s.shown) c k g.valid)

    mask_good : (m : List ℕ) → rules.kind p ≡ Mask → left_over rules s.left ≡ false → (at_mask s.left).hints ≤ rules.hints
        → length m ≡ (at_mask s.left).mask → Good rules (shows rules (masked p m) s)
    mask_good m k w l n =
        shown_good (masked p m)
        (mask_behind p m (struck s.shown) c k (subst (λ (x : Left). left_over rules x ≡ false) (sym g.agree) w)
        (subst (λ (x : Left). (at_mask x).hints ≤ rules.hints) (sym g.agree) l)
        (subst (λ (x : Left). length m ≡ (at_mask x).mask) (sym g.agree) n) g.valid)

    end_good : rules.kind p ≡ End → length s.left.operands < 4
        → Ended rules (shows rules (bare p) s)
    unfolding struck left_by
    end_good k l =
        record {
          agree = ap (leaves rules (bare p)) g.agree;
          whole = end_behind p (struck s.shown) c k (subst (λ (x : Left). length x.operands < 4) (sym g.agree) l) g.valid;
          taken = g.taken;
        }

  return_good : Good rules (record { left = s.left; shown = return ∷ s.shown; within = s.within })
  unfolding struck
  return_good = record { agree = g.agree; valid = g.valid; taken = g.taken }

-- a call strikes out the operand that it takes: the last item is an operand, so it is the one on top of the stack
module _ (rules : Rules) (x : Left) (c : Entering) (ops : List Operand) (h : x.operands ≡ c.index ∷ ops) where
  pub index_is_last : (f : List Item) → left_by rules f ≡ x → ends_in_operand f ≡ true → f ≡ operand c.index ∷ drop 1 f
  unfolding left_by leaves ends_in_operand
  index_is_last [] e t = cc
  index_is_last (operand o ∷ f) e t =
      let top : o ∷ (left_by rules f).operands ≡ c.index ∷ ops = ap (λ (y : Left). y.operands) e ∙ h in
      let same : o ≡ c.index = cc in
      ap (λ (y : Operand). operand y ∷ f) same
  index_is_last (bare p ∷ f) e t = cc
  index_is_last (masked p m ∷ f) e t = cc

left_popped : (rules : Rules) (o : Operand) (f : List Item) → left_by rules f ≡ popped (left_by rules (operand o ∷ f))
unfolding left_by leaves
left_popped rules o f = refl

valid_popped : (rules : Rules) (o : Operand) (f : List Item) → Valid rules (operand o ∷ f) → Valid rules f
valid_popped rules o f (number_behind o' f' p l v) = v

module _ (rules : Rules) (s : State) (g : Good rules s) (c : Entering) (ops : List Operand) (h : s.left.operands ≡ c.index ∷ ops)
    (t : ends_in_operand (struck s.shown) ≡ true) where
  last : struck s.shown ≡ operand c.index ∷ drop 1 (struck s.shown)
  last = index_is_last rules s.left c ops h (struck s.shown) g.agree t

  call_good : Good rules (record { left = popped s.left; shown = call c ∷ s.shown; within = c ∷ s.within })
  unfolding struck
  call_good =
      record {
        agree = left_popped rules c.index (drop 1 (struck s.shown))
            ∙ ap (λ (f : List Item). popped (left_by rules f)) (sym last) ∙ ap popped g.agree;
        valid = valid_popped rules c.index (drop 1 (struck s.shown)) (subst (Valid rules) last g.valid);
        taken = (last, g.taken);
      }

-- ---- it is kept

module _ (rules : Rules) (lists : Lists) (budget : ℕ) (entries : ByteLists lists) where
  module _ (levels at : ℕ) (bytes : List ℕ) (s : State) (h : Bytes bytes) (g : Good rules s) where
    operator_cut : (p : Operator) (rest : List ℕ) → cut bytes ≡ token (operator p) rest → Cuttable p × Bytes rest
    operator_cut p rest q = let c = cut_off (operator p) rest bytes h q in (c.sound, c.behind)

    pub good_goes : (x : Step) → Goes rules lists levels at bytes s x → Led rules lists budget Bytes (Good rules) (Ends rules) levels x
    good_goes x (pushes o rest q l) = let c = cut_off (number o) rest bytes h q in (c.behind, number_good rules s g o c.sound l)
    good_goes x (stems p rest q k l) = let c = operator_cut p rest q in (c.1, stem_good rules s g p c.0 k l)
    good_goes x (clears p rest q k) = let c = operator_cut p rest q in (c.1, clear_good rules s g p c.0 k)
    good_goes x (masks p rest q k w l m) =
        let c = operator_cut p rest q in
        let n = (at_mask s.left).mask in
        (bytes_drop n rest c.1, mask_good rules s g p c.0 (take n rest) k w l (length-take-le n rest m))
    good_goes x (enters p rest c ops body q k a o e f l u) =
        (l, (entries c.list c.entry body f, ((operator_cut p rest q).1, call_good rules s g c ops o u)))
    good_goes x (returns p rest q k) = return_good rules s g
    good_goes x (ends p rest q k l) = end_good rules s g p (operator_cut p rest q).0 k l

    good_step : (x : Step) → Stepped rules lists budget levels at bytes s x → Led rules lists budget Bytes (Good rules) (Ends rules) levels x
    good_step x (spent l) = g
    good_step x (begun y l (declines n k)) = g
    good_step x (begun y l (goes z v)) = good_goes z v

  good_kept : Kept rules lists budget Bytes (Good rules) (Ends rules)
  good_kept =
      record {
        out = λ s g. g;
        on = λ s g. record { agree = g.agree; valid = g.valid; taken = g.taken };
        one = λ levels at b bs s h g. good_step levels at (b ∷ bs) s h g _ (token_is rules lists levels at (b ∷ bs) s budget);
      }

  start_good : Good rules start
  unfolding struck left_by
  start_good = record { agree = refl; valid = none; taken = tt }

  -- along every run, from any bytes
  pub run_ends : (cs : List ℕ) → Bytes cs → Ends rules (reading rules lists budget cs).how (reading rules lists budget cs).state
  run_ends cs h = kept rules lists budget Bytes (Good rules) (Ends rules) good_kept cs h start_good

  ends_taken : (e : Ending) (s : State) → Ends rules e s → Taken s.shown
  ends_taken back s g = g.taken
  ends_taken ended s g = g.taken
  ends_taken (stopped n) s g = g.taken

  -- what is struck with a call is the operand that it took
  pub struck_taken : (cs : List ℕ) → Bytes cs → Taken (reading rules lists budget cs).state.shown
  struck_taken cs h = ends_taken (reading rules lists budget cs).how (reading rules lists budget cs).state (run_ends cs h)
