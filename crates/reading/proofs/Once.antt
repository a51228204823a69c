-- Each public function's contract fixes its result: any two that it allows for the same argument are one. Stated over the contracts' own
-- readings. Assumes nothing.
use mathlib.Core.Path.{◌≡◌, refl, sym, ap, ◌∙◌}
use mathlib.Core.Bool.{Bool, true, false, cond}
use lib.Dec.{eqb}
use borrow.Fn.Kinds.{Dens, res_t, ended_of}
use contract.Lifetimes.{Lfts}
use denote.Triple.Clauses.{AtExit}
use Rattle.index.specs.declared.width.Width.{Width}
use Rattle.index.specs.declared.width.Width.TheVariants.{Two, Four}
use Rattle.index.specs.Index.{width_of}
use Rattle.reading.specs.Rules.{Rules, byte_kind, kind_by, meant}
use Rattle.reading.specs.declared.rules.Rules.{Rules as CodeRules}
use Rattle.reading.specs.declared.operator.Operator.{Operator}
use Rattle.reading.specs.declared.operator.Operator.TheVariants.{OneByte}
use Rattle.reading.specs.declared.operator.Kind.{Kind}
use Rattle.reading.specs.declared.operator.Kind.TheVariants.{Stem, Clear, Mask, Call, Return, End, Unknown}
use Rattle.reading.proofs.refusal.RefusalRefuse.number.Kinds as number_kinds
use Rattle.reading.proofs.refusal.RefusalRefuse.number.Reads as number_reads
use Rattle.reading.proofs.refusal.StoppedRefuse.number.Kinds as stop_kinds
use Rattle.reading.proofs.refusal.StoppedRefuse.number.Reads as stop_reads
use Rattle.reading.proofs.answer.FlattenErrorRefuse.number.Kinds as flatten_kinds
use Rattle.reading.proofs.answer.FlattenErrorRefuse.number.Reads as flatten_reads
use Rattle.reading.proofs.answer.MarkErrorRefuse.number.Kinds as mark_kinds
use Rattle.reading.proofs.answer.MarkErrorRefuse.number.Reads as mark_reads
use Rattle.reading.proofs.answer.MarkErrorFromFlattenError.from.Kinds as from_kinds
use Rattle.reading.proofs.answer.MarkErrorFromFlattenError.from.Reads as from_reads
use Rattle.reading.proofs.rules.RulesFromProfile.from.Kinds as rules_kinds
use Rattle.reading.proofs.rules.RulesFromProfile.from.Reads as rules_reads

pub number_of_once : (κs : Lfts 0) (a : Dens κs number_kinds.ps) (r r' : (res_t number_kinds.r κs).Denot)
    (x x' : AtExit (ended_of 0 number_kinds.ps number_kinds.r) κs) → number_reads.Post κs a r x → number_reads.Post κs a r' x' → r ≡ r'
number_of_once κs a r r' x x' p p' = p ∙ sym p'

pub stop_number_once : (κs : Lfts 0) (a : Dens κs stop_kinds.ps) (r r' : (res_t stop_kinds.r κs).Denot)
    (x x' : AtExit (ended_of 0 stop_kinds.ps stop_kinds.r) κs) → stop_reads.Post κs a r x → stop_reads.Post κs a r' x' → r ≡ r'
stop_number_once κs a r r' x x' p p' = p ∙ sym p'

pub flatten_number_once : (κs : Lfts 0) (a : Dens κs flatten_kinds.ps) (r r' : (res_t flatten_kinds.r κs).Denot)
    (x x' : AtExit (ended_of 0 flatten_kinds.ps flatten_kinds.r) κs) → flatten_reads.Post κs a r x → flatten_reads.Post κs a r' x' → r ≡ r'
flatten_number_once κs a r r' x x' p p' = p ∙ sym p'

pub mark_number_once : (κs : Lfts 0) (a : Dens κs mark_kinds.ps) (r r' : (res_t mark_kinds.r κs).Denot)
    (x x' : AtExit (ended_of 0 mark_kinds.ps mark_kinds.r) κs) → mark_reads.Post κs a r x → mark_reads.Post κs a r' x' → r ≡ r'
mark_number_once κs a r r' x x' p p' = p ∙ sym p'

pub mark_from_once : (κs : Lfts 0) (a : Dens κs from_kinds.ps) (r r' : (res_t from_kinds.r κs).Denot)
    (x x' : AtExit (ended_of 0 from_kinds.ps from_kinds.r) κs) → from_reads.Post κs a r x → from_reads.Post κs a r' x' → r ≡ r'
mark_from_once κs a r r' x x' p p' = p ∙ sym p'

-- ---- from the rules back to the record that stands for them

width_back : Width → Width
width_back w = cond (eqb (width_of w) 2) Two Four

width_undo : (w : Width) → width_back w ≡ w
unfolding width_back
width_undo Two = refl
width_undo Four = refl

-- whether `return`, which is 11, is an operator
ends_by : Kind → Bool
ends_by Stem = false
ends_by Clear = false
ends_by Mask = false
ends_by (Call w) = false
ends_by Return = true
ends_by End = false
ends_by Unknown = false

ends_back : (Operator → Kind) → Bool
ends_back kind = ends_by (kind (OneByte 11))

ends_undo : (t : Bool) → ends_back (kind_by t) ≡ t
unfolding ends_by ends_back kind_by byte_kind
ends_undo true = refl
ends_undo false = refl

rules_back : Rules → CodeRules
rules_back r =
    record {
      operands = r.operands;
      levels = r.levels;
      hints = r.hints;
      ends = ends_back r.kind;
      exact = r.exact;
      clean = r.clean;
      finished = r.finished;
      width = cond (eqb r.width 2) Two Four;
    }

rules_undo : (r : CodeRules) → rules_back (meant r) ≡ r
unfolding rules_back width_back
rules_undo r =
    λ i. record {
      operands = r.operands;
      levels = r.levels;
      hints = r.hints;
      ends = ends_undo r.ends i;
      exact = r.exact;
      clean = r.clean;
      finished = r.finished;
      width = width_undo r.width i;
    }

pub rules_of_once : (κs : Lfts 0) (a : Dens κs rules_kinds.ps) (r r' : (res_t rules_kinds.r κs).Denot)
    (x x' : AtExit (ended_of 0 rules_kinds.ps rules_kinds.r) κs) → rules_reads.Post κs a r x → rules_reads.Post κs a r' x' → r ≡ r'
rules_of_once κs a r r' x x' p p' = sym (rules_undo r) ∙ ap rules_back (p ∙ sym p') ∙ rules_undo r'
