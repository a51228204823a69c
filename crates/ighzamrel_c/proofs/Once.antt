-- Each C function's contract fixes its answer and what it leaves at each place. Assumes nothing.
use mathlib.Core.Path.{◌≡◌, sym, ap, ◌∙◌}
use mathlib.Core.List.{List}
use Prim.Native.Nat.{ℕ}
use lib.IntN.{ℤ}
use borrow.Fn.Kinds.{Dens, res_t, ended_of}
use contract.Lifetimes.{Lfts}
use denote.Triple.Clauses.{AtExit}
use Rattle.number.specs.Answer.{Outcome, leaving}
use Rattle.index.specs.Index.{Extent, Place}
use Rattle.ighzamrel.specs.Told.{Told, told, NumberPlaces, IntegerPlaces, ListPlaces, FlatPlaces, ToldMarked, ToldExplained, FontPlaces}
use Rattle.ighzamrel_c.proofs.numbers.ighzamrel_read_charstring_number.Kinds as charstring_kinds
use Rattle.ighzamrel_c.proofs.numbers.ighzamrel_read_charstring_number.Reads as charstring_reads
use Rattle.ighzamrel_c.proofs.numbers.ighzamrel_read_dict_integer.Kinds as dict_kinds
use Rattle.ighzamrel_c.proofs.numbers.ighzamrel_read_dict_integer.Reads as dict_reads
use Rattle.ighzamrel_c.proofs.numbers.ighzamrel_write_charstring_number.Kinds as charstring_write_kinds
use Rattle.ighzamrel_c.proofs.numbers.ighzamrel_write_charstring_number.Reads as charstring_write_reads
use Rattle.ighzamrel_c.proofs.numbers.ighzamrel_write_dict_integer.Kinds as dict_write_kinds
use Rattle.ighzamrel_c.proofs.numbers.ighzamrel_write_dict_integer.Reads as dict_write_reads
use Rattle.ighzamrel_c.proofs.numbers.ighzamrel_call_index.Kinds as index_kinds
use Rattle.ighzamrel_c.proofs.numbers.ighzamrel_call_index.Reads as index_reads
use Rattle.ighzamrel_c.proofs.indexes.ighzamrel_read_index.Kinds as read_kinds
use Rattle.ighzamrel_c.proofs.indexes.ighzamrel_read_index.Reads as read_reads
use Rattle.ighzamrel_c.proofs.indexes.ighzamrel_read_entry.Kinds as entry_kinds
use Rattle.ighzamrel_c.proofs.indexes.ighzamrel_read_entry.Reads as entry_reads
use Rattle.ighzamrel_c.proofs.indexes.ighzamrel_check_list.Kinds as list_kinds
use Rattle.ighzamrel_c.proofs.indexes.ighzamrel_check_list.Reads as list_reads
use Rattle.ighzamrel_c.proofs.indexes.ighzamrel_write_index.Kinds as write_kinds
use Rattle.ighzamrel_c.proofs.indexes.ighzamrel_write_index.Reads as write_reads
use Rattle.ighzamrel_c.proofs.flattening.ighzamrel_flatten.Kinds as flatten_kinds
use Rattle.ighzamrel_c.proofs.flattening.ighzamrel_flatten.Reads as flatten_reads
use Rattle.ighzamrel_c.proofs.marking.ighzamrel_flatten_marked.Kinds as marked_kinds
use Rattle.ighzamrel_c.proofs.marking.ighzamrel_flatten_marked.Reads as marked_reads
use Rattle.ighzamrel_c.proofs.explaining.ighzamrel_explain.Kinds as explain_kinds
use Rattle.ighzamrel_c.proofs.explaining.ighzamrel_explain.Reads as explain_reads
use Rattle.ighzamrel_c.proofs.fonts.ighzamrel_flatten_font.Kinds as font_kinds
use Rattle.ighzamrel_c.proofs.fonts.ighzamrel_flatten_font.Reads as font_reads
use Rattle.ighzamrel_c.proofs.fonts.ighzamrel_flatten_glyphs.Kinds as glyphs_kinds
use Rattle.ighzamrel_c.proofs.fonts.ighzamrel_flatten_glyphs.Reads as glyphs_reads

-- Of x, what each parameter is at the end in their order: `x.0` is the first, `x.1.0` the second, `x.1.1.0` the third, and so on.

-- what a writer tells says the number, the room and the places
written_once : {A : Type 0} {t t' : Outcome (Told A)} → t ≡ t'
    → (t.answer.number ≡ t'.answer.number) × (t.left ≡ t'.left) × (t.answer.places ≡ t'.answer.places)
written_once {A} e =
    (ap (λ (t : Outcome (Told A)). t.answer.number) e, ap (λ (t : Outcome (Told A)). t.left) e, ap (λ (t : Outcome (Told A)). t.answer.places) e)

pub read_charstring_number_once : (κs : Lfts 4) (a : Dens κs charstring_kinds.ps) (r r' : (res_t charstring_kinds.r κs).Denot)
    (x x' : AtExit (ended_of 4 charstring_kinds.ps charstring_kinds.r) κs)
    → charstring_reads.Post κs a r x → charstring_reads.Post κs a r' x'
    → (r ≡ r') × (x.1.0.now ≡ x'.1.0.now) × (x.1.1.0.now ≡ x'.1.1.0.now) × (x.1.1.1.0.now ≡ x'.1.1.1.0.now)
read_charstring_number_once κs a r r' x x' p p' =
    let e = p ∙ sym p' in (
      ap (λ (t : Told NumberPlaces). t.number) e,
      ap (λ (t : Told NumberPlaces). t.places.kind) e,
      ap (λ (t : Told NumberPlaces). t.places.value) e,
      ap (λ (t : Told NumberPlaces). t.places.width) e,
    )

pub read_dict_integer_once : (κs : Lfts 3) (a : Dens κs dict_kinds.ps) (r r' : (res_t dict_kinds.r κs).Denot)
    (x x' : AtExit (ended_of 3 dict_kinds.ps dict_kinds.r) κs)
    → dict_reads.Post κs a r x → dict_reads.Post κs a r' x' → (r ≡ r')
    × (x.1.0.now ≡ x'.1.0.now) × (x.1.1.0.now ≡ x'.1.1.0.now)
read_dict_integer_once κs a r r' x x' p p' =
    let e = p ∙ sym p' in
    (ap (λ (t : Told IntegerPlaces). t.number) e, ap (λ (t : Told IntegerPlaces). t.places.value) e, ap (λ (t : Told IntegerPlaces). t.places.width) e)

pub write_charstring_number_once : (κs : Lfts 2) (a : Dens κs charstring_write_kinds.ps) (r r' : (res_t charstring_write_kinds.r κs).Denot)
    (x x' : AtExit (ended_of 2 charstring_write_kinds.ps charstring_write_kinds.r) κs)
    → charstring_write_reads.Post κs a r x → charstring_write_reads.Post κs a r' x'
    → (r ≡ r') × (x.1.1.0.now ≡ x'.1.1.0.now) × (x.1.1.1.0.now ≡ x'.1.1.1.0.now)
write_charstring_number_once κs a r r' x x' p p' = written_once (p ∙ sym p')

pub write_dict_integer_once : (κs : Lfts 2) (a : Dens κs dict_write_kinds.ps) (r r' : (res_t dict_write_kinds.r κs).Denot)
    (x x' : AtExit (ended_of 2 dict_write_kinds.ps dict_write_kinds.r) κs)
    → dict_write_reads.Post κs a r x → dict_write_reads.Post κs a r' x' → (r ≡ r')
    × (x.1.0.now ≡ x'.1.0.now) × (x.1.1.0.now ≡ x'.1.1.0.now)
write_dict_integer_once κs a r r' x x' p p' = written_once (p ∙ sym p')

pub call_index_once : (κs : Lfts 1) (a : Dens κs index_kinds.ps) (r r' : (res_t index_kinds.r κs).Denot)
    (x x' : AtExit (ended_of 1 index_kinds.ps index_kinds.r) κs)
    → index_reads.Post κs a r x → index_reads.Post κs a r' x' → (r ≡ r') × (x.1.1.1.0.now ≡ x'.1.1.1.0.now)
call_index_once κs a r r' x x' p p' = (ap (λ (t : Told ℤ). t.number) (p ∙ sym p'), ap (λ (t : Told ℤ). t.places) (p ∙ sym p'))

pub read_index_once : (κs : Lfts 3) (a : Dens κs read_kinds.ps) (r r' : (res_t read_kinds.r κs).Denot)
    (x x' : AtExit (ended_of 3 read_kinds.ps read_kinds.r) κs)
    → read_reads.Post κs a r x → read_reads.Post κs a r' x' → (r ≡ r')
    × (x.1.0.now ≡ x'.1.0.now) × (x.1.1.0.now ≡ x'.1.1.0.now)
read_index_once κs a r r' x x' p p' =
    let e = p ∙ sym p' in (
      ap (λ (t : Told Extent). t.number) e,
      ap (λ (t : Told Extent). t.places.entries) e,
      ap (λ (t : Told Extent). t.places.taken) e,
    )

pub read_entry_once : (κs : Lfts 3) (a : Dens κs entry_kinds.ps) (r r' : (res_t entry_kinds.r κs).Denot)
    (x x' : AtExit (ended_of 3 entry_kinds.ps entry_kinds.r) κs)
    → entry_reads.Post κs a r x → entry_reads.Post κs a r' x' → (r ≡ r') × (x.1.1.0.now ≡ x'.1.1.0.now)
    × (x.1.1.1.0.now ≡ x'.1.1.1.0.now)
read_entry_once κs a r r' x x' p p' =
    let e = p ∙ sym p' in (ap (λ (t : Told Place). t.number) e, ap (λ (t : Told Place). t.places.start) e, ap (λ (t : Told Place). t.places.size) e)

pub check_list_once : (κs : Lfts 3) (a : Dens κs list_kinds.ps) (r r' : (res_t list_kinds.r κs).Denot)
    (x x' : AtExit (ended_of 3 list_kinds.ps list_kinds.r) κs)
    → list_reads.Post κs a r x → list_reads.Post κs a r' x' → (r ≡ r')
    × (x.1.0.now ≡ x'.1.0.now) × (x.1.1.0.now ≡ x'.1.1.0.now)
check_list_once κs a r r' x x' p p' =
    let e = p ∙ sym p' in
    (ap (λ (t : Told ListPlaces). t.number) e, ap (λ (t : Told ListPlaces). t.places.count) e, ap (λ (t : Told ListPlaces). t.places.entry) e)

pub write_index_once : (κs : Lfts 4) (a : Dens κs write_kinds.ps) (r r' : (res_t write_kinds.r κs).Denot)
    (x x' : AtExit (ended_of 4 write_kinds.ps write_kinds.r) κs)
    → write_reads.Post κs a r x → write_reads.Post κs a r' x' → (r ≡ r') × (x.1.1.0.now ≡ x'.1.1.0.now)
    × (x.1.1.1.0.now ≡ x'.1.1.1.0.now)
write_index_once κs a r r' x x' p p' = written_once (p ∙ sym p')

pub flatten_once : (κs : Lfts 8) (a : Dens κs flatten_kinds.ps) (r r' : (res_t flatten_kinds.r κs).Denot)
    (x x' : AtExit (ended_of 8 flatten_kinds.ps flatten_kinds.r) κs)
    → flatten_reads.Post κs a r x → flatten_reads.Post κs a r' x'
    → (r ≡ r') × (x.1.1.1.1.1.0.now ≡ x'.1.1.1.1.1.0.now) × (x.1.1.1.1.1.1.0.now ≡ x'.1.1.1.1.1.1.0.now)
    × (x.1.1.1.1.1.1.1.0.now ≡ x'.1.1.1.1.1.1.1.0.now) × (x.1.1.1.1.1.1.1.1.0.now ≡ x'.1.1.1.1.1.1.1.1.0.now)
    × (x.1.1.1.1.1.1.1.1.1.0.now ≡ x'.1.1.1.1.1.1.1.1.1.0.now)
    × (x.1.1.1.1.1.1.1.1.1.1.0.now ≡ x'.1.1.1.1.1.1.1.1.1.1.0.now)
    × (x.1.1.1.1.1.1.1.1.1.1.1.0.now ≡ x'.1.1.1.1.1.1.1.1.1.1.1.0.now)
flatten_once κs a r r' x x' p p' =
    let w = written_once (p ∙ sym p') in (
      w.0,
      w.1,
      ap (λ (y : FlatPlaces). y.length) w.2,
      ap (λ (y : FlatPlaces). y.tokens) w.2,
      ap (λ (y : FlatPlaces). y.entry) w.2,
      ap (λ (y : FlatPlaces). y.reason) w.2,
      ap (λ (y : FlatPlaces). y.width_kind) w.2,
      ap (λ (y : FlatPlaces). y.width) w.2,
    )

pub flatten_marked_once : (κs : Lfts 10) (a : Dens κs marked_kinds.ps) (r r' : (res_t marked_kinds.r κs).Denot)
    (x x' : AtExit (ended_of 10 marked_kinds.ps marked_kinds.r) κs)
    → marked_reads.Post κs a r x → marked_reads.Post κs a r' x'
    → (r ≡ r') × (x.1.1.1.1.1.0.now ≡ x'.1.1.1.1.1.0.now)
    × (x.1.1.1.1.1.1.0.now ≡ x'.1.1.1.1.1.1.0.now)
    × (x.1.1.1.1.1.1.1.0.now ≡ x'.1.1.1.1.1.1.1.0.now)
    × (x.1.1.1.1.1.1.1.1.0.now ≡ x'.1.1.1.1.1.1.1.1.0.now)
    × (x.1.1.1.1.1.1.1.1.1.0.now ≡ x'.1.1.1.1.1.1.1.1.1.0.now)
    × (x.1.1.1.1.1.1.1.1.1.1.0.now ≡ x'.1.1.1.1.1.1.1.1.1.1.0.now)
    × (x.1.1.1.1.1.1.1.1.1.1.1.0.now ≡ x'.1.1.1.1.1.1.1.1.1.1.1.0.now)
    × (x.1.1.1.1.1.1.1.1.1.1.1.1.0.now ≡ x'.1.1.1.1.1.1.1.1.1.1.1.1.0.now)
    × (x.1.1.1.1.1.1.1.1.1.1.1.1.1.0.now ≡ x'.1.1.1.1.1.1.1.1.1.1.1.1.1.0.now)
flatten_marked_once κs a r r' x x' p p' =
    let e = p ∙ sym p' in (
      ap (λ (t : ToldMarked). t.told.number) e,
      ap (λ (t : ToldMarked). t.left.room) e,
      ap (λ (t : ToldMarked). t.left.globals) e,
      ap (λ (t : ToldMarked). t.left.locals) e,
      ap (λ (t : ToldMarked). t.told.places.length) e,
      ap (λ (t : ToldMarked). t.told.places.tokens) e,
      ap (λ (t : ToldMarked). t.told.places.entry) e,
      ap (λ (t : ToldMarked). t.told.places.reason) e,
      ap (λ (t : ToldMarked). t.told.places.width_kind) e,
      ap (λ (t : ToldMarked). t.told.places.width) e,
    )

pub explain_once : (κs : Lfts 9) (a : Dens κs explain_kinds.ps) (r r' : (res_t explain_kinds.r κs).Denot)
    (x x' : AtExit (ended_of 9 explain_kinds.ps explain_kinds.r) κs)
    → explain_reads.Post κs a r x → explain_reads.Post κs a r' x'
    → (r ≡ r')
    × (x.1.1.1.1.1.0.now ≡ x'.1.1.1.1.1.0.now)
    × (x.1.1.1.1.1.1.0.now ≡ x'.1.1.1.1.1.1.0.now)
    × (x.1.1.1.1.1.1.1.0.now ≡ x'.1.1.1.1.1.1.1.0.now)
    × (x.1.1.1.1.1.1.1.1.0.now ≡ x'.1.1.1.1.1.1.1.1.0.now)
    × (x.1.1.1.1.1.1.1.1.1.0.now ≡ x'.1.1.1.1.1.1.1.1.1.0.now)
    × (x.1.1.1.1.1.1.1.1.1.1.0.now ≡ x'.1.1.1.1.1.1.1.1.1.1.0.now)
    × (x.1.1.1.1.1.1.1.1.1.1.1.0.now ≡ x'.1.1.1.1.1.1.1.1.1.1.1.0.now)
    × (x.1.1.1.1.1.1.1.1.1.1.1.1.0.now ≡ x'.1.1.1.1.1.1.1.1.1.1.1.1.0.now)
explain_once κs a r r' x x' p p' =
    let e = p ∙ sym p' in (
      ap (λ (t : ToldExplained). t.told.number) e,
      ap (λ (t : ToldExplained). t.words) e,
      ap (λ (t : ToldExplained). t.told.places.length) e,
      ap (λ (t : ToldExplained). t.told.places.tokens) e,
      ap (λ (t : ToldExplained). t.told.places.entry) e,
      ap (λ (t : ToldExplained). t.told.places.reason) e,
      ap (λ (t : ToldExplained). t.told.places.width_kind) e,
      ap (λ (t : ToldExplained). t.told.places.width) e,
      ap (λ (t : ToldExplained). t.calls) e,
    )

-- what is told and left of glyphs of a font
font_once : {r r' : ℕ} {y y' : FontPlaces} {l l' : List ℕ} → leaving (told r y) l ≡ leaving (told r' y') l'
    → (r ≡ r') × (l ≡ l') × (y.length ≡ y'.length) × (y.glyph ≡ y'.glyph) × (y.tokens ≡ y'.tokens) × (y.entry ≡ y'.entry)
    × (y.reason ≡ y'.reason)
font_once e =
    let w = written_once e in (
      w.0,
      w.1,
      ap (λ (p : FontPlaces). p.length) w.2,
      ap (λ (p : FontPlaces). p.glyph) w.2,
      ap (λ (p : FontPlaces). p.tokens) w.2,
      ap (λ (p : FontPlaces). p.entry) w.2,
      ap (λ (p : FontPlaces). p.reason) w.2,
    )

pub flatten_font_once : (κs : Lfts 7) (a : Dens κs font_kinds.ps) (r r' : (res_t font_kinds.r κs).Denot)
    (x x' : AtExit (ended_of 7 font_kinds.ps font_kinds.r) κs)
    → font_reads.Post κs a r x → font_reads.Post κs a r' x'
    → (r ≡ r') × (x.1.1.1.1.1.0.now ≡ x'.1.1.1.1.1.0.now) × (x.1.1.1.1.1.1.0.now ≡ x'.1.1.1.1.1.1.0.now)
    × (x.1.1.1.1.1.1.1.0.now ≡ x'.1.1.1.1.1.1.1.0.now) × (x.1.1.1.1.1.1.1.1.0.now ≡ x'.1.1.1.1.1.1.1.1.0.now)
    × (x.1.1.1.1.1.1.1.1.1.0.now ≡ x'.1.1.1.1.1.1.1.1.1.0.now)
    × (x.1.1.1.1.1.1.1.1.1.1.0.now ≡ x'.1.1.1.1.1.1.1.1.1.1.0.now)
flatten_font_once κs a r r' x x' p p' = font_once (p ∙ sym p')

pub flatten_glyphs_once : (κs : Lfts 8) (a : Dens κs glyphs_kinds.ps) (r r' : (res_t glyphs_kinds.r κs).Denot)
    (x x' : AtExit (ended_of 8 glyphs_kinds.ps glyphs_kinds.r) κs)
    → glyphs_reads.Post κs a r x → glyphs_reads.Post κs a r' x'
    → (r ≡ r') × (x.1.1.1.1.1.1.0.now ≡ x'.1.1.1.1.1.1.0.now)
    × (x.1.1.1.1.1.1.1.0.now ≡ x'.1.1.1.1.1.1.1.0.now) × (x.1.1.1.1.1.1.1.1.0.now ≡ x'.1.1.1.1.1.1.1.1.0.now)
    × (x.1.1.1.1.1.1.1.1.1.0.now ≡ x'.1.1.1.1.1.1.1.1.1.0.now)
    × (x.1.1.1.1.1.1.1.1.1.1.0.now ≡ x'.1.1.1.1.1.1.1.1.1.1.0.now)
    × (x.1.1.1.1.1.1.1.1.1.1.1.0.now ≡ x'.1.1.1.1.1.1.1.1.1.1.1.0.now)
flatten_glyphs_once κs a r r' x x' p p' = font_once (p ∙ sym p')
