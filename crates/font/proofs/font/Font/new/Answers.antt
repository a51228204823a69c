-- `Font::new` meets its contract. Assumes nothing.
use Rattle.std.proofs.lemmas.Result.{err_from_is_err_and}
use Rattle.font.proofs.GlyphsLaws.{globals_bad, locals_bad, charstrings_bad}
use Rattle.font.proofs.font.Font.new.Goals as goal

pub returns-in_err-map_err : goal.returns-in_err-map_err
returns-in_err-map_err c =
    let p = err_from_is_err_and c.from_residual.result c.from_residual.ensures.1 in
    let x = c.in_err-map_err.ensures in
    rw (p.1, p.2) (globals_bad _ _ _ _ c.check_list.result c.check_list.ensures x.variant _ x.cases)

pub returns-in_err-map_err-2 : goal.returns-in_err-map_err-2
returns-in_err-map_err-2 c =
    let r = c.from_residual-in_err-map_err-2 in
    let p = err_from_is_err_and r.result r.ensures.1 in
    let x = c.in_err-map_err-2.ensures in
    rw (p.1, p.2)
    (locals_bad _ _ _ _ c.check_list.result c.check_list.ensures c.in_ok-map_err.ensures.variant c.check_list-2.result c.check_list-2.ensures x.variant _
    x.cases)

pub returns-in_err-count : goal.returns-in_err-count
returns-in_err-count c =
    let r = c.from_residual-in_err-count in
    let p = err_from_is_err_and r.result r.ensures.1 in
    let x = c.in_err-count.ensures in
    rw (p.1, p.2)
    (charstrings_bad _ _ _ _ c.check_list.result c.check_list.ensures c.in_ok-map_err.ensures.variant c.check_list-2.result c.check_list-2.ensures
    c.in_ok-map_err-2.ensures.variant c.check_list-3.result c.check_list-3.ensures x.variant _ x.cases)
