use Rattle.std.proofs.lemmas.Result.{err_from_is_err_and}
use Rattle.charstring.proofs.Gates.{globals_bad, locals_bad, none_bad}
use Rattle.charstring.proofs.flattening.check_lists.Goals as goal

pub returns-in_err-map_err : goal.returns-in_err-map_err
returns-in_err-map_err c =
    let p = err_from_is_err_and c.from_residual.result c.from_residual.ensures.1 in
    rw (p.1, p.2) (globals_bad _ _ c.check_list.result c.check_list.result c.check_list.ensures _ c.in_err-map_err.ensures.variant _
    c.in_err-map_err.ensures.cases)

pub returns-in_err-map_err-2 : goal.returns-in_err-map_err-2
returns-in_err-map_err-2 c =
    let p = err_from_is_err_and c.from_residual-in_err-map_err-2.result c.from_residual-in_err-map_err-2.ensures.1 in
    rw (p.1, p.2) (locals_bad _ _ c.check_list.result c.check_list-2.result c.check_list.ensures _ c.in_ok-map_err.ensures.variant
    c.check_list-2.ensures c.in_err-map_err-2.ensures.variant _ c.in_err-map_err-2.ensures.cases)

pub returns : goal.returns
returns c =
    none_bad _ _ c.check_list.result c.check_list-2.result c.check_list.ensures c.in_ok-map_err.ensures.variant
    c.check_list-2.ensures c.in_ok-map_err-2.ensures.variant
