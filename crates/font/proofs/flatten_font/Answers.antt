-- `font::flatten_font` meets its contract. Assumes nothing.
use Rattle.std.proofs.Common.{◌∙◌}
use Rattle.std.proofs.lemmas.Result.{err_from_is_err_and}
use Rattle.font.specs.Font.{every}
use Rattle.font.proofs.WholeLaws.{font_refused, font_chosen}
use Rattle.font.proofs.flatten_font.Goals as goal

pub returns-in_err-font : goal.returns-in_err-font
returns-in_err-font c =
    let a = c.args in
    let p = err_from_is_err_and c.from_residual.result c.from_residual.ensures.1 in
    rw (p.1, p.2) (font_refused a.profile every a.charstrings.now a.globals.now a.locals.now a.budget a.out.now _ c.in_err-font.ensures)

pub returns : goal.returns
returns c =
    let a = c.args in
    c.flatten_chosen.ensures
    ∙ font_chosen a.profile every a.charstrings.now a.globals.now a.locals.now a.budget a.out.now c.in_ok-font.font c.in_ok-font.ensures
