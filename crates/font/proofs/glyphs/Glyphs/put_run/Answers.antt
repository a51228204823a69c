-- `Glyphs::put_run` meets its contract. Assumes nothing.
use Rattle.std.proofs.Common.{◌∙◌, arith}
use Rattle.font.specs.Glyphs.{asked_of}
use Rattle.font.proofs.PassLaws.{over_begins}
use Rattle.font.proofs.Verdicts.{ran_length}
use Rattle.font.proofs.glyphs.Glyphs.put_run.Goals as goal

pub returns : goal.returns
returns c =
    let a = c.args in
    let room = c.requires.fits.room in
    record {
      told = c.unwrap_or.ensures ∙ ran_length c.run.result a.i (asked_of a.self.now a.i) c.requires.fits.is c.run.ensures.answer;
      bytes = over_begins a.to a.out.now _ (omega (arith, room)) c.run.auto.room _ c.run.ensures.begins room;
    }
