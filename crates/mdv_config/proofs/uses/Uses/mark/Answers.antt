use Rattle.std.proofs.Common.{arith}
use Rattle.mdv_config.proofs.Marks.{has_mark, marked_more, marked_same}
use Rattle.mdv_config.proofs.uses.Uses.mark.Goals as goal

pub bounds-self-inside-mark_place : goal.bounds-self-inside-mark_place
bounds-self-inside-mark_place c =
    let there = c.in-Some.ensures.value in
    omega (arith, c.mark_place.ensures, has_mark c.args.geometry.now c.args.slice c.in-Some.at c.args.slice.slice c.requires there (c.requires.each c.args.slice c.in-Some.at there).named.slice)

pub returns-in-Some : goal.returns-in-Some
returns-in-Some c uses is =
    let marks = c.self.inside.marks in
    rw c.mark_place.ensures (marked_more c.args.geometry.now c.requires marks uses (rw c.self.view_is is) c.args.slice c.in-Some.at c.in-Some.ensures.value c.self.told)

pub returns-in_default : goal.returns-in_default
returns-in_default c uses is = marked_same c.args.geometry.now c.requires c.args.self.now uses is c.args.slice c.in_default.ensures.none
