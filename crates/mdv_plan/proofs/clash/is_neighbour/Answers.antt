use Rattle.std.proofs.Common.{◌≡◌, ◌<◌, ℕ, false, get_or, sym, ◌∙◌, ap, arith}
use Rattle.mdv_plan.proofs.Neighbours.{apart, marked_beside, past_none}
use Rattle.mdv_plan.proofs.clash.is_neighbour.Goals as goal

pub returns-then-not-same_drive : goal.returns-then-not-same_drive
returns-then-not-same_drive c = sym (apart c.args.geometry.now c.args.other.now c.args.slice c.requires.sound (sym c.same_drive.ensures ∙ c.if-not-same_drive.true))

pub returns-in-Some : goal.returns-in-Some
returns-in-Some c =
    let number = c.args.other.now.slice in
    let mark : c.in-Some.mark.now ≡ get_or c.args.marks.now number false = c.in-Some.ensures.lookup.3.1 false ∙ ap (λ (n : ℕ). get_or c.args.marks.now n false) c.from.ensures in
    let within : number < 8 = omega (arith, c.in-Some.ensures.lookup.3.0, c.from.ensures, c.requires.marks.size) in
    mark ∙ marked_beside c.args.geometry.now c.args.slice c.args.other.now c.args.marks.now c.requires.marks (sym c.same_drive.ensures ∙ c.if-not-same_drive.false) within

pub returns-in-None : goal.returns-in-None
returns-in-None c =
    sym (past_none c.args.geometry.now c.args.other.now c.args.slice c.requires.sound (omega (arith, c.in-None.ensures.lookup, c.from.ensures, c.requires.marks.size)))
