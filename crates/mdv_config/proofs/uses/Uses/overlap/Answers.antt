use Rattle.std.proofs.Common.{◌≡◌, true, refl, arith}
use Rattle.mdv_config.specs.Marks.{mark_at}
use Rattle.mdv_config.proofs.Marks.{IsClash, has_mark, used_by_clash, no_use}
use Rattle.mdv_config.proofs.uses.Uses.overlap.Goals as goal

pub bounds-self-inside-mark_place : goal.bounds-self-inside-mark_place
bounds-self-inside-mark_place c = omega (arith, c.mark_place.ensures, has_mark c.args.geometry.now c.args.name c.args.at c.loop-slice.slice c.requires.sound c.requires.there c.loop-slice-test.true)

pub returns-then-overlaps : goal.returns-then-overlaps
returns-then-overlaps c uses is =
    let n = c.loop-slice.slice in
    let set : mark_at c.args.self.now c.args.at n ≡ true = rw (← c.self.view_is, ← c.mark_place.ensures) c.if-self-mark_place.true in
    let clash : IsClash c.args.geometry.now.slices c.args.self.now c.args.name c.args.at n = record { marked = set; overlaps = c.overlaps.ensures.0 c.if-overlaps.true } in
    (λ test. used_by_clash c.args.geometry.now c.requires.sound c.args.self.now uses is c.args.name c.args.at c.requires.there n clash, λ it. refl)

pub returns : goal.returns
returns c uses is = (
  λ test. cc,
  λ it. absurd (no_use c.args.geometry.now c.requires.sound c.args.self.now uses is c.args.name c.args.at c.requires.there (λ n below. c.loop-slice.invariant n (omega arith)) it),
)
