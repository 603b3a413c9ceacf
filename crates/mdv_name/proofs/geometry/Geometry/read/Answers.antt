use Rattle.std.proofs.Common.{Bool, subst, arith}
use Rattle.std.specs.Bool.{MatchBool}
use Rattle.mdv_name.specs.declared.geometry.Geometry.{Geometry}
use Rattle.mdv_name.specs.Geometry.{AddsLine}
use Rattle.mdv_name.proofs.Reading.{read_more}
use Rattle.mdv_name.proofs.geometry.Geometry.read.Goals as goal

pub loop-rest-preserved : goal.loop-rest-preserved
loop-rest-preserved c =
    let g = c.loop-rest.geometry in
    let h = c.add_line.new.self in
    let line = c.split_line.result.0.now in
    let adds = subst (λ (b : Bool). MatchBool b (AddsLine g line h) ((k : Geometry) → AddsLine g line k → ⊥)) c.in-Ok-true.field-0-test c.in-Ok-true.ensures in
    read_more c.args.text.now c.loop-rest.rest.now line c.split_line.result.1.now c.loop-rest.number g h c.loop-rest.invariant c.split_line.ensures.lines c.split_line.ensures.whole c.split_line.ensures.some (omega (arith, c.if-text-behind-gt-MAX_TEXT.false)) adds
