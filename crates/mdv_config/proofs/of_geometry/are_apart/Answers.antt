use Rattle.std.proofs.Common.{[], subst}
use Rattle.mdv_config.specs.Below.{OneVolume}
use Rattle.mdv_config.specs.Lists.{component_slices, place_slices, volume_slices}
use Rattle.mdv_config.specs.Marks.{Takes}
use Rattle.mdv_config.proofs.Apart.{apart_by_uses}
use Rattle.mdv_config.proofs.Marks.{none_marked}
use Rattle.mdv_config.proofs.Taking.{never_taken, taken_all, taken_more, taken_none}
use Rattle.mdv_config.proofs.of_geometry.are_apart.Goals as goal

pub loop-volume-init : goal.loop-volume-init
loop-volume-init c =
    let lines = c.args.geometry.now.slices in
    taken_none lines (place_slices c.args.places.now) c.mark_places.new.self (c.mark_places.ensures [] (none_marked lines c.new-uses.result c.new-uses.ensures))

pub returns-then-not-free : goal.returns-then-not-free
returns-then-not-free c =
    let g = c.args.geometry.now in
    let vs = c.args.volumes.now in
    let told = c.take_volume-free.result in
    let new = c.take_volume-free.new.self in
    let takes = subst (λ (v : OneVolume). Takes g.slices (volume_slices v) c.loop-volume.uses told new) c.volume-item.is c.take_volume-free.ensures in
    let among = never_taken volume_slices vs c.loop-volume.volume-index c.volume-item.result c.loop-volume-test.true g.slices (place_slices c.args.places.now) c.loop-volume.uses new c.loop-volume.invariant told c.if-not-free.true takes in
    let same = apart_by_uses g c.args.places.now (component_slices vs) in
    (λ is. same.0 (among.free.0 is), λ apart. among.free.1 (same.1 apart))

pub loop-volume-preserved : goal.loop-volume-preserved
loop-volume-preserved c =
    let lines = c.args.geometry.now.slices in
    let told = c.take_volume-free.result in
    let new = c.take_volume-free.new.self in
    let takes = subst (λ (v : OneVolume). Takes lines (volume_slices v) c.loop-volume.uses told new) c.volume-item.is c.take_volume-free.ensures in
    taken_more volume_slices c.args.volumes.now c.loop-volume.volume-index c.volume-item.result c.loop-volume-test.true lines (place_slices c.args.places.now) c.loop-volume.uses new c.loop-volume.invariant told c.if-not-free.false takes

pub returns : goal.returns
returns c =
    let vs = c.args.volumes.now in
    let among = taken_all volume_slices vs c.loop-volume.volume-index c.args.geometry.now.slices (place_slices c.args.places.now) c.loop-volume.uses c.loop-volume-test.false c.loop-volume.invariant in
    let same = apart_by_uses c.args.geometry.now c.args.places.now (component_slices vs) in
    (λ told. same.0 (among.free.0 told), λ apart. among.free.1 (same.1 apart))
