use Rattle.std.proofs.Common.{ap}
use Rattle.mdv_store.specs.declared.booting.Booted.{Booted}
use Rattle.mdv_store.proofs.Boots.{all_counted, all_ends, all_kept, all_moments, booted, look_kept, wanting, wanting_counted, wanting_ends, wanting_moments}
use Rattle.mdv_store.proofs.booting.boot.Goals as goal

pub returns-clause-answer : goal.returns-clause-answer
returns-clause-answer g c =
    let e = c.bring_up-up.ensures in
    let ups = rw c.as_slice-drives.ensures at e.up in
    let brought = rw c.as_slice-drives.ensures at e.end in
    let counted = rw c.as_slice-drives.ensures at e.counted in
    let kept = rw c.as_slice-drives.ensures at e.kept in
    let all = rw c.as_slice-drives.ensures at c.are_all-calm.ensures in
    booted g.S.Shelf c.args.site.now c.args.shelf.now c.bring_up-up.new.shelf c.bring_up-up.result ups e.moments brought counted kept g.met.S.Shelf.telling c.args.geometry.now c.look.new.shelf c.look.ensures.looked.same c.look.ensures.counted.few c.look.ensures.kept
    c.requires.sound c.requires.on_shelf c.requires.of c.in-Ok.looked c.in-Ok.ensures.looked.found c.in-Ok.ensures.counted.some c.take-taken.new.shelf c.take-taken.result c.take-taken.ensures.answer c.take-taken.ensures.counted.1 c.are_all-calm.result all c.is_clean.result c.is_clean.ensures c.in-Ok-letters_of.letters c.in-Ok-letters_of.ensures c.in-Ok.ensures.counted.once

pub returns-clause-moments : goal.returns-clause-moments
returns-clause-moments g c =
    let e = c.bring_up-up.ensures in
    let ups = rw c.as_slice-drives.ensures at e.up in
    let brought = rw c.as_slice-drives.ensures at e.end in
    let counted = rw c.as_slice-drives.ensures at e.counted in
    let kept = rw c.as_slice-drives.ensures at e.kept in
    let all = rw c.as_slice-drives.ensures at c.are_all-calm.ensures in
    all_moments g.S.Shelf c.args.site.now c.args.shelf.now c.bring_up-up.new.shelf c.bring_up-up.result ups e.moments brought counted kept g.met.S.Shelf.telling c.args.geometry.now c.look.new.shelf c.look.ensures.looked.same c.look.ensures.counted.few c.look.ensures.kept
    c.requires.sound c.requires.on_shelf c.requires.of c.in-Ok.looked c.in-Ok.ensures.looked.found c.in-Ok.ensures.counted.some c.take-taken.new.shelf c.take-taken.result c.take-taken.ensures.answer c.take-taken.ensures.counted.1 c.are_all-calm.result all c.is_clean.result c.is_clean.ensures c.in-Ok-letters_of.letters c.in-Ok-letters_of.ensures c.in-Ok.ensures.counted.once c.take-taken.ensures.moments

pub returns-clause-end : goal.returns-clause-end
returns-clause-end g c =
    let e = c.bring_up-up.ensures in
    let ups = rw c.as_slice-drives.ensures at e.up in
    let brought = rw c.as_slice-drives.ensures at e.end in
    let counted = rw c.as_slice-drives.ensures at e.counted in
    let kept = rw c.as_slice-drives.ensures at e.kept in
    let all = rw c.as_slice-drives.ensures at c.are_all-calm.ensures in
    all_ends g.S.Shelf c.args.site.now c.args.shelf.now c.bring_up-up.new.shelf c.bring_up-up.result ups e.moments brought counted kept g.met.S.Shelf.telling c.args.geometry.now c.look.new.shelf c.look.ensures.looked.same c.look.ensures.counted.few c.look.ensures.kept
    c.requires.sound c.requires.on_shelf c.requires.of c.in-Ok.looked c.in-Ok.ensures.looked.found c.in-Ok.ensures.counted.some c.take-taken.new.shelf c.take-taken.result c.take-taken.ensures.answer c.take-taken.ensures.counted.1 c.are_all-calm.result all c.is_clean.result c.is_clean.ensures c.in-Ok-letters_of.letters c.in-Ok-letters_of.ensures c.in-Ok.ensures.counted.once c.take-taken.ensures.moments c.take-taken.ensures.end c.take-taken.ensures.synced

pub returns-clause-counted : goal.returns-clause-counted
returns-clause-counted g c =
    let e = c.bring_up-up.ensures in
    let ups = rw c.as_slice-drives.ensures at e.up in
    let brought = rw c.as_slice-drives.ensures at e.end in
    let counted = rw c.as_slice-drives.ensures at e.counted in
    let kept = rw c.as_slice-drives.ensures at e.kept in
    let all = rw c.as_slice-drives.ensures at c.are_all-calm.ensures in
    all_counted g.S.Shelf c.args.site.now c.args.shelf.now c.bring_up-up.new.shelf c.bring_up-up.result ups e.moments brought counted kept g.met.S.Shelf.telling c.args.geometry.now c.look.new.shelf c.look.ensures.looked.same c.look.ensures.counted.few c.look.ensures.kept
    c.requires.sound c.requires.on_shelf c.requires.of c.in-Ok.looked c.in-Ok.ensures.looked.found c.in-Ok.ensures.counted.some c.take-taken.new.shelf c.take-taken.result c.take-taken.ensures.answer c.take-taken.ensures.counted.1 c.are_all-calm.result all c.is_clean.result c.is_clean.ensures c.in-Ok-letters_of.letters c.in-Ok-letters_of.ensures c.in-Ok.ensures.counted.once c.take-taken.ensures.counted.0

pub returns-clause-kept : goal.returns-clause-kept
returns-clause-kept g c =
    let e = c.bring_up-up.ensures in
    let ups = rw c.as_slice-drives.ensures at e.up in
    let brought = rw c.as_slice-drives.ensures at e.end in
    let counted = rw c.as_slice-drives.ensures at e.counted in
    let kept = rw c.as_slice-drives.ensures at e.kept in
    let all = rw c.as_slice-drives.ensures at c.are_all-calm.ensures in
    all_kept g.S.Shelf c.args.site.now c.args.shelf.now c.bring_up-up.new.shelf c.bring_up-up.result ups e.moments brought counted kept g.met.S.Shelf.telling c.args.geometry.now c.look.new.shelf c.look.ensures.looked.same c.look.ensures.counted.few c.look.ensures.kept
    c.requires.sound c.requires.on_shelf c.requires.of c.in-Ok.looked c.in-Ok.ensures.looked.found c.in-Ok.ensures.counted.some c.take-taken.new.shelf c.take-taken.result c.take-taken.ensures.answer c.take-taken.ensures.counted.1 c.are_all-calm.result all c.is_clean.result c.is_clean.ensures c.in-Ok-letters_of.letters c.in-Ok-letters_of.ensures c.in-Ok.ensures.counted.once

pub returns-in-Err-clause-answer : goal.returns-in-Err-clause-answer
returns-in-Err-clause-answer g c =
    let e = c.bring_up-up.ensures in
    let ups = rw c.as_slice-drives.ensures at e.up in
    let brought = rw c.as_slice-drives.ensures at e.end in
    let counted = rw c.as_slice-drives.ensures at e.counted in
    let kept = rw c.as_slice-drives.ensures at e.kept in
    wanting g.S.Shelf c.args.site.now c.args.shelf.now c.bring_up-up.new.shelf c.bring_up-up.result ups e.moments brought counted kept g.met.S.Shelf.telling c.args.geometry.now c.look.new.shelf c.look.ensures.looked.same c.look.ensures.counted.few c.look.ensures.kept
    c.wanting.result (ap (λ (b : Booted). b.end) c.wanting.ensures) (ap (λ (b : Booted). b.up) c.wanting.ensures) (ap (λ (b : Booted). b.clean) c.wanting.ensures)

pub returns-in-Err-clause-moments : goal.returns-in-Err-clause-moments
returns-in-Err-clause-moments g c =
    let e = c.bring_up-up.ensures in
    let ups = rw c.as_slice-drives.ensures at e.up in
    let brought = rw c.as_slice-drives.ensures at e.end in
    let counted = rw c.as_slice-drives.ensures at e.counted in
    let kept = rw c.as_slice-drives.ensures at e.kept in
    wanting_moments g.S.Shelf c.args.site.now c.args.shelf.now c.bring_up-up.new.shelf c.bring_up-up.result ups e.moments brought counted kept g.met.S.Shelf.telling c.args.geometry.now c.look.new.shelf c.look.ensures.looked.same c.look.ensures.counted.few c.look.ensures.kept
    c.wanting.result (ap (λ (b : Booted). b.end) c.wanting.ensures) (ap (λ (b : Booted). b.up) c.wanting.ensures) (ap (λ (b : Booted). b.clean) c.wanting.ensures)

pub returns-in-Err-clause-end : goal.returns-in-Err-clause-end
returns-in-Err-clause-end g c =
    let e = c.bring_up-up.ensures in
    let ups = rw c.as_slice-drives.ensures at e.up in
    let brought = rw c.as_slice-drives.ensures at e.end in
    let counted = rw c.as_slice-drives.ensures at e.counted in
    let kept = rw c.as_slice-drives.ensures at e.kept in
    wanting_ends g.S.Shelf c.args.site.now c.args.shelf.now c.bring_up-up.new.shelf c.bring_up-up.result ups e.moments brought counted kept g.met.S.Shelf.telling c.args.geometry.now c.look.new.shelf c.look.ensures.looked.same c.look.ensures.counted.few c.look.ensures.kept
    c.wanting.result (ap (λ (b : Booted). b.end) c.wanting.ensures) (ap (λ (b : Booted). b.up) c.wanting.ensures) (ap (λ (b : Booted). b.clean) c.wanting.ensures)

pub returns-in-Err-clause-counted : goal.returns-in-Err-clause-counted
returns-in-Err-clause-counted g c =
    let e = c.bring_up-up.ensures in
    let ups = rw c.as_slice-drives.ensures at e.up in
    let brought = rw c.as_slice-drives.ensures at e.end in
    let counted = rw c.as_slice-drives.ensures at e.counted in
    let kept = rw c.as_slice-drives.ensures at e.kept in
    wanting_counted g.S.Shelf c.args.site.now c.args.shelf.now c.bring_up-up.new.shelf c.bring_up-up.result ups e.moments brought counted kept g.met.S.Shelf.telling c.args.geometry.now c.look.new.shelf c.look.ensures.looked.same c.look.ensures.counted.few c.look.ensures.kept
    c.wanting.result (ap (λ (b : Booted). b.end) c.wanting.ensures) (ap (λ (b : Booted). b.up) c.wanting.ensures) (ap (λ (b : Booted). b.clean) c.wanting.ensures)

pub returns-in-Err-clause-kept : goal.returns-in-Err-clause-kept
returns-in-Err-clause-kept g c =
    let e = c.bring_up-up.ensures in
    let ups = rw c.as_slice-drives.ensures at e.up in
    let brought = rw c.as_slice-drives.ensures at e.end in
    let counted = rw c.as_slice-drives.ensures at e.counted in
    let kept = rw c.as_slice-drives.ensures at e.kept in
    look_kept g.S.Shelf c.args.site.now c.args.shelf.now c.bring_up-up.new.shelf c.bring_up-up.result ups e.moments brought counted kept g.met.S.Shelf.telling c.args.geometry.now c.look.new.shelf c.look.ensures.looked.same c.look.ensures.counted.few c.look.ensures.kept

pub returns-in-Err-letters_of-clause-answer : goal.returns-in-Err-letters_of-clause-answer
returns-in-Err-letters_of-clause-answer g c =
    let e = c.bring_up-up.ensures in
    let ups = rw c.as_slice-drives.ensures at e.up in
    let brought = rw c.as_slice-drives.ensures at e.end in
    let counted = rw c.as_slice-drives.ensures at e.counted in
    let kept = rw c.as_slice-drives.ensures at e.kept in
    wanting g.S.Shelf c.args.site.now c.args.shelf.now c.bring_up-up.new.shelf c.bring_up-up.result ups e.moments brought counted kept g.met.S.Shelf.telling c.args.geometry.now c.look.new.shelf c.look.ensures.looked.same c.look.ensures.counted.few c.look.ensures.kept
    c.wanting-in-Err-letters_of.result (ap (λ (b : Booted). b.end) c.wanting-in-Err-letters_of.ensures) (ap (λ (b : Booted). b.up) c.wanting-in-Err-letters_of.ensures) (ap (λ (b : Booted). b.clean) c.wanting-in-Err-letters_of.ensures)

pub returns-in-Err-letters_of-clause-moments : goal.returns-in-Err-letters_of-clause-moments
returns-in-Err-letters_of-clause-moments g c =
    let e = c.bring_up-up.ensures in
    let ups = rw c.as_slice-drives.ensures at e.up in
    let brought = rw c.as_slice-drives.ensures at e.end in
    let counted = rw c.as_slice-drives.ensures at e.counted in
    let kept = rw c.as_slice-drives.ensures at e.kept in
    wanting_moments g.S.Shelf c.args.site.now c.args.shelf.now c.bring_up-up.new.shelf c.bring_up-up.result ups e.moments brought counted kept g.met.S.Shelf.telling c.args.geometry.now c.look.new.shelf c.look.ensures.looked.same c.look.ensures.counted.few c.look.ensures.kept
    c.wanting-in-Err-letters_of.result (ap (λ (b : Booted). b.end) c.wanting-in-Err-letters_of.ensures) (ap (λ (b : Booted). b.up) c.wanting-in-Err-letters_of.ensures) (ap (λ (b : Booted). b.clean) c.wanting-in-Err-letters_of.ensures)

pub returns-in-Err-letters_of-clause-end : goal.returns-in-Err-letters_of-clause-end
returns-in-Err-letters_of-clause-end g c =
    let e = c.bring_up-up.ensures in
    let ups = rw c.as_slice-drives.ensures at e.up in
    let brought = rw c.as_slice-drives.ensures at e.end in
    let counted = rw c.as_slice-drives.ensures at e.counted in
    let kept = rw c.as_slice-drives.ensures at e.kept in
    wanting_ends g.S.Shelf c.args.site.now c.args.shelf.now c.bring_up-up.new.shelf c.bring_up-up.result ups e.moments brought counted kept g.met.S.Shelf.telling c.args.geometry.now c.look.new.shelf c.look.ensures.looked.same c.look.ensures.counted.few c.look.ensures.kept
    c.wanting-in-Err-letters_of.result (ap (λ (b : Booted). b.end) c.wanting-in-Err-letters_of.ensures) (ap (λ (b : Booted). b.up) c.wanting-in-Err-letters_of.ensures) (ap (λ (b : Booted). b.clean) c.wanting-in-Err-letters_of.ensures)

pub returns-in-Err-letters_of-clause-counted : goal.returns-in-Err-letters_of-clause-counted
returns-in-Err-letters_of-clause-counted g c =
    let e = c.bring_up-up.ensures in
    let ups = rw c.as_slice-drives.ensures at e.up in
    let brought = rw c.as_slice-drives.ensures at e.end in
    let counted = rw c.as_slice-drives.ensures at e.counted in
    let kept = rw c.as_slice-drives.ensures at e.kept in
    wanting_counted g.S.Shelf c.args.site.now c.args.shelf.now c.bring_up-up.new.shelf c.bring_up-up.result ups e.moments brought counted kept g.met.S.Shelf.telling c.args.geometry.now c.look.new.shelf c.look.ensures.looked.same c.look.ensures.counted.few c.look.ensures.kept
    c.wanting-in-Err-letters_of.result (ap (λ (b : Booted). b.end) c.wanting-in-Err-letters_of.ensures) (ap (λ (b : Booted). b.up) c.wanting-in-Err-letters_of.ensures) (ap (λ (b : Booted). b.clean) c.wanting-in-Err-letters_of.ensures)

pub returns-in-Err-letters_of-clause-kept : goal.returns-in-Err-letters_of-clause-kept
returns-in-Err-letters_of-clause-kept g c =
    let e = c.bring_up-up.ensures in
    let ups = rw c.as_slice-drives.ensures at e.up in
    let brought = rw c.as_slice-drives.ensures at e.end in
    let counted = rw c.as_slice-drives.ensures at e.counted in
    let kept = rw c.as_slice-drives.ensures at e.kept in
    look_kept g.S.Shelf c.args.site.now c.args.shelf.now c.bring_up-up.new.shelf c.bring_up-up.result ups e.moments brought counted kept g.met.S.Shelf.telling c.args.geometry.now c.look.new.shelf c.look.ensures.looked.same c.look.ensures.counted.few c.look.ensures.kept
