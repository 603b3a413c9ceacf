use Rattle.std.proofs.Common.{◌∙◌, ap, rules}
use Rattle.mdv_name.specs.Drive.{IsDriveName}
use Rattle.mdv_fitting.specs.Held.{held}
use Rattle.mdv_fitting.proofs.Slicing.{slice_is, slice_sound}
use Rattle.mdv_fitting.proofs.slices.slice_in.Goals as goal

pub returns-clause-value : goal.returns-clause-value
returns-clause-value c =
    let form : IsDriveName c.args.name.drive = record { controller = search rules; target = search rules; disk = search rules } in
    slice_is c.args._geometry.now c.args.slices.now c.args.name c.get.result c.requires.sound c.requires.slices form (search rules) (c.get.ensures ∙ ap (held c.args.slices.now) (c.from.ensures ∙ c.slice_key.ensures))

pub returns-clause-sound : goal.returns-clause-sound
returns-clause-sound c = slice_sound c.args._geometry.now c.args.name c.get.result c.requires.sound (returns-clause-value c)
