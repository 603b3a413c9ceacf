use Rattle.std.proofs.Common.{◌<◌, length, refl, arith}
use Rattle.std.proofs.lemmas.List.{length-map}
use Rattle.mdv_files.specs.declared.image.Image.{Image}
use Rattle.mdv_files.proofs.Calls.{call_drive_cause, call_sizes, call_no_fewer, of_change}
use Rattle.mdv_files.proofs.bench.FileBenchShelf.sync.Goals as goal

pub returns-clause-cause : goal.returns-clause-cause
returns-clause-cause g c =
    let inside : c.args.drive.0 < length c.args.self.now.images.items = omega (arith, c.requires, length-map c.args.self.now.images.items (λ (x : Image). x.blocks)) in
    call_drive_cause c.args.self.now.images.items c.args.drive.0 inside c.index_mut.result.now c.sync.new.self c.index_mut.ensures.value c.sync.result (of_change c.index_mut.result.now c.sync.result c.sync.new.self c.sync.ensures) c.args.self.now.reply_faults

pub returns-clause-keeps : goal.returns-clause-keeps
returns-clause-keeps g c =
    let inside : c.args.drive.0 < length c.args.self.now.images.items = omega (arith, c.requires, length-map c.args.self.now.images.items (λ (x : Image). x.blocks)) in
    record {
      same_sizes = call_sizes c.args.self.now.images.items c.args.drive.0 inside c.index_mut.result.now c.sync.new.self c.index_mut.ensures.value c.sync.result (of_change c.index_mut.result.now c.sync.result c.sync.new.self c.sync.ensures);
      same_rest = refl;
      same_held = refl;
      no_fewer_faults = call_no_fewer c.args.self.now.images.items c.args.drive.0 inside c.index_mut.result.now c.sync.new.self c.index_mut.ensures.value c.sync.result (of_change c.index_mut.result.now c.sync.result c.sync.new.self c.sync.ensures) c.args.self.now.reply_faults;
    }
